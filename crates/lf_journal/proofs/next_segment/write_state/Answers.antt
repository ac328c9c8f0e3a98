use Rattle.std.proofs.Common.{◌≡◌, ◌+◌, ℕ, List, length, slice_index, sym, ◌∙◌, ap, subst, arith, ext_get_or}
use Rattle.sqlite_disk.specs.Disk.{Holds, Only}
use Rattle.lf_journal.proofs.next_segment.write_state.Goals as goal

pub returns : goal.returns
returns g c =
    let state = c.args.state.now in
    let now = g.S.Disk.seen c.write_at.new.self in
    let long : length (g.S.Disk.seen c.set_len.new.self) ≡ length state = c.in_ok-set_len.ensures.len in
    let torn = c.write_at.ensures.others in
    let held : Holds now 0 state = c.in_ok-write_at.ensures.written c.requires.some in
    let size : length now ≡ length state = omega (arith, long, torn.no_longer, held.within) in
    let at : (i : ℕ) → 0 + i ≡ i = λ i. omega arith in
    let whole : now ≡ state = ext_get_or 0 now state size (λ i low. ap (λ (k : ℕ). slice_index now k) (sym (at i)) ∙ held.each i (omega (arith, size))) in
    subst (λ (d : List ℕ). Only d (g.S.Disk.may_leave c.sync.new.self)) whole c.in_ok-sync.ensures.durable
