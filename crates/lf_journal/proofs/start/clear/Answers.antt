use Rattle.std.proofs.Common.{◌≡◌, ◌⊎◌, ℕ, ◌+◌, ◌<◌, ◌≤◌, List, length, take, slice_index, sym, ◌∙◌, ap, subst, inl, inr, arith}
use Rattle.std.proofs.lemmas.Bool.{cases_eq}
use Rattle.std.proofs.lemmas.List.{get_or-replicate, get_or-take, length-replicate, length-take-le}
use Rattle.std.proofs.Math.ListN.{replicate}
use Rattle.sqlite_disk.specs.Disk.{Torn, Holds, Only}
use Rattle.lf_journal_text.specs.Batches.{recovered, EndsWhole}
use Rattle.lf_journal.specs.Journals.{StandsFor}
use Rattle.lf_journal.proofs.Crash.{shut_stands, cleared_crash, cleared_zeros, torn_front}
use Rattle.lf_journal.proofs.start.clear.Goals as goal

pub returns-then-count-eq0-clause-any_moment : goal.returns-then-count-eq0-clause-any_moment
returns-then-count-eq0-clause-any_moment g c clean f left =
    let is = c.requires.shut clean in
    let file = g.D.Disk.seen c.args.disk.now in
    subst (λ (d : List ℕ). StandsFor (recovered file) d) (sym (c.requires.durable f left)) (shut_stands c.args.end file is.1 is.2)

pub returns-in_err-write_at-clause-any_moment : goal.returns-in_err-write_at-clause-any_moment
returns-in_err-write_at-clause-any_moment g c clean f left =
    let is = c.requires.shut (c.write_at.ensures.clean clean) in
    let file = g.D.Disk.seen c.args.disk.now in
    let n = c.min-count.result in
    let few : n ≤ 131071 = omega (arith, c.min-count.ensures) in
    let fits : c.args.end + 1 + n ≤ length file = omega (arith, c.min-count.ensures, is.0, c.requires.inside) in
    let all : c.as_slice-block.result.now ≡ replicate 131071 0 = c.as_slice-block.ensures in
    let block : List ℕ = take n c.as_slice-block.result.now in
    let size : length block ≡ n = length-take-le n c.as_slice-block.result.now (omega (arith, few, ap length all, length-replicate {A = ℕ} 131071 0)) in
    let from = c.write_at.ensures.crash f left in
    cleared_crash c.args.end n file file is.1 is.2 fits few f (subst (λ (k : ℕ). Torn (c.args.end + 1) k file f) size (subst (λ (d : List ℕ). Torn (c.args.end + 1) (length block) d f) (c.requires.durable from.0 from.1) from.2))

pub returns-in_err-sync-clause-any_moment : goal.returns-in_err-sync-clause-any_moment
returns-in_err-sync-clause-any_moment g c clean f left =
    let is = c.requires.shut (c.write_at.ensures.clean (c.sync.ensures.clean clean)) in
    let file = g.D.Disk.seen c.args.disk.now in
    let n = c.min-count.result in
    let few : n ≤ 131071 = omega (arith, c.min-count.ensures) in
    let fits : c.args.end + 1 + n ≤ length file = omega (arith, c.min-count.ensures, is.0, c.requires.inside) in
    let all : c.as_slice-block.result.now ≡ replicate 131071 0 = c.as_slice-block.ensures in
    let block : List ℕ = take n c.as_slice-block.result.now in
    let size : length block ≡ n = length-take-le n c.as_slice-block.result.now (omega (arith, few, ap length all, length-replicate {A = ℕ} 131071 0)) in
    let from = c.write_at.ensures.crash f (c.sync.ensures.crash f left) in
    cleared_crash c.args.end n file file is.1 is.2 fits few f (subst (λ (k : ℕ). Torn (c.args.end + 1) k file f) size (subst (λ (d : List ℕ). Torn (c.args.end + 1) (length block) d f) (c.requires.durable from.0 from.1) from.2))

pub returns-clause-any_moment : goal.returns-clause-any_moment
returns-clause-any_moment g c clean f left =
    let is = c.requires.shut (c.write_at.ensures.clean (c.sync.ensures.clean clean)) in
    let file = g.D.Disk.seen c.args.disk.now in
    let n = c.min-count.result in
    let few : n ≤ 131071 = omega (arith, c.min-count.ensures) in
    let fits : c.args.end + 1 + n ≤ length file = omega (arith, c.min-count.ensures, is.0, c.requires.inside) in
    let all : c.as_slice-block.result.now ≡ replicate 131071 0 = c.as_slice-block.ensures in
    let block : List ℕ = take n c.as_slice-block.result.now in
    let size : length block ≡ n = length-take-le n c.as_slice-block.result.now (omega (arith, few, ap length all, length-replicate {A = ℕ} 131071 0)) in
    let from = c.write_at.ensures.crash f (c.sync.ensures.crash f left) in
    cleared_crash c.args.end n file file is.1 is.2 fits few f (subst (λ (k : ℕ). Torn (c.args.end + 1) k file f) size (subst (λ (d : List ℕ). Torn (c.args.end + 1) (length block) d f) (c.requires.durable from.0 from.1) from.2))

pub returns-clause-settled : goal.returns-clause-settled
returns-clause-settled g c clean =
    let is = c.requires.shut (c.write_at.ensures.clean (c.sync.ensures.clean clean)) in
    let end = c.args.end in
    let file = g.D.Disk.seen c.args.disk.now in
    let now = g.D.Disk.seen c.sync.new.self in
    let n = c.min-count.result in
    let all : c.as_slice-block.result.now ≡ replicate 131071 0 = c.as_slice-block.ensures in
    let block : List ℕ = take n c.as_slice-block.result.now in
    let few : n ≤ 131071 = omega (arith, c.min-count.ensures) in
    let fits : end + 1 + n ≤ length file = omega (arith, c.min-count.ensures, is.0, c.requires.inside) in
    let size : length block ≡ n = length-take-le n c.as_slice-block.result.now (omega (arith, few, ap length all, length-replicate {A = ℕ} 131071 0)) in
    let none : (i : ℕ) → i < n → slice_index block i ≡ 0 = λ i low. get_or-take n c.as_slice-block.result.now i 0 low ∙ ap (λ (l : List ℕ). slice_index l i) all ∙ get_or-replicate 131071 i 0 0 (omega (arith, few)) in
    let same : g.D.Disk.seen c.write_at.new.self ≡ now = sym c.sync.ensures.seen in
    let torn : Torn (end + 1) n file now = subst (λ (k : ℕ). Torn (end + 1) k file now) size (subst (λ (d : List ℕ). Torn (end + 1) (length block) file d) same c.write_at.ensures.others) in
    let held : Holds now (end + 1) block = subst (λ (d : List ℕ). Holds d (end + 1) block) same (c.in_ok-write_at.ensures.written (omega (arith, size, c.if-count-eq0.false))) in
    let reach : length file ≤ end + 1 + n ⊎ (n ≡ 131071) = elim (cases_eq n 131071) [
      | inl most ↦ inr most
      | inr fewer ↦ inl (omega (arith, c.min-count.ensures, is.0, c.requires.inside))
    ] in
    let stands = cleared_crash end n file file is.1 is.2 fits few now torn in (
      record {
        room = omega (arith, fits, torn.no_shorter);
        size = omega (arith, is.0, fits, torn.no_shorter, torn.no_longer);
        text = subst EndsWhole (sym (torn_front end (end + 1) n file now (omega arith) (omega (arith, fits)) torn)) is.1;
        zeros = cleared_zeros end n file file is.1 is.2 fits block now size none reach torn held;
        durable = subst (λ (d : List ℕ). Only d (g.D.Disk.may_leave c.sync.new.self)) same c.in_ok-sync.ensures.durable;
      },
      stands.0,
    )

pub slice_bounds-write_at-end : goal.slice_bounds-write_at-end
slice_bounds-write_at-end g c =
    let all : c.as_slice-block.result.now ≡ replicate 131071 0 = c.as_slice-block.ensures in
    let n = c.min-count.result in
    let fits : n ≤ length c.as_slice-block.result.now = omega (arith, c.min-count.ensures, ap length all, length-replicate {A = ℕ} 131071 0) in
    let size : length (take n c.as_slice-block.result.now) ≡ n = length-take-le n c.as_slice-block.result.now fits in
    omega (arith, fits, size)
