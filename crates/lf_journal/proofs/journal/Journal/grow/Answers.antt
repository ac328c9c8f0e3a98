use Rattle.std.proofs.Common.{◌≡◌, ℕ, ◌<◌, List, length, sym, subst, arith}
use Rattle.std.proofs.lemmas.List.{get_or-replicate, length-replicate}
use Rattle.std.proofs.Math.ListN.{replicate}
use Rattle.sqlite_disk.specs.Disk.{Torn, Holds, Only}
use Rattle.lf_journal_text.specs.Batches.{EndsWhole}
use Rattle.lf_journal.proofs.Crash.{grown, grown_zeros, torn_front}
use Rattle.lf_journal.proofs.journal.Journal.grow.Goals as goal

pub returns-in_err-write_at-clause-any_moment : goal.returns-in_err-write_at-clause-any_moment
returns-in_err-write_at-clause-any_moment g c clean f left =
    let s = c.requires.settled (c.write_at.ensures.clean clean) in
    let from = c.write_at.ensures.crash f left in
    grown c.args.self.now.end 16384 (g.D.Disk.seen c.args.self.now.disk) f s.text s.zeros s.room (omega (arith, s.size, c.requires.near))
    (subst (λ (n : ℕ). Torn n 16384 (g.D.Disk.seen c.args.self.now.disk) f) s.size (subst (λ (d : List ℕ). Torn c.args.self.now.len 16384 d f) (s.durable from.0 from.1) from.2))

pub returns-in_err-sync-clause-any_moment : goal.returns-in_err-sync-clause-any_moment
returns-in_err-sync-clause-any_moment g c clean f left =
    let s = c.requires.settled (c.write_at.ensures.clean (c.sync.ensures.clean clean)) in
    let from = c.write_at.ensures.crash f (c.sync.ensures.crash f left) in
    grown c.args.self.now.end 16384 (g.D.Disk.seen c.args.self.now.disk) f s.text s.zeros s.room (omega (arith, s.size, c.requires.near))
    (subst (λ (n : ℕ). Torn n 16384 (g.D.Disk.seen c.args.self.now.disk) f) s.size (subst (λ (d : List ℕ). Torn c.args.self.now.len 16384 d f) (s.durable from.0 from.1) from.2))

pub returns-clause-any_moment : goal.returns-clause-any_moment
returns-clause-any_moment g c clean f left =
    let s = c.requires.settled (c.write_at.ensures.clean (c.sync.ensures.clean clean)) in
    let from = c.write_at.ensures.crash f (c.sync.ensures.crash f left) in
    grown c.args.self.now.end 16384 (g.D.Disk.seen c.args.self.now.disk) f s.text s.zeros s.room (omega (arith, s.size, c.requires.near))
    (subst (λ (n : ℕ). Torn n 16384 (g.D.Disk.seen c.args.self.now.disk) f) s.size (subst (λ (d : List ℕ). Torn c.args.self.now.len 16384 d f) (s.durable from.0 from.1) from.2))

pub returns-clause-settled : goal.returns-clause-settled
returns-clause-settled g c clean =
    let s = c.requires.settled (c.write_at.ensures.clean (c.sync.ensures.clean clean)) in
    let end = c.args.self.now.end in
    let len = c.args.self.now.len in
    let old = g.D.Disk.seen c.args.self.now.disk in
    let now = g.D.Disk.seen c.sync.new.self in
    let block : List ℕ = replicate 16384 0 in
    let same : g.D.Disk.seen c.write_at.new.self ≡ now = sym c.sync.ensures.seen in
    let torn : Torn len (length block) old now = subst (λ (d : List ℕ). Torn len (length block) old d) same c.write_at.ensures.others in
    let holds : Holds now len block = subst (λ (d : List ℕ). Holds d len block) same (c.in_ok-write_at.ensures.written (omega arith)) in
    let torn' : Torn (length old) (length block) old now = subst (λ (n : ℕ). Torn n (length block) old now) s.size torn in
    let holds' : Holds now (length old) block = subst (λ (n : ℕ). Holds now n block) s.size holds in
    let long : length block ≡ 16384 = length-replicate {A = ℕ} 16384 0 in
    let room : end < length old = s.room in (
      record {
        room = omega (arith, room, torn.no_shorter);
        size = omega (arith, s.size, holds.within, torn.no_longer, long);
        text = subst EndsWhole (sym (torn_front end (length old) (length block) old now (omega arith) (omega arith) torn')) s.text;
        zeros = grown_zeros end old now block s.zeros (λ i low. get_or-replicate 16384 i 0 0 (omega (arith, low, long))) torn' holds';
        durable = subst (λ (d : List ℕ). Only d (g.D.Disk.may_leave c.sync.new.self)) same c.in_ok-sync.ensures.durable;
      },
      (grown end (length block) old now s.text s.zeros s.room (omega (arith, s.size, long, c.requires.near)) torn').0,
    )
