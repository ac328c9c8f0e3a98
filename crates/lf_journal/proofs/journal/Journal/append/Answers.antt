use Rattle.std.proofs.Common.{◌≡◌, ℕ, ◌+◌, ◌<◌, List, length, sym, subst, arith}
use Rattle.sqlite_disk.specs.Disk.{Torn, Mixed, Holds, Only}
use Rattle.lf_journal.proofs.Crash.{mixed_append, zeros_after, ends_after, stands_after}
use Rattle.lf_journal.proofs.journal.Journal.append.Goals as goal

pub returns-in_err-write_at-clause-any_moment : goal.returns-in_err-write_at-clause-any_moment
returns-in_err-write_at-clause-any_moment g c clean f left =
    let s = c.requires.settled (c.write_at.ensures.clean clean) in
    let room : c.args.self.now.end + length c.args.batch.now < length (g.D.Disk.seen c.args.self.now.disk) = omega (arith, s.size, c.requires.room) in
    let from = c.write_at.ensures.mixed c.requires.mixing (omega arith) f left in
    mixed_append c.args.self.now.end (g.D.Disk.seen c.args.self.now.disk) s.text s.zeros c.args.batch.now c.requires.batch room f
    (subst (λ (d : List ℕ). Mixed c.args.self.now.end c.args.batch.now d f) (s.durable from.0 from.1) from.2)

pub returns-in_err-sync-clause-any_moment : goal.returns-in_err-sync-clause-any_moment
returns-in_err-sync-clause-any_moment g c clean f left =
    let s = c.requires.settled (c.write_at.ensures.clean (c.sync.ensures.clean clean)) in
    let room : c.args.self.now.end + length c.args.batch.now < length (g.D.Disk.seen c.args.self.now.disk) = omega (arith, s.size, c.requires.room) in
    let from = c.write_at.ensures.mixed c.requires.mixing (omega arith) f (c.sync.ensures.crash f left) in
    mixed_append c.args.self.now.end (g.D.Disk.seen c.args.self.now.disk) s.text s.zeros c.args.batch.now c.requires.batch room f
    (subst (λ (d : List ℕ). Mixed c.args.self.now.end c.args.batch.now d f) (s.durable from.0 from.1) from.2)

pub returns-clause-any_moment : goal.returns-clause-any_moment
returns-clause-any_moment g c clean f left =
    let s = c.requires.settled (c.write_at.ensures.clean (c.sync.ensures.clean clean)) in
    let room : c.args.self.now.end + length c.args.batch.now < length (g.D.Disk.seen c.args.self.now.disk) = omega (arith, s.size, c.requires.room) in
    let from = c.write_at.ensures.mixed c.requires.mixing (omega arith) f (c.sync.ensures.crash f left) in
    mixed_append c.args.self.now.end (g.D.Disk.seen c.args.self.now.disk) s.text s.zeros c.args.batch.now c.requires.batch room f
    (subst (λ (d : List ℕ). Mixed c.args.self.now.end c.args.batch.now d f) (s.durable from.0 from.1) from.2)

pub returns-clause-acknowledged : goal.returns-clause-acknowledged
returns-clause-acknowledged g c clean =
    let s = c.requires.settled (c.write_at.ensures.clean (c.sync.ensures.clean clean)) in
    let end = c.args.self.now.end in
    let batch = c.args.batch.now in
    let old = g.D.Disk.seen c.args.self.now.disk in
    let now = g.D.Disk.seen c.sync.new.self in
    let room : end + length batch < length old = omega (arith, s.size, c.requires.room) in
    let same : g.D.Disk.seen c.write_at.new.self ≡ now = sym c.sync.ensures.seen in
    let torn : Torn end (length batch) old now = subst (λ (d : List ℕ). Torn end (length batch) old d) same c.write_at.ensures.others in
    let holds : Holds now end batch = subst (λ (d : List ℕ). Holds d end batch) same (c.in_ok-write_at.ensures.written c.requires.batch.some) in
    let after = stands_after end old s.text s.zeros batch c.requires.batch room now torn holds in (
      record {
        room = omega (arith, room, torn.no_shorter);
        size = omega (arith, s.size, room, torn.no_shorter, torn.no_longer);
        text = ends_after end old s.text s.zeros batch c.requires.batch room now torn holds;
        zeros = zeros_after end old s.text s.zeros batch c.requires.batch room now torn;
        durable = subst (λ (d : List ℕ). Only d (g.D.Disk.may_leave c.sync.new.self)) same c.in_ok-sync.ensures.durable;
      },
      after.0,
    )
