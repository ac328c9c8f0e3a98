use Rattle.std.proofs.Common.{◌≡◌, ℕ, ◌+◌, ◌-◌, ◌<◌, List, length, take, drop, slice_index, sym, ◌∙◌, ap, subst, inl, arith, length-drop}
use Rattle.std.proofs.lemmas.List.{take_rest, length-take-le}
use Rattle.sqlite_disk.specs.Disk.{Torn, Holds, Only}
use Rattle.lf_journal_text.proofs.Reading.{batch_long}
use Rattle.lf_journal.proofs.Crash.{staged_crash, gate_crash, opened_torn, opened_holds, gate_written, gate_and_rest, zeros_after, ends_after, stands_after}
use Rattle.lf_journal.proofs.journal.Journal.append_twice_synced.Goals as goal

pub returns-in_err-write_at-clause-any_moment : goal.returns-in_err-write_at-clause-any_moment
returns-in_err-write_at-clause-any_moment g c clean f left =
    let s = c.requires.settled (c.write_at.ensures.clean clean) in
    let end = c.args.self.now.end in
    let b = c.args.batch.now in
    let old = g.D.Disk.seen c.args.self.now.disk in
    let room : end + length b < length old = omega (arith, s.size, c.requires.room) in
    let tail : List ℕ = take (length b - 1) (drop 1 b) in
    let tail-is : tail ≡ drop 1 b = take_rest b 1 in
    let counts : length tail + 1 ≡ length b = omega (arith, ap length tail-is, length-drop 1 b, c.requires.batch.some) in
    let from = c.write_at.ensures.crash f (left) in
    inl (staged_crash end old s.text s.zeros b c.requires.batch room (length tail) f counts (subst (λ (d : List ℕ). Torn (end + 1) (length tail) d f) (s.durable from.0 from.1) from.2))

pub returns-in_err-sync-clause-any_moment : goal.returns-in_err-sync-clause-any_moment
returns-in_err-sync-clause-any_moment g c clean f left =
    let s = c.requires.settled (c.write_at.ensures.clean (c.sync.ensures.clean clean)) in
    let end = c.args.self.now.end in
    let b = c.args.batch.now in
    let old = g.D.Disk.seen c.args.self.now.disk in
    let room : end + length b < length old = omega (arith, s.size, c.requires.room) in
    let tail : List ℕ = take (length b - 1) (drop 1 b) in
    let tail-is : tail ≡ drop 1 b = take_rest b 1 in
    let counts : length tail + 1 ≡ length b = omega (arith, ap length tail-is, length-drop 1 b, c.requires.batch.some) in
    let from = c.write_at.ensures.crash f (c.sync.ensures.crash f left) in
    inl (staged_crash end old s.text s.zeros b c.requires.batch room (length tail) f counts (subst (λ (d : List ℕ). Torn (end + 1) (length tail) d f) (s.durable from.0 from.1) from.2))

pub returns-in_err-write_at-2-clause-any_moment : goal.returns-in_err-write_at-2-clause-any_moment
returns-in_err-write_at-2-clause-any_moment g c clean f left =
    let s = c.requires.settled (c.write_at.ensures.clean (c.sync.ensures.clean (c.write_at-2.ensures.clean clean))) in
    let end = c.args.self.now.end in
    let b = c.args.batch.now in
    let old = g.D.Disk.seen c.args.self.now.disk in
    let room : end + length b < length old = omega (arith, s.size, c.requires.room) in
    let tail : List ℕ = take (length b - 1) (drop 1 b) in
    let tail-is : tail ≡ drop 1 b = take_rest b 1 in
    let counts : length tail + 1 ≡ length b = omega (arith, ap length tail-is, length-drop 1 b, c.requires.batch.some) in
    let longer : 38 < length b = (batch_long b c.requires.batch).0 in
    let mid = g.D.Disk.seen c.sync.new.self in
    let torn-mid : Torn (end + 1) (length tail) old mid = subst (λ (d : List ℕ). Torn (end + 1) (length tail) old d) (sym c.sync.ensures.seen) c.write_at.ensures.others in
    let holds-mid : Holds mid (end + 1) (drop 1 b) = subst (λ (l : List ℕ). Holds mid (end + 1) l) tail-is (subst (λ (d : List ℕ). Holds d (end + 1) tail) (sym c.sync.ensures.seen) (c.in_ok-write_at.ensures.written (omega (arith, counts, longer)))) in
    let one : length (take 1 b) ≡ 1 = length-take-le 1 b c.requires.batch.some in
    let from = c.write_at-2.ensures.crash f (left) in
    gate_crash end old s.text s.zeros b c.requires.batch room (length tail) mid counts torn-mid holds-mid f
    (subst (λ (n : ℕ). Torn end n mid f) one (subst (λ (d : List ℕ). Torn end (length (take 1 b)) d f) (c.in_ok-sync.ensures.durable from.0 from.1 ∙ sym c.sync.ensures.seen) from.2))

pub returns-in_err-sync-2-clause-any_moment : goal.returns-in_err-sync-2-clause-any_moment
returns-in_err-sync-2-clause-any_moment g c clean f left =
    let s = c.requires.settled (c.write_at.ensures.clean (c.sync.ensures.clean (c.write_at-2.ensures.clean (c.sync-2.ensures.clean clean)))) in
    let end = c.args.self.now.end in
    let b = c.args.batch.now in
    let old = g.D.Disk.seen c.args.self.now.disk in
    let room : end + length b < length old = omega (arith, s.size, c.requires.room) in
    let tail : List ℕ = take (length b - 1) (drop 1 b) in
    let tail-is : tail ≡ drop 1 b = take_rest b 1 in
    let counts : length tail + 1 ≡ length b = omega (arith, ap length tail-is, length-drop 1 b, c.requires.batch.some) in
    let longer : 38 < length b = (batch_long b c.requires.batch).0 in
    let mid = g.D.Disk.seen c.sync.new.self in
    let torn-mid : Torn (end + 1) (length tail) old mid = subst (λ (d : List ℕ). Torn (end + 1) (length tail) old d) (sym c.sync.ensures.seen) c.write_at.ensures.others in
    let holds-mid : Holds mid (end + 1) (drop 1 b) = subst (λ (l : List ℕ). Holds mid (end + 1) l) tail-is (subst (λ (d : List ℕ). Holds d (end + 1) tail) (sym c.sync.ensures.seen) (c.in_ok-write_at.ensures.written (omega (arith, counts, longer)))) in
    let one : length (take 1 b) ≡ 1 = length-take-le 1 b c.requires.batch.some in
    let from = c.write_at-2.ensures.crash f (c.sync-2.ensures.crash f left) in
    gate_crash end old s.text s.zeros b c.requires.batch room (length tail) mid counts torn-mid holds-mid f
    (subst (λ (n : ℕ). Torn end n mid f) one (subst (λ (d : List ℕ). Torn end (length (take 1 b)) d f) (c.in_ok-sync.ensures.durable from.0 from.1 ∙ sym c.sync.ensures.seen) from.2))

pub returns-clause-any_moment : goal.returns-clause-any_moment
returns-clause-any_moment g c clean f left =
    let s = c.requires.settled (c.write_at.ensures.clean (c.sync.ensures.clean (c.write_at-2.ensures.clean (c.sync-2.ensures.clean clean)))) in
    let end = c.args.self.now.end in
    let b = c.args.batch.now in
    let old = g.D.Disk.seen c.args.self.now.disk in
    let room : end + length b < length old = omega (arith, s.size, c.requires.room) in
    let tail : List ℕ = take (length b - 1) (drop 1 b) in
    let tail-is : tail ≡ drop 1 b = take_rest b 1 in
    let counts : length tail + 1 ≡ length b = omega (arith, ap length tail-is, length-drop 1 b, c.requires.batch.some) in
    let longer : 38 < length b = (batch_long b c.requires.batch).0 in
    let mid = g.D.Disk.seen c.sync.new.self in
    let torn-mid : Torn (end + 1) (length tail) old mid = subst (λ (d : List ℕ). Torn (end + 1) (length tail) old d) (sym c.sync.ensures.seen) c.write_at.ensures.others in
    let holds-mid : Holds mid (end + 1) (drop 1 b) = subst (λ (l : List ℕ). Holds mid (end + 1) l) tail-is (subst (λ (d : List ℕ). Holds d (end + 1) tail) (sym c.sync.ensures.seen) (c.in_ok-write_at.ensures.written (omega (arith, counts, longer)))) in
    let one : length (take 1 b) ≡ 1 = length-take-le 1 b c.requires.batch.some in
    let from = c.write_at-2.ensures.crash f (c.sync-2.ensures.crash f left) in
    gate_crash end old s.text s.zeros b c.requires.batch room (length tail) mid counts torn-mid holds-mid f
    (subst (λ (n : ℕ). Torn end n mid f) one (subst (λ (d : List ℕ). Torn end (length (take 1 b)) d f) (c.in_ok-sync.ensures.durable from.0 from.1 ∙ sym c.sync.ensures.seen) from.2))

pub returns-clause-acknowledged : goal.returns-clause-acknowledged
returns-clause-acknowledged g c clean =
    let s = c.requires.settled (c.write_at.ensures.clean (c.sync.ensures.clean (c.write_at-2.ensures.clean (c.sync-2.ensures.clean clean)))) in
    let end = c.args.self.now.end in
    let b = c.args.batch.now in
    let old = g.D.Disk.seen c.args.self.now.disk in
    let room : end + length b < length old = omega (arith, s.size, c.requires.room) in
    let tail : List ℕ = take (length b - 1) (drop 1 b) in
    let tail-is : tail ≡ drop 1 b = take_rest b 1 in
    let counts : length tail + 1 ≡ length b = omega (arith, ap length tail-is, length-drop 1 b, c.requires.batch.some) in
    let longer : 38 < length b = (batch_long b c.requires.batch).0 in
    let mid = g.D.Disk.seen c.sync.new.self in
    let torn-mid : Torn (end + 1) (length tail) old mid = subst (λ (d : List ℕ). Torn (end + 1) (length tail) old d) (sym c.sync.ensures.seen) c.write_at.ensures.others in
    let holds-mid : Holds mid (end + 1) (drop 1 b) = subst (λ (l : List ℕ). Holds mid (end + 1) l) tail-is (subst (λ (d : List ℕ). Holds d (end + 1) tail) (sym c.sync.ensures.seen) (c.in_ok-write_at.ensures.written (omega (arith, counts, longer)))) in
    let one : length (take 1 b) ≡ 1 = length-take-le 1 b c.requires.batch.some in
    let now = g.D.Disk.seen c.sync-2.new.self in
    let same : g.D.Disk.seen c.write_at-2.new.self ≡ now = sym c.sync-2.ensures.seen in
    let torn-now : Torn end 1 mid now = subst (λ (n : ℕ). Torn end n mid now) one (subst (λ (d : List ℕ). Torn end (length (take 1 b)) mid d) same c.write_at-2.ensures.others) in
    let held : Holds now end (take 1 b) = subst (λ (d : List ℕ). Holds d end (take 1 b)) same (c.in_ok-write_at-2.ensures.written (omega (arith, one))) in
    let torn = opened_torn end old s.text s.zeros b c.requires.batch room (length tail) mid counts torn-mid holds-mid now torn-now in
    let holds : Holds now end b = subst (λ (l : List ℕ). Holds now end l) (gate_and_rest b c.requires.batch.some)
    (opened_holds end old s.text s.zeros b c.requires.batch room (length tail) mid counts torn-mid holds-mid now torn-now (slice_index b 0) (gate_written end now b c.requires.batch.some held)) in
    let after = stands_after end old s.text s.zeros b c.requires.batch room now torn holds in (
      record {
        room = omega (arith, room, torn.no_shorter);
        size = omega (arith, s.size, room, torn.no_shorter, torn.no_longer);
        text = ends_after end old s.text s.zeros b c.requires.batch room now torn holds;
        zeros = zeros_after end old s.text s.zeros b c.requires.batch room now torn;
        durable = subst (λ (d : List ℕ). Only d (g.D.Disk.may_leave c.sync-2.new.self)) same c.in_ok-sync-2.ensures.durable;
      },
      after.0,
    )
