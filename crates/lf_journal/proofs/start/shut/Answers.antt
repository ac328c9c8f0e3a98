use Rattle.std.proofs.Common.{◌≡◌, ℕ, ◌<◌, ◌≤◌, [], ◌∷◌, List, length, drop, slice_index, true, refl, sym, subst, arith}
use Rattle.sqlite_disk.specs.Disk.{Torn, Holds}
use Rattle.lf_journal_text.specs.Batches.{recovered, is_torn, StopsAt}
use Rattle.lf_journal.specs.Journals.{StandsFor}
use Rattle.lf_journal.proofs.Crash.{shut_crash, shut_done, shut_already, shut_there}
use Rattle.lf_journal.proofs.start.shut.Goals as goal

pub returns-in_err-write_at-clause-any_moment : goal.returns-in_err-write_at-clause-any_moment
returns-in_err-write_at-clause-any_moment g c clean f left =
    let file = g.D.Disk.seen c.args.disk.now in
    let same = c.requires.read (c.write_at.ensures.clean clean) in
    let stop : StopsAt c.args.end file = subst (λ (d : List ℕ). StopsAt c.args.end d) same c.requires.stops in
    let torn : is_torn (drop c.args.end file) ≡ true = subst (λ (d : List ℕ). is_torn (drop c.args.end d) ≡ true) same c.requires.torn in
    let open' : slice_index file c.args.end ≡ 0 → length file ≤ c.args.end = subst (λ (d : List ℕ). slice_index d c.args.end ≡ 0 → length d ≤ c.args.end) same (c.is_shut.ensures.no c.if-is_shut.false) in
    let from = c.write_at.ensures.crash f left in
    shut_crash c.args.end file stop torn open' f (subst (λ (d : List ℕ). Torn c.args.end 1 d f) (c.requires.durable from.0 from.1) from.2)

pub returns-in_err-sync-clause-any_moment : goal.returns-in_err-sync-clause-any_moment
returns-in_err-sync-clause-any_moment g c clean f left =
    let file = g.D.Disk.seen c.args.disk.now in
    let same = c.requires.read (c.write_at.ensures.clean (c.sync.ensures.clean clean)) in
    let stop : StopsAt c.args.end file = subst (λ (d : List ℕ). StopsAt c.args.end d) same c.requires.stops in
    let torn : is_torn (drop c.args.end file) ≡ true = subst (λ (d : List ℕ). is_torn (drop c.args.end d) ≡ true) same c.requires.torn in
    let open' : slice_index file c.args.end ≡ 0 → length file ≤ c.args.end = subst (λ (d : List ℕ). slice_index d c.args.end ≡ 0 → length d ≤ c.args.end) same (c.is_shut.ensures.no c.if-is_shut.false) in
    let from = c.write_at.ensures.crash f (c.sync.ensures.crash f left) in
    shut_crash c.args.end file stop torn open' f (subst (λ (d : List ℕ). Torn c.args.end 1 d f) (c.requires.durable from.0 from.1) from.2)

pub returns-clause-any_moment : goal.returns-clause-any_moment
returns-clause-any_moment g c clean f left =
    let file = g.D.Disk.seen c.args.disk.now in
    let same = c.requires.read (c.write_at.ensures.clean (c.sync.ensures.clean clean)) in
    let stop : StopsAt c.args.end file = subst (λ (d : List ℕ). StopsAt c.args.end d) same c.requires.stops in
    let torn : is_torn (drop c.args.end file) ≡ true = subst (λ (d : List ℕ). is_torn (drop c.args.end d) ≡ true) same c.requires.torn in
    let open' : slice_index file c.args.end ≡ 0 → length file ≤ c.args.end = subst (λ (d : List ℕ). slice_index d c.args.end ≡ 0 → length d ≤ c.args.end) same (c.is_shut.ensures.no c.if-is_shut.false) in
    let from = c.write_at.ensures.crash f (c.sync.ensures.crash f left) in
    shut_crash c.args.end file stop torn open' f (subst (λ (d : List ℕ). Torn c.args.end 1 d f) (c.requires.durable from.0 from.1) from.2)

pub returns-clause-shut : goal.returns-clause-shut
returns-clause-shut g c clean =
    let file = g.D.Disk.seen c.args.disk.now in
    let same = c.requires.read (c.write_at.ensures.clean (c.sync.ensures.clean clean)) in
    let stop : StopsAt c.args.end file = subst (λ (d : List ℕ). StopsAt c.args.end d) same c.requires.stops in
    let torn : is_torn (drop c.args.end file) ≡ true = subst (λ (d : List ℕ). is_torn (drop c.args.end d) ≡ true) same c.requires.torn in
    let open' : slice_index file c.args.end ≡ 0 → length file ≤ c.args.end = subst (λ (d : List ℕ). slice_index d c.args.end ≡ 0 → length d ≤ c.args.end) same (c.is_shut.ensures.no c.if-is_shut.false) in
    let now = g.D.Disk.seen c.sync.new.self in
    let after : g.D.Disk.seen c.write_at.new.self ≡ now = sym c.sync.ensures.seen in
    let written : Torn c.args.end 1 file now = subst (λ (d : List ℕ). Torn c.args.end 1 file d) after c.write_at.ensures.others in
    let held : Holds now c.args.end (0 ∷ []) = subst (λ (d : List ℕ). Holds d c.args.end (0 ∷ [])) after (c.in_ok-write_at.ensures.written (omega arith)) in
    shut_done c.args.end file stop torn open' now written held

pub returns-then-is_shut-clause-any_moment : goal.returns-then-is_shut-clause-any_moment
returns-then-is_shut-clause-any_moment g c clean f left =
    let file = g.D.Disk.seen c.args.disk.now in
    let same = c.requires.read clean in
    let stop : StopsAt c.args.end file = subst (λ (d : List ℕ). StopsAt c.args.end d) same c.requires.stops in
    let torn : is_torn (drop c.args.end file) ≡ true = subst (λ (d : List ℕ). is_torn (drop c.args.end d) ≡ true) same c.requires.torn in
    let there = subst (λ (d : List ℕ). (c.args.end < length d) × (slice_index d c.args.end ≡ 0)) same (c.is_shut.ensures.yes c.if-is_shut.true) in
    let is = shut_already c.args.end file stop torn there.0 there.1 in
    let unchanged : f ≡ file = c.requires.durable f left in
    subst (λ (d : List ℕ). StandsFor (recovered file) d) (sym unchanged) (shut_there c.args.end file file stop refl is.gate is.far)

pub returns-then-is_shut-clause-shut : goal.returns-then-is_shut-clause-shut
returns-then-is_shut-clause-shut g c clean =
    let file = g.D.Disk.seen c.args.disk.now in
    let same = c.requires.read clean in
    let stop : StopsAt c.args.end file = subst (λ (d : List ℕ). StopsAt c.args.end d) same c.requires.stops in
    let torn : is_torn (drop c.args.end file) ≡ true = subst (λ (d : List ℕ). is_torn (drop c.args.end d) ≡ true) same c.requires.torn in
    let there = subst (λ (d : List ℕ). (c.args.end < length d) × (slice_index d c.args.end ≡ 0)) same (c.is_shut.ensures.yes c.if-is_shut.true) in
    shut_already c.args.end file stop torn there.0 there.1
