use Rattle.std.proofs.Common.{ℕ, List, length, take, sym, ◌∙◌, ap, subst, arith}
use Rattle.lf_journal_text.specs.Batches.{StopsAt, EndsWhole}
use Rattle.lf_journal.proofs.Crash.{shut_again, shut_same}
use Rattle.lf_journal.proofs.start.close_torn.Goals as goal

pub clear-requires-clause-shut : goal.clear-requires-clause-shut
clear-requires-clause-shut g c clean =
    let is = c.in_ok-shut.ensures.shut clean in
    let same = c.requires.read (c.shut.ensures.clean clean) in
    let text : EndsWhole (take c.args.end (g.D.Disk.seen c.args.disk.now)) = subst (λ (d : List ℕ). EndsWhole (take c.args.end d)) same c.requires.stops.text in
    (omega (arith, is.size, ap length same, c.max-len.ensures), subst EndsWhole (sym is.text) text, shut_again c.args.end (g.D.Disk.seen c.args.disk.now) (g.D.Disk.seen c.shut.new.disk) is)

pub returns-in_err-clear-clause-any_moment : goal.returns-in_err-clear-clause-any_moment
returns-in_err-clear-clause-any_moment g c clean f left =
    let before = c.clear.ensures.clean clean in
    let is = c.in_ok-shut.ensures.shut before in
    let same = c.requires.read (c.shut.ensures.clean before) in
    let stop : StopsAt c.args.end (g.D.Disk.seen c.args.disk.now) = subst (λ (d : List ℕ). StopsAt c.args.end d) same c.requires.stops in
    let stands = c.clear.ensures.any_moment clean f left in
    (stands.0 ∙ shut_same c.args.end (g.D.Disk.seen c.args.disk.now) (g.D.Disk.seen c.shut.new.disk) stop is, stands.1)

pub returns-clause-any_moment : goal.returns-clause-any_moment
returns-clause-any_moment g c clean f left =
    let before = c.clear.ensures.clean clean in
    let is = c.in_ok-shut.ensures.shut before in
    let same = c.requires.read (c.shut.ensures.clean before) in
    let stop : StopsAt c.args.end (g.D.Disk.seen c.args.disk.now) = subst (λ (d : List ℕ). StopsAt c.args.end d) same c.requires.stops in
    let stands = c.clear.ensures.any_moment clean f left in
    (stands.0 ∙ shut_same c.args.end (g.D.Disk.seen c.args.disk.now) (g.D.Disk.seen c.shut.new.disk) stop is, stands.1)

pub returns-clause-settled : goal.returns-clause-settled
returns-clause-settled g c clean =
    let before = c.clear.ensures.clean clean in
    let is = c.in_ok-shut.ensures.shut before in
    let same = c.requires.read (c.shut.ensures.clean before) in
    let stop : StopsAt c.args.end (g.D.Disk.seen c.args.disk.now) = subst (λ (d : List ℕ). StopsAt c.args.end d) same c.requires.stops in
    let s = c.in_ok-clear.ensures.settled clean in
    (s.0, s.1 ∙ shut_same c.args.end (g.D.Disk.seen c.args.disk.now) (g.D.Disk.seen c.shut.new.disk) stop is)
