use Rattle.std.proofs.Common.{inl, inr}
use Rattle.std.proofs.lemmas.Result.{on_ok_weaker}
use Rattle.lf_repair_team.proofs.OffSoft.{none_leaves_target, targets_beside}
use Rattle.lf_repair_team.proofs.ReachLemmas.{unplaced_is_within}
use Rattle.lf_repair_team.proofs.Runs.{nothing, unchanged}
use Rattle.lf_repair_team.proofs.misplaced_pass.unplace_if_misplaced.Goals as goal

pub returns-then-not-is_misplaced-clause-run : goal.returns-then-not-is_misplaced-clause-run
returns-then-not-is_misplaced-clause-run g c = λ l. nothing l c.args.session.now.team.now c.args.floor.now (g.K.Sink.contents c.args.lines.now)

pub returns-then-not-is_misplaced-clause-only : goal.returns-then-not-is_misplaced-clause-only
returns-then-not-is_misplaced-clause-only g c = unchanged c.args.session.now.team.now c.args.floor.now

pub returns-then-not-is_misplaced-clause-targets : goal.returns-then-not-is_misplaced-clause-targets
returns-then-not-is_misplaced-clause-targets g c = none_leaves_target c.args.session.now.team.now c.args.targets.now c.args.floor.now

pub returns-clause-targets : goal.returns-clause-targets
returns-clause-targets g c =
    targets_beside c.args.session.now.team.now c.args.targets.now c.args.floor.now c.unplace_cell.new.floor c.args.own c.unplace_cell.ensures.only.macros
    (λ s there. c.is_misplaced.ensures.moved s there c.if-not-is_misplaced.false) c.unplace_cell.ensures.cells c.unplace_cell.ensures.legal

pub returns-clause-settled : goal.returns-clause-settled
returns-clause-settled g c = on_ok_weaker c.unplace_cell.result (λ none. inr (inl none)) c.unplace_cell.ensures.unplaced

pub returns-clause-within : goal.returns-clause-within
returns-clause-within g c =
    on_ok_weaker c.unplace_cell.result (λ none. unplaced_is_within c.args.search.now.reach c.args.targets.now c.args.session.now.team.now c.unplace_cell.new.floor c.args.own none)
    c.unplace_cell.ensures.unplaced
