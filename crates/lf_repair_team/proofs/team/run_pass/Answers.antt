use Rattle.std.proofs.Common.{◌∙◌, Bool, List, refl, subst}
use Rattle.lf_repair_team.specs.CellEdits.{KeepsLockedLegal, KeepsLockedPlaces}
use Rattle.lf_repair_team.proofs.LastPass.{then_locked_legal}
use Rattle.lf_repair_team.proofs.Runs.{none_moves, nothing, then_cut, then_only, then_stay, then_written, unchanged, uncut}
use Rattle.lf_repair_team.proofs.team.run_pass.Goals as goal

pub loop-phase-init : goal.loop-phase-init
loop-phase-init g c = record {
  run = λ l. nothing l c.args.session.now.team.now c.args.floor.now (g.K.Sink.contents c.args.lines.now);
  only = unchanged c.args.session.now.team.now c.args.floor.now;
  marked = none_moves c.args.session.now.team.now c.args.pass.now.locked.items c.args.floor.now;
  flagged = none_moves c.args.session.now.team.now c.args.session.now.impossible.now c.args.floor.now;
  legal = λ own mark legal. legal;
  committed = refl;
}

pub returns-in-Err-clause-err : goal.returns-in-Err-clause-err
returns-in-Err-clause-err g c = λ l.
    then_cut l c.args.session.now.team.now c.args.floor.now c.loop-phase.floor c.run_edits.new.floor (g.K.Sink.contents c.args.lines.now) (g.K.Sink.contents c.loop-phase.lines)
    (g.K.Sink.contents c.run_edits.new.lines) (c.loop-phase.invariant.run l) (c.in-Err.ensures.err l)

pub returns-in-Err-clause-only : goal.returns-in-Err-clause-only
returns-in-Err-clause-only g c = then_only c.args.session.now.team.now c.args.floor.now c.loop-phase.floor c.run_edits.new.floor c.loop-phase.invariant.only c.in-Err.ensures.only

pub returns-in-Err-clause-marked : goal.returns-in-Err-clause-marked
returns-in-Err-clause-marked g c =
    then_stay c.args.session.now.team.now c.args.pass.now.locked.items c.args.floor.now c.loop-phase.floor c.run_edits.new.floor c.loop-phase.invariant.marked
    (subst (λ (marks : List Bool). KeepsLockedPlaces c.args.session.now.team.now marks c.loop-phase.floor c.run_edits.new.floor) c.as_slice.ensures.value c.in-Err.ensures.marked)

pub returns-in-Err-clause-legal : goal.returns-in-Err-clause-legal
returns-in-Err-clause-legal g c =
    then_locked_legal c.args.session.now.team.now c.args.pass.now.locked.items c.args.floor.now c.loop-phase.floor c.run_edits.new.floor c.loop-phase.invariant.legal
    (subst (λ (marks : List Bool). KeepsLockedLegal c.args.session.now.team.now marks c.loop-phase.floor c.run_edits.new.floor) c.as_slice.ensures.value c.in-Err.ensures.legal)

pub returns-in-Err-clause-flagged : goal.returns-in-Err-clause-flagged
returns-in-Err-clause-flagged g c =
    then_stay c.args.session.now.team.now c.args.session.now.impossible.now c.args.floor.now c.loop-phase.floor c.run_edits.new.floor c.loop-phase.invariant.flagged c.in-Err.ensures.flagged

pub returns-in-Err-clause-committed : goal.returns-in-Err-clause-committed
returns-in-Err-clause-committed g c = c.in-Err.ensures.committed ∙ c.loop-phase.invariant.committed

pub returns-in_default-clause-err : goal.returns-in_default-clause-err
returns-in_default-clause-err g c = λ l.
    uncut l c.args.session.now.team.now c.args.floor.now c.loop-phase.floor (g.K.Sink.contents c.args.lines.now) (g.K.Sink.contents c.loop-phase.lines) (c.loop-phase.invariant.run l)

pub loop-phase-preserved : goal.loop-phase-preserved
loop-phase-preserved g c = record {
  run = λ l. then_written l c.args.session.now.team.now c.args.floor.now c.loop-phase.floor c.run_edits.new.floor (g.K.Sink.contents c.args.lines.now)
      (g.K.Sink.contents c.loop-phase.lines) (g.K.Sink.contents c.run_edits.new.lines) (c.loop-phase.invariant.run l) (c.in-Ok-run_edits.ensures.run l);
  only = then_only c.args.session.now.team.now c.args.floor.now c.loop-phase.floor c.run_edits.new.floor c.loop-phase.invariant.only c.in-Ok-run_edits.ensures.only;
  marked = then_stay c.args.session.now.team.now c.args.pass.now.locked.items c.args.floor.now c.loop-phase.floor c.run_edits.new.floor c.loop-phase.invariant.marked
      (subst (λ (marks : List Bool). KeepsLockedPlaces c.args.session.now.team.now marks c.loop-phase.floor c.run_edits.new.floor) c.as_slice.ensures.value c.in-Ok-run_edits.ensures.marked);
  flagged = then_stay c.args.session.now.team.now c.args.session.now.impossible.now c.args.floor.now c.loop-phase.floor c.run_edits.new.floor c.loop-phase.invariant.flagged c.in-Ok-run_edits.ensures.flagged;
  legal = then_locked_legal c.args.session.now.team.now c.args.pass.now.locked.items c.args.floor.now c.loop-phase.floor c.run_edits.new.floor c.loop-phase.invariant.legal
      (subst (λ (marks : List Bool). KeepsLockedLegal c.args.session.now.team.now marks c.loop-phase.floor c.run_edits.new.floor) c.as_slice.ensures.value c.in-Ok-run_edits.ensures.legal);
  committed = c.in-Ok-run_edits.ensures.committed ∙ c.loop-phase.invariant.committed;
}
