use Rattle.std.proofs.Common.{◌∙◌, refl}
use Rattle.lf_repair_team.proofs.LastPass.{then_locked_legal}
use Rattle.lf_repair_team.proofs.Runs.{none_moves, nothing, then_cut, then_only, then_stay, then_written, unchanged}
use Rattle.lf_repair_team.proofs.cell_edits.run_edits.Goals as goal

pub loop-cell_edit-init : goal.loop-cell_edit-init
loop-cell_edit-init g c = record {
  run = λ l. nothing l c.args.session.now.team.now c.args.floor.now (g.K.Sink.contents c.args.lines.now);
  only = unchanged c.args.session.now.team.now c.args.floor.now;
  marked = none_moves c.args.session.now.team.now c.args.locked.now c.args.floor.now;
  flagged = none_moves c.args.session.now.team.now c.args.session.now.impossible.now c.args.floor.now;
  legal = λ own mark legal. legal;
  committed = refl;
}

pub returns-in-Err-clause-err : goal.returns-in-Err-clause-err
returns-in-Err-clause-err g c = λ l.
    then_cut l c.args.session.now.team.now c.args.floor.now c.loop-cell_edit.floor c.run_edit_unless_locked.new.floor (g.K.Sink.contents c.args.lines.now) (g.K.Sink.contents c.loop-cell_edit.lines)
    (g.K.Sink.contents c.run_edit_unless_locked.new.lines) (c.loop-cell_edit.invariant.run l) (c.in-Err.ensures.err l)

pub returns-in-Err-clause-only : goal.returns-in-Err-clause-only
returns-in-Err-clause-only g c = then_only c.args.session.now.team.now c.args.floor.now c.loop-cell_edit.floor c.run_edit_unless_locked.new.floor c.loop-cell_edit.invariant.only c.in-Err.ensures.only

pub returns-in-Err-clause-marked : goal.returns-in-Err-clause-marked
returns-in-Err-clause-marked g c =
    then_stay c.args.session.now.team.now c.args.locked.now c.args.floor.now c.loop-cell_edit.floor c.run_edit_unless_locked.new.floor c.loop-cell_edit.invariant.marked c.in-Err.ensures.marked

pub returns-in-Err-clause-legal : goal.returns-in-Err-clause-legal
returns-in-Err-clause-legal g c =
    then_locked_legal c.args.session.now.team.now c.args.locked.now c.args.floor.now c.loop-cell_edit.floor c.run_edit_unless_locked.new.floor c.loop-cell_edit.invariant.legal c.in-Err.ensures.legal

pub returns-in-Err-clause-flagged : goal.returns-in-Err-clause-flagged
returns-in-Err-clause-flagged g c =
    then_stay c.args.session.now.team.now c.args.session.now.impossible.now c.args.floor.now c.loop-cell_edit.floor c.run_edit_unless_locked.new.floor c.loop-cell_edit.invariant.flagged c.in-Err.ensures.flagged

pub returns-in-Err-clause-committed : goal.returns-in-Err-clause-committed
returns-in-Err-clause-committed g c = c.in-Err.ensures.committed ∙ c.loop-cell_edit.invariant.committed

pub loop-cell_edit-preserved : goal.loop-cell_edit-preserved
loop-cell_edit-preserved g c = record {
  run = λ l. then_written l c.args.session.now.team.now c.args.floor.now c.loop-cell_edit.floor c.run_edit_unless_locked.new.floor (g.K.Sink.contents c.args.lines.now)
      (g.K.Sink.contents c.loop-cell_edit.lines) (g.K.Sink.contents c.run_edit_unless_locked.new.lines) (c.loop-cell_edit.invariant.run l) (c.in-Ok.ensures.run l);
  only = then_only c.args.session.now.team.now c.args.floor.now c.loop-cell_edit.floor c.run_edit_unless_locked.new.floor c.loop-cell_edit.invariant.only c.in-Ok.ensures.only;
  marked = then_stay c.args.session.now.team.now c.args.locked.now c.args.floor.now c.loop-cell_edit.floor c.run_edit_unless_locked.new.floor c.loop-cell_edit.invariant.marked c.in-Ok.ensures.marked;
  flagged = then_stay c.args.session.now.team.now c.args.session.now.impossible.now c.args.floor.now c.loop-cell_edit.floor c.run_edit_unless_locked.new.floor c.loop-cell_edit.invariant.flagged c.in-Ok.ensures.flagged;
  legal = then_locked_legal c.args.session.now.team.now c.args.locked.now c.args.floor.now c.loop-cell_edit.floor c.run_edit_unless_locked.new.floor c.loop-cell_edit.invariant.legal
      c.in-Ok.ensures.legal;
  committed = c.in-Ok.ensures.committed ∙ c.loop-cell_edit.invariant.committed;
}
