use Rattle.std.proofs.Common.{ap}
use Rattle.lf_floor_model.specs.States.{FloorState}
use Rattle.lf_floor_model.specs.Teams.{state_of}
use Rattle.lf_task_run.specs.Commands.{kept_text}
use Rattle.lf_task_run.proofs.Running.{of_team}
use Rattle.lf_task_improve.proofs.Results.{settled_by}
use Rattle.lf_task_improve.proofs.improving.improve_named.Goals as goal

pub returns-in-Ok-clause-run : goal.returns-in-Ok-clause-run
returns-in-Ok-clause-run g c = λ l.
    of_team l c.args.name.now c.args.floor.now c.improve_team.new.floor (kept_text c.args.lines.now.lines) (kept_text c.improve_team.new.lines.lines) (c.in-Ok.ensures.run l)

pub returns-in-Ok-clause-done : goal.returns-in-Ok-clause-done
returns-in-Ok-clause-done g c = record {
  skipped = λ s there. c.in-Ok.ensures.skipped s there;
  untouched = λ skipped. ap (λ (f : FloorState). state_of f c.args.name.now) (c.in-Ok.ensures.untouched skipped);
  settled = settled_by c.in-Ok.done.is_improved _ _ _ (λ l. c.in-Ok.ensures.improved l) c.in-Ok.ensures.kept;
  near = c.in-Ok.ensures.near;
  counted = λ s there. c.in-Ok.ensures.cells s there;
  measured = c.in-Ok.ensures.counted;
  settings = c.in-Ok.ensures.settings;
  off_soft = c.in-Ok.ensures.off_soft;
}
