use Rattle.lf_task_run.specs.Commands.{kept_text}
use Rattle.lf_task_run.proofs.Running.{of_team}
use Rattle.lf_task_repair.proofs.OldPlaces.{one_more_from}
use Rattle.lf_task_repair.proofs.repairing.repair_named.Goals as goal

pub returns-in-Ok-clause-run : goal.returns-in-Ok-clause-run
returns-in-Ok-clause-run g c = λ l.
    of_team l c.args.name.now c.args.floor.now c.repair_team.new.floor (kept_text c.args.lines.now.lines) (kept_text c.repair_team.new.lines.lines) (c.in-Ok.ensures.run l)

pub returns-in-Ok-clause-reported : goal.returns-in-Ok-clause-reported
returns-in-Ok-clause-reported g c = (
  c.in-Ok.repaired,
  one_more_from c.args.floor.now c.repair_team.new.floor c.args.name.now c.in_ok-old_places.old_places.items c.as_slice.result.now c.in-Ok.repaired c.args.report.now _
      c.in_ok-old_places.ensures c.in-Ok.ensures.only.names c.as_slice.ensures.value c.in_ok-add-in-Ok.ensures,
  record {
    legal = c.in-Ok.ensures.named;
    illegal = c.in-Ok.ensures.illegal;
    were_illegal = c.in-Ok.ensures.were_illegal;
    complete = rw c.as_slice-impossible.ensures.value at c.in-Ok.ensures.complete;
    within = c.in-Ok.ensures.within;
    unmoved = rw c.as_slice-impossible.ensures.value at c.in-Ok.ensures.unmoved;
    rise = c.in-Ok.ensures.rise;
    stats = c.in-Ok.ensures.reported;
    means = c.in-Ok.ensures.means;
    committed = c.in-Ok.ensures.committed;
    uncommitted = c.in-Ok.ensures.uncommitted;
    settings = c.in-Ok.ensures.settings;
    off_soft = c.in-Ok.ensures.off_soft;
  },
)
