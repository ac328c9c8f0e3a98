use Rattle.lf_task_reports.specs.RepairReports.{all_members}
use Rattle.lf_task_reports.proofs.repair_json.all_value.Goals as goal

pub returns : goal.returns
returns c = c.with_density.ensures (all_members c.args.sums.now c.args.legal) c.in_ok-line.ensures
