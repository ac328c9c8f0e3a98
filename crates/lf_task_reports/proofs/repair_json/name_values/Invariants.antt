use Rattle.std.proofs.Common.{◌≡◌, map, take}
use Rattle.serde_json.specs.View.{view}
use Rattle.lf_task_reports.specs.RepairReports.{cell_names, report_text_value}
use Rattle.lf_task_reports.proofs.repair_json.name_values.Given as goal

-- the values so far are the names of the cells so far
abbrev pub invariant-loop-own : goal.invariant-loop-own
invariant-loop-own g l = map view l.names.items ≡ map report_text_value (cell_names l.floor l.team (take l.own-index l.owns))
