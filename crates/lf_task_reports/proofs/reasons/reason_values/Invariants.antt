use Rattle.std.proofs.Common.{◌≡◌, map, take}
use Rattle.serde_json.specs.View.{view}
use Rattle.lf_task_reports.specs.RepairReports.{cell_reasons, reason_data}
use Rattle.lf_task_reports.proofs.reasons.reason_values.Given as goal

-- the values so far are the reasons of the cells so far
abbrev pub invariant-loop-own : goal.invariant-loop-own
invariant-loop-own g l =
    map view l.values.items ≡ map reason_data (cell_reasons l.list l.floor l.team (take l.own-index l.owns))
