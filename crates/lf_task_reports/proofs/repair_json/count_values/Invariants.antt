use Rattle.std.proofs.Common.{◌≡◌, map, take}
use Rattle.serde_json.specs.View.{view}
use Rattle.lf_task_reports.specs.RepairReports.{report_number}
use Rattle.lf_task_reports.proofs.repair_json.count_values.Given as goal

-- the values so far are those of the numbers so far
abbrev pub invariant-loop-count : goal.invariant-loop-count
invariant-loop-count l = map view l.values.items ≡ map report_number (take l.count-index l.counts)
