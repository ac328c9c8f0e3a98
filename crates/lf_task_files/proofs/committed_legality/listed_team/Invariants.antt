use Rattle.std.proofs.Common.{◌≡◌, map, take}
use Rattle.lf_cells.specs.Cells.{cells_of}
use Rattle.lf_reports.specs.Reports.{with_byte_name}
use Rattle.lf_task_files.specs.CommittedLegality.{committed_listed}
use Rattle.lf_task_files.proofs.committed_legality.listed_team.Given as goal

-- The cells so far are listed.
abbrev pub invariant-loop-id : goal.invariant-loop-id
invariant-loop-id l = map with_byte_name l.listed.items ≡ map (committed_listed l.team) (take l.id-index (cells_of l.cells l.team))
