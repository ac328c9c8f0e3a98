use Rattle.std.proofs.Common.{◌<◌, ℕ, map}
use Rattle.lf_rules.specs.Team.{IsLegalCell}
use Rattle.lf_cells.specs.Cells.{cells_of}
use Rattle.lf_legalize.specs.Members.{member_of}
use Rattle.lf_task_files.proofs.committed_legality.are_working_legal.Given as goal

-- The cells so far are legal.
abbrev pub invariant-loop-id : goal.invariant-loop-id
invariant-loop-id l = (own : ℕ) → own < l.id-index → IsLegalCell l.placement.frame l.team 0 (map member_of (cells_of l.placement.cells l.team)) own
