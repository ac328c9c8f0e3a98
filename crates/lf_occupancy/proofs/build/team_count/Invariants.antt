use Rattle.std.proofs.Common.{◌<◌, ℕ, get_or}
use Rattle.lf_cells.specs.declared.cell.CellId.{CellId}
use Rattle.lf_occupancy.proofs.build.team_count.Given as goal

-- the number is greater than the teams of the cells visited
abbrev pub invariant-loop-id : goal.invariant-loop-id
invariant-loop-id l = (k : ℕ) (d : CellId) → k < l.id-index → (get_or l.ids k d).team < l.teams
