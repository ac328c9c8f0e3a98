-- The cells of a team that are visited are those of the floor's state.
use Rattle.std.proofs.Common.{◌≡◌, ◌<◌, ℕ, List, length, Some, ap, arith}
use Rattle.std.specs.Prelude.{◌≤◌, slice_get}
use Rattle.lf_cells.specs.declared.cell.Cell.{Cell}
use Rattle.lf_cells.specs.declared.cell.CellId.{CellId}
use Rattle.lf_cells.specs.Cells.{ids_of}
use Rattle.lf_cells.proofs.TeamIds.{ids_long}
use Rattle.lf_floor_model.specs.States.{FloorState, TeamState}
use Rattle.lf_floor_model.specs.Teams.{state_of, team_number}
use Rattle.lf_repair_team.proofs.Legal.{state_there}

-- there are as many ids as cells of the team
pub looked_within : (team : List ℕ) (floor : FloorState) (number k : ℕ) (cells : List Cell) (ids : List CellId) → ids ≡ ids_of number cells → k < length ids
    → team_number floor.frame team ≡ Some number → ((s : TeamState) → slice_get floor.teams number ≡ Some s → cells ≡ s.cells)
    → (s : TeamState) → state_of floor team ≡ Some s → k < length s.cells
looked_within team floor number k cells ids are within named same s there =
    let many : length ids ≡ length cells = ids_long number cells ids are in
    let own : length cells ≡ length s.cells = ap (λ (cs : List Cell). length cs) (same s (state_there floor team number s named there)) in
    omega (arith, within, many, own)

pub all_looked : (floor : FloorState) (number k : ℕ) (cells : List Cell) (ids : List CellId) → ids ≡ ids_of number cells → length ids ≤ k
    → ((s : TeamState) → slice_get floor.teams number ≡ Some s → cells ≡ s.cells) → (s : TeamState) → slice_get floor.teams number ≡ Some s → length s.cells ≤ k
all_looked floor number k cells ids are past same s at =
    let many : length ids ≡ length cells = ids_long number cells ids are in
    let own : length cells ≡ length s.cells = ap (λ (cs : List Cell). length cs) (same s at) in
    omega (arith, past, many, own)
