-- The result of improving a team.
use Rattle.std.specs.Prelude.{◌≡◌, ℕ, ◌<◌, ◌≤◌, List, [], Option, Some}
use Rattle.lf_floorplan.specs.declared.place.Place.{Place}
use Rattle.lf_rules.specs.Legalizer.{Legalizer}
use Rattle.lf_wire_length.specs.declared.pins.NetPin.{NetPin}
use Rattle.lf_floor_model.specs.States.{FloorState, TeamState}
use Rattle.lf_floor_model.specs.Outcomes.{places_of}
use Rattle.lf_floor_model.specs.Steps.{AllCommittedIn}
use Rattle.lf_floor_model.specs.Teams.{state_of}
use Rattle.lf_floor_model.specs.VerbLaws.{committed_places}
use Rattle.lf_repair_strategy.specs.Targets.{target_at}
use Rattle.lf_repair_team.specs.CellEdits.{AreAtTargetsOrOffSoft, AreBackAtCommitted}
use Rattle.lf_repair_team.specs.Stats.{displacement}
use Rattle.lf_repair_team.specs.TeamRepairs.{AreLegalExcept, committed_in, place_of_cell_in}
use Rattle.lf_improve_team.specs.FloorLengths.{IsWireLengthOn}

-- the working places of the team's cells are committed
abbrev pub IsCommitted : List ℕ → FloorState → Type 0
IsCommitted team floor = (s : TeamState) → state_of floor team ≡ Some s → committed_places s ≡ places_of s.cells

-- all cells of the team are placed and legal, and their working places are committed
pub record IsImprovable (team : List ℕ) (floor : FloorState) : Type 0 where
  pub legal : AreLegalExcept team floor []
  pub committed : IsCommitted team floor

-- the working places and the committed places of the team's cells are unchanged
pub record KeepsTeamPlaces (team : List ℕ) (old new : FloorState) : Type 0 where
  pub working : (own : ℕ) → place_of_cell_in new team own ≡ place_of_cell_in old team own
  pub committed : committed_in new team ≡ committed_in old team

-- no cell of the team is farther than this limit from where it was, if there is a limit
abbrev pub StaysWithin : Option ℕ → List ℕ → FloorState → FloorState → Type 0
StaysWithin limit team old new =
    (own far : ℕ) → limit ≡ Some far
    → displacement (place_of_cell_in old team own) (place_of_cell_in new team own) ≤ far

-- ---- in the session. No clause of `improve_team` cites what follows

-- no cell of the team is farther than this limit from its place in the list, if there is a limit
abbrev pub AreCellsNear : Option ℕ → List (Option Place) → List ℕ → FloorState → Type 0
AreCellsNear limit places team floor =
    (own far : ℕ) → limit ≡ Some far
    → displacement (target_at places own) (place_of_cell_in floor team own) ≤ far

-- the nets have this length on the floor, less than before; all cells of the team are committed, near
-- their places in the list, and at these places or off soft blockages
pub record IsShortened (nets : List (List NetPin)) (before : ℕ) (limit : Option ℕ) (places : List (Option Place))
    (team : List ℕ) (floor : FloorState) (length : ℕ) : Type 0 where
  pub measured : IsWireLengthOn nets floor length
  pub shorter : length < before
  pub near : AreCellsNear limit places team floor
  pub off_soft : AreAtTargetsOrOffSoft team places floor
  pub committed : (l : Legalizer) → AllCommittedIn l floor team

-- the cells are back at their committed places, which are unchanged
pub record IsMovedBack (team : List ℕ) (old new : FloorState) : Type 0 where
  pub working : AreBackAtCommitted team old new
  pub committed : committed_in new team ≡ committed_in old team
