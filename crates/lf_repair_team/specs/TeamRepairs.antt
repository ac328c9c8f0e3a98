-- The result of repairing a team.
use Rattle.std.specs.Prelude.{◌≡◌, ◌≢◌, ◌⊎◌, ℕ, ℤ, pos, ◌<◌, ◌<ℤ◌, IsTrue, List, Option, None, Some, All, Contains, length, map, slice_get, option_and_then, option_map}
use Rattle.lf_units.specs.declared.geometry.Point.{Point}
use Rattle.lf_floorplan.specs.declared.place.Place.{Place}
use Rattle.lf_floorplan.specs.Ground.{OverlapsSoft}
use Rattle.lf_rules.specs.Choice.{SpotPlace, IsAllowedPlace, distance, spot_of}
use Rattle.lf_rules.specs.Team.{IsLegalCell, box_in, query_from}
use Rattle.lf_cells.specs.declared.cell.Cell.{Cell}
use Rattle.lf_cells.specs.Cells.{working_at}
use Rattle.lf_legalize.specs.Members.{member_of}
use Rattle.lf_floor_model.specs.States.{FloorState, TeamState}
use Rattle.lf_floor_model.specs.Teams.{state_of, team_number}
use Rattle.lf_floor_model.specs.VerbLaws.{committed_places}
use Rattle.lf_floor_model.specs.Committed.{IsCommittedLegal}
use Rattle.lf_repair_bounds.specs.declared.reasons.ImpossibleMacro.{ImpossibleMacro}
use Rattle.lf_repair_bounds.specs.ImpossibleMacros.{is_listed}

-- the place of the team's cell at this position; None also if there is no such cell
abbrev pub place_of_cell_in : FloorState → List ℕ → ℕ → Option Place
place_of_cell_in floor team own = option_and_then (λ s. working_at s.cells own) (state_of floor team)

-- the names of the team's cells, in loading order; None if there is no such team
abbrev pub team_cell_names : FloorState → List ℕ → Option (List (List ℕ))
team_cell_names floor team = option_map (λ s. map (λ c. c.name) s.cells) (state_of floor team)

-- the macros of the team's cells, in loading order; None if there is no such team
abbrev pub team_cell_macros : FloorState → List ℕ → Option (List ℕ)
team_cell_macros floor team = option_map (λ s. map (λ c. c.mac) s.cells) (state_of floor team)

-- the committed places of the team's cells, in loading order; None if there is no such team
abbrev pub committed_in : FloorState → List ℕ → Option (List (Option Place))
committed_in floor team = option_map committed_places (state_of floor team)

-- the settings of a team: its padding and its session slots; None if there is no such team
abbrev pub settings_in : FloorState → List ℕ → Option (ℕ × List (Option ℕ))
settings_in floor team = option_map (λ s. (s.padding, s.slots)) (state_of floor team)

-- only the state of the team with this name may differ (of two fences with one name, that of the
-- first), the team has the same cells, and a fully legal committed design stays fully legal
pub record ChangesOnly (team : List ℕ) (old new : FloorState) : Type 0 where
  pub others : (other : List ℕ) → other ≢ team → state_of new other ≡ state_of old other
  pub numbers : (number : ℕ) → team_number old.frame team ≢ Some number
      → slice_get new.teams number ≡ slice_get old.teams number
  pub frame : new.frame ≡ old.frame
  pub components : new.components ≡ old.components
  pub names : team_cell_names new team ≡ team_cell_names old team
  pub macros : team_cell_macros new team ≡ team_cell_macros old team
  pub legal : IsCommittedLegal old → IsCommittedLegal new

-- the team has a cell at this position, which is legal
pub record IsLegalIn (floor : FloorState) (team : List ℕ) (own : ℕ) : Type 0 where
  pub number : ℕ
  pub state : TeamState
  pub named : team_number floor.frame team ≡ Some number
  pub there : state_of floor team ≡ Some state
  pub within : own < length state.cells
  pub legal : IsLegalCell floor.frame number state.padding (map member_of state.cells) own

-- the legal cells are at the same places
abbrev pub KeepsLegalPlaces : List ℕ → FloorState → FloorState → Type 0
KeepsLegalPlaces team old new = (own : ℕ) → IsLegalIn old team own
    → place_of_cell_in new team own ≡ place_of_cell_in old team own

-- the team's cell at this position is of a macro that is listed for the team
pub record IsListedIn (list : List ImpossibleMacro) (floor : FloorState) (team : List ℕ) (own : ℕ) : Type 0 where
  pub number : ℕ
  pub state : TeamState
  pub cell : Cell
  pub named : team_number floor.frame team ≡ Some number
  pub there : state_of floor team ≡ Some state
  pub cell_is : slice_get state.cells own ≡ Some cell
  pub listed : IsTrue (is_listed list number cell.mac)

-- the team's cells of listed macros are at the same places
abbrev pub KeepsListedPlaces : List ImpossibleMacro → List ℕ → FloorState → FloorState → Type 0
KeepsListedPlaces list team old new = (own : ℕ) → IsListedIn list old team own
    → place_of_cell_in new team own ≡ place_of_cell_in old team own

-- each cell of the team is at the same place, or its position is listed
abbrev pub OnlyListedMove : List ℕ → FloorState → FloorState → List ℕ → Type 0
OnlyListedMove team old new changed = (own : ℕ) → (place_of_cell_in new team own ≡ place_of_cell_in old team own)
    ⊎ Contains changed own

-- each cell at a listed position is at another place
abbrev pub AllListedMove : List ℕ → FloorState → FloorState → List ℕ → Type 0
AllListedMove team old new changed = (s : TeamState) → state_of old team ≡ Some s
    → All (λ own. place_of_cell_in new team own ≢ place_of_cell_in old team own) changed

-- each cell of the team is legal, or its position is listed
abbrev pub AreLegalExcept : List ℕ → FloorState → List ℕ → Type 0
AreLegalExcept team floor left = (s : TeamState) → state_of floor team ≡ Some s → (own : ℕ) → own < length s.cells
    → IsLegalIn floor team own ⊎ Contains left own

-- the position is that of a cell of the team, which is not legal
pub record IsIllegalIn (floor : FloorState) (team : List ℕ) (own : ℕ) : Type 0 where
  pub within : (s : TeamState) → state_of floor team ≡ Some s → own < length s.cells
  pub illegal : IsLegalIn floor team own → ⊥

-- the team's cell at this position was not legal on this floor, on which a repair began
abbrev pub WasIllegal : FloorState → List ℕ → ℕ → Type 0
WasIllegal begin team own = IsLegalIn begin team own → ⊥

-- ---- the reach of a repair

-- the corner of a place
abbrev pub corner_of : Place → Point
corner_of place = record { x = place.x; y = place.y }

-- |dx| + |dy| from the place that a cell had to another place; 0 if it had none
abbrev pub way_to : Option Place → SpotPlace → ℕ
way_to None p = 0
way_to (Some old) p = distance (corner_of old) p

-- the way is longer than the reach; none is without a reach, and a way of 0 never is
abbrev pub IsBeyond : Option ℤ → ℕ → Type 0
IsBeyond None way = ⊥
IsBeyond (Some reach) way = (0 < way) × (reach <ℤ pos way)

-- each cell that had a place and has one is within reach of the place that it had
abbrev pub StaysWithin : Option ℤ → List ℕ → FloorState → FloorState → Type 0
StaysWithin reach team old new = (own : ℕ) (p : Place) → place_of_cell_in new team own ≡ Some p
    → IsBeyond reach (way_to (place_of_cell_in old team own) (spot_of p)) → ⊥

-- ---- unrepaired cells

-- the team's cell at this position, which had this place, is unplaced and has no place: next to the
-- team's other cells each place off soft blockages that is legal for it is beyond reach
pub record HasNoPlace (reach : Option ℤ) (old : Option Place) (floor : FloorState) (team : List ℕ) (own : ℕ)
    : Type 0 where
  pub number : ℕ
  pub state : TeamState
  pub cell : Cell
  pub named : team_number floor.frame team ≡ Some number
  pub there : state_of floor team ≡ Some state
  pub cell_is : slice_get state.cells own ≡ Some cell
  pub unplaced : cell.working ≡ None
  pub none : (p : SpotPlace)
      → IsAllowedPlace (query_from floor.frame number state.padding (map member_of state.cells) own cell.mac) p
      → IsBeyond reach (way_to old p)

-- the team's cell at this position has no place within reach of the place that it had on the old
-- floor, or is of a macro that is listed for the team
abbrev pub HasNoPlaceOrIsListed : Option ℤ → List ImpossibleMacro → FloorState → FloorState → List ℕ → ℕ → Type 0
HasNoPlaceOrIsListed reach list old new team own =
    HasNoPlace reach (place_of_cell_in old team own) new team own ⊎ IsListedIn list new team own

-- the team's cell at this position is placed, and its box shares no point with a soft blockage
pub record IsOffSoft (floor : FloorState) (team : List ℕ) (own : ℕ) : Type 0 where
  pub state : TeamState
  pub cell : Cell
  pub place : Place
  pub there : state_of floor team ≡ Some state
  pub cell_is : slice_get state.cells own ≡ Some cell
  pub placed : cell.working ≡ Some place
  pub off_soft : OverlapsSoft floor.frame (box_in floor.frame cell.mac (spot_of place)) → ⊥

-- each placed cell that is at another place than before is off soft blockages
abbrev pub AreMovedOffSoft : List ℕ → FloorState → FloorState → Type 0
AreMovedOffSoft team old new = (own : ℕ) → place_of_cell_in new team own ≢ None
    → place_of_cell_in new team own ≢ place_of_cell_in old team own → IsOffSoft new team own
