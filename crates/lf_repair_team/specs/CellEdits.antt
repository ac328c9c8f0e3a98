-- Changes of one cell, and what is read at the start and at the end of a repair. The clauses of
-- `repair_team` do not cite this module.
use Rattle.std.specs.Prelude.{◌≡◌, ◌≢◌, ◌⊎◌, ◌↔◌, ℕ, ℤ, ◌<◌, ◌≤◌, ◌+◌, ◌++◌, ◌∷◌, [], List, Bool, true, All, AllPairs, Contains, IsSome, None, Option, Some, length, map, max, min, option_and_then, option_map, slice_get, slice_set}
use Rattle.lf_units.specs.declared.geometry.Point.{Point}
use Rattle.lf_floorplan.specs.declared.place.Place.{Place}
use Rattle.lf_rules.specs.Choice.{IsBest, SpotPlace, spot_of}
use Rattle.lf_rules.specs.Legalizer.{Legalizer}
use Rattle.lf_rules.specs.Team.{IsLegalCell, query_from}
use Rattle.lf_proto.specs.declared.request.Command.{Command}
use Rattle.lf_proto.specs.declared.reply.Reply.{Reply}
use Rattle.lf_proto.specs.declared.reply.Reply.TheVariants.{Opened, Refused}
use Rattle.lf_proto.specs.declared.reply.Refusal.TheVariants.{NoPlace}
use Rattle.lf_proto.specs.declared.verb.Change.{Change}
use Rattle.lf_proto.specs.declared.verb.Change.TheVariants.{Place as PlaceAt, Legalize, Unplace}
use Rattle.lf_cells.specs.declared.cell.Cell.{Cell}
use Rattle.lf_cells.specs.Cells.{cell_named, working_at}
use Rattle.lf_legalize.specs.Members.{member_of}
use Rattle.lf_floor_model.specs.States.{FloorState, TeamState}
use Rattle.lf_floor_model.specs.Steps.{Step}
use Rattle.lf_floor_model.specs.Teams.{state_of, team_number}
use Rattle.lf_floor_model.specs.VerbLaws.{KeepsCells, committed_places}
use Rattle.lf_repair_bounds.specs.declared.reasons.ImpossibleMacro.{ImpossibleMacro}
use Rattle.lf_repair_strategy.specs.Targets.{target_at}
use Rattle.lf_repair_strategy.specs.declared.stats.RepairStats.{RepairStats}
use Rattle.lf_repair_team.specs.TeamRepairs.{AreLegalExcept, HasNoPlace, IsBeyond, IsIllegalIn, IsLegalIn, IsListedIn, IsOffSoft, committed_in, team_cell_names, place_of_cell_in, way_to}
use Rattle.lf_repair_team.specs.Stats.{AreTurned, AreStatsOf, displacement}

-- the floor is unchanged, or has executed the command
abbrev pub IsUnchangedOrStepped : Legalizer → FloorState → Command (List ℕ) Place → FloorState → Type 0
IsUnchangedOrStepped l old command new = (new ≡ old) ⊎ ((reply : Reply) × Step l old command reply new)

-- the change is a place, a legalize or an unplace of the cell with this name
abbrev pub IsOfCell : List ℕ → Change (List ℕ) Place → Type 0
IsOfCell cell (PlaceAt name place) = name ≡ cell
IsOfCell cell (Legalize name target) = name ≡ cell
IsOfCell cell (Unplace name) = name ≡ cell
IsOfCell cell _ = ⊥

-- the team has the same cells and padding on both floors
pub record HasSameCells (team : List ℕ) (old new : FloorState) : Type 0 where
  pub before : TeamState
  pub after : TeamState
  pub was : state_of old team ≡ Some before
  pub is : state_of new team ≡ Some after
  pub keeps : KeepsCells before after

-- the team has the same cells and padding on both floors, or is unchanged
abbrev pub SameCells : List ℕ → FloorState → FloorState → Type 0
SameCells team old new = (state_of new team ≡ state_of old team) ⊎ HasSameCells team old new

-- ---- what is unchanged

-- the cell at this position is flagged
abbrev pub IsFlagged : List Bool → ℕ → Type 0
IsFlagged flags own = slice_get flags own ≡ Some true

-- all cells are at the same places
abbrev pub KeepsPlaces : List ℕ → FloorState → FloorState → Type 0
KeepsPlaces team old new = (own : ℕ) → place_of_cell_in new team own ≡ place_of_cell_in old team own

-- the locked cells are at the same places
abbrev pub KeepsLockedPlaces : List ℕ → List Bool → FloorState → FloorState → Type 0
KeepsLockedPlaces team marks old new = (own : ℕ) → slice_get marks own ≡ Some true
    → place_of_cell_in new team own ≡ place_of_cell_in old team own

-- the cell remains legal if it is
abbrev pub RemainsLegal : List ℕ → FloorState → FloorState → ℕ → Type 0
RemainsLegal team old new own = IsLegalIn old team own → IsLegalIn new team own

-- the locked cells that are legal remain legal
abbrev pub KeepsLockedLegal : List ℕ → List Bool → FloorState → FloorState → Type 0
KeepsLockedLegal team marks old new = (own : ℕ) → slice_get marks own ≡ Some true → RemainsLegal team old new own

-- the locked cells are legal and have their places in `targets`
abbrev pub AreLockedInPlace : List ℕ → List Bool → List (Option Place) → FloorState → Type 0
AreLockedInPlace team marks targets floor = (own : ℕ) → slice_get marks own ≡ Some true
    → IsLegalIn floor team own × (place_of_cell_in floor team own ≡ target_at targets own)

-- the flagged cells have their places in `targets`
abbrev pub AreFlaggedAtTargets : List ℕ → List Bool → List (Option Place) → FloorState → Type 0
AreFlaggedAtTargets team flags targets floor = (own : ℕ) → IsFlagged flags own
    → place_of_cell_in floor team own ≡ target_at targets own

-- the legal cells remain legal and at the same places
abbrev pub KeepsLegalCells : List ℕ → FloorState → FloorState → Type 0
KeepsLegalCells team old new = (own : ℕ) → IsLegalIn old team own
    → IsLegalIn new team own × (place_of_cell_in new team own ≡ place_of_cell_in old team own)

-- the legal cells that have their places in `targets` remain legal and at these places
abbrev pub KeepsLegalAtTargets : List ℕ → List (Option Place) → FloorState → FloorState → Type 0
KeepsLegalAtTargets team targets old new =
    (own : ℕ) → IsLegalIn old team own → place_of_cell_in old team own ≡ target_at targets own
    → IsLegalIn new team own × (place_of_cell_in new team own ≡ place_of_cell_in old team own)

-- the committed places are unchanged
abbrev pub KeepsCommittedPlaces : List ℕ → FloorState → FloorState → Type 0
KeepsCommittedPlaces team old new = committed_in new team ≡ committed_in old team

-- the cells are at the places that were committed before
abbrev pub AreBackAtCommitted : List ℕ → FloorState → FloorState → Type 0
AreBackAtCommitted team old new = (own : ℕ) → place_of_cell_in new team own
    ≡ option_and_then (λ places. target_at places own) (committed_in old team)

-- ---- the session

-- the reply says that this session is open
abbrev pub SaysOpened : ℕ → Reply → Type 0
SaysOpened session reply = (revision : ℕ) × (reply ≡ Opened session revision)

-- the team's settings with the slot of this session freed; None if there is no such team
abbrev pub settings_without : ℕ → FloorState → List ℕ → Option (ℕ × List (Option ℕ))
settings_without session floor team =
    option_map (λ s. (s.padding, slice_set s.slots session None)) (state_of floor team)

-- the padding and the slots of the other sessions are unchanged
abbrev pub KeepsOtherSettings : List ℕ → ℕ → FloorState → FloorState → Type 0
KeepsOtherSettings team session old new =
    settings_without session new team ≡ settings_without session old team

-- the committed places of the team's cells, and its settings with the slot of this session freed; None
-- if there is no such team
abbrev pub committed_and_settings : ℕ → FloorState → List ℕ
    → Option (List (Option Place) × (ℕ × List (Option ℕ)))
committed_and_settings session floor team =
    option_map (λ s. (committed_places s, (s.padding, slice_set s.slots session None))) (state_of floor team)

-- the committed places, the padding and the slots of the other sessions are unchanged
abbrev pub KeepsCommittedAndSettings : List ℕ → ℕ → FloorState → FloorState → Type 0
KeepsCommittedAndSettings team session old new =
    committed_and_settings session new team ≡ committed_and_settings session old team

-- ---- at the start of a repair

-- the flags are true exactly at the legal cells
pub record AreLegalFlags (team : List ℕ) (floor : FloorState) (marks : List Bool) : Type 0 where
  pub legal : (own : ℕ) → IsLegalIn floor team own → slice_get marks own ≡ Some true
  pub only : (s : TeamState) → state_of floor team ≡ Some s → (own : ℕ) → slice_get marks own ≡ Some true
      → IsLegalIn floor team own

-- one flag more, which is true if the cell at this position is legal in the team of this number
pub record AddsLegalFlag (floor : FloorState) (number own : ℕ) (old new : List Bool) : Type 0 where
  pub mark : Bool
  pub more : new ≡ old ++ mark ∷ []
  pub reported : (s : TeamState) → slice_get floor.teams number ≡ Some s → own < length s.cells
      → IsLegalCell floor.frame number s.padding (map member_of s.cells) own → mark ≡ true
  pub legal : (s : TeamState) → slice_get floor.teams number ≡ Some s → mark ≡ true
      → IsLegalCell floor.frame number s.padding (map member_of s.cells) own

-- the flags are true exactly at the cells of listed macros
abbrev pub AreListedFlags : List ImpossibleMacro → List ℕ → FloorState → List Bool → Type 0
AreListedFlags list team floor flags = (own : ℕ) → IsFlagged flags own ↔ IsListedIn list floor team own

-- ---- at the end of a repair

-- it is so and the list is unchanged, or it is not so and the position is appended to the list
abbrev pub HoldsOrIsListed : Type 0 → Type 0 → ℕ → List ℕ → List ℕ → Type 0
HoldsOrIsListed So Not own old new = ((new ≡ old) × So) ⊎ ((new ≡ old ++ own ∷ []) × Not)

-- the cell at this position is legal, if it exists, or it is listed and is not legal
abbrev pub IsLegalOrListed : List ℕ → FloorState → ℕ → List ℕ → List ℕ → Type 0
IsLegalOrListed team floor own old new =
    HoldsOrIsListed ((s : TeamState) → state_of floor team ≡ Some s → own < length s.cells → IsLegalIn floor team own)
    (IsLegalIn floor team own → ⊥) own old new

-- each of the cells has its place in `targets`, or is listed
abbrev pub AreAtTargetsExcept : List Cell → List (Option Place) → List ℕ → Type 0
AreAtTargetsExcept cells targets changed = (own : ℕ) → own < length cells
    → (working_at cells own ≡ target_at targets own) ⊎ Contains changed own

-- the same for the team's cells
abbrev pub TeamIsAtTargetsExcept : List ℕ → List (Option Place) → FloorState → List ℕ → Type 0
TeamIsAtTargetsExcept team targets floor changed =
    (names : List (List ℕ)) → team_cell_names floor team ≡ Some names → (own : ℕ) → own < length names
    → (place_of_cell_in floor team own ≡ target_at targets own) ⊎ Contains changed own

-- each of the listed cells has another place than in `targets`
abbrev pub HaveLeftTargets : List Cell → List (Option Place) → List ℕ → Type 0
HaveLeftTargets cells targets changed = All (λ own. working_at cells own ≢ target_at targets own) changed

-- the same for the team's cells
abbrev pub TeamHasLeftTargets : List ℕ → List (Option Place) → FloorState → List ℕ → Type 0
TeamHasLeftTargets team targets floor changed =
    (s : TeamState) → state_of floor team ≡ Some s
    → All (λ own. place_of_cell_in floor team own ≢ target_at targets own) changed

-- ---- the last pass

-- the reply says that the cell has no best place
abbrev pub SaysNoPlace : Reply → Type 0
SaysNoPlace reply = (own : ℕ) × (reply ≡ Refused (NoPlace own))

-- the cell at this position is legal or unplaced
abbrev pub IsLegalOrUnplaced : FloorState → List ℕ → ℕ → Type 0
IsLegalOrUnplaced floor team own = IsLegalIn floor team own ⊎ (place_of_cell_in floor team own ≡ None)

-- the cell at this position has no place within reach of its place in `targets`
abbrev pub IsWithoutPlace : Option ℤ → List (Option Place) → FloorState → List ℕ → ℕ → Type 0
IsWithoutPlace reach targets floor team own = HasNoPlace reach (target_at targets own) floor team own

-- the place is the best one for the target of the cell at this position
pub record IsBestIn (floor : FloorState) (team : List ℕ) (own : ℕ) (target : Point) (p : SpotPlace) : Type 0 where
  pub number : ℕ
  pub state : TeamState
  pub cell : Cell
  pub named : team_number floor.frame team ≡ Some number
  pub there : state_of floor team ≡ Some state
  pub cell_is : slice_get state.cells own ≡ Some cell
  pub best : IsBest (query_from floor.frame number state.padding (map member_of state.cells) own cell.mac) target p

-- the cell at this position is unplaced, or at the place that was its best one for the target
abbrev pub IsUnplacedOrAtBest : FloorState → List ℕ → ℕ → Point → FloorState → Type 0
IsUnplacedOrAtBest old team own target new = (p : Place) → place_of_cell_in new team own ≡ Some p
    → IsBestIn old team own target (spot_of p)

-- the cell at this position is legal or has no place within reach
abbrev pub IsLegalOrWithoutPlace : Option ℤ → List (Option Place) → FloorState → List ℕ → ℕ → Type 0
IsLegalOrWithoutPlace reach targets floor team own = IsLegalIn floor team own ⊎ IsWithoutPlace reach targets floor team own

-- the cell at this position has no place within reach, or is flagged
abbrev pub HasNoPlaceOrIsFlagged : Option ℤ → List (Option Place) → List Bool → FloorState → List ℕ → ℕ → Type 0
HasNoPlaceOrIsFlagged reach targets flags floor team own =
    IsWithoutPlace reach targets floor team own ⊎ IsFlagged flags own

-- the cells of the list that are not flagged
pub record AreMovable (flags : List Bool) (cells movable : List ℕ) : Type 0 where
  pub among : All (λ own. Contains cells own) movable
  pub free : All (λ own. IsFlagged flags own → ⊥) movable
  pub others : All (λ own. IsFlagged flags own ⊎ Contains movable own) cells

-- these are the unrepaired cells, in loading order: they are illegal, each has no place within reach
-- of its place in `targets` or is flagged, and all others are legal
pub record AreUnrepaired (reach : Option ℤ) (targets : List (Option Place)) (team : List ℕ) (flags : List Bool)
    (floor : FloorState) (left : List ℕ) : Type 0 where
  pub named : AreLegalExcept team floor left
  pub illegal : All (λ own. IsIllegalIn floor team own) left
  pub without : All (λ own. HasNoPlaceOrIsFlagged reach targets flags floor team own) left
  pub rise : AllPairs (λ own later. own < later) left

-- none of these cells is flagged
abbrev pub NoneIsFlagged : List Bool → List ℕ → Type 0
NoneIsFlagged flags cells = All (λ own. IsFlagged flags own → ⊥) cells

-- the team's cell of this name is not the one at this position
abbrev pub IsAnotherCell : FloorState → List ℕ → List ℕ → ℕ → Type 0
IsAnotherCell floor team cell other = (s : TeamState) → state_of floor team ≡ Some s
    → cell_named cell s.cells ≡ Some other → ⊥

-- ---- soft blockages

-- the cell at this position is unplaced or off soft blockages
abbrev pub IsUnplacedOrOffSoft : FloorState → List ℕ → ℕ → Type 0
IsUnplacedOrOffSoft floor team own = (place_of_cell_in floor team own ≡ None) ⊎ IsOffSoft floor team own

-- each cell is at the same place, or is unplaced or off soft blockages
abbrev pub MovesOffSoft : List ℕ → FloorState → FloorState → Type 0
MovesOffSoft team old new = (own : ℕ) → (place_of_cell_in new team own ≡ place_of_cell_in old team own)
    ⊎ IsUnplacedOrOffSoft new team own

-- the cell at this position has its place in `targets`, or is unplaced or off soft blockages
abbrev pub IsAtTargetOrOffSoft : List ℕ → List (Option Place) → FloorState → ℕ → Type 0
IsAtTargetOrOffSoft team targets floor own =
    (place_of_cell_in floor team own ≡ target_at targets own) ⊎ IsUnplacedOrOffSoft floor team own

-- each cell has its place in `targets`, or is unplaced or off soft blockages
abbrev pub AreAtTargetsOrOffSoft : List ℕ → List (Option Place) → FloorState → Type 0
AreAtTargetsOrOffSoft team targets floor = (own : ℕ) → IsAtTargetOrOffSoft team targets floor own

-- the cells that have their places in `targets` keep them, and remain legal
abbrev pub KeepsCellsAtTargets : List ℕ → List (Option Place) → FloorState → FloorState → Type 0
KeepsCellsAtTargets team targets old new =
    (own : ℕ) → place_of_cell_in old team own ≡ target_at targets own
    → (place_of_cell_in new team own ≡ place_of_cell_in old team own) × RemainsLegal team old new own

-- ---- the reach

-- the cell at this position is unplaced, or within reach of its place in `targets`
abbrev pub IsWithin : Option ℤ → List (Option Place) → FloorState → List ℕ → ℕ → Type 0
IsWithin reach targets floor team own = (p : Place) → place_of_cell_in floor team own ≡ Some p
    → IsBeyond reach (way_to (target_at targets own) (spot_of p)) → ⊥

-- the best place of the cell at this position for the target, if it has one, is within reach of its
-- place in `targets`
abbrev pub BestIsWithin : Option ℤ → List (Option Place) → FloorState → List ℕ → ℕ → Point → Type 0
BestIsWithin reach targets floor team own target = (p : SpotPlace) → IsBestIn floor team own target p
    → IsBeyond reach (way_to (target_at targets own) p) → ⊥

-- each cell is unplaced, or within reach of its place in `targets`
abbrev pub AreWithin : Option ℤ → List (Option Place) → List ℕ → FloorState → Type 0
AreWithin reach targets team floor = (own : ℕ) → IsWithin reach targets floor team own

-- each cell remains unplaced, or within reach of its place in `targets`, if all are
abbrev pub KeepsWithin : Option ℤ → List (Option Place) → List ℕ → FloorState → FloorState → Type 0
KeepsWithin reach targets team old new = AreWithin reach targets team old → AreWithin reach targets team new

-- ---- the end of a pass

-- the unrepaired cells are these, each cell is unplaced or within reach of its place in `targets`, and
-- each has that place, or is unplaced or off soft blockages
pub record IsSettled (reach : Option ℤ) (targets : List (Option Place)) (team : List ℕ) (flags : List Bool)
    (floor : FloorState) (left : List ℕ) : Type 0 where
  pub unrepaired : AreUnrepaired reach targets team flags floor left
  pub within : AreWithin reach targets team floor
  pub off_soft : AreAtTargetsOrOffSoft team targets floor

-- ---- the statistics

-- the count is one more if it is so, up to the greatest number, and otherwise the same
abbrev pub CountsIf : Type 0 → ℕ → ℕ → Type 0
CountsIf So old new = (So × (new ≡ min (old + 1) 4294967295)) ⊎ ((So → ⊥) × (new ≡ old))

-- one more cell is counted, given its original and its present place, and whether it was legal
pub record CountsOneCell (wanted_place now : Option Place) (WasLegal : Type 0) (old new : RepairStats) : Type 0 where
  pub cells : CountsIf (WasLegal → ⊥) old.cells new.cells
  pub kept : CountsIf (WasLegal × (now ≡ wanted_place)) old.kept new.kept
  pub displaced_legal : CountsIf (WasLegal × (now ≢ wanted_place)) old.displaced_legal new.displaced_legal
  pub moved : CountsIf (0 < displacement wanted_place now) old.moved new.moved
  pub placed : CountsIf ((wanted_place ≡ None) × IsSome now) old.placed new.placed
  pub turned : CountsIf (AreTurned wanted_place now) old.turned new.turned
  pub short : displacement wanted_place now ≤ 8589934590
  pub total_displacement : new.total_displacement
      ≡ min (old.total_displacement + displacement wanted_place now) 18446744073709551615
  pub max_displacement : new.max_displacement ≡ max old.max_displacement (displacement wanted_place now)

-- the statistics of the first `all` cells, given these lists of original places and of legal cells
abbrev pub AreStatsOfFirst : List (Option Place) → List Bool → List Cell → ℕ → RepairStats → Type 0
AreStatsOfFirst targets marks cells all reported =
    AreStatsOf (target_at targets) (working_at cells) (λ own. slice_get marks own ≡ Some true) all reported
