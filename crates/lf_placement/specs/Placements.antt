-- The placement of all teams' cells on a frame, and how moves change it.
use Rattle.std.specs.Prelude.{◌≡◌, ◌≢◌, ◌≤◌, ℕ, All, List, [], ◌∷◌, map, length, MatchOption, Option, None, Some}
use Rattle.std.specs.Option.{option_map}
use Rattle.lf_units.specs.declared.geometry.Rect.{Rect}
use Rattle.lf_floorplan.specs.declared.frame.Frame.{Frame}
use Rattle.lf_floorplan.specs.declared.place.Place.{Place}
use Rattle.lf_floorplan.specs.Boxes.{macro_of}
use Rattle.lf_units.specs.declared.placed.Placed.{Placed}
use Rattle.lf_rules.specs.declared.rule.Broken.{Broken}
use Rattle.lf_rules.specs.declared.rule.Rule.{Rule}
use Rattle.lf_rules.specs.Choice.{spot_of}
use Rattle.lf_rules.specs.Legality.{IsFrameRuleVerdict, Candidate, candidate_of}
use Rattle.lf_rules.specs.Legalizer.{IsVerdict}
use Rattle.lf_rules.specs.Team.{box_in, boxes_beside}
use Rattle.lf_cells.specs.declared.cell.Cell.{Cell}
use Rattle.lf_cells.specs.declared.cell.CellId.{CellId}
use Rattle.lf_cells.specs.Cells.{Cells, cell_at, cells_of, moved, working_at}
use Rattle.lf_occupancy.specs.Views.{Bounds, FitIn, KeepsCapacities, Occupied}
use Rattle.lf_occupancy.specs.Floorplans.{IsOccupancyOf, boxes_in}
use Rattle.lf_occupancy.specs.Strips.{MarksBoxes, Marked, with_boxes}
use Rattle.lf_undo.specs.declared.moves.Move.{Move}
use Rattle.lf_undo.specs.Entries.{Places, moves_taken_back}
use Rattle.lf_legalize.specs.Members.{IsSizedCell, member_of}

-- the frame, the cells of all teams, and the strips of the frame with their boxes
pub record Placing : Type 0 where
  pub frame : Frame
  pub cells : Cells
  pub held : Occupied

-- the frame, the cells, and the strips with the cells' boxes at their working places
abbrev pub placing_of : Frame → Cells → Marked → Placing
placing_of f cells m = record { frame = f; cells = cells; held = with_boxes m (boxes_in f cells) }

-- ---- places of a team's cells

-- the working places of cells
abbrev pub working_places_of : List Cell → Places
working_places_of cells = map (λ c. c.working) cells

-- their committed places
abbrev pub committed_of : List Cell → Places
committed_of cells = map (λ c. c.committed) cells

-- the boxes of the cells at the given places
abbrev pub boxes_at : Frame → List Cell → Places → List (Option Rect)
boxes_at f [] places = []
boxes_at f (c ∷ cs) [] = None ∷ boxes_at f cs []
boxes_at f (c ∷ cs) (place ∷ places) = option_map (λ p. box_in f c.mac (spot_of p)) place ∷ boxes_at f cs places

-- the team's cells fit at these places: each strip of the team has room for the boxes that share a
-- point with it
abbrev pub Fits : Placing → ℕ → Places → Type 0
Fits p team places = FitIn p.held team (boxes_at p.frame (cells_of p.cells team) places)

-- the counts bound the boxes of the team's cells at these places
abbrev pub BoundsAt : Placing → ℕ → Places → List ℕ → Type 0
BoundsAt p team places tally = Bounds p.held team (boxes_at p.frame (cells_of p.cells team) places) tally

-- ---- moves

-- the cells after these moves, in their order
abbrev pub moves_applied : List Move → List Cell → List Cell
moves_applied [] cells = cells
moves_applied (m ∷ ms) cells = moves_applied ms (moved cells m.own m.place)

-- a cell without its working place
abbrev pub without_place : Cell → Cell
without_place c = record c { working = None }

-- the cells differ only in their working places
abbrev pub SameButPlaces : List Cell → List Cell → Type 0
SameButPlaces old new = map without_place new ≡ map without_place old

-- the moves have led from the cells `before` to the cells `now`: undone they give the earlier
-- places, and only places differ
pub record HaveMoved (before : List Cell) (moves : List Move) (now : List Cell) : Type 0 where
  pub places : moves_taken_back moves (working_places_of now) ≡ working_places_of before
  pub same : SameButPlaces before now

-- ---- what is unchanged

-- only the cells of the team of that number may differ
pub record OtherCellsStay (number : ℕ) (old new : Cells) : Type 0 where
  pub cells : (other : ℕ) → other ≢ number → cells_of new other ≡ cells_of old other
  pub components : new.components ≡ old.components

-- the frame, the components and the strips with their capacities are unchanged
pub record KeepsRest (old new : Placing) : Type 0 where
  pub frame : new.frame ≡ old.frame
  pub components : new.cells.components ≡ old.cells.components
  pub index : new.held.index ≡ old.held.index
  pub site : new.held.site ≡ old.held.site
  pub rooms : new.held.rooms ≡ old.held.rooms

-- only the capacities may differ, and no strip has less
pub record SameButRooms (old new : Placing) : Type 0 where
  pub frame : new.frame ≡ old.frame
  pub cells : new.cells ≡ old.cells
  pub index : new.held.index ≡ old.held.index
  pub site : new.held.site ≡ old.held.site
  pub boxes : new.held.boxes ≡ old.held.boxes
  pub rooms : KeepsCapacities old.held.rooms new.held.rooms

-- ---- what a placement guarantees

-- the macros of all cells are the frame's, of whole size
abbrev pub AreSized : Frame → Cells → Type 0
AreSized f cells = (team : ℕ) → All (IsSizedCell f) (cells_of cells team)

-- the macros of all cells are the frame's, of whole size, no team has more than 4,000,000 cells,
-- the strips hold the cells at their working places, and each team's committed places fit
pub record IsPlacing (p : Placing) : Type 0 where
  pub sized : AreSized p.frame p.cells
  pub few : (team : ℕ) → length (cells_of p.cells team) ≤ 4000000
  pub follows : IsOccupancyOf p.frame p.cells p.held
  pub committed : (team : ℕ) → Fits p team (committed_of (cells_of p.cells team))

-- the strips hold the cells at their working places, and the guarantees of a placement hold
pub record MatchesPlaces (f : Frame) (cells : Cells) (m : Marked) : Type 0 where
  pub holds : MarksBoxes m (boxes_in f cells)
  pub placing : IsPlacing (placing_of f cells m)

-- ---- a cell at a place

-- the candidate of a cell at a place, with the other placed cells of its team, which has this
-- padding
abbrev pub candidate_is_at : Placing → ℕ → CellId → Place → Cell → Candidate
candidate_is_at p padding id place c =
    candidate_of p.frame id.team padding (macro_of p.frame c.mac) place
    (boxes_beside p.frame (map member_of (cells_of p.cells id.team)) id.own)

-- the first rule that the cell breaks there; None also if there is no such cell
abbrev pub IsBrokenAt : Placing → ℕ → CellId → Place → Option Broken → Type 0
IsBrokenAt p padding id place broken =
    MatchOption (cell_at p.cells id) (broken ≡ None) (λ c. IsVerdict (candidate_is_at p padding id place c) broken)

-- the first rule except overlap that the cell breaks there, whatever else is placed and whatever
-- the padding is; None also if there is no such cell
abbrev pub IsBrokenFrameRule : Placing → CellId → Place → Option Rule → Type 0
IsBrokenFrameRule p id place broken =
    MatchOption (cell_at p.cells id) (broken ≡ None)
    (λ c. (padding : ℕ) (others : List Placed)
    → IsFrameRuleVerdict (candidate_of p.frame id.team padding (macro_of p.frame c.mac) place others) broken)

-- the cell overlaps no other cell of its team, which has this padding: if it breaks no rule except
-- overlap at its working place, it breaks no rule there
abbrev pub OverlapsNoCell : Placing → ℕ → CellId → Type 0
OverlapsNoCell p padding id =
    (place : Place) → working_at (cells_of p.cells id.team) id.own ≡ Some place → IsBrokenFrameRule p id place None
    → IsBrokenAt p padding id place None
