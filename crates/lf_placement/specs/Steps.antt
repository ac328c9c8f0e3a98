-- The steps of a change: its cells are removed from the strips, moved in the table, and inserted
-- again. No public clause cites this module.
use Rattle.std.specs.Prelude.{◌≡◌, ◌≢◌, ◌⊎◌, ℕ, ◌<◌, List, [], ◌∷◌, map, length, Option, None, option_and_then, slice_get, slice_index, slice_index_or, slice_set, unwrap_or}
use Rattle.std.specs.Option.{option_map}
use Rattle.lf_units.specs.declared.geometry.Rect.{Rect}
use Rattle.lf_floorplan.specs.declared.frame.Frame.{Frame}
use Rattle.lf_floorplan.specs.declared.place.Place.{Place}
use Rattle.lf_rules.specs.Choice.{spot_of}
use Rattle.lf_rules.specs.Team.{box_in}
use Rattle.lf_cells.specs.declared.cell.Cell.{Cell}
use Rattle.lf_cells.specs.declared.cell.CellId.{CellId}
use Rattle.lf_cells.specs.Cells.{Cells, cells_of, id_in, moved}
use Rattle.lf_occupancy.specs.Views.{ArePartOf, FitIn, HasRoomFor, KeepsCapacities, Occupied, boxes_of, cell_box}
use Rattle.lf_occupancy.specs.Strips.{MarksBoxes, HasBoxOrNone, Marked, with_boxes, capacities_in}
use Rattle.lf_occupancy.specs.Floorplans.{working_box_of}
use Rattle.lf_undo.specs.declared.moves.Move.{Move}

-- the box of a cell at a place; None if there is no such cell, or no place
abbrev pub box_moved : Frame → Option Cell → Option Place → Option Rect
box_moved f cell place = option_and_then (λ c. option_map (λ p. box_in f c.mac (spot_of p)) place) cell

-- the boxes of the team's cells at their working places
abbrev pub working_boxes : Frame → Cells → ℕ → List (Option Rect)
working_boxes f cells team = map (working_box_of f) (cells_of cells team)

-- the cells after these moves are undone, the last one first
abbrev pub moves_reverted : List Move → List Cell → List Cell
moves_reverted [] cells = cells
moves_reverted (m ∷ ms) cells = moved (moves_reverted ms cells) m.own m.place

-- the positions that moves name
abbrev pub moved_positions : List Move → List ℕ
moved_positions moves = map (λ m. m.own) moves

-- no move among the first `count` names this position
abbrev pub DoNotMove : List ℕ → ℕ → ℕ → Type 0
DoNotMove named count own = (k : ℕ) → k < count → slice_index named k ≢ own

-- a named cell has no box, and any other has its old box
abbrev pub IsRemovedOrUnchanged : List ℕ → ℕ → List (Option Rect) → List (Option Rect) → ℕ → Type 0
IsRemovedOrUnchanged named count old new own =
    ((DoNotMove named count own → ⊥) × (cell_box new own ≡ None))
    ⊎ (DoNotMove named count own × (cell_box new own ≡ cell_box old own))

-- only boxes of this team may differ, and their number is unchanged
pub record KeepsStrips (team : ℕ) (old new : Occupied) : Type 0 where
  pub many : length (boxes_of new team) ≡ length (boxes_of old team)
  pub boxes : (other : ℕ) → other ≢ team → boxes_of new other ≡ boxes_of old other
  pub index : new.index ≡ old.index
  pub site : new.site ≡ old.site
  pub rooms : new.rooms ≡ old.rooms

-- the strips hold some boxes for which `Fact` is true
pub record MarksSome (Fact : Occupied → Type 0) (m : Marked) : Type 0 where
  pub boxes : List (List (Option Rect))
  pub holds : MarksBoxes m boxes
  pub is : Fact (with_boxes m boxes)

-- the boxes of all teams, with this one for the team's cell at this position
abbrev pub box_set : List (List (Option Rect)) → ℕ → ℕ → Option Rect → List (List (Option Rect))
box_set boxes team own box = slice_set boxes team (slice_set (slice_index_or boxes team []) own box)

-- the index, the site and the capacities of strips are unchanged
pub record KeepsStripRooms (old new : Marked) : Type 0 where
  pub index : new.index ≡ old.index
  pub site : new.site ≡ old.site
  pub rooms : capacities_in new.mark_lists ≡ capacities_in old.mark_lists

-- the strips hold the same boxes, and no strip has less room
pub record KeepsMarks (old new : Marked) : Type 0 where
  pub holds : (boxes : List (List (Option Rect))) → MarksBoxes old boxes → MarksBoxes new boxes
  pub index : new.index ≡ old.index
  pub site : new.site ≡ old.site
  pub rooms : KeepsCapacities (capacities_in old.mark_lists) (capacities_in new.mark_lists)

-- the boxes of the team's cells are part of the given ones, in a list of the same length
pub record IsPartly (team : ℕ) (boxes : List (Option Rect)) (o : Occupied) : Type 0 where
  pub many : length (boxes_of o team) ≡ length boxes
  pub part : ArePartOf (boxes_of o team) boxes

-- the cells of all other teams are marked at their working places
abbrev pub OthersAreInserted : Frame → Cells → ℕ → Occupied → Type 0
OthersAreInserted f cells team o = (other : ℕ) → other ≢ team → boxes_of o other ≡ working_boxes f cells other

-- the first `count` of the named cells are removed
pub record RemovesFirst (team : ℕ) (named : List ℕ) (count : ℕ) (old new : Occupied) : Type 0 where
  pub each : (own : ℕ) → IsRemovedOrUnchanged named count (boxes_of old team) (boxes_of new team) own
  pub rest : KeepsStrips team old new

-- the team's boxes are part of the given ones, which fit
pub record BoxesMayBeInserted (team : ℕ) (boxes : List (Option Rect)) (o : Occupied) : Type 0 where
  pub many : length (boxes_of o team) ≡ length boxes
  pub part : ArePartOf (boxes_of o team) boxes
  pub fits : FitIn o team boxes

-- the team's boxes are part of the given ones, which fit, and the cell at this position has no box
pub record CellMayBeInserted (team : ℕ) (boxes : List (Option Rect)) (own : ℕ) (o : Occupied) : Type 0 where
  pub may : BoxesMayBeInserted team boxes o
  pub out : cell_box (boxes_of o team) own ≡ None

-- a cell with this id exists and has no box or this box; if it has no box, there is room for this
-- one
pub record BoxMayBeInserted (id : CellId) (rect : Rect) (o : Occupied) : Type 0 where
  pub at : HasBoxOrNone o.boxes id rect
  pub room : HasRoomFor record {
    index = o.index;
    site = o.site;
    boxes = box_set o.boxes id.team id.own None;
    rooms = o.rooms;
  } id.team rect 1

-- each cell of the team that is not named has its given box
abbrev pub AreInsertedExcept : ℕ → List (Option Rect) → List ℕ → Occupied → Type 0
AreInsertedExcept team boxes named o = (own : ℕ) → DoNotMove named (length named) own
    → cell_box (boxes_of o team) own ≡ cell_box boxes own

-- no named cell has a box
abbrev pub AreRemoved : ℕ → List ℕ → Occupied → Type 0
AreRemoved team named o = (k : ℕ) → k < length named → cell_box (boxes_of o team) (slice_index named k) ≡ None

-- the working places of the team's cells fit, the named cells have no box, and all others have
-- their boxes
pub record MovedMayBeInserted (f : Frame) (cells : Cells) (team : ℕ) (named : List ℕ) (o : Occupied) : Type 0 where
  pub may : BoxesMayBeInserted team (working_boxes f cells team) o
  pub rest : AreInsertedExcept team (working_boxes f cells team) named o
  pub others : OthersAreInserted f cells team o
  pub out : AreRemoved team named o

-- the cell that a move names, and its box at the move's place; no box if there is no such cell
abbrev pub requested_box : Frame → ℕ → List Cell → Move → CellId × Option Rect
requested_box f team cells m =
    (unwrap_or (id_in cells team m.own) record { team = 0; own = 0 }, box_moved f (slice_get cells m.own) m.place)
