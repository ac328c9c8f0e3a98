-- The boxes that the strips hold while cells are removed and inserted.
use Rattle.std.proofs.Common.{◌≡◌, ◌≢◌, ◌⊎◌, inl, inr, ⊎_elim, ◌<◌, ◌≤◌, ℕ, zero, suc, ◌+◌, List, [], ◌∷◌, map, length, set, get_or, Option, Some, None, refl, ap, sym, subst, ◌∙◌, arith}
use Rattle.std.specs.Prelude.{slice_get}
use Rattle.std.proofs.lemmas.Bool.{cases_eq}
use Rattle.std.proofs.lemmas.List.{get_or-set_same, length-map, set-set}
use Rattle.lf_units.specs.declared.geometry.Rect.{Rect}
use Rattle.lf_floorplan.specs.declared.frame.Frame.{Frame}
use Rattle.lf_cells.specs.declared.cell.Cell.{Cell}
use Rattle.lf_cells.specs.declared.cell.CellId.{CellId}
use Rattle.lf_cells.specs.Cells.{Cells, cells_of, id_in, id_of}
use Rattle.lf_segments.specs.Indexes.{IsIndexOf, FrameIndexView}
use Rattle.lf_occupancy.specs.Views.{HasRoomFor, Occupied, boxes_of, cell_box}
use Rattle.lf_occupancy.specs.Floorplans.{IsMarkedBy, IsOccupancyOf, working_box_of, boxes_in}
use Rattle.lf_occupancy.specs.Strips.{CanEnter, CanLeave, MarksBoxes, HasBoxOrNone, HasNoBox, Marked, widened_strips, with_boxes, capacities_in}
use Rattle.lf_occupancy.proofs.Building.{boxes_there, mark_lists_of_same}
use Rattle.lf_occupancy.proofs.Knowing.{known_still, has_no_place}
use Rattle.lf_placement.specs.Placements.{OtherCellsStay}
use Rattle.lf_placement.specs.Steps.{AreRemoved, MovedMayBeInserted, MarksSome, IsRemovedOrUnchanged, IsPartly, KeepsStripRooms, CellMayBeInserted, BoxMayBeInserted, BoxesMayBeInserted, AreInsertedExcept, RemovesFirst, box_set, working_boxes}
use Rattle.lf_placement.proofs.Boxes.{AreInserted, all_are_placed, box_put, has_cell, has_room, keeps, keeps_put, may_without, none_put, nowhere_now, out_next}
use Rattle.lf_placement.proofs.Boxes.{set_none, inserted_next, team_is}

abbrev AllBoxes : Type 0
AllBoxes = List (List (Option Rect))

-- marks of a table's cells are an occupancy of them
pub of_marked : (f : Frame) (cells : Cells) (m : Marked) → IsMarkedBy f cells m → IsOccupancyOf f cells (with_boxes m (boxes_in f cells))
of_marked f cells m is = record { index = is.index; site = is.site; boxes = boxes_there f cells }

pub follows_still : (f : Frame) (old new : Cells) (m n : Marked) → IsOccupancyOf f old (with_boxes m (boxes_in f old)) → KeepsStripRooms m n →
    IsOccupancyOf f new (with_boxes n (boxes_in f new))
follows_still f old new m n is kept = record {
  index = subst (IsIndexOf f) (sym kept.index) is.index;
  site = kept.site ∙ is.site;
  boxes = boxes_there f new;
}

-- ---- rooms

pub rooms_same : (m : Marked) → KeepsStripRooms m m
rooms_same m = record { index = refl; site = refl; rooms = refl }

pub rooms_through : (a b c : Marked) → KeepsStripRooms a b → KeepsStripRooms b c → KeepsStripRooms a c
rooms_through a b c first second = record {
  index = second.index ∙ first.index;
  site = second.site ∙ first.site;
  rooms = second.rooms ∙ first.rooms;
}

-- ---- if nothing changes

row_same : (rows : AllBoxes) (k own : ℕ) (x : Option Rect) → set (get_or rows k []) own x ≡ get_or rows k [] → set rows k (set (get_or rows k []) own x) ≡ rows
row_same [] zero own x same = refl
row_same [] (suc k) own x same = refl
row_same (r ∷ rows) zero own x same = ap (λ (z : List (Option Rect)). z ∷ rows) same
row_same (r ∷ rows) (suc k) own x same = ap (λ (rs : AllBoxes). r ∷ rs) (row_same rows k own x same)

-- there is no such cell
pub none_holds : (f : Frame) (cells : Cells) (team own : ℕ) (x : Option Rect) (m : Marked) (boxes : AllBoxes) → id_in (cells_of cells team) team own ≡ None →
    IsPartly team (working_boxes f cells team) (with_boxes m boxes) → MarksBoxes m boxes → MarksBoxes m (box_set boxes team own x)
none_holds f cells team own x m boxes none part holds =
    subst (MarksBoxes m)
    (sym (row_same boxes team own x
    (sym (none_put team own (cells_of cells team) x (with_boxes m boxes) (part.many ∙ length-map (cells_of cells team) (working_box_of f)) none))))
    holds

module _ (f : Frame) (cells : Cells) (team own : ℕ) (id : CellId) (is : Some id ≡ id_in (cells_of cells team) team own) where
  same : id ≡ id_of team own
  same = team_is team own (cells_of cells team) id is

  here : (box : Option Rect) → box ≡ cell_box (working_boxes f cells id.team) id.own → cell_box (working_boxes f cells team) own ≡ box
  here box at = sym (at ∙ ap (λ (i : CellId). cell_box (working_boxes f cells i.team) i.own) same)

  -- it has no box
  pub bare_holds : (m : Marked) (boxes : AllBoxes) → None ≡ cell_box (working_boxes f cells id.team) id.own →
      IsPartly team (working_boxes f cells team) (with_boxes m boxes) → MarksBoxes m boxes → MarksBoxes m (box_set boxes team own None)
  bare_holds m boxes at part holds =
      subst (MarksBoxes m) (sym (row_same boxes team own None (set_none (get_or boxes team []) own (none (part.part own))))) holds
    where
      none : (cell_box (get_or boxes team []) own ≡ None) ⊎ (cell_box (get_or boxes team []) own ≡ cell_box (working_boxes f cells team) own) →
          cell_box (get_or boxes team []) own ≡ None
      none (inl out) = out
      none (inr is_in_place) = is_in_place ∙ here None at

  pub still_bare : (m : Marked) (boxes : AllBoxes) → None ≡ cell_box (working_boxes f cells id.team) id.own →
      IsPartly team (working_boxes f cells team) (with_boxes m boxes) → MarksBoxes m boxes →
      MarksBoxes m (box_set boxes team own (cell_box (working_boxes f cells team) own))
  still_bare m boxes at part holds =
      subst (λ (x : Option Rect). MarksBoxes m (box_set boxes team own x)) (sym (here None at)) (bare_holds m boxes at part holds)

  -- it has this box
  pub is_at : (rect : Rect) (o : Occupied) → Some rect ≡ cell_box (working_boxes f cells id.team) id.own → IsPartly team (working_boxes f cells team) o →
      HasBoxOrNone o.boxes id rect
  is_at rect o at part =
      subst (λ (i : CellId). HasBoxOrNone o.boxes i rect) (sym same) record {
        known = has_cell (id_of team own) (working_boxes f cells team) o rect part.many (here (Some rect) at);
        at = two (part.part own);
      }
    where
      two : (cell_box (boxes_of o team) own ≡ None) ⊎ (cell_box (boxes_of o team) own ≡ cell_box (working_boxes f cells team) own) →
          (cell_box (boxes_of o team) own ≡ None) ⊎ (cell_box (boxes_of o team) own ≡ Some rect)
      two (inl out) = inl out
      two (inr is_in_place) = inr (is_in_place ∙ here (Some rect) at)

  pub may_have : (rect : Rect) (o : Occupied) → Some rect ≡ cell_box (working_boxes f cells id.team) id.own → BoxesMayBeInserted team (working_boxes f cells team) o →
      BoxMayBeInserted id rect o
  may_have rect o at may = record { at = is_at rect o at record { many = may.many; part = may.part }; room = room }
    where
      out : Occupied
      out = record { index = o.index; site = o.site; boxes = box_set o.boxes id.team id.own None; rooms = o.rooms }

      own_may : BoxesMayBeInserted id.team (working_boxes f cells id.team) o
      own_may = subst (λ (i : CellId). BoxesMayBeInserted i.team (working_boxes f cells i.team) o) (sym same) may

      room : HasRoomFor out id.team rect 1
      room = has_room id (working_boxes f cells id.team) out rect
          (may_without id.team id.own (working_boxes f cells id.team) o out (box_put id None o out refl) (keeps_put id None o out refl refl refl refl) own_may)
          (nowhere_now id o out refl) (sym at)

  -- the cell has this box at its working place, and is not marked yet
  pub is_nowhere : (rect : Rect) (o : Occupied) → Some rect ≡ cell_box (working_boxes f cells id.team) id.own →
      IsPartly team (working_boxes f cells team) o → cell_box (boxes_of o team) own ≡ None → HasNoBox o.boxes id
  is_nowhere rect o at part out = record {
    known = (is_at rect o at part).known;
    at = subst (λ (i : CellId). cell_box (boxes_of o i.team) i.own ≡ None) (sym same) out;
  }

  pub may_enter : (rect : Rect) (m : Marked) → Some rect ≡ cell_box (working_boxes f cells id.team) id.own →
      MarksSome (CellMayBeInserted team (working_boxes f cells team) own) m → CanEnter m id rect
  may_enter rect m at can = record {
    boxes = can.boxes;
    holds = can.holds;
    nowhere = nowhere;
    room = has_room id (working_boxes f cells id.team) o rect own_may nowhere.at (sym at);
  }
    where
      o : Occupied
      o = with_boxes m can.boxes

      nowhere : HasNoBox o.boxes id
      nowhere = is_nowhere rect o at record { many = can.is.may.many; part = can.is.may.part } can.is.out

      own_may : BoxesMayBeInserted id.team (working_boxes f cells id.team) o
      own_may = subst (λ (i : CellId). BoxesMayBeInserted i.team (working_boxes f cells i.team) o) (sym same) can.is.may

  -- what holds for the cell's box holds for the box at its position
  pub at_place : (m : Marked) (boxes : AllBoxes) (x : Option Rect) → MarksBoxes m (box_set boxes id.team id.own x) → MarksBoxes m (box_set boxes team own x)
  at_place m boxes x holds = subst (λ (i : CellId). MarksBoxes m (box_set boxes i.team i.own x)) same holds

  pub at_work : (rect : Rect) (m : Marked) (boxes : AllBoxes) → Some rect ≡ cell_box (working_boxes f cells id.team) id.own →
      MarksBoxes m (box_set boxes id.team id.own (Some rect)) → MarksBoxes m (box_set boxes team own (cell_box (working_boxes f cells team) own))
  at_work rect m boxes at holds =
      subst (λ (x : Option Rect). MarksBoxes m (box_set boxes team own x)) (sym (here (Some rect) at)) (at_place m boxes (Some rect) holds)

-- ---- a cell is removed and inserted

pub can_leave : (m : Marked) (id : CellId) (rect : Rect) → MarksSome (BoxMayBeInserted id rect) m → CanLeave m id rect
can_leave m id rect may = record { boxes = may.boxes; holds = may.holds; is = may.is.at }

room_as : (a b : Occupied) (team : ℕ) (rect : Rect) (more : ℕ) → b.index ≡ a.index → b.site ≡ a.site → b.rooms ≡ a.rooms → b.boxes ≡ a.boxes →
    HasRoomFor a team rect more → HasRoomFor b team rect more
room_as a b team rect more index site rooms boxes room = λ n g there of_team shares.
    rw (rooms, site, boxes) (room n g (subst (λ (looked : FrameIndexView). slice_get looked.strips n ≡ Some g) index there) of_team (rw (sym site) shares))

pub out_nowhere : (boxes : AllBoxes) (id : CellId) (rect : Rect) → HasBoxOrNone boxes id rect → HasNoBox (box_set boxes id.team id.own None) id
out_nowhere boxes id rect at = record { known = known_still boxes id id None at.known at.known; at = has_no_place boxes id at.known }

pub can_enter : (old mid : Marked) (id : CellId) (rect : Rect) → KeepsStripRooms old mid → (may : MarksSome (BoxMayBeInserted id rect) old) →
    MarksBoxes mid (box_set may.boxes id.team id.own None) → CanEnter mid id rect
can_enter old mid id rect kept may holds = record {
  boxes = box_set may.boxes id.team id.own None;
  holds = holds;
  nowhere = out_nowhere may.boxes id rect may.is.at;
  room = room_as record { index = old.index; site = old.site; boxes = box_set may.boxes id.team id.own None; rooms = capacities_in old.mark_lists }
      (with_boxes mid (box_set may.boxes id.team id.own None)) id.team rect 1 kept.index kept.site kept.rooms refl may.is.room;
}

-- boxes that are changed twice are those changed by the second change
pub set_twice : (boxes : AllBoxes) (id : CellId) (a b : Option Rect) → id.team < length boxes →
    box_set (box_set boxes id.team id.own a) id.team id.own b ≡ box_set boxes id.team id.own b
set_twice boxes id a b has =
    let cells : List (Option Rect) = get_or boxes id.team [] in
    ap (λ (cs : List (Option Rect)). set (set boxes id.team (set cells id.own a)) id.team (set cs id.own b))
    (get_or-set_same boxes id.team (set cells id.own a) [] has)
    ∙ set-set boxes id.team (set cells id.own a) (set (set cells id.own a) id.own b)
    ∙ ap (λ (cs : List (Option Rect)). set boxes id.team cs) (set-set cells id.own a b)

-- ---- one after the other

-- boxes without the removed ones are part of all
pub partly_out : (f : Frame) (cells : Cells) (team : ℕ) (named : List ℕ) (n : ℕ) (old : Marked) (o : Occupied) →
    RemovesFirst team named n (with_boxes old (boxes_in f cells)) o → IsPartly team (working_boxes f cells team) o
partly_out f cells team named n old o out = record {
  many = out.rest.many ∙ ap (λ (bs : List (Option Rect)). length bs) (boxes_there f cells team);
  part = λ own. two own (out.each own);
}
  where
    two : (own : ℕ) → IsRemovedOrUnchanged named n (get_or (boxes_in f cells) team []) (boxes_of o team) own →
        (cell_box (boxes_of o team) own ≡ None) ⊎ (cell_box (boxes_of o team) own ≡ cell_box (working_boxes f cells team) own)
    two own (inl out_now) = inl out_now.1
    two own (inr still) = inr (still.1 ∙ ap (λ (bs : List (Option Rect)). cell_box bs own) (boxes_there f cells team))

pub none_out : (team : ℕ) (named : List ℕ) (m : Marked) (boxes : AllBoxes) → MarksBoxes m boxes → MarksSome (RemovesFirst team named 0 (with_boxes m boxes)) m
none_out team named m boxes holds = record {
  boxes = boxes;
  holds = holds;
  is = record { each = λ own. inr (λ k less. absurd (omega (arith, less)), refl); rest = keeps team (with_boxes m boxes) };
}

kept_strips : (team own : ℕ) (x : Option Rect) (mid new : Marked) (boxes : AllBoxes) → KeepsStripRooms mid new →
    (boxes_of (with_boxes new (box_set boxes team own x)) team ≡ set (get_or boxes team []) own x)
kept_strips team own x mid new boxes kept =
    box_put record { team = team; own = own } x (with_boxes mid boxes) (with_boxes new (box_set boxes team own x)) refl

pub one_out : (team : ℕ) (named : List ℕ) (n own : ℕ) (old : Occupied) (mid new : Marked) → own ≡ get_or named n 0 → KeepsStripRooms mid new →
    (was : MarksSome (RemovesFirst team named n old) mid) → MarksBoxes new (box_set was.boxes team own None) → MarksSome (RemovesFirst team named (n + 1) old) new
one_out team named n own old mid new is kept was holds =
    let id : CellId = record { team = team; own = own } in
    let a = with_boxes mid was.boxes in
    let b = with_boxes new (box_set was.boxes team own None) in
    record {
      boxes = box_set was.boxes team own None;
      holds = holds;
      is = out_next team named n own old a b is (kept_strips team own None mid new was.boxes kept)
          (keeps_put id None a b refl kept.index kept.site kept.rooms) was.is;
    }

none_inserted : (f : Frame) (cells : Cells) (team : ℕ) (named : List ℕ) (o : Occupied) → MovedMayBeInserted f cells team named o → AreInserted f cells team named 0 o
none_inserted f cells team named o can = record {
  may = can.may;
  rest = λ own never. can.rest own (λ k less. never k (omega arith) less);
  others = can.others;
}

pub none_are_placed : (f : Frame) (cells : Cells) (team : ℕ) (named : List ℕ) (m : Marked) → MarksSome (MovedMayBeInserted f cells team named) m →
    MarksSome (AreInserted f cells team named 0) m
none_are_placed f cells team named m can = record {
  boxes = can.boxes;
  holds = can.holds;
  is = none_inserted f cells team named (with_boxes m can.boxes) can.is;
}

pub one_is_placed : (f : Frame) (cells : Cells) (team : ℕ) (named : List ℕ) (n own : ℕ) (mid new : Marked) → own ≡ get_or named n 0 → KeepsStripRooms mid new →
    (was : MarksSome (AreInserted f cells team named n) mid) → MarksBoxes new (box_set was.boxes team own (cell_box (working_boxes f cells team) own)) →
    MarksSome (AreInserted f cells team named (n + 1)) new
one_is_placed f cells team named n own mid new is kept was holds =
    let id : CellId = record { team = team; own = own } in
    let x : Option Rect = cell_box (working_boxes f cells team) own in
    let a = with_boxes mid was.boxes in
    let b = with_boxes new (box_set was.boxes team own x) in
    record {
      boxes = box_set was.boxes team own x;
      holds = holds;
      is = inserted_next f cells team named n own a b is (kept_strips team own x mid new was.boxes kept)
          (keeps_put id x a b refl kept.index kept.site kept.rooms) was.is;
    }

pub may_of : (f : Frame) (cells : Cells) (team : ℕ) (named : List ℕ) (n : ℕ) (m : Marked) → MarksSome (AreInserted f cells team named n) m →
    MarksSome (BoxesMayBeInserted team (working_boxes f cells team)) m
may_of f cells team named n m was = record { boxes = was.boxes; holds = was.holds; is = was.is.may }

pub all_hold : (f : Frame) (cells : Cells) (team : ℕ) (named : List ℕ) (n : ℕ) (m : Marked) → length named ≤ n → MarksSome (AreInserted f cells team named n) m →
    MarksBoxes m (boxes_in f cells)
all_hold f cells team named n m past was = mark_lists_of_same (widened_strips m.site m.index.strips) was.boxes (boxes_in f cells) m.mark_lists same was.holds
  where
    same : (other : ℕ) → get_or was.boxes other [] ≡ get_or (boxes_in f cells) other []
    same other = ⊎_elim
        (λ (is : other ≡ team). rw is (all_are_placed f cells team named n (with_boxes m was.boxes) past was.is ∙ sym (boxes_there f cells team)))
        (λ (differ : other ≢ team). was.is.others other differ ∙ sym (boxes_there f cells other)) (cases_eq other team)

-- the one cell that is named is inserted
pub one_enters : (f : Frame) (cells : Cells) (team : ℕ) (named : List ℕ) (own : ℕ) (old new : Marked) → length named ≡ 1 → own ≡ get_or named 0 0 →
    KeepsStripRooms old new → (can : MarksSome (MovedMayBeInserted f cells team named) old) →
    MarksBoxes new (box_set can.boxes team own (cell_box (working_boxes f cells team) own)) → MarksBoxes new (boxes_in f cells)
one_enters f cells team named own old new one is kept can holds =
    let begun : MarksSome (AreInserted f cells team named 0) old =
    record { boxes = can.boxes; holds = can.holds; is = none_inserted f cells team named (with_boxes old can.boxes) can.is } in
    all_hold f cells team named 1 new (omega (arith, one)) (one_is_placed f cells team named 0 own old new is kept begun holds)

-- the cells that are removed can be inserted at their new places
pub can_be_placed : (f : Frame) (old new : Cells) (team : ℕ) (named named_then : List ℕ) (count : ℕ) (before after : Marked) → OtherCellsStay team old new →
    (out : MarksSome (RemovesFirst team named count (with_boxes before (boxes_in f old))) after) →
    BoxesMayBeInserted team (working_boxes f new team) (with_boxes after out.boxes) → AreInsertedExcept team (working_boxes f new team) named_then (with_boxes after out.boxes) →
    AreRemoved team named_then (with_boxes after out.boxes) → MarksSome (MovedMayBeInserted f new team named_then) after
can_be_placed f old new team named named_then count before after stay out may rest gone = record {
  boxes = out.boxes;
  holds = out.holds;
  is = record {
    may = may;
    rest = rest;
    others = λ other differ.
        out.is.rest.boxes other differ ∙ boxes_there f old other ∙ ap (λ (cs : List Cell). map (working_box_of f) cs) (sym (stay.cells other differ));
    out = gone;
  };
}
