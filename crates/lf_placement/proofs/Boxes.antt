-- Cells that are removed from the strips and inserted again, by their boxes.
use Rattle.std.proofs.Common.{◌≡◌, ◌≢◌, ◌⊎◌, inl, inr, ⊎_elim, ◌<◌, ◌≤◌, ℕ, zero, suc, ◌+◌, List, [], ◌∷◌, map, length, set, get_or, Option, Some, None, refl, ap, sym, subst, ◌∙◌, arith, below_more}
use Rattle.std.specs.Prelude.{slice_get, option_map}
use Rattle.std.proofs.lemmas.Bool.{cases_eq}
use Rattle.std.proofs.lemmas.List.{get_or-set_other, length-set}
use Rattle.lf_units.specs.declared.geometry.Rect.{Rect}
use Rattle.lf_floorplan.specs.declared.frame.Frame.{Frame}
use Rattle.lf_cells.specs.declared.cell.Cell.{Cell}
use Rattle.lf_cells.specs.declared.cell.CellId.{CellId}
use Rattle.lf_cells.specs.Cells.{Cells, id_in, id_of, working_at}
use Rattle.lf_segments.specs.Indexes.{FrameIndexView}
use Rattle.lf_occupancy.specs.Views.{FitIn, HasRoomFor, Occupied, box_in_team, boxes_of, boxes_with, cell_box, widened, reach}
use Rattle.lf_occupancy.specs.Strips.{HasCell}
use Rattle.lf_occupancy.specs.Floorplans.{working_box_of}
use Rattle.lf_occupancy.proofs.Counting.{part_leaves_room}
use Rattle.lf_undo.specs.declared.moves.Move.{Move}
use Rattle.lf_placement.specs.Steps.{IsRemovedOrUnchanged, KeepsStrips, BoxesMayBeInserted, OthersAreInserted, RemovesFirst, box_moved, moved_positions, working_boxes}
use Rattle.lf_placement.proofs.Moves.{id_there}

abbrev Boxes : Type 0
Boxes = List (Option Rect)

-- ---- one box

set_past : (bs : Boxes) (own : ℕ) (x : Option Rect) → length bs ≤ own → set bs own x ≡ bs
set_past [] own x past = refl
set_past (b ∷ bs) zero x past = absurd (omega (arith, past))
set_past (b ∷ bs) (suc own) x past = ap (λ (r : Boxes). b ∷ r) (set_past bs own x (omega (arith, past)))

none_here : (bs : Boxes) (own : ℕ) → cell_box (set bs own None) own ≡ None
none_here [] own = refl
none_here (b ∷ bs) zero = refl
none_here (b ∷ bs) (suc own) = none_here bs own

pub set_none : (bs : Boxes) (own : ℕ) → cell_box bs own ≡ None → set bs own None ≡ bs
set_none [] own none = refl
set_none (b ∷ bs) zero none = ap (λ (x : Option Rect). x ∷ bs) (sym none)
set_none (b ∷ bs) (suc own) none = ap (λ (r : Boxes). b ∷ r) (set_none bs own none)

there_still : (bs : Boxes) (own k : ℕ) (x : Option Rect) → k ≢ own → cell_box (set bs own x) k ≡ cell_box bs k
there_still [] own k x differ = refl
there_still (b ∷ bs) zero zero x differ = absurd (differ refl)
there_still (b ∷ bs) zero (suc k) x differ = refl
there_still (b ∷ bs) (suc own) zero x differ = refl
there_still (b ∷ bs) (suc own) (suc k) x differ = there_still bs own k x (λ same. differ (ap suc same))

-- the box of one list, written into another of the same length
box_here : (bs whole : Boxes) (own : ℕ) → length bs ≡ length whole → cell_box (set bs own (cell_box whole own)) own ≡ cell_box whole own
box_here [] [] own many = refl
box_here [] (w ∷ whole) own many = absurd (omega (arith, many))
box_here (b ∷ bs) [] own many = absurd (omega (arith, many))
box_here (b ∷ bs) (w ∷ whole) zero many = refl
box_here (b ∷ bs) (w ∷ whole) (suc own) many = box_here bs whole own (omega (arith, many))

boxes_alike : (bs whole : Boxes) → length bs ≡ length whole → ((own : ℕ) → cell_box bs own ≡ cell_box whole own) → bs ≡ whole
boxes_alike [] [] many alike = refl
boxes_alike [] (w ∷ whole) many alike = absurd (omega (arith, many))
boxes_alike (b ∷ bs) [] many alike = absurd (omega (arith, many))
boxes_alike (b ∷ bs) (w ∷ whole) many alike =
    ap (λ (x : Option Rect). x ∷ bs) (alike 0) ∙ ap (λ (r : Boxes). w ∷ r) (boxes_alike bs whole (omega (arith, many)) (λ own. alike (suc own)))

box_within : (bs : Boxes) (own : ℕ) (r : Rect) → cell_box bs own ≡ Some r → own < length bs
box_within [] own r is = absurd cc
box_within (b ∷ bs) zero r is = omega arith
box_within (b ∷ bs) (suc own) r is = let h = box_within bs own r is in omega (arith, h)

-- ---- boxes of cells

box_read : (f : Frame) (cells : List Cell) (own : ℕ) → box_moved f (slice_get cells own) (working_at cells own) ≡ cell_box (map (working_box_of f) cells) own
box_read f [] own = refl
box_read f (c ∷ cs) zero = refl
box_read f (c ∷ cs) (suc own) = box_read f cs own

none_past : (cells : List Cell) (own : ℕ) → slice_get cells own ≡ None → length cells ≤ own
none_past [] own none = omega arith
none_past (c ∷ cs) zero none = absurd cc
none_past (c ∷ cs) (suc own) none = let h = none_past cs own none in omega (arith, h)

no_cell : (cells : List Cell) (team own : ℕ) → id_in cells team own ≡ None → length cells ≤ own
no_cell cells team own none = none_past cells own (go (slice_get cells own) none) where
  go : (o : Option Cell) → option_map (λ (c : Cell). id_of team own) o ≡ None → o ≡ None
  go None e = refl
  go (Some c) e = absurd cc

-- ---- one box of an occupancy

-- a box written to the list of one team is in that list; a team past the end has no list
set_here : (rows : List Boxes) (k own : ℕ) (x : Option Rect) → get_or (set rows k (set (get_or rows k []) own x)) k [] ≡ set (get_or rows k []) own x
set_here [] zero own x = refl
set_here [] (suc k) own x = refl
set_here (r ∷ rows) zero own x = refl
set_here (r ∷ rows) (suc k) own x = set_here rows k own x

pub box_put : (id : CellId) (x : Option Rect) (old new : Occupied) → new.boxes ≡ boxes_with old id x
    → boxes_of new id.team ≡ set (boxes_of old id.team) id.own x
box_put id x old new is = ap (λ (rows : List Boxes). get_or rows id.team []) is ∙ set_here old.boxes id.team id.own x

pub keeps_put : (id : CellId) (x : Option Rect) (old new : Occupied) → new.boxes ≡ boxes_with old id x → new.index ≡ old.index → new.site ≡ old.site → new.rooms ≡ old.rooms
    → KeepsStrips id.team old new
keeps_put id x old new is index site rooms = record {
  many = ap {B = ℕ} (λ (bs : Boxes). length bs) (box_put id x old new is) ∙ length-set (boxes_of old id.team) id.own x;
  boxes = λ other differ.
      ap (λ (rows : List Boxes). get_or rows other []) is
      ∙ get_or-set_other old.boxes id.team other (set (boxes_of old id.team) id.own x) [] differ;
  index = index;
  site = site;
  rooms = rooms;
}

pub keeps : (team : ℕ) (o : Occupied) → KeepsStrips team o o
keeps team o = record { many = refl; boxes = λ other differ. refl; index = refl; site = refl; rooms = refl }

pub keeps_through : (team : ℕ) (a b c : Occupied) → KeepsStrips team a b → KeepsStrips team b c → KeepsStrips team a c
keeps_through team a b c first second = record {
  many = second.many ∙ first.many;
  boxes = λ other differ. second.boxes other differ ∙ first.boxes other differ;
  index = second.index ∙ first.index;
  site = second.site ∙ first.site;
  rooms = second.rooms ∙ first.rooms;
}

-- there is no cell at this position
pub none_put : (team own : ℕ) (cells : List Cell) (x : Option Rect) (o : Occupied) → length (boxes_of o team) ≡ length cells → id_in cells team own ≡ None
    → boxes_of o team ≡ set (boxes_of o team) own x
none_put team own cells x o many none =
    let past = no_cell cells team own none in
    sym (set_past (boxes_of o team) own x (omega (arith, many, past)))

-- ---- cells removed one after the other

pub out_next : (team : ℕ) (named : List ℕ) (n own : ℕ) (a b c : Occupied) → own ≡ get_or named n 0
    → boxes_of c team ≡ set (boxes_of b team) own None → KeepsStrips team b c → RemovesFirst team named n a b → RemovesFirst team named (n + 1) a c
out_next team named n own a b c is put kept out = record { each = each; rest = keeps_through team a b c out.rest kept } where
  same_at : (k : ℕ) → k ≡ own → IsRemovedOrUnchanged named (n + 1) (boxes_of a team) (boxes_of c team) k
  same_at k same = inl (
    λ never. never n (omega arith) (sym is ∙ sym same),
    rw (put, same) (none_here (boxes_of b team) own),
  )

  step : (k : ℕ) → k ≢ own → IsRemovedOrUnchanged named n (boxes_of a team) (boxes_of b team) k → IsRemovedOrUnchanged named (n + 1) (boxes_of a team) (boxes_of c team) k
  step k differ (inl (was, none)) = inl (
    λ never. was (λ i less. never i (omega (arith, less))),
    rw put (there_still (boxes_of b team) own k None differ ∙ none),
  )
  step k differ (inr (never, as_before)) = inr (
    below_more (λ i. get_or named i 0 ≢ k) n never (λ same. differ (sym same ∙ sym is)),
    rw put (there_still (boxes_of b team) own k None differ ∙ as_before),
  )

  each : (k : ℕ) → IsRemovedOrUnchanged named (n + 1) (boxes_of a team) (boxes_of c team) k
  each k = ⊎_elim (λ (same : k ≡ own). same_at k same) (λ (differ : k ≢ own). step k differ (out.each k)) (cases_eq k own)

-- ---- cells inserted one after the other

pub fits_still : (team : ℕ) (boxes : Boxes) (a b : Occupied) → a.index ≡ b.index → a.site ≡ b.site → a.rooms ≡ b.rooms → FitIn b team boxes
    → FitIn a team boxes
fits_still team boxes a b index site rooms fits =
    λ n g there of_team. rw (rooms, site) (fits n g (subst (λ (looked : FrameIndexView). slice_get looked.strips n ≡ Some g) index there) of_team)

-- a cell is removed
pub may_without : (team own : ℕ) (boxes : Boxes) (a b : Occupied) → boxes_of b team ≡ set (boxes_of a team) own None → KeepsStrips team a b
    → BoxesMayBeInserted team boxes a → BoxesMayBeInserted team boxes b
may_without team own boxes a b put kept may = record {
  many = kept.many ∙ may.many;
  part = λ k. ⊎_elim (λ (same : k ≡ own). inl (rw (put, same) (none_here (boxes_of a team) own)))
      (λ (differ : k ≢ own). rw (put, there_still (boxes_of a team) own k None differ) (may.part k)) (cases_eq k own);
  fits = fits_still team boxes b a kept.index kept.site kept.rooms may.fits;
}

-- a cell is inserted
may_with : (team own : ℕ) (boxes : Boxes) (a b : Occupied) → boxes_of b team ≡ set (boxes_of a team) own (cell_box boxes own) → KeepsStrips team a b
    → BoxesMayBeInserted team boxes a → BoxesMayBeInserted team boxes b
may_with team own boxes a b put kept may = record {
  many = kept.many ∙ may.many;
  part = λ k. ⊎_elim (λ (same : k ≡ own). inr (rw (put, same) (box_here (boxes_of a team) boxes own may.many)))
      (λ (differ : k ≢ own). rw (put, there_still (boxes_of a team) own k (cell_box boxes own) differ) (may.part k)) (cases_eq k own);
  fits = fits_still team boxes b a kept.index kept.site kept.rooms may.fits;
}

-- the cell with this box is one of the cells of the occupancy
pub has_cell : (id : CellId) (boxes : Boxes) (o : Occupied) (r : Rect) → length (boxes_of o id.team) ≡ length boxes → cell_box boxes id.own ≡ Some r → HasCell o.boxes id
has_cell id boxes o r many is =
    let own = box_within boxes id.own r is in
    let within : id.own < length (boxes_of o id.team) = omega (arith, many, own) in
    record { team = row_there o.boxes id.team within; own = within }
  where
    row_there : (rows : List Boxes) (k : ℕ) → id.own < length (get_or rows k []) → k < length rows
    row_there [] k within = absurd (omega (arith, within))
    row_there (r ∷ rows) zero within = omega arith
    row_there (r ∷ rows) (suc k) within = let h = row_there rows k within in omega (arith, h)

-- there is room for it
pub has_room : (id : CellId) (boxes : Boxes) (o : Occupied) (r : Rect) → BoxesMayBeInserted id.team boxes o → box_in_team o id.team id.own ≡ None
    → cell_box boxes id.own ≡ Some r → HasRoomFor o id.team r 1
has_room id boxes o r may nowhere is = λ n g there of_team shares.
    let more = part_leaves_room (widened (reach o) g) (boxes_of o id.team) boxes id.own r may.part nowhere is shares in
    let most = may.fits n g there of_team in
    omega (arith, more, most)

pub nowhere_now : (id : CellId) (a b : Occupied) → b.boxes ≡ boxes_with a id None → box_in_team b id.team id.own ≡ None
nowhere_now id a b is = rw (box_put id None a b is) (none_here (boxes_of a id.team) id.own)

-- the cells that the remaining moves do not name have their boxes
pub record AreInserted (f : Frame) (cells : Cells) (team : ℕ) (named : List ℕ) (n : ℕ) (o : Occupied) : Type 0 where
  pub may : BoxesMayBeInserted team (working_boxes f cells team) o
  pub rest : (own : ℕ) → ((k : ℕ) → n ≤ k → k < length named → get_or named k 0 ≢ own) → cell_box (boxes_of o team) own ≡ cell_box (working_boxes f cells team) own
  pub others : OthersAreInserted f cells team o

pub inserted_next : (f : Frame) (cells : Cells) (team : ℕ) (named : List ℕ) (n own : ℕ) (b c : Occupied) → own ≡ get_or named n 0
    → boxes_of c team ≡ set (boxes_of b team) own (cell_box (working_boxes f cells team) own) → KeepsStrips team b c → AreInserted f cells team named n b
    → AreInserted f cells team named (n + 1) c
inserted_next f cells team named n own b c is put kept inserted = record {
  may = may_with team own boxes b c put kept inserted.may;
  rest = λ k never. ⊎_elim (λ (same : k ≡ own). rw (put, same) (box_here (boxes_of b team) boxes own inserted.may.many))
      (λ (differ : k ≢ own). rw put (there_still (boxes_of b team) own k (cell_box boxes own) differ
      ∙ inserted.rest k (λ i from within. at_or_after k differ never i from within (cases_eq i n)))) (cases_eq k own);
  others = λ other differ. kept.boxes other differ ∙ inserted.others other differ;
}
  where
    boxes : Boxes
    boxes = working_boxes f cells team

    at_or_after : (k : ℕ) → k ≢ own → ((i : ℕ) → n + 1 ≤ i → i < length named → get_or named i 0 ≢ k) → (i : ℕ) → n ≤ i → i < length named
        → (i ≡ n) ⊎ (i ≢ n) → get_or named i 0 ≢ k
    at_or_after k differ never i from within (inl same) = λ here. differ (sym here ∙ ap (λ (j : ℕ). get_or named j 0) same ∙ sym is)
    at_or_after k differ never i from within (inr other) = never i (omega (arith, from, other)) within

pub all_are_placed : (f : Frame) (cells : Cells) (team : ℕ) (named : List ℕ) (n : ℕ) (o : Occupied) → length named ≤ n → AreInserted f cells team named n o
    → boxes_of o team ≡ working_boxes f cells team
all_are_placed f cells team named n o past inserted =
    boxes_alike (boxes_of o team) (working_boxes f cells team) inserted.may.many
    (λ own. inserted.rest own (λ k from within. absurd (omega (arith, past, from, within))))

-- ---- by a team's number and a position

pub team_is : (team own : ℕ) (cells : List Cell) (id : CellId) → Some id ≡ id_in cells team own → id ≡ id_of team own
team_is team own cells id is = id_there cells team own id (sym is)

-- the position that a move names
pub own_there : (moves : List Move) (n : ℕ) (m : Move) → n < length moves → m ≡ get_or moves n m → m.own ≡ get_or (moved_positions moves) n 0
own_there [] n m within is = absurd (omega (arith, within))
own_there (x ∷ ms) zero m within is = ap (λ (y : Move). y.own) is
own_there (x ∷ ms) (suc n) m within is = own_there ms n m (omega (arith, within)) is
