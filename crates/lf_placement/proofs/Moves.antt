-- Moves of cells in a table, and how they are undone.
use Rattle.std.proofs.Common.{◌≡◌, ◌<◌, ℕ, zero, suc, ◌+◌, List, [], ◌∷◌, ◌++◌, length, set, take, drop, get_or, Option, Some, None, refl, ap, sym, ◌∙◌, arith}
use Rattle.std.specs.Prelude.{slice_get, option_and_then, option_map}
use Rattle.std.proofs.lemmas.List.{length-map, take_more}
use Rattle.lf_floorplan.specs.declared.place.Place.{Place}
use Rattle.lf_cells.specs.declared.cell.Cell.{Cell}
use Rattle.lf_cells.specs.declared.cell.CellId.{CellId}
use Rattle.lf_cells.specs.Cells.{Cells, id_in, id_of, moved, working_at}
use Rattle.lf_undo.specs.declared.moves.Move.{Move}
use Rattle.lf_undo.specs.Entries.{Places, replaced, moves_taken_back}
use Rattle.lf_undo.proofs.Undone.{undo_one_more}
use Rattle.lf_placement.specs.Placements.{HaveMoved, OtherCellsStay, SameButPlaces, moves_applied, working_places_of, without_place}
use Rattle.lf_placement.specs.Steps.{moves_reverted, moved_positions}

past_moved : (cells : List Cell) (own : ℕ) (place : Option Place) → slice_get cells own ≡ None → moved cells own place ≡ cells
past_moved [] own place none = refl
past_moved (c ∷ cs) zero place none = absurd cc
past_moved (c ∷ cs) (suc own) place none = ap (λ (r : List Cell). c ∷ r) (past_moved cs own place none)

-- there is no cell at the position to move
pub none_moved : (cells : List Cell) (number own : ℕ) (place : Option Place) → id_in cells number own ≡ None → moved cells own place ≡ cells
none_moved cells number own place none = past_moved cells own place (go (slice_get cells own) none) where
  go : (o : Option Cell) → option_map (λ (c : Cell). id_of number own) o ≡ None → o ≡ None
  go None e = refl
  go (Some c) e = absurd cc

-- there is no cell, and no working place
pub none_works : (cells : List Cell) (number own : ℕ) → id_in cells number own ≡ None → working_at cells own ≡ None
none_works cells number own none = go (slice_get cells own) none where
  go : (o : Option Cell) → option_map (λ (c : Cell). id_of number own) o ≡ None → option_and_then (λ (c : Cell). c.working) o ≡ None
  go None e = refl
  go (Some c) e = absurd cc

pub id_there : (cells : List Cell) (number own : ℕ) (id : CellId) → id_in cells number own ≡ Some id → id ≡ id_of number own
id_there cells number own id is = go (slice_get cells own) is where
  go : (o : Option Cell) → option_map (λ (c : Cell). id_of number own) o ≡ Some id → id ≡ id_of number own
  go None e = absurd cc
  go (Some c) e = cc

-- ---- what is unchanged

pub cells_stay : (number : ℕ) (cells : Cells) → OtherCellsStay number cells cells
cells_stay number cells = record { cells = λ other differ. refl; components = refl }

pub cells_through : (number : ℕ) (a b c : Cells) → OtherCellsStay number a b → OtherCellsStay number b c → OtherCellsStay number a c
cells_through number a b c first second =
    record { cells = λ other differ. second.cells other differ ∙ first.cells other differ; components = second.components ∙ first.components }

-- ---- cells that differ only in their working places

pub same_moved : (cells : List Cell) (own : ℕ) (place : Option Place) → SameButPlaces cells (moved cells own place)
same_moved [] own place = refl
same_moved (c ∷ cs) zero place = refl
same_moved (c ∷ cs) (suc own) place = ap (λ (r : List Cell). without_place c ∷ r) (same_moved cs own place)

pub same_made : (moves : List Move) (cells : List Cell) → SameButPlaces cells (moves_applied moves cells)
same_made [] cells = refl
same_made (m ∷ ms) cells = same_made ms (moved cells m.own m.place) ∙ same_moved cells m.own m.place

pub same_back : (moves : List Move) (cells : List Cell) → SameButPlaces cells (moves_reverted moves cells)
same_back [] cells = refl
same_back (m ∷ ms) cells = same_moved (moves_reverted ms cells) m.own m.place ∙ same_back ms cells

pub first_same : {a b : Cell} {rest others : List Cell} → a ∷ rest ≡ b ∷ others → a ≡ b
first_same e = cc

pub rest_same : {a b : Cell} {rest others : List Cell} → a ∷ rest ≡ b ∷ others → rest ≡ others
rest_same e = cc

first_place : {a b : Option Place} {rest others : Places} → a ∷ rest ≡ b ∷ others → a ≡ b
first_place e = cc

rest_places : {a b : Option Place} {rest others : Places} → a ∷ rest ≡ b ∷ others → rest ≡ others
rest_places e = cc

with_place : Cell → Option Place → Cell
with_place c place = record c { working = place }

back_with : (c : Cell) → with_place (without_place c) c.working ≡ c
unfolding with_place
back_with c = refl

-- cells with the same places that differ in nothing else are the same
pub same_places : (old new : List Cell) → SameButPlaces old new → working_places_of new ≡ working_places_of old → new ≡ old
same_places [] [] same places = refl
same_places [] (c ∷ cs) same places = absurd cc
same_places (d ∷ ds) [] same places = absurd cc
same_places (d ∷ ds) (c ∷ cs) same places =
    ap (λ (x : Cell). x ∷ cs)
    (sym (back_with c) ∙ ap (λ (x : Cell). with_place x c.working) (first_same same) ∙ ap (with_place (without_place d)) (first_place places) ∙ back_with d)
    ∙ ap (λ (r : List Cell). d ∷ r) (same_places ds cs (rest_same same) (rest_places places))

pub length_same : (old new : List Cell) → SameButPlaces old new → length new ≡ length old
length_same old new same = sym (length-map new without_place) ∙ ap (λ (cs : List Cell). length cs) same ∙ length-map old without_place

-- ---- moves

pub places_moved : (cells : List Cell) (own : ℕ) (place : Option Place) → working_places_of (moved cells own place) ≡ set (working_places_of cells) own place
places_moved [] own place = refl
places_moved (c ∷ cs) zero place = refl
places_moved (c ∷ cs) (suc own) place = ap (λ (r : Places). c.working ∷ r) (places_moved cs own place)

pub places_back : (moves : List Move) (cells : List Cell) → working_places_of (moves_reverted moves cells) ≡ moves_taken_back moves (working_places_of cells)
places_back [] cells = refl
places_back (m ∷ ms) cells = places_moved (moves_reverted ms cells) m.own m.place ∙ ap (λ (ps : Places). set ps m.own m.place) (places_back ms cells)

place_there : (cells : List Cell) (own : ℕ) → get_or (working_places_of cells) own None ≡ working_at cells own
place_there [] own = refl
place_there (c ∷ cs) zero = refl
place_there (c ∷ cs) (suc own) = place_there cs own

-- one more cell moves, and its place is stored
one_more : (before now : List Cell) (moves : List Move) (own : ℕ) (place old : Option Place) → old ≡ working_at now own → HaveMoved before moves now
    → HaveMoved before (moves ++ record { own = own; place = old } ∷ []) (moved now own place)
one_more before now moves own place old was have = record {
  places =
      ap (λ (o : Option Place). moves_taken_back (moves ++ record { own = own; place = o } ∷ []) (working_places_of (moved now own place))) (was ∙ sym (place_there now own))
      ∙ ap (moves_taken_back (moves ++ record { own = own; place = get_or (working_places_of now) own None } ∷ [])) (places_moved now own place)
      ∙ undo_one_more (working_places_of before) (working_places_of now) moves own place have.places;
  same = same_moved now own place ∙ have.same;
}

-- undone moves give the earlier cells
pub have_back : (before now : List Cell) (moves : List Move) → HaveMoved before moves now → moves_reverted moves now ≡ before
have_back before now moves have =
    same_places before (moves_reverted moves now) (same_back moves now ∙ have.same) (places_back moves now ∙ have.places)

-- ---- the loop that makes moves

-- the move at this position gets the old place: the moves in front of it, and then the new one
take_replaced : (moves : List Move) (at : ℕ) (old : Option Place) (next : Move) → at < length moves → next ≡ get_or moves at next
    → take (at + 1) (replaced moves at old) ≡ take at moves ++ record { own = next.own; place = old } ∷ []
take_replaced [] at old next within is = absurd (omega (arith, within))
take_replaced (m ∷ ms) zero old next within is = ap (λ (x : Move). record { own = x.own; place = old } ∷ []) (sym is)
take_replaced (m ∷ ms) (suc at) old next within is =
    let more : suc at + 1 ≡ suc (at + 1) = omega arith in
    rw more (ap (λ (r : List Move). m ∷ r) (take_replaced ms at old next (omega (arith, within)) is))

drop_replaced : (moves : List Move) (at : ℕ) (old : Option Place) → drop (at + 1) (replaced moves at old) ≡ drop (at + 1) moves
drop_replaced [] at old = refl
drop_replaced (m ∷ ms) zero old = refl
drop_replaced (m ∷ ms) (suc at) old = let more : suc at + 1 ≡ suc (at + 1) = omega arith in rw more (drop_replaced ms at old)

owns_replaced : (moves : List Move) (at : ℕ) (old : Option Place) → moved_positions (replaced moves at old) ≡ moved_positions moves
owns_replaced [] at old = refl
owns_replaced (m ∷ ms) zero old = refl
owns_replaced (m ∷ ms) (suc at) old = ap (λ (r : List ℕ). m.own ∷ r) (owns_replaced ms at old)

drop_here : (moves : List Move) (at : ℕ) (next : Move) → at < length moves → next ≡ get_or moves at next → drop at moves ≡ next ∷ drop (at + 1) moves
drop_here [] at next within is = absurd (omega (arith, within))
drop_here (m ∷ ms) zero next within is = ap (λ (x : Move). x ∷ ms) (sym is)
drop_here (m ∷ ms) (suc at) next within is = let more : suc at + 1 ≡ suc (at + 1) = omega arith in rw more (drop_here ms at next (omega (arith, within)) is)

-- so far: the moves from here on lead from the current cells to the final ones, and the stored
-- places have led from the first cells to the current ones
pub record IsMakingAt (start to now : List Cell) (given moves : List Move) (from at : ℕ) : Type 0 where
  pub rest : moves_applied (drop at moves) now ≡ to
  pub notes : (before : List Cell) → HaveMoved before (take from given) start → HaveMoved before (take at moves) now
  pub owns : moved_positions moves ≡ moved_positions given

pub making_next : (start to now : List Cell) (given moves : List Move) (from at : ℕ) (next : Move) (was : Option Place) → at < length moves
    → next ≡ get_or moves at next → was ≡ working_at now next.own → IsMakingAt start to now given moves from at
    → IsMakingAt start to (moved now next.own next.place) given (replaced moves at was) from (at + 1)
making_next start to now given moves from at next was within is noted making = record {
  rest = ap (λ (ms : List Move). moves_applied ms (moved now next.own next.place)) (drop_replaced moves at was)
      ∙ ap (λ (ms : List Move). moves_applied ms now) (sym (drop_here moves at next within is)) ∙ making.rest;
  notes = λ before have.
      rw (take_replaced moves at was next within is)
      (one_more before now (take at moves) next.own next.place was noted (making.notes before have));
  owns = owns_replaced moves at was ∙ making.owns;
}

-- ---- the loop that undoes moves

made_back-append : (first second : List Move) (cells : List Cell) → moves_reverted (first ++ second) cells ≡ moves_reverted first (moves_reverted second cells)
made_back-append [] second cells = refl
made_back-append (m ∷ first) second cells = ap (λ (cs : List Cell). moved cs m.own m.place) (made_back-append first second cells)

-- the last of the remaining moves is undone
pub one_less : (now : List Cell) (moves : List Move) (n : ℕ) (m : Move) → n < length moves → m ≡ get_or moves n m
    → moves_reverted (take n moves) (moved now m.own m.place) ≡ moves_reverted (take (n + 1) moves) now
one_less now moves n m within read =
    sym (made_back-append (take n moves) (m ∷ []) now)
    ∙ ap (λ (x : Move). moves_reverted (take n moves ++ x ∷ []) now) read
    ∙ ap (λ (ms : List Move). moves_reverted ms now) (sym (take_more moves n m within))

pub owns_length : (moves given : List Move) → moved_positions moves ≡ moved_positions given → length moves ≡ length given
owns_length moves given same =
    sym (length-map moves (λ (m : Move). m.own)) ∙ ap (λ (ns : List ℕ). length ns) same ∙ length-map given (λ (m : Move). m.own)
