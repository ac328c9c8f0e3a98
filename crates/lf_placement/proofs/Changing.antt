-- A change of a team: its cells are removed from the strips, moved in the table, and inserted
-- again.
use Rattle.std.proofs.Common.{◌≡◌, ◌≢◌, ◌⊎◌, inl, inr, ◌<◌, ℕ, zero, suc, List, [], ◌∷◌, map, length, get_or, drop, Option, None, refl, ap, sym, subst, ◌∙◌, arith}
use Rattle.std.specs.Prelude.{All, slice_get, option_and_then}
use Rattle.std.specs.Option.{option_map}
use Rattle.std.proofs.lemmas.List.{length-map}
use Rattle.std.proofs.lemmas.List.Elements.{All-cons}
use Rattle.lf_units.specs.declared.geometry.Rect.{Rect}
use Rattle.lf_floorplan.specs.declared.frame.Frame.{Frame}
use Rattle.lf_floorplan.specs.declared.place.Place.{Place}
use Rattle.lf_rules.specs.Choice.{spot_of}
use Rattle.lf_rules.specs.Team.{box_in}
use Rattle.lf_cells.specs.declared.cell.Cell.{Cell}
use Rattle.lf_cells.specs.Cells.{as_committed, moved}
use Rattle.lf_legalize.specs.Members.{IsSizedCell}
use Rattle.lf_occupancy.specs.Views.{FitIn, Occupied, boxes_of, cell_box}
use Rattle.lf_occupancy.specs.Floorplans.{working_box_of}
use Rattle.lf_undo.specs.declared.moves.Move.{Move}
use Rattle.lf_undo.specs.Entries.{Places}
use Rattle.lf_placement.specs.Placements.{SameButPlaces, boxes_at, moves_applied, working_places_of}
use Rattle.lf_placement.specs.Steps.{AreRemoved, IsRemovedOrUnchanged, BoxesMayBeInserted, DoNotMove, AreInsertedExcept, RemovesFirst, moves_reverted, moved_positions}
use Rattle.lf_placement.proofs.Moves.{first_same, rest_same, same_back, same_made}
use Rattle.lf_placement.proofs.Boxes.{fits_still}

-- ---- macros

abbrev pub macs : List Cell → List ℕ
macs cells = map (λ c. c.mac) cells

pub macs_same : (old new : List Cell) → SameButPlaces old new → macs new ≡ macs old
macs_same [] [] same = refl
macs_same [] (c ∷ cs) same = absurd cc
macs_same (d ∷ ds) [] same = absurd cc
macs_same (d ∷ ds) (c ∷ cs) same =
    ap (λ (x : Cell). x.mac ∷ macs cs) (first_same same) ∙ ap (λ (r : List ℕ). d.mac ∷ r) (macs_same ds cs (rest_same same))

pub macs_committed : (cells : List Cell) → macs (map as_committed cells) ≡ macs cells
macs_committed [] = refl
macs_committed (c ∷ cs) = ap (λ (r : List ℕ). c.mac ∷ r) (macs_committed cs)

pub sized_in : (f : Frame) (old new : List Cell) → macs new ≡ macs old → All (λ c. IsSizedCell f c) old → All (λ c. IsSizedCell f c) new
sized_in f [] [] same sized = sized
sized_in f [] (c ∷ cs) same sized = absurd cc
sized_in f (d ∷ ds) [] same sized = absurd cc
sized_in f (d ∷ ds) (c ∷ cs) same sized = All-cons (λ (x : Cell). IsSizedCell f x) c cs first (sized_in f ds cs rest later)
  where
    mac : c.mac ≡ d.mac
    mac = cc

    rest : macs cs ≡ macs ds
    rest = cc

    there : IsSizedCell f d
    there = sized 0 d (omega arith)

    first : IsSizedCell f c
    first = record { known = rw mac there.known; sized = rw mac there.sized }

    later : All (λ x. IsSizedCell f x) ds
    later = λ i x within. sized (suc i) x (omega (arith, within))

pub sized_made : (f : Frame) (moves : List Move) (old new : List Cell) → new ≡ moves_applied moves old → All (λ c. IsSizedCell f c) old → All (λ c. IsSizedCell f c) new
sized_made f moves old new is sized = sized_in f old new (rw is (macs_same old (moves_applied moves old) (same_made moves old))) sized

pub sized_back : (f : Frame) (moves : List Move) (old new : List Cell) → new ≡ moves_reverted moves old → All (λ c. IsSizedCell f c) old → All (λ c. IsSizedCell f c) new
sized_back f moves old new is sized = sized_in f old new (rw is (macs_same old (moves_reverted moves old) (same_back moves old))) sized

-- the boxes at places depend only on macros
pub boxes_alike_at : (f : Frame) (old new : List Cell) (places : Places) → macs new ≡ macs old → boxes_at f new places ≡ boxes_at f old places
boxes_alike_at f [] [] places same = refl
boxes_alike_at f [] (c ∷ cs) places same = absurd cc
boxes_alike_at f (d ∷ ds) [] places same = absurd cc
boxes_alike_at f (d ∷ ds) (c ∷ cs) [] same =
    let rest : macs cs ≡ macs ds = cc in
    ap (λ (r : List (Option Rect)). None ∷ r) (boxes_alike_at f ds cs [] rest)
boxes_alike_at f (d ∷ ds) (c ∷ cs) (p ∷ ps) same =
    let first : c.mac ≡ d.mac = cc in
    let rest : macs cs ≡ macs ds = cc in
    rw first (ap (λ (r : List (Option Rect)). option_map (λ (q : Place). box_in f d.mac (spot_of q)) p ∷ r) (boxes_alike_at f ds cs ps rest))

-- at their working places they are the cells' boxes
pub boxes_at_work : (f : Frame) (cells : List Cell) → boxes_at f cells (working_places_of cells) ≡ map (working_box_of f) cells
boxes_at_work f [] = refl
boxes_at_work f (c ∷ cs) = ap (λ (r : List (Option Rect)). working_box_of f c ∷ r) (boxes_at_work f cs)

pub boxes_at_new : (f : Frame) (old new : List Cell) → SameButPlaces old new → boxes_at f old (working_places_of new) ≡ map (working_box_of f) new
boxes_at_new f old new same = sym (boxes_alike_at f old new (working_places_of new) (macs_same old new same)) ∙ boxes_at_work f new

-- ---- cells that no move names

moved_other : (cells : List Cell) (own k : ℕ) (place : Option Place) → own ≢ k → slice_get (moved cells own place) k ≡ slice_get cells k
moved_other [] own k place differ = refl
moved_other (c ∷ cs) zero zero place differ = absurd (differ refl)
moved_other (c ∷ cs) zero (suc k) place differ = refl
moved_other (c ∷ cs) (suc own) zero place differ = refl
moved_other (c ∷ cs) (suc own) (suc k) place differ = moved_other cs own k place (λ same. differ (ap suc same))

made_other : (moves : List Move) (cells : List Cell) (k : ℕ) → DoNotMove (moved_positions moves) (length (moved_positions moves)) k → slice_get (moves_applied moves cells) k ≡ slice_get cells k
made_other [] cells k never = refl
made_other (m ∷ ms) cells k never =
    made_other ms (moved cells m.own m.place) k (λ i less. never (suc i) (omega (arith, less))) ∙ moved_other cells m.own k m.place (never 0 (omega arith))

back_other : (moves : List Move) (cells : List Cell) (k : ℕ) → DoNotMove (moved_positions moves) (length (moved_positions moves)) k → slice_get (moves_reverted moves cells) k ≡ slice_get cells k
back_other [] cells k never = refl
back_other (m ∷ ms) cells k never =
    moved_other (moves_reverted ms cells) m.own k m.place (never 0 (omega arith)) ∙ back_other ms cells k (λ i less. never (suc i) (omega (arith, less)))

box_at_number : (f : Frame) (cells : List Cell) (k : ℕ) → cell_box (map (working_box_of f) cells) k ≡ option_and_then (working_box_of f) (slice_get cells k)
box_at_number f [] k = refl
box_at_number f (c ∷ cs) zero = refl
box_at_number f (c ∷ cs) (suc k) = box_at_number f cs k

-- the cells that are not named are unchanged
abbrev pub OthersStay : List ℕ → List Cell → List Cell → Type 0
OthersStay named old new = (k : ℕ) → DoNotMove named (length named) k → slice_get new k ≡ slice_get old k

pub others_made : (moves : List Move) (old new : List Cell) → new ≡ moves_applied moves old → OthersStay (moved_positions moves) old new
others_made moves old new is = λ k never. rw is (made_other moves old k never)

pub others_back : (moves : List Move) (old new : List Cell) → new ≡ moves_reverted moves old → OthersStay (moved_positions moves) old new
others_back moves old new is = λ k never. rw is (back_other moves old k never)

-- ---- all are removed

module _ (f : Frame) (team : ℕ) (named : List ℕ) (count : ℕ) (old new : List Cell) (a b : Occupied) (whole : count ≡ length named)
    (held : boxes_of a team ≡ map (working_box_of f) old) (stay : OthersStay named old new) (out : RemovesFirst team named count a b) where
  as_new : (k : ℕ) → DoNotMove named count k → cell_box (boxes_of a team) k ≡ cell_box (map (working_box_of f) new) k
  as_new k never =
      ap (λ (bs : List (Option Rect)). cell_box bs k) held
      ∙ box_at_number f old k
      ∙ ap (option_and_then (working_box_of f)) (sym (stay k (subst (λ (n : ℕ). DoNotMove named n k) whole never)))
      ∙ sym (box_at_number f new k)

  part : (k : ℕ) → IsRemovedOrUnchanged named count (boxes_of a team) (boxes_of b team) k
      → (cell_box (boxes_of b team) k ≡ None) ⊎ (cell_box (boxes_of b team) k ≡ cell_box (map (working_box_of f) new) k)
  part k (inl (was, none)) = inl none
  part k (inr (never, as_before)) = inr (as_before ∙ as_new k never)

  rest : (k : ℕ) → DoNotMove named count k → IsRemovedOrUnchanged named count (boxes_of a team) (boxes_of b team) k
      → cell_box (boxes_of b team) k ≡ cell_box (map (working_box_of f) new) k
  rest k never (inl (was, none)) = absurd (was never)
  rest k never (inr (not, as_before)) = as_before ∙ as_new k never

  pub may_be_placed : length new ≡ length old → FitIn a team (map (working_box_of f) new) → BoxesMayBeInserted team (map (working_box_of f) new) b
  may_be_placed many fits = record {
    many =
        out.rest.many ∙ ap {B = ℕ} (λ (bs : List (Option Rect)). length bs) held ∙ length-map old (working_box_of f) ∙ sym many ∙ sym (length-map new (working_box_of f));
    part = λ k. part k (out.each k);
    fits = fits_still team (map (working_box_of f) new) b a out.rest.index out.rest.site out.rest.rooms fits;
  }

  pub placed_except : AreInsertedExcept team (map (working_box_of f) new) named b
  placed_except = λ k never. rest k (subst (λ (n : ℕ). DoNotMove named n k) (sym whole) never) (out.each k)

-- a removed cell has no box
pub all_out : (team : ℕ) (named : List ℕ) (count : ℕ) (a b : Occupied) → count ≡ length named → RemovesFirst team named count a b → AreRemoved team named b
all_out team named count a b whole out = λ k less. gone k less (out.each (get_or named k 0))
  where
    gone : (k : ℕ) → k < length named → IsRemovedOrUnchanged named count (boxes_of a team) (boxes_of b team) (get_or named k 0) →
        cell_box (boxes_of b team) (get_or named k 0) ≡ None
    gone k less (inl (was, none)) = none
    gone k less (inr (never, as_before)) = absurd (never k (omega (arith, less, whole)) refl)

-- ---- the moves from one on

pub owns_count : (moves : List Move) → length moves ≡ length (moved_positions moves)
owns_count moves = sym (length-map moves (λ (m : Move). m.own))

owns_drop : (moves : List Move) (n : ℕ) → moved_positions (drop n moves) ≡ drop n (moved_positions moves)
owns_drop moves zero = refl
owns_drop [] (suc n) = refl
owns_drop (m ∷ ms) (suc n) = owns_drop ms n

pub owns_from : (old new : List Move) (n : ℕ) → moved_positions new ≡ moved_positions old → moved_positions (drop n old) ≡ moved_positions (drop n new)
owns_from old new n same = owns_drop old n ∙ ap (λ (ns : List ℕ). drop n ns) (sym same) ∙ sym (owns_drop new n)
