-- Cells that are kept of a design make one.
use Rattle.std.proofs.Common.{◌≡◌, ◌≢◌, ◌∙◌, ℕ, suc, ◌+◌, ◌<◌, ◌≤◌, List, [], ◌∷◌, ◌++◌, length, drop, Some, None, refl, ap, sym, subst, ⊎_elim, append-nil, length-append, arith}
use Rattle.std.specs.Prelude.{All, AllPairs, slice_get}
use Rattle.std.proofs.lemmas.List.Elements.{All-append, All-cons, All-head, All-nil, All-tail, All-weaker}
use Rattle.std.proofs.lemmas.List.Kept.{AllPairs-cons}
use Rattle.std.proofs.lemmas.List.Quantifiers.{all_pairs_push}
use Rattle.lf_floorplan.specs.declared.frame.Frame.{Frame}
use Rattle.lf_floorplan.specs.declared.loaded.LoadedCell.{LoadedCell}
use Rattle.lf_floorplan.specs.Design.{CellsNamed, IsCell, MakeDesign}
use Rattle.lf_repair_bounds.specs.EmptyFloors.{AreFirstCells, IsKeptOr, unplaced_cell_at}
use Rattle.lf_repair_bounds.proofs.Copying.{apart_before, from_here, none_left, pairs_head, pairs_tail}

-- ---- lists without an element, or with another in its place

all_without : {X : Type 0} (P : X → Type 0) (xs : List X) (y : X) (ys : List X) → All P (xs ++ y ∷ ys) → All P (xs ++ ys)
all_without P [] y ys all = All-tail P y ys all
all_without P (x ∷ xs) y ys all =
    All-cons P x (xs ++ ys) (All-head P x (xs ++ y ∷ ys) all) (all_without P xs y ys (All-tail P x (xs ++ y ∷ ys) all))

pairs_without : {X : Type 0} (R : X → X → Type 0) (xs : List X) (y : X) (ys : List X) → AllPairs R (xs ++ y ∷ ys) → AllPairs R (xs ++ ys)
pairs_without R [] y ys pairs = pairs_tail R y ys pairs
pairs_without R (x ∷ xs) y ys pairs =
    AllPairs-cons R x (xs ++ ys) (all_without (R x) xs y ys (pairs_head R x (xs ++ y ∷ ys) pairs))
    (pairs_without R xs y ys (pairs_tail R x (xs ++ y ∷ ys) pairs))

all_instead : {X : Type 0} (P : X → Type 0) (xs : List X) (y z : X) (ys : List X) → (P y → P z) → All P (xs ++ y ∷ ys) → All P ((xs ++ z ∷ []) ++ ys)
all_instead P [] y z ys like all = All-cons P z ys (like (All-head P y ys all)) (All-tail P y ys all)
all_instead P (x ∷ xs) y z ys like all =
    All-cons P x ((xs ++ z ∷ []) ++ ys) (All-head P x (xs ++ y ∷ ys) all) (all_instead P xs y z ys like (All-tail P x (xs ++ y ∷ ys) all))

pairs_instead : {X : Type 0} (R : X → X → Type 0) (xs : List X) (y z : X) (ys : List X) → ((x : X) → R x y → R x z) → ((x : X) → R y x → R z x)
    → AllPairs R (xs ++ y ∷ ys) → AllPairs R ((xs ++ z ∷ []) ++ ys)
pairs_instead R [] y z ys before after_it pairs =
    AllPairs-cons R z ys (All-weaker (R y) (R z) after_it ys (pairs_head R y ys pairs)) (pairs_tail R y ys pairs)
pairs_instead R (x ∷ xs) y z ys before after_it pairs =
    AllPairs-cons R x ((xs ++ z ∷ []) ++ ys) (all_instead (R x) xs y z ys (before x) (pairs_head R x (xs ++ y ∷ ys) pairs))
    (pairs_instead R xs y z ys before after_it (pairs_tail R x (xs ++ y ∷ ys) pairs))

-- ---- cells that were kept

pub none_kept : (f : Frame) (cells : List LoadedCell) → CellsNamed cells → AreFirstCells f cells 0 []
none_kept f cells named = record {
  few = omega arith;
  known = All-nil (IsCell f);
  named = named;
  rise = λ i j d before within. absurd (omega (arith, within));
  before = λ i d within. absurd (omega (arith, within));
  unplaced = λ i d within. absurd (omega (arith, within));
}

-- the next cell's name differs from those of the kept cells
pub next_is_named : (f : Frame) (cells : List LoadedCell) (at : ℕ) (kept : List LoadedCell) (c : LoadedCell) → AreFirstCells f cells at kept → slice_get cells at ≡ Some c
    → All (λ d. d.name ≢ c.name) kept
next_is_named f cells at kept c are is =
    apart_before (λ a b. a.name ≢ b.name) kept c (drop (at + 1) cells)
    (subst (λ (rest : List LoadedCell). CellsNamed (kept ++ rest)) (from_here cells at c is) are.named)

-- it is kept or not
pub one_more : (f : Frame) (cells : List LoadedCell) (at : ℕ) (kept new : List LoadedCell) (c : LoadedCell) → AreFirstCells f cells at kept → slice_get cells at ≡ Some c
    → IsCell f c → IsKeptOr at c kept new → AreFirstCells f cells (at + 1) new
one_more f cells at kept new c are is cell more = ⊎_elim (λ (same : new ≡ kept). subst (AreFirstCells f cells (at + 1)) (sym same) stays)
    (λ (longer : new ≡ kept ++ unplaced_cell_at at c ∷ []). subst (AreFirstCells f cells (at + 1)) (sym longer) grows) more where
      ahead : CellsNamed (kept ++ c ∷ drop (at + 1) cells)
      ahead = subst (λ (rest : List LoadedCell). CellsNamed (kept ++ rest)) (from_here cells at c is) are.named

      plus_one : (n : ℕ) → suc n ≡ n + 1
      plus_one n = omega arith

      one_less : length (drop at cells) ≡ length (drop (at + 1) cells) + 1
      one_less = ap (λ (ds : List LoadedCell). length ds) (from_here cells at c is) ∙ plus_one (length (drop (at + 1) cells))

      later : (d : LoadedCell) → d.component < at → d.component < at + 1
      later d before = omega (arith, before)

      stays : AreFirstCells f cells (at + 1) kept
      stays = record {
        few = omega (arith, are.few, one_less);
        known = are.known;
        named = pairs_without (λ a b. a.name ≢ b.name) kept c (drop (at + 1) cells) ahead;
        rise = are.rise;
        before = All-weaker (λ d. d.component < at) (λ d. d.component < at + 1) later kept are.before;
        unplaced = are.unplaced;
      }

      one : IsCell f (unplaced_cell_at at c)
      one = record { team_known = cell.team_known; mac_known = cell.mac_known; mac_sized = cell.mac_sized; name_printed = cell.name_printed }

      longer_by : length (kept ++ unplaced_cell_at at c ∷ []) ≡ length kept + 1
      longer_by = length-append kept (unplaced_cell_at at c ∷ [])

      grows : AreFirstCells f cells (at + 1) (kept ++ unplaced_cell_at at c ∷ [])
      grows = record {
        few = omega (arith, are.few, longer_by, one_less);
        known = All-append (IsCell f) kept (unplaced_cell_at at c ∷ []) are.known (All-cons (IsCell f) (unplaced_cell_at at c) [] one (All-nil (IsCell f)));
        named = pairs_instead (λ a b. a.name ≢ b.name) kept c (unplaced_cell_at at c) (drop (at + 1) cells) (λ x differ. differ) (λ x differ. differ) ahead;
        rise = all_pairs_push (λ a b. a.component < b.component) kept (unplaced_cell_at at c) are.rise are.before;
        before = All-append (λ d. d.component < at + 1) kept (unplaced_cell_at at c ∷ [])
            (All-weaker (λ d. d.component < at) (λ d. d.component < at + 1) later kept are.before)
            (All-cons (λ d. d.component < at + 1) (unplaced_cell_at at c) [] (omega arith) (All-nil (λ d. d.component < at + 1)));
        unplaced = All-append (λ d. d.place ≡ None) kept (unplaced_cell_at at c ∷ []) are.unplaced
            (All-cons (λ d. d.place ≡ None) (unplaced_cell_at at c) [] refl (All-nil (λ d. d.place ≡ None)));
      }

-- all of them make a design
pub design_kept : (f : Frame) (cells : List LoadedCell) (at : ℕ) (kept : List LoadedCell) → AreFirstCells f cells at kept → length cells ≤ at → length cells ≤ 4000000
    → MakeDesign f kept
design_kept f cells at kept are past few = record {
  few_cells = omega (arith, are.few, few);
  cells_known = are.known;
  names_differ = subst CellsNamed (append-nil kept) (subst (λ (rest : List LoadedCell). CellsNamed (kept ++ rest)) (none_left cells at past) are.named);
  components_rise = are.rise;
}
