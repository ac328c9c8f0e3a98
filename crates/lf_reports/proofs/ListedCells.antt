-- The cells of a loaded design, one after the other.
use Rattle.std.proofs.Common.{◌≡◌, ◌⊎◌, inl, inr, ℕ, zero, suc, ◌+◌, ◌<◌, ◌≤◌, List, [], ◌∷◌, ◌++◌, length, map, drop, get_or, Option, None, Some, refl, ap, sym, ◌∙◌, arith}
use Rattle.std.specs.Prelude.{IsSome, slice_get, option_map}
use Rattle.std.specs.Borrow.{Bor}
use Rattle.std.proofs.lemmas.Grind.{common_steps}
use Rattle.std.proofs.lemmas.List.{map-append}
use Rattle.std.proofs.lemmas.Option.{none-some, slice_get_cases}
use Rattle.lf_floorplan.specs.declared.place.Place.{Place}
use Rattle.lf_floorplan.specs.declared.loaded.LoadedCell.{LoadedCell}
use Rattle.lf_floorplan.specs.declared.cells.CellRef.{CellRef}
use Rattle.lf_floorplan.specs.LoadedCells.{borrowed_cell}
use Rattle.lf_rules.specs.declared.report_types.Listed.{Listed}
use Rattle.lf_reports.specs.Reports.{listed_at, with_byte_name}

-- A cell of the list is borrowed.
pub is_there : (cells : List LoadedCell) (k : ℕ) (o : Option CellRef) → option_map borrowed_cell o ≡ slice_get cells k → k < length cells → IsSome o
is_there cells k (Some v) e within = refl
is_there cells k None e within = go (slice_get_cases cells k).1 where
  go : ((x : LoadedCell) × (k < length cells) × (slice_get cells k ≡ Some x) × (get_or cells k x ≡ x)) ⊎ ((length cells ≤ k) × (slice_get cells k ≡ None)) → IsSome {T = CellRef} None
  go (inl (x, inside, is, read)) = absurd (none-some x (e ∙ is))
  go (inr (past, is)) = absurd (omega (arith, within, past))

from_here : (cells : List LoadedCell) (k : ℕ) (v : CellRef) → ◌≡◌ {A = Option LoadedCell} (Some (borrowed_cell v)) (slice_get cells k) → drop k cells ≡ borrowed_cell v ∷ drop (k + 1) cells
from_here [] k v e = absurd cc
from_here (c ∷ cells) zero v e =
    let same : borrowed_cell v ≡ c = cc in
    ap (λ (d : LoadedCell). d ∷ cells) (sym same)
from_here (c ∷ cells) (suc k) v e =
    let shift : suc k + 1 ≡ suc (k + 1) = omega arith in
    rw shift (from_here cells k v e)

-- The cells from there on begin with it.
pub cells_from : (cells : List LoadedCell) (k : ℕ) (o : Option CellRef) (v : CellRef) → option_map borrowed_cell o ≡ slice_get cells k → o ≡ Some v →
    drop k cells ≡ borrowed_cell v ∷ drop (k + 1) cells
cells_from cells k o v e is = from_here cells k v (ap (option_map borrowed_cell) (sym is) ∙ e)

-- One value more, after the previous ones.
pub one_more : {X : Type 0} (before : List X) (x : X) (rest whole here : List X) → here ≡ x ∷ rest → before ++ here ≡ whole → (before ++ x ∷ []) ++ rest ≡ whole
one_more {X = X} before x rest whole here is e =
    let same : (before ++ x ∷ []) ++ rest ≡ before ++ x ∷ rest = grind (arith, common_steps) in
    same ∙ ap (λ (xs : List X). before ++ xs) (sym is) ∙ e

-- One cell more, at its place.
pub one_listed : (cells : List LoadedCell) (places : List (Option Place)) (k : ℕ) (v : CellRef) (p : Option Place) (items : List (Listed (Bor (List ℕ))))
    (all : List (Listed (List ℕ))) → drop k cells ≡ borrowed_cell v ∷ drop (k + 1) cells → k < length places → p ≡ get_or places k p →
    map with_byte_name items ++ listed_at (drop k cells) (drop k places) ≡ all →
    map with_byte_name (items ++ record { name = v.name; team = v.team; mac = v.mac; place = p } ∷ []) ++ listed_at (drop (k + 1) cells) (drop (k + 1) places) ≡ all
one_listed cells places k v p items all here within is before =
    let there : drop k places ≡ p ∷ drop (k + 1) places = grind (arith, common_steps) in
    let x : Listed (Bor (List ℕ)) = record { name = v.name; team = v.team; mac = v.mac; place = p } in
    rw (map-append with_byte_name items (x ∷ []))
    (one_more (map with_byte_name items) (with_byte_name x) (listed_at (drop (k + 1) cells) (drop (k + 1) places)) all (listed_at (drop k cells) (drop k places))
    (rw (here, there) refl) before)
