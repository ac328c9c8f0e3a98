-- The cells of a loaded design, one after the other.
use Rattle.std.proofs.Common.{◌≡◌, ◌⊎◌, inl, inr, ℕ, zero, suc, ◌+◌, ◌<◌, ◌≤◌, List, [], ◌∷◌, length, drop, get_or, Option, None, Some, refl, ap, sym, ◌∙◌, arith}
use Rattle.std.specs.Prelude.{IsSome, slice_get, option_map}
use Rattle.std.proofs.lemmas.Option.{none-some, slice_get_cases}
use Rattle.lf_floorplan.specs.declared.loaded.LoadedCell.{LoadedCell}
use Rattle.lf_floorplan.specs.declared.cells.CellRef.{CellRef}
use Rattle.lf_floorplan.specs.LoadedCells.{borrowed_cell}

-- A cell of the list is borrowed.
pub is_there : (cells : List LoadedCell) (k : ℕ) (o : Option CellRef) → option_map borrowed_cell o ≡ slice_get cells k → k < length cells → IsSome o
is_there cells k (Some v) e within = refl
is_there cells k None e within = go (slice_get_cases cells k).1 where
  go : ((x : LoadedCell) × (k < length cells) × (slice_get cells k ≡ Some x) × (get_or cells k x ≡ x)) ⊎ ((length cells ≤ k) × (slice_get cells k ≡ None)) → IsSome {T = CellRef} None
  go (inl (x, inside, is, read)) = absurd (none-some x (e ∙ is))
  go (inr (past, is)) = absurd (omega (arith, within, past))

from_here : (cells : List LoadedCell) (k : ℕ) (v : CellRef) → ◌≡◌ {A = Option LoadedCell} (Some (borrowed_cell v)) (slice_get cells k) → drop k cells ≡ borrowed_cell v ∷ drop (k + 1) cells
from_here [] k v e = absurd cc
from_here (c ∷ cells) zero v e =
    let same : borrowed_cell v ≡ c = cc in
    ap (λ (d : LoadedCell). d ∷ cells) (sym same)
from_here (c ∷ cells) (suc k) v e =
    let shift : suc k + 1 ≡ suc (k + 1) = omega arith in
    rw shift (from_here cells k v e)

-- The cells from there on begin with it.
pub cells_from : (cells : List LoadedCell) (k : ℕ) (o : Option CellRef) (v : CellRef) → option_map borrowed_cell o ≡ slice_get cells k → o ≡ Some v →
    drop k cells ≡ borrowed_cell v ∷ drop (k + 1) cells
cells_from cells k o v e is = from_here cells k v (ap (option_map borrowed_cell) (sym is) ∙ e)
