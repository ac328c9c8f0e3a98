-- Cells and their names, one by one.
use Rattle.std.proofs.Common.{◌≡◌, ◌≢◌, ℕ, zero, suc, List, [], ◌∷◌, ◌++◌, length, None, Some, refl, ap, ◌∙◌, arith}
use Rattle.std.specs.Prelude.{All, slice_get}
use Rattle.std.proofs.lemmas.List.Elements.{All-nil, All-cons, All-head, All-tail}
use Rattle.lf_floorplan.specs.declared.loaded.LoadedCell.{LoadedCell}
use Rattle.lf_floorplan.specs.declared.cells.UnnamedCell.{UnnamedCell}
use Rattle.lf_floorplan.specs.LoadedCells.{with_name, with_names}

pub many_seen : (names : List (List ℕ)) (cells : List UnnamedCell) → length names ≡ length cells → length (with_names names cells) ≡ length cells
many_seen [] [] same = refl
many_seen [] (c ∷ cells) same = absurd (omega (arith, same))
many_seen (n ∷ names) [] same = refl
many_seen (n ∷ names) (c ∷ cells) same = ap suc (many_seen names cells (omega (arith, same)))

pub apart_seen : (names : List (List ℕ)) (cells : List UnnamedCell) (name : List ℕ) → length names ≡ length cells → All (λ c. c.name ≢ name) (with_names names cells) →
    All (λ n. n ≢ name) names
apart_seen [] [] name same apart = All-nil (λ n. n ≢ name)
apart_seen [] (c ∷ cells) name same apart = absurd (omega (arith, same))
apart_seen (n ∷ names) [] name same apart = absurd (omega (arith, same))
apart_seen (n ∷ names) (c ∷ cells) name same apart =
    let P : LoadedCell → Type 0 = λ d. d.name ≢ name in
    All-cons (λ m. m ≢ name) n names (All-head P (with_name n c) (with_names names cells) apart)
    (apart_seen names cells name (omega (arith, same)) (All-tail P (with_name n c) (with_names names cells) apart))

pub one_appended : (names : List (List ℕ)) (cells : List UnnamedCell) (name : List ℕ) (cell : UnnamedCell) → length names ≡ length cells →
    with_names (names ++ name ∷ []) (cells ++ cell ∷ []) ≡ with_names names cells ++ with_name name cell ∷ []
one_appended [] [] name cell same = refl
one_appended [] (c ∷ cells) name cell same = absurd (omega (arith, same))
one_appended (n ∷ names) [] name cell same = absurd (omega (arith, same))
one_appended (n ∷ names) (c ∷ cells) name cell same =
    ap (λ (cs : List LoadedCell). with_name n c ∷ cs) (one_appended names cells name cell (omega (arith, same)))

pub cell_seen : (names : List (List ℕ)) (cells : List UnnamedCell) (at : ℕ) (name : List ℕ) (cell : UnnamedCell) → slice_get names at ≡ Some name →
    slice_get cells at ≡ Some cell → slice_get (with_names names cells) at ≡ Some (with_name name cell)
cell_seen [] cells at name cell is_name is_cell = absurd cc
cell_seen (n ∷ names) [] at name cell is_name is_cell = absurd cc
cell_seen (n ∷ names) (c ∷ cells) zero name cell is_name is_cell =
    let same_name : n ≡ name = cc in
    let same_cell : c ≡ cell = cc in
    ap (λ (m : List ℕ). Some (with_name m c)) same_name ∙ ap (λ (d : UnnamedCell). Some (with_name name d)) same_cell
cell_seen (n ∷ names) (c ∷ cells) (suc at) name cell is_name is_cell = cell_seen names cells at name cell is_name is_cell

pub unnamed : (names : List (List ℕ)) (cells : List UnnamedCell) (at : ℕ) → slice_get names at ≡ None → slice_get (with_names names cells) at ≡ None
unnamed [] cells at none = refl
unnamed (n ∷ names) [] at none = refl
unnamed (n ∷ names) (c ∷ cells) zero none = absurd cc
unnamed (n ∷ names) (c ∷ cells) (suc at) none = unnamed names cells at none

pub no_cell : (names : List (List ℕ)) (cells : List UnnamedCell) (at : ℕ) → slice_get cells at ≡ None → slice_get (with_names names cells) at ≡ None
no_cell [] cells at none = refl
no_cell (n ∷ names) [] at none = refl
no_cell (n ∷ names) (c ∷ cells) zero none = absurd cc
no_cell (n ∷ names) (c ∷ cells) (suc at) none = no_cell names cells at none
