-- The unplaced cells of a team: the first, and their number.
use Rattle.std.proofs.Common.{◌≡◌, ◌≢◌, ⊎_elim, ◌<◌, ℕ, zero, suc, ◌+◌, List, [], ◌∷◌, length, get_or, Bool, true, false, cond, ltb, Some, None, refl, ap, sym, take, ◌∙◌, arith}
use Rattle.std.specs.Prelude.{count_by, is_none}
use Rattle.std.proofs.lemmas.Bool.{cases_eq, lt-ltb, ltb-true}
use Rattle.std.proofs.lemmas.List.Sums.{count_by_more_no, count_by_more_yes, position_or_len_is}
use Rattle.lf_cells.specs.declared.cell.Cell.{Cell}
use Rattle.lf_cells.specs.Cells.{working_at}
use Rattle.lf_floor_model.specs.Changes.{first_unplaced}

no_cell : Cell
no_cell = record { name = []; mac = 0; working = None; committed = None }

is_placed_at : (cells : List Cell) (k : ℕ) (d : Cell) → k < length cells → (get_or cells k d).working ≡ working_at cells k
is_placed_at [] k d within = absurd (omega (arith, within))
is_placed_at (c ∷ cs) zero d within = refl
is_placed_at (c ∷ cs) (suc k) d within = is_placed_at cs k d (omega (arith, within))

-- the cells up to it are placed, and it is not
pub first_at : (cells : List Cell) (k : ℕ) → ((i : ℕ) → i < k → is_none (working_at cells i) ≡ false) → k < length cells → is_none (working_at cells k) ≡ true
    → first_unplaced cells ≡ Some k
first_at cells k before within here =
    ap (λ (n : ℕ). cond (ltb n (length cells)) (Some n) None)
    (position_or_len_is (λ (c : Cell). is_none c.working) cells k no_cell (omega (arith, within))
    (λ i less. ap is_none (is_placed_at cells i no_cell (omega (arith, less, within))) ∙ before i less)
    (λ less. ap is_none (is_placed_at cells k no_cell within) ∙ here))
    ∙ ap (λ (b : Bool). cond b (Some k) None) (lt-ltb k (length cells) within)

-- all cells are placed
pub none_at : (cells : List Cell) → ((i : ℕ) → i < length cells → is_none (working_at cells i) ≡ false) → first_unplaced cells ≡ None
none_at cells placed =
    ap (λ (n : ℕ). cond (ltb n (length cells)) (Some n) None)
    (position_or_len_is (λ (c : Cell). is_none c.working) cells (length cells) no_cell (omega arith)
    (λ i less. ap is_none (is_placed_at cells i no_cell less) ∙ placed i less) (λ less. absurd (omega (arith, less))))
    ∙ ap (λ (b : Bool). cond b (Some (length cells)) None) (never (ltb (length cells) (length cells)) refl)
  where
    never : (b : Bool) → ltb (length cells) (length cells) ≡ b → b ≡ false
    never false is = refl
    never true is = absurd (omega (arith, ltb-true (length cells) (length cells) is))

-- one more cell is placed
pub one_more_placed : (cells : List Cell) (k : ℕ) → ((i : ℕ) → i < k → is_none (working_at cells i) ≡ false) → is_none (working_at cells k) ≡ false
    → (i : ℕ) → i < k + 1 → is_none (working_at cells i) ≡ false
one_more_placed cells k before here i less = ⊎_elim
    (λ (same : i ≡ k). ap (λ (n : ℕ). is_none (working_at cells n)) same ∙ here)
    (λ (differ : i ≢ k). before i (omega (arith, less, differ)))
    (cases_eq i k)

-- ---- the number of unplaced cells

-- one more cell is unplaced
pub counted_yes : (cells : List Cell) (k count : ℕ) → k < length cells → is_none (working_at cells k) ≡ true → count ≡ count_by (λ c. is_none c.working) (take k cells)
    → count + 1 ≡ count_by (λ c. is_none c.working) (take (k + 1) cells)
counted_yes cells k count within here is =
    ap (λ (n : ℕ). n + 1) is
    ∙ sym (count_by_more_yes (λ (c : Cell). is_none c.working) cells k no_cell within (ap is_none (is_placed_at cells k no_cell within) ∙ here))

-- one more cell is placed
pub counted_no : (cells : List Cell) (k count : ℕ) → k < length cells → is_none (working_at cells k) ≡ false → count ≡ count_by (λ c. is_none c.working) (take k cells)
    → count ≡ count_by (λ c. is_none c.working) (take (k + 1) cells)
counted_no cells k count within here is =
    is ∙ sym (count_by_more_no (λ (c : Cell). is_none c.working) cells k no_cell within (ap is_none (is_placed_at cells k no_cell within) ∙ here))
