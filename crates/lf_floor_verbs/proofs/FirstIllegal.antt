-- The first of a team's cells that breaks a rule at its working place.
use Rattle.std.proofs.Common.{◌≡◌, ◌≢◌, ⊎_elim, ◌∙◌, ◌<◌, ℕ, zero, suc, ◌+◌, List, [], length, Option, Some, None, refl, sym, ap, zero-add, arith}
use Rattle.std.specs.Prelude.{slice_get, filter_map, option_map}
use Rattle.std.specs.List.{range_with_len, cons_option}
use Rattle.std.proofs.lemmas.Bool.{cases_eq}
use Rattle.lf_rules.specs.declared.rule.Broken.{Broken}
use Rattle.lf_reports.specs.declared.broken_cell.BrokenCell.{BrokenCell}
use Rattle.lf_cells.specs.declared.cell.Cell.{Cell}
use Rattle.lf_floor_model.specs.Teams.{TeamRules}
use Rattle.lf_floor_model.specs.Changes.{broken_cells, broken_where}

-- ---- what is found at the numbers of a range

first_of : {Y : Type 0} (g : ℕ → Option Y) (a n k : ℕ) (y : Y) → ((i : ℕ) → i < k → g (a + i) ≡ None) → k < n → g (a + k) ≡ Some y
    → Some y ≡ slice_get (filter_map g (range_with_len a n)) 0
first_of g a zero k y before within here = absurd (omega (arith, within))
first_of {Y = Y} g a (suc n) zero y before within here =
    let at : a ≡ a + 0 = omega arith in
    sym (ap (λ (o : Option Y). slice_get (cons_option o (filter_map g (range_with_len (a + 1) n))) 0) (ap g at ∙ here))
first_of {Y = Y} g a (suc n) (suc k) y before within here =
    let at : a ≡ a + 0 = omega arith in
    let next : a + 1 + k ≡ a + suc k = omega arith in
    first_of g (a + 1) n k y (λ i less. let to : a + 1 + i ≡ a + suc i = omega arith in ap g to ∙ before (suc i) (omega (arith, less)))
    (omega (arith, within)) (ap g next ∙ here)
    ∙ sym (ap (λ (o : Option Y). slice_get (cons_option o (filter_map g (range_with_len (a + 1) n))) 0) (ap g at ∙ before 0 (omega arith)))

none_of : {Y : Type 0} (g : ℕ → Option Y) (a n : ℕ) → ((i : ℕ) → i < n → g (a + i) ≡ None) → filter_map g (range_with_len a n) ≡ []
none_of g a zero none = refl
none_of {Y = Y} g a (suc n) none =
    let at : a ≡ a + 0 = omega arith in
    ap (λ (o : Option Y). cons_option o (filter_map g (range_with_len (a + 1) n))) (ap g at ∙ none 0 (omega arith))
    ∙ none_of g (a + 1) n (λ i less. let to : a + 1 + i ≡ a + suc i = omega arith in ap g to ∙ none (suc i) (omega (arith, less)))

-- ---- the cells of a team

abbrev numbered : ℕ → Option Broken → Option BrokenCell
numbered own verdict = option_map (λ broken. record { own = own; broken = broken }) verdict

-- the cells up to it break no rule, and it breaks one
pub first_found : (t : TeamRules) (cells : List Cell) (own : ℕ) (broken : Broken) → ((i : ℕ) → i < own → None ≡ broken_where t cells i) → own < length cells
    → Some broken ≡ broken_where t cells own → Some (record { own = own; broken = broken }) ≡ slice_get (broken_cells t cells) 0
first_found t cells own broken before within here =
    first_of (λ (k : ℕ). numbered k (broken_where t cells k)) 0 (length cells) own (record { own = own; broken = broken })
    (λ i less. ap (λ (k : ℕ). numbered k (broken_where t cells k)) (zero-add i) ∙ ap (numbered i) (sym (before i less))) within
    (ap (λ (k : ℕ). numbered k (broken_where t cells k)) (zero-add own) ∙ ap (numbered own) (sym here))

-- no cell breaks a rule
pub none_found : (t : TeamRules) (cells : List Cell) → ((i : ℕ) → i < length cells → None ≡ broken_where t cells i) → None ≡ slice_get (broken_cells t cells) 0
none_found t cells none =
    sym (ap (λ (found : List BrokenCell). slice_get found 0)
    (none_of (λ (k : ℕ). numbered k (broken_where t cells k)) 0 (length cells)
    (λ i less. ap (λ (k : ℕ). numbered k (broken_where t cells k)) (zero-add i) ∙ ap (numbered i) (sym (none i less)))))

-- one more cell breaks no rule
pub one_more_unbroken : (t : TeamRules) (cells : List Cell) (k : ℕ) → ((i : ℕ) → i < k → None ≡ broken_where t cells i) → None ≡ broken_where t cells k
    → (i : ℕ) → i < k + 1 → None ≡ broken_where t cells i
one_more_unbroken t cells k before here i less = ⊎_elim
    (λ (same : i ≡ k). here ∙ ap (λ (n : ℕ). broken_where t cells n) (sym same))
    (λ (differ : i ≢ k). before i (omega (arith, less, differ)))
    (cases_eq i k)
