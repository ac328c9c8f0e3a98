-- The values that the loops of a report collect.
use Rattle.std.proofs.Common.{◌≡◌, ℕ, zero, suc, ◌+◌, List, [], ◌∷◌, ◌++◌, Option, Some, None, refl, ap, sym, ◌∙◌, arith}
use Rattle.std.specs.Prelude.{slice_get, filter_map, option_map, option_and_then}
use Rattle.std.specs.List.{range_with_len, cons_option}
use Rattle.lf_floorplan.specs.declared.frame.Frame.{Frame}
use Rattle.lf_floorplan.specs.declared.place.Place.{Place}
use Rattle.lf_rules.specs.declared.rule.Broken.{Broken}
use Rattle.lf_rules.specs.declared.report_types.Listed.{Listed}
use Rattle.lf_rules.specs.Legalizer.{Legalizer, IsVerdict, VerdictIsUnique}
use Rattle.lf_reports.specs.Reports.{IsListed, candidate_among, broken_among, violation_of, violation_by, violation_at}

-- A verdict on the cell's candidate is that of every legalizer.
pub broken_is : (l : Legalizer) (f : Frame) (padding : ℕ) (cells : List (Listed (List ℕ))) (own : ℕ) (c : Listed (List ℕ)) (place : Place) (found : Option Broken) →
    VerdictIsUnique → IsListed f c → IsVerdict (candidate_among f padding cells own c place) found → found ≡ l.first_broken (candidate_among f padding cells own c place)
broken_is l f padding cells own c place found one listed verdict =
    one (candidate_among f padding cells own c place) found (l.first_broken (candidate_among f padding cells own c place)) verdict (l.finds_first_broken (candidate_among f padding cells own c place) listed.sized)

-- The value that one more number adds to the list of values.
found_more : {Y : Type 0} (g : ℕ → Option Y) (a n : ℕ) →
    filter_map g (range_with_len a (suc n)) ≡ filter_map g (range_with_len a n) ++ cons_option (g (a + n)) []
found_more {Y = Y} g a zero = ap (λ (m : ℕ). cons_option (g m) []) (omega arith)
found_more {Y = Y} g a (suc n) =
    ap (cons_option (g a)) (found_more g (a + 1) n ∙ ap (λ (m : ℕ). filter_map g (range_with_len (a + 1) n) ++ cons_option (g m) []) (omega arith))
    ∙ onto (g a) (filter_map g (range_with_len (a + 1) n)) (cons_option (g (a + suc n)) [])
  where
    onto : (o : Option Y) (xs ys : List Y) → cons_option o (xs ++ ys) ≡ cons_option o xs ++ ys
    onto None xs ys = refl
    onto (Some y) xs ys = refl

pub reported_more : {Y : Type 0} (g : ℕ → Option Y) (n : ℕ) (old new : List Y) → new ≡ old ++ cons_option (g n) [] → old ≡ filter_map g (range_with_len 0 n) →
    new ≡ filter_map g (range_with_len 0 (n + 1))
reported_more {Y = Y} g n old new is found =
    let next : n + 1 ≡ suc n = omega arith in
    let at : 0 + n ≡ n = omega arith in
    is ∙ ap (λ (xs : List Y). xs ++ cons_option (g n) []) found
    ∙ sym (ap (λ (k : ℕ). filter_map g (range_with_len 0 k)) next ∙ found_more g 0 n ∙ ap (λ (m : ℕ). filter_map g (range_with_len 0 n) ++ cons_option (g m) []) at)

-- The cell with this number breaks this rule, or no rule.
pub reported_at : (l : Legalizer) (f : Frame) (padding : ℕ) (cells : List (Listed (List ℕ))) (own : ℕ) (c : Listed (List ℕ)) (o : Option Broken) → slice_get cells own ≡ Some c →
    o ≡ broken_among l f padding cells own c → violation_at l f padding cells own ≡ option_map (violation_of cells c) o
reported_at l f padding cells own c o there is = ap (option_and_then (violation_by l f padding cells own)) there ∙ ap (option_map (violation_of cells c)) (sym is)

-- `None` adds nothing.
pub reported_none : {Y : Type 0} (xs : List Y) (o : Option Y) → o ≡ None → xs ≡ xs ++ cons_option o []
reported_none {Y = Y} [] o e = sym (ap (λ (p : Option Y). cons_option p []) e)
reported_none {Y = Y} (x ∷ xs) o e = ap (λ (ys : List Y). x ∷ ys) (reported_none xs o e)
