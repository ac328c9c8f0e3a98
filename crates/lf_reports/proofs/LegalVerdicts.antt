-- The verdicts of a design's cells decide whether it is fully legal.
use Rattle.std.proofs.Common.{◌≡◌, ◌∙◌, ℕ, zero, suc, ◌+◌, ◌<◌, List, [], ◌∷◌, length, cond, Option, Some, None, refl, sym, ap, subst, arith}
use Rattle.std.specs.Prelude.{◌↔◌, All, count_by, filter, filter_map, is_none, is_some, option_map, option_and_then, slice_get}
use Rattle.std.specs.List.{range_with_len, cons_option}
use Rattle.std.proofs.lemmas.Bool.{false≢true}
use Rattle.std.proofs.lemmas.List.Sums.{length-filter, sum_by-cons}
use Rattle.std.proofs.lemmas.Option.{slice_get_within, get_or_from_slice_get}
use Rattle.lf_floorplan.specs.declared.frame.Frame.{Frame}
use Rattle.lf_floorplan.specs.declared.loaded.LoadedCell.{LoadedCell}
use Rattle.lf_floorplan.specs.declared.place.Place.{Place}
use Rattle.lf_floorplan.specs.Design.{IsCell, CellIsSized}
use Rattle.lf_rules.specs.declared.rule.Broken.{Broken}
use Rattle.lf_rules.specs.declared.report_types.Listed.{Listed}
use Rattle.lf_rules.specs.declared.report_types.Violation.{Violation}
use Rattle.lf_rules.specs.FullyLegal.{DesignCell, IsFullyLegal, design_cells_at}
use Rattle.lf_rules.specs.Legalizer.{Legalizer}
use Rattle.lf_rules.specs.Reports.{IsClean}
use Rattle.lf_reports.specs.Reports.{AreVerdicts, IsFaultless, broken_among, listed_at, report_of, verdict_at, violation_at, violation_by, violation_of, violations_in}
use Rattle.lf_reports.proofs.CleanLemmas.{all_listed, clean_is_legal, design_cells_listed}

-- ---- there are as many verdicts with a broken rule as violations

counted : {Y V : Type 0} (g : ℕ → Option Y) (n : ℕ) (vs : List (Option V)) →
    ((k : ℕ) (v : Option V) → slice_get vs k ≡ Some v → is_some (g (n + k)) ≡ is_some v) →
    length (filter_map g (range_with_len n (length vs))) ≡ length (filter is_some vs)
counted g n [] same = refl
counted {Y = Y} {V = V} g n (v ∷ vs) same =
    step (g n) v (filter_map g (range_with_len (n + 1) (length vs))) (subst (λ (m : ℕ). is_some (g m) ≡ is_some v) (omega arith) (same 0 v refl))
    (counted g (n + 1) vs (λ k u at. subst (λ (m : ℕ). is_some (g m) ≡ is_some u) (omega arith) (same (suc k) u at)))
  where
    step : (o : Option Y) (u : Option V) (rest : List Y) → is_some o ≡ is_some u → length rest ≡ length (filter is_some vs) →
        length (cons_option o rest) ≡ length (filter is_some (u ∷ vs))
    step None None rest e h = h
    step (Some y) (Some u) rest e h = ap suc h
    step None (Some u) rest e h = absurd (false≢true e)
    step (Some y) None rest e h = absurd (false≢true (sym e))

there_is : {X : Type 0} (xs : List X) (k : ℕ) → k < length xs → (x : X) × (slice_get xs k ≡ Some x)
there_is [] k less = absurd (omega (arith, less))
there_is (x ∷ xs) zero less = (x, refl)
there_is (x ∷ xs) (suc k) less = there_is xs k (omega (arith, less))

is_some_map : {X Y : Type 0} (h : X → Y) (o : Option X) → is_some (option_map h o) ≡ is_some o
is_some_map h None = refl
is_some_map h (Some x) = refl

pub illegal_are : (l : Legalizer) (f : Frame) (cells : List (Listed (List ℕ))) (verdicts : List (Option Broken)) → AreVerdicts l f 0 cells verdicts →
    count_by is_some verdicts ≡ length (violations_in l f 0 cells)
illegal_are l f cells verdicts are =
    sym (length-filter is_some verdicts) ∙ sym (counted (violation_at l f 0 cells) 0 verdicts (λ k v at. by k v at))
    ∙ ap (λ (n : ℕ). length (filter_map (violation_at l f 0 cells) (range_with_len 0 n))) are.count
  where
    here : (own : ℕ) (v : Option Broken) (c : Listed (List ℕ)) → verdict_at verdicts own ≡ v → slice_get cells own ≡ Some c → is_some (violation_at l f 0 cells own) ≡ is_some v
    here own v c is there =
        ap (λ (o : Option (Listed (List ℕ))). is_some (option_and_then (violation_by l f 0 cells own) o)) there
        ∙ is_some_map (violation_of cells c) (broken_among l f 0 cells own c) ∙ ap is_some (sym (are.each own c there) ∙ is)

    by : (k : ℕ) (v : Option Broken) → slice_get verdicts k ≡ Some v → is_some (violation_at l f 0 cells (0 + k)) ≡ is_some v
    by k v at =
        let there = there_is cells k (subst (λ (n : ℕ). k < n) are.count (slice_get_within verdicts k v at)) in
        subst (λ (n : ℕ). is_some (violation_at l f 0 cells n) ≡ is_some v) (omega arith) (here k v there.0 (get_or_from_slice_get verdicts k v None at) there.1)

-- ---- a design is fully legal if and only if it has no fault

-- There are as many unplaced cells as places that are `None`.
pub unplaced_are : (cells : List LoadedCell) (places : List (Option Place)) → length places ≡ length cells →
    count_by is_none places ≡ count_by (λ c. is_none c.place) (listed_at cells places)
unplaced_are [] [] long = refl
unplaced_are [] (p ∷ places) long = absurd cc
unplaced_are (c ∷ cells) [] long = absurd cc
unplaced_are (c ∷ cells) (p ∷ places) long =
    sum_by-cons (λ (x : Option Place). cond (is_none x) 1 0) p places
    ∙ ap (λ (n : ℕ). cond (is_none p) 1 0 + n) (unplaced_are cells places (omega (arith, long)))
    ∙ sym (sum_by-cons (λ (x : Listed (List ℕ)). cond (is_none x.place) 1 0) (record { name = c.name; team = c.team; mac = c.mac; place = p }) (listed_at cells places))

-- The report of a design at these places is clean if and only if the design is then fully legal.
pub clean_there : (l : Legalizer) (f : Frame) (cells : List LoadedCell) (places : List (Option Place)) → CellIsSized → All (IsCell f) cells →
    IsClean (report_of l f 0 (listed_at cells places)) ↔ IsFullyLegal f (design_cells_at cells places)
clean_there l f cells places sized known =
    subst (λ (design : List DesignCell). IsClean (report_of l f 0 (listed_at cells places)) ↔ IsFullyLegal f design) (design_cells_listed cells places)
    (clean_is_legal l f (listed_at cells places) (all_listed f sized cells places known))

length_nil : {Y : Type 0} (ys : List Y) → length ys ≡ 0 → ys ≡ []
length_nil [] e = refl
length_nil (y ∷ ys) e = absurd cc

pub legal_by_verdicts : (l : Legalizer) (f : Frame) (cells : List LoadedCell) (places : List (Option Place)) (verdicts : List (Option Broken)) → CellIsSized → All (IsCell f) cells →
    length places ≡ length cells → AreVerdicts l f 0 (listed_at cells places) verdicts → IsFaultless places verdicts ↔ IsFullyLegal f (design_cells_at cells places)
legal_by_verdicts l f cells places verdicts sized known long are =
    let listed = listed_at cells places in
    let unplaced = unplaced_are cells places long in
    let illegal = illegal_are l f listed verdicts are in
    let law = clean_there l f cells places sized known in (
      λ faultless. law.0 (record {
        all_placed = sym unplaced ∙ faultless.all_placed;
        none_broken = length_nil (violations_in l f 0 listed) (sym illegal ∙ faultless.none_broken);
      }),
      λ legal. record {
        all_placed = unplaced ∙ (law.1 legal).all_placed;
        none_broken = illegal ∙ ap (λ (violations : List Violation). length violations) (law.1 legal).none_broken;
      },
    )

-- The verdicts of cells are those of equal cells.
pub verdicts_moved : (l : Legalizer) (f : Frame) → {cells same : List (Listed (List ℕ))} → cells ≡ same → {verdicts items : List (Option Broken)} → verdicts ≡ items →
    AreVerdicts l f 0 same items → AreVerdicts l f 0 cells verdicts
verdicts_moved l f {cells = cells} {same = same} one {verdicts = verdicts} two are =
    subst (λ (cs : List (Listed (List ℕ))). AreVerdicts l f 0 cs verdicts) (sym one) (subst (λ (vs : List (Option Broken)). AreVerdicts l f 0 same vs) (sym two) are)
