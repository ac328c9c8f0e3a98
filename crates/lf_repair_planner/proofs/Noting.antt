-- One more spot in a plan that is filled from left to right.
use Rattle.std.proofs.Common.{◌≡◌, ◌≢◌, ◌⊎◌, inl, inr, ⊎_elim, ℕ, zero, suc, ◌+◌, ◌*◌, ◌<◌, ◌≤◌, List, [], ◌∷◌, length, map, set, Option, Some, None, refl, sym, ap, ◌∙◌, subst, arith}
use Rattle.std.specs.Prelude.{slice_get, slice_index_or}
use Rattle.std.specs.Option.{option_map}
use Rattle.std.proofs.lemmas.Bool.{cases_eq}
use Rattle.std.proofs.lemmas.Option.{same_Some, slice_get-map, get_or_from_slice_get}
use Rattle.lf_repair_planner.specs.declared.free_rows.FreeSpan.{FreeSpan}
use Rattle.lf_repair_planner.specs.declared.plan.PlannedSite.{PlannedSite}
use Rattle.lf_repair_planner.specs.declared.plan.PlannerCell.{PlannerCell}
use Rattle.lf_repair_planner.specs.Plans.{IsFilledTo, room_at, start_at, end_at}

set_same : {X : Type 0} (xs : List X) (i : ℕ) (w : X) → i < length xs → slice_get (set xs i w) i ≡ Some w
set_same [] i w h = absurd (omega arith)
set_same (x ∷ xs) zero w h = refl
set_same (x ∷ xs) (suc i) w h = set_same xs i w (omega arith)

set_other : {X : Type 0} (xs : List X) (i j : ℕ) (w : X) → j ≢ i → slice_get (set xs i w) j ≡ slice_get xs j
set_other [] i j w h = refl
set_other (x ∷ xs) zero zero w h = absurd (h refl)
set_other (x ∷ xs) zero (suc j) w h = refl
set_other (x ∷ xs) (suc i) zero w h = refl
set_other (x ∷ xs) (suc i) (suc j) w h = set_other xs i j w (λ e. h (ap suc e))

mapped_at : {X : Type 0} (f : X → ℕ) (xs : List X) (i : ℕ) (x : X) → slice_get xs i ≡ Some x → slice_index_or (map f xs) i 0 ≡ f x
mapped_at f xs i x at = get_or_from_slice_get (map f xs) i (f x) 0 (slice_get-map f xs i ∙ ap (option_map f) at)

-- one more spot, right of the others
pub one_more : (spans : List FreeSpan) (wishes : List PlannerCell) (span own free at : ℕ) (sites : FreeSpan) (wish : PlannerCell) (spots : List (Option PlannedSite))
    → IsFilledTo spans wishes span free spots
    → slice_get spans span ≡ Some sites → slice_get wishes own ≡ Some wish → slice_get spots own ≡ Some None
    → span < length spans → own < length spots → free ≤ at * sites.step → at * sites.step + wish.width ≤ sites.count * sites.step
    → IsFilledTo spans wishes span (at * sites.step + wish.width) (set spots own (Some (record { span = span; at = at })))
one_more spans wishes span own free at sites wish spots filled span_is wish_is none spanned within after_it ends = record {
  plan = record { spanned = new_spanned; within = new_within; apart = new_apart };
  before = new_before;
} where
  here : PlannedSite
  here = record { span = span; at = at }

  step_is : slice_index_or (map (λ (s : FreeSpan). s.step) spans) span 0 ≡ sites.step
  step_is = mapped_at (λ (s : FreeSpan). s.step) spans span sites span_is

  room_is : room_at spans here ≡ sites.count * sites.step
  room_is = mapped_at (λ (s : FreeSpan). s.count * s.step) spans span sites span_is

  width_is : slice_index_or (map (λ (w : PlannerCell). w.width) wishes) own 0 ≡ wish.width
  width_is = mapped_at (λ (w : PlannerCell). w.width) wishes own wish wish_is

  start_is : start_at spans here ≡ at * sites.step
  start_is = ap (λ (n : ℕ). at * n) step_is

  end_is : end_at spans wishes own here ≡ at * sites.step + wish.width
  end_is = ap (λ (n : ℕ). n + slice_index_or (map (λ (w : PlannerCell). w.width) wishes) own 0) start_is ∙ ap (λ (n : ℕ). at * sites.step + n) width_is

  Which : ℕ → PlannedSite → Type 0
  Which j spot = ((j ≡ own) × (spot ≡ here)) ⊎ ((j ≢ own) × (slice_get spots j ≡ Some (Some spot)))

  which : (j : ℕ) (spot : PlannedSite) → slice_get (set spots own (Some here)) j ≡ Some (Some spot) → Which j spot
  which j spot is = ⊎_elim
      (λ (same : j ≡ own). inl (
        same,
        sym (same_Some here spot (same_Some (Some here) (Some spot)
            (sym (set_same spots own (Some here) within) ∙ ap (slice_get (set spots own (Some here))) (sym same) ∙ is))),
      ))
      (λ (differ : j ≢ own). inr (differ, sym (set_other spots own j (Some here) differ) ∙ is))
      (cases_eq j own)

  new_spanned : (j : ℕ) (spot : PlannedSite) → slice_get (set spots own (Some here)) j ≡ Some (Some spot) → spot.span < length spans
  new_spanned j spot is = elim (which j spot is) [
    | inl new ↦ subst (λ (s : PlannedSite). s.span < length spans) (sym new.1) spanned
    | inr old ↦ filled.plan.spanned j spot old.1
  ]

  here_within : end_at spans wishes own here ≤ room_at spans here
  here_within = omega (arith, end_is, room_is, ends)

  new_within : (j : ℕ) (spot : PlannedSite) → slice_get (set spots own (Some here)) j ≡ Some (Some spot) → end_at spans wishes j spot ≤ room_at spans spot
  new_within j spot is = elim (which j spot is) [
    | inl new ↦ subst (λ (k : ℕ). end_at spans wishes k spot ≤ room_at spans spot) (sym new.0) (subst (λ (s : PlannedSite). end_at spans wishes own s ≤ room_at spans s) (sym new.1) here_within)
    | inr old ↦ filled.plan.within j spot old.1
  ]

  -- an old spot of this span ends no later than the new one begins
  ends_before : (j : ℕ) (spot : PlannedSite) → slice_get spots j ≡ Some (Some spot) → spot.span ≡ span → end_at spans wishes j spot ≤ start_at spans here
  ends_before j spot is same = elim (filled.before j spot is) [
    | inl less ↦ absurd (omega (arith, less, same))
    | inr by ↦ omega (arith, by.1, after_it, start_is)
  ]

  Apart : ℕ → ℕ → PlannedSite → PlannedSite → Type 0
  Apart a b spot other = (end_at spans wishes a spot ≤ start_at spans other) ⊎ (end_at spans wishes b other ≤ start_at spans spot)

  new_apart : (a b : ℕ) (spot other : PlannedSite) → a ≢ b → slice_get (set spots own (Some here)) a ≡ Some (Some spot)
      → slice_get (set spots own (Some here)) b ≡ Some (Some other) → spot.span ≡ other.span → Apart a b spot other
  new_apart a b spot other differ is there same = go (which a spot is) (which b other there) where
    go : Which a spot → Which b other → Apart a b spot other
    go (inl new) (inl new') = absurd (differ (new.0 ∙ sym new'.0))
    go (inl new) (inr old) =
        inr (subst (λ (s : PlannedSite). end_at spans wishes b other ≤ start_at spans s) (sym new.1)
        (ends_before b other old.1 (sym same ∙ ap (λ (s : PlannedSite). s.span) new.1)))
    go (inr old) (inl new) =
        inl (subst (λ (s : PlannedSite). end_at spans wishes a spot ≤ start_at spans s) (sym new.1)
        (ends_before a spot old.1 (same ∙ ap (λ (s : PlannedSite). s.span) new.1)))
    go (inr old) (inr old') = filled.plan.apart a b spot other differ old.1 old'.1 same

  new_before : (j : ℕ) (spot : PlannedSite) → slice_get (set spots own (Some here)) j ≡ Some (Some spot)
      → (spot.span < span) ⊎ ((spot.span ≡ span) × (end_at spans wishes j spot ≤ at * sites.step + wish.width))
  new_before j spot is = elim (which j spot is) [
    | inl new ↦ inr (
      ap (λ (s : PlannedSite). s.span) new.1,
      subst (λ (k : ℕ). end_at spans wishes k spot ≤ at * sites.step + wish.width) (sym new.0)
          (subst (λ (s : PlannedSite). end_at spans wishes own s ≤ at * sites.step + wish.width) (sym new.1) (omega (arith, end_is))),
    )
    | inr old ↦ elim (filled.before j spot old.1) [
      | inl less ↦ inl less
      | inr by ↦ inr (by.0, omega (arith, by.1, after_it))
    ]
  ]
