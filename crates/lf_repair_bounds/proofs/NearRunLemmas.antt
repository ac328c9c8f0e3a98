-- The walks over the runs of rows: the least distance, and the widest of the near ones.
use Rattle.std.proofs.Common.{◌≡◌, ◌⊎◌, inl, inr, ℕ, ◌+◌, ◌-◌, ◌<◌, ◌≤◌, min, max, List, [], length, get_or, refl, sym, subst, arith}
use Rattle.std.specs.Prelude.{Any}
use Rattle.std.proofs.lemmas.List.{get_or_default}
use Rattle.lf_units.specs.declared.geometry.Point.{Point}
use Rattle.lf_repair_bounds.specs.declared.near_runs.RowRun.{RowRun}
use Rattle.lf_repair_bounds.specs.NearRuns.{IsLeastDistance, IsNearRowRun, run_distance}

below_or_at : (m k : ℕ) → m < k + 1 → (m < k) ⊎ (m ≡ k)
below_or_at m k less = grind arith

two : (a b : ℕ) → (a ≤ b) ⊎ (b < a)
two a b = grind arith

at_default : (xs : List RowRun) (k : ℕ) (d e : RowRun) (P : RowRun → Type 0) → k < length xs → P (get_or xs k d) → P (get_or xs k e)
at_default xs k d e P within p = subst P (get_or_default xs k d e within) p

one_at : (P : RowRun → Type 0) (xs : List RowRun) (n : ℕ) (d : RowRun) → n < length xs → P (get_or xs n d) → Any P xs
one_at P xs n d within p = (n, get_or xs n d, within, get_or_default xs n (get_or xs n d) d within, p)

-- ---- the least distance

pub record Nearest (target : Point) (runs : List RowRun) (n least : ℕ) : Type 0 where
  pub is_one : (runs ≡ []) ⊎ Any (λ run. run_distance target run ≡ least) runs
  pub no_less : (k : ℕ) (d : RowRun) → k < n → least ≤ run_distance target (get_or runs k d)

nearest_more : (target : Point) (runs : List RowRun) (n least : ℕ) (d : RowRun) → n < length runs → Nearest target runs n least
    → Nearest target runs (n + 1) (min least (run_distance target (get_or runs n d)))
nearest_more target runs n least d within w = record {
  is_one = elim (two least now) [
    | inl h ↦ let same : min least now ≡ least = omega (arith, h) in rw same w.is_one
    | inr h ↦
        let same : min least now ≡ now = omega (arith, h) in
        rw same (inr (one_at (λ run. run_distance target run ≡ now) runs n d within refl))
  ];
  no_less = λ k e below. elim (below_or_at k n below) [
    | inl h ↦ let old = w.no_less k e h in omega (arith, old)
    | inr h ↦
        let Bounded : ℕ → Type 0 = λ m. min least now ≤ run_distance target (get_or runs m e) in
        subst Bounded (sym h) (at_default runs n d e (λ u. min least now ≤ run_distance target u) within (omega arith))
  ];
}
  where
    now : ℕ
    now = run_distance target (get_or runs n d)

-- the same, by the values that the walk computed
pub nearest_on : (target : Point) (runs : List RowRun) (n least now new : ℕ) (d : RowRun) → now ≡ run_distance target (get_or runs n d) → n < length runs
    → new ≡ min least now → Nearest target runs n least → Nearest target runs (n + 1) new
nearest_on target runs n least now new d at within is w = rw is (rw at (nearest_more target runs n least d within w))

-- ---- the widest run

-- the run is near, by its distance and the least one
near_of_least : (target : Point) (far : ℕ) (runs : List RowRun) (least : ℕ) (run : RowRun) → IsLeastDistance target runs least
    → run_distance target run - least ≤ far → IsNearRowRun target far runs run
near_of_least target far runs least run is near k d inside = let no_less = is.no_less k d inside in omega (arith, near, no_less)

least_of_near : (target : Point) (far : ℕ) (runs : List RowRun) (least n : ℕ) (d : RowRun) → n < length runs → IsLeastDistance target runs least
    → IsNearRowRun target far runs (get_or runs n d) → run_distance target (get_or runs n d) - least ≤ far
least_of_near target far runs least n d within is near = elim is.is_one [
  | inl none ↦ absurd (no_element none)
  | inr one ↦
      let at : run_distance target (get_or runs n d) ≤ (run_distance target (get_or runs one.0 one.1) + far) = near one.0 one.1 one.2 in
      let bound : run_distance target (get_or runs n d) ≤ (run_distance target one.1 + far) =
      subst (λ (u : RowRun). run_distance target (get_or runs n d) ≤ (run_distance target u + far)) one.3 at in
      let is_least : run_distance target one.1 ≡ least = one.4 in
      omega (arith, bound, is_least)
]
  where
    no_element : runs ≡ [] → ⊥
    no_element none = let empty : length runs ≡ 0 = rw none refl in omega (arith, empty, within)

pub record Widest (target : Point) (far : ℕ) (runs : List RowRun) (n widest : ℕ) : Type 0 where
  pub is_one : (widest ≡ 0) ⊎ Any (λ run. IsNearRowRun target far runs run × (run.width ≡ widest)) runs
  pub no_wider : (k : ℕ) (d : RowRun) → k < n → IsNearRowRun target far runs (get_or runs k d) → (get_or runs k d).width ≤ widest

-- one more run, whose width counts if it is near
widest_more : (target : Point) (far : ℕ) (runs : List RowRun) (n widest : ℕ) (d : RowRun) → n < length runs
    → IsNearRowRun target far runs (get_or runs n d) → Widest target far runs n widest
    → Widest target far runs (n + 1) (max widest (get_or runs n d).width)
widest_more target far runs n widest d within near w = record {
  is_one = elim (two (get_or runs n d).width widest) [
    | inl h ↦ let same : max widest (get_or runs n d).width ≡ widest = omega (arith, h) in rw same w.is_one
    | inr h ↦
        let same : max widest (get_or runs n d).width ≡ (get_or runs n d).width = omega (arith, h) in
        rw same (inr (one_at (λ run. IsNearRowRun target far runs run × (run.width ≡ (get_or runs n d).width)) runs n d within (near, refl)))
  ];
  no_wider = λ k e below is. elim (below_or_at k n below) [
    | inl h ↦ let old = w.no_wider k e h is in omega (arith, old)
    | inr h ↦
        let Bounded : ℕ → Type 0 = λ m. (get_or runs m e).width ≤ max widest (get_or runs n d).width in
        subst Bounded (sym h) (at_default runs n d e (λ u. u.width ≤ max widest (get_or runs n d).width) within (omega arith))
  ];
}

widest_skip : (target : Point) (far : ℕ) (runs : List RowRun) (n widest : ℕ) (d : RowRun) → n < length runs
    → (IsNearRowRun target far runs (get_or runs n d) → ⊥) → Widest target far runs n widest → Widest target far runs (n + 1) widest
widest_skip target far runs n widest d within none w = record {
  is_one = w.is_one;
  no_wider = λ k e below is. elim (below_or_at k n below) [
    | inl h ↦ w.no_wider k e h is
    | inr h ↦
        let Near : ℕ → Type 0 = λ m. IsNearRowRun target far runs (get_or runs m e) in
        absurd (none (at_default runs n e d (λ u. IsNearRowRun target far runs u) within (subst Near h is)))
  ];
}

-- the same, by the values that the walk computed
pub widest_taken : (target : Point) (far : ℕ) (runs : List RowRun) (least n widest now new : ℕ) (d : RowRun) → now ≡ run_distance target (get_or runs n d)
    → n < length runs → IsLeastDistance target runs least → now - least ≤ far → new ≡ max widest (get_or runs n d).width
    → Widest target far runs n widest → Widest target far runs (n + 1) new
widest_taken target far runs least n widest now new d at within is close best w =
    let near : run_distance target (get_or runs n d) - least ≤ far = rw at at close in
    rw best (widest_more target far runs n widest d within (near_of_least target far runs least (get_or runs n d) is near) w)

pub widest_skipped : (target : Point) (far : ℕ) (runs : List RowRun) (least n widest now new : ℕ) (d : RowRun) → now ≡ run_distance target (get_or runs n d)
    → n < length runs → IsLeastDistance target runs least → far < now - least → new ≡ widest
    → Widest target far runs n widest → Widest target far runs (n + 1) new
widest_skipped target far runs least n widest now new d at within is far_off same w =
    rw same (widest_skip target far runs n widest d within
    (λ near. let close = least_of_near target far runs least n d within is near in omega (arith, close, far_off, at)) w)
