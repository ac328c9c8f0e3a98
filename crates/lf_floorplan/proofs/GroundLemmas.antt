-- Each point is ground of one team.
use Rattle.std.proofs.Common.{◌≡◌, ◌⊎◌, ℕ, suc, ℤ, ◌<◌, ◌≤ℤ◌, ◌<ℤ◌, List, [], ◌∷◌, length, Option, Some, None, inl, inr, refl, sym, ◌∙◌, arith, get_or, slice_get}
use Rattle.std.specs.Prelude.{All}
use Rattle.std.proofs.lemmas.Int.{ints}
use Rattle.std.proofs.lemmas.Option.{slice_get_within, slice_get_past, get_or_from_slice_get}
use Rattle.std.proofs.lemmas.List.Elements.{All-nil, All-cons}
use Rattle.lf_units.specs.declared.geometry.Rect.{Rect}
use Rattle.lf_units.specs.Area.{Covers, SharesPoint, CoveredBy}
use Rattle.lf_floorplan.specs.declared.frame.Frame.{Frame}
use Rattle.lf_floorplan.specs.declared.parts.Team.{Team}
use Rattle.lf_floorplan.specs.Fences.{AreApart}
use Rattle.lf_floorplan.specs.Ground.{InGround, StaysInGround}

-- Two fences that cover a point are the same.
fences_one : (f : Frame) (s t : ℕ) (u v : Team) (x y : ℤ) → slice_get f.teams s ≡ Some u → slice_get f.teams t ≡ Some v →
    CoveredBy u.rects x y → CoveredBy v.rects x y → s ≡ t
fences_one f s t u v x y is_u is_v first second = elim order [
  | inl less ↦ absurd (apart s t u v less is_u is_v first second)
  | inr rest ↦ elim rest [ inl same ↦ same | inr more ↦ absurd (apart t s v u more is_v is_u second first) ]
]
  where
    order : (s < t) ⊎ ((s ≡ t) ⊎ (t < s))
    order = grind arith

    apart : (i j : ℕ) (a b : Team) → i < j → slice_get f.teams i ≡ Some a → slice_get f.teams j ≡ Some b → CoveredBy a.rects x y → CoveredBy b.rects x y → ⊥
    apart i j a b less is_a is_b covers_a covers_b =
        let here : get_or f.teams i a ≡ a = get_or_from_slice_get f.teams i a a is_a in
        let there : get_or f.teams j a ≡ b = get_or_from_slice_get f.teams j b a is_b in
        let held : AreApart a b = rw (here, there) at (f.fences_apart i j a less (slice_get_within f.teams j b is_b)) in
        held.no_point x y covers_a covers_b

-- A point that a fence covers is not ground of the ground team.
not_open : (f : Frame) (s : ℕ) (u : Team) (x y : ℤ) → slice_get f.teams s ≡ Some u → CoveredBy u.rects x y → All (λ fence. CoveredBy fence.rects x y → ⊥) f.teams → ⊥
not_open f s u x y is covers all =
    let here : get_or f.teams s u ≡ u = get_or_from_slice_get f.teams s u u is in
    all s u (slice_get_within f.teams s u is) (rw here covers)

-- The same, by the entries at the numbers.
one_by : (f : Frame) (s t : ℕ) (x y : ℤ) (a b : Option Team) → slice_get f.teams s ≡ a → slice_get f.teams t ≡ b → InGround f s x y → InGround f t x y → s ≡ t
one_by f s t x y (Some u) (Some v) is_u is_v first second = fences_one f s t u v x y is_u is_v (rw is_u at first) (rw is_v at second)
one_by f s t x y (Some u) None is_u past first second = absurd (not_open f s u x y is_u (rw is_u at first) (rw past at second).1)
one_by f s t x y None (Some v) past is_v first second = absurd (not_open f t v x y is_v (rw is_v at second) (rw past at first).1)
one_by f s t x y None None past_s past_t first second = (rw past_s at first).0 ∙ sym (rw past_t at second).0

pub ground_one : (f : Frame) (s t : ℕ) (x y : ℤ) → InGround f s x y → InGround f t x y → s ≡ t
ground_one f s t x y first second = one_by f s t x y (slice_get f.teams s) (slice_get f.teams t) refl refl first second

pub teams_apart : (f : Frame) (s t : ℕ) (a b : Rect) → (s ≡ t → ⊥) → StaysInGround f s a → StaysInGround f t b → SharesPoint a b → ⊥
teams_apart f s t a b differ first second meet = differ (ground_one f s t meet.x meet.y (first meet.x meet.y meet.in_first) (second meet.x meet.y meet.in_second))

-- One element of the list has the property, or no element has it.
one_or_none : {X : Type 0} (P : X → Type 0) → ((x : X) → P x ⊎ (P x → ⊥)) → (xs : List X) → ((n : ℕ) × (x : X) × (slice_get xs n ≡ Some x) × P x) ⊎ All (λ x. P x → ⊥) xs
one_or_none P d [] = inr (All-nil (λ x. P x → ⊥))
one_or_none P d (x ∷ xs) = elim (d x) [
  | inl p ↦ inl (0, x, refl, p)
  | inr n ↦ elim (one_or_none P d xs) [
    | inl a ↦ inl (suc a.0, a.1, a.2, a.3)
    | inr q ↦ inr (All-cons (λ x. P x → ⊥) x xs n q)
  ]
]

at_most : (a b : ℤ) → (a ≤ℤ b) ⊎ (a ≤ℤ b → ⊥)
at_most a b = elim order [ inl h ↦ inl h | inr h ↦ inr (λ g. omega (arith, ints, g, h)) ]
  where
    order : (a ≤ℤ b) ⊎ (b <ℤ a)
    order = grind (arith, ints)

below : (a b : ℤ) → (a <ℤ b) ⊎ (a <ℤ b → ⊥)
below a b = elim order [ inl h ↦ inl h | inr h ↦ inr (λ g. omega (arith, ints, g, h)) ]
  where
    order : (a <ℤ b) ⊎ (b ≤ℤ a)
    order = grind (arith, ints)

covers : (x y : ℤ) (r : Rect) → Covers r x y ⊎ (Covers r x y → ⊥)
covers x y r = elim (at_most r.x1 x) [
  | inr n ↦ inr (λ c. n c.left)
  | inl left ↦ elim (below x r.x2) [
    | inr n ↦ inr (λ c. n c.right)
    | inl right ↦ elim (at_most r.y1 y) [
      | inr n ↦ inr (λ c. n c.bottom)
      | inl bottom ↦ elim (below y r.y2) [
        | inr n ↦ inr (λ c. n c.top)
        | inl top ↦ inl record { left = left; right = right; bottom = bottom; top = top }
      ]
    ]
  ]
]

covered : (x y : ℤ) (rects : List Rect) → CoveredBy rects x y ⊎ (CoveredBy rects x y → ⊥)
covered x y rects = elim (one_or_none (λ r. Covers r x y) (covers x y) rects) [
  | inl a ↦ inl (a.0, a.1, slice_get_within rects a.0 a.1 a.2, get_or_from_slice_get rects a.0 a.1 a.1 a.2, a.3)
  | inr n ↦ inr (λ a. n a.0 a.1 a.2 (rw a.3 a.4))
]

pub ground_there : (f : Frame) (x y : ℤ) → (team : ℕ) × InGround f team x y
ground_there f x y = elim (one_or_none (λ fence. CoveredBy fence.rects x y) (λ fence. covered x y fence.rects) f.teams) [
  | inl a ↦ (a.0, rw a.2 a.3)
  | inr open_there ↦ (length f.teams, let past : slice_get f.teams (length f.teams) ≡ None = slice_get_past f.teams (length f.teams) (omega arith) in rw past (refl, open_there))
]
