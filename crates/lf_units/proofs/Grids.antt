-- Numbers that are whole steps apart.
use Rattle.std.proofs.Common.{◌≡◌, ◌⊎◌, ℕ, ℤ, pos, negsuc, suc, ◌+◌, ◌*◌, ◌/◌, ◌%◌, ◌<◌, ◌≤◌, ◌+ℤ◌, ◌-ℤ◌, ◌*ℤ◌, ◌≤ℤ◌, ◌<ℤ◌, neg_ℤ, inl, inr, refl, sym, ap, subst, arith, IsTrue, int_lt, int_le}
use Rattle.std.specs.Int.RustNames.{int_rem}
use Rattle.std.proofs.lemmas.Int.{ints}
use Rattle.std.proofs.Math.Nat.{lt_of_mul-lt-mul_right, mul-le-mul_right}
use Rattle.lf_units.specs.declared.span.Span.{Span}
use Rattle.lf_units.specs.declared.grid.SiteGrid.{SiteGrid}
use Rattle.lf_units.specs.Grids.{FitsSpan, IsNearest, IsNoFarther, IsOnGrid, distance_to}
use Rattle.lf_units.specs.GridSteps.{AreEnds, IsNearer}

-- Subtracting its remainder from a number gives a number whole steps from the origin.
after_rest : (at o : ℤ) (m n : ℕ) → 0 < n → pos m ≡ (at -ℤ o) → ((at -ℤ pos (m % n)) +ℤ pos (0 * n)) ≡ (o +ℤ pos ((m / n) * n))
after_rest at o m n above e =
    let split : (m / n) * n + m % n ≡ m = omega arith in
    omega (arith, ints, split)

before_rest : (at o : ℤ) (m n : ℕ) → 0 < n → negsuc m ≡ (at -ℤ o) → ((at -ℤ neg_ℤ (pos (suc m % n))) +ℤ pos ((suc m / n) * n)) ≡ (o +ℤ pos (0 * n))
before_rest at o m n above e =
    let split : (suc m / n) * n + suc m % n ≡ suc m = omega arith in
    omega (arith, ints, split)

pub rem_on_grid : (g : SiteGrid) (at : ℤ) → pos 0 <ℤ g.step → IsOnGrid g (at -ℤ int_rem (at -ℤ g.origin) g.step)
rem_on_grid g at rising = by_cases (at -ℤ g.origin) g.step refl refl rising
  where
    by_cases : (a s : ℤ) → a ≡ (at -ℤ g.origin) → s ≡ g.step → pos 0 <ℤ s → IsOnGrid g (at -ℤ int_rem a s)
    by_cases (pos m) (pos n) e f r = record { left = 0; right = m / n; level = rw (← f) (after_rest at g.origin m n (omega (arith, ints)) e) }
    by_cases (negsuc m) (pos n) e f r = record { left = suc m / n; right = 0; level = rw (← f) (before_rest at g.origin m n (omega (arith, ints)) e) }
    by_cases (pos m) (negsuc n) e f r = absurd (omega (arith, ints))
    by_cases (negsuc m) (negsuc n) e f r = absurd (omega (arith, ints))

-- One step further.
right_by : (s x o : ℤ) (l r : ℕ) → pos 0 <ℤ s → (x +ℤ (pos l *ℤ s)) ≡ (o +ℤ (pos r *ℤ s)) → ((x +ℤ s) +ℤ (pos l *ℤ s)) ≡ (o +ℤ (pos (r + 1) *ℤ s))
right_by (pos n) x o l r rising e = omega (arith, ints)
right_by (negsuc n) x o l r rising e = absurd (omega (arith, ints))

left_by : (s x o : ℤ) (l r : ℕ) → pos 0 <ℤ s → (x +ℤ (pos l *ℤ s)) ≡ (o +ℤ (pos r *ℤ s)) → ((x -ℤ s) +ℤ (pos (l + 1) *ℤ s)) ≡ (o +ℤ (pos r *ℤ s))
left_by (pos n) x o l r rising e = omega (arith, ints)
left_by (negsuc n) x o l r rising e = absurd (omega (arith, ints))

pub step_right : (g : SiteGrid) (x y : ℤ) → pos 0 <ℤ g.step → IsOnGrid g x → y ≡ (x +ℤ g.step) → IsOnGrid g y
step_right g x y rising on e = rw e record { left = on.left; right = on.right + 1; level = right_by g.step x g.origin on.left on.right rising on.level }

pub step_left : (g : SiteGrid) (x y : ℤ) → pos 0 <ℤ g.step → IsOnGrid g x → y ≡ (x -ℤ g.step) → IsOnGrid g y
step_left g x y rising on e = rw e record { left = on.left + 1; right = on.right; level = left_by g.step x g.origin on.left on.right rising on.level }

-- The lesser of two grid numbers is at least one step below the other.
apart_by : (n la ra lb rb : ℕ) (a b o : ℤ) → (a +ℤ pos (la * n)) ≡ (o +ℤ pos (ra * n)) → (b +ℤ pos (lb * n)) ≡ (o +ℤ pos (rb * n)) → a <ℤ b → (a +ℤ pos n) ≤ℤ b
apart_by n la ra lb rb a b o e f less =
    let more : (ra + lb) * n < (rb + la) * n = omega (arith, ints) in
    let count : ra + lb < rb + la = lt_of_mul-lt-mul_right n more in
    let most : (ra + lb + 1) * n ≤ (rb + la) * n = mul-le-mul_right n (omega arith) in
    omega (arith, ints)

apart_at : (s : ℤ) (la ra lb rb : ℕ) (a b o : ℤ) → pos 0 <ℤ s → (a +ℤ (pos la *ℤ s)) ≡ (o +ℤ (pos ra *ℤ s)) → (b +ℤ (pos lb *ℤ s)) ≡ (o +ℤ (pos rb *ℤ s)) →
    a <ℤ b → (a +ℤ s) ≤ℤ b
apart_at (pos n) la ra lb rb a b o rising e f less = apart_by n la ra lb rb a b o e f less
apart_at (negsuc n) la ra lb rb a b o rising e f less = absurd (omega (arith, ints))

pub apart : (g : SiteGrid) (a b : ℤ) → pos 0 <ℤ g.step → IsOnGrid g a → IsOnGrid g b → a <ℤ b → (a +ℤ g.step) ≤ℤ b
apart g a b rising p q less = apart_at g.step p.left p.right q.left q.right a b g.origin rising p.level q.level less

pub moved : (g : SiteGrid) (x y : ℤ) → x ≡ y → IsOnGrid g x → IsOnGrid g y
moved g x y e on = subst (IsOnGrid g) e on

-- ---- nearness

pub near_right : (t x y : ℤ) → t ≤ℤ x → x ≤ℤ y → IsNoFarther t x y
near_right t x y a b = elim order [ inl less ↦ inl (omega (arith, ints)) | inr same ↦ inr (ap (λ (z : ℤ). distance_to t z) same, b) ]
  where
    order : (x <ℤ y) ⊎ (x ≡ y)
    order = grind (arith, ints)

pub near_left : (t x y : ℤ) → x ≤ℤ t → y ≤ℤ x → IsNoFarther t x y
near_left t x y a b = elim order [ inl less ↦ inl (omega (arith, ints)) | inr same ↦ inr (ap (λ (z : ℤ). distance_to t z) (sym same), omega (arith, ints)) ]
  where
    order : (y <ℤ x) ⊎ (y ≡ x)
    order = grind (arith, ints)

-- Left of the target and no farther from it than a number right of it.
pub near_across : (t x y : ℤ) → x ≤ℤ t → t ≤ℤ y → (t -ℤ x) ≤ℤ (y -ℤ t) → IsNoFarther t x y
near_across t x y a b c = elim order [ inl less ↦ inl less | inr same ↦ inr (same, omega (arith, ints)) ]
  where
    order : (distance_to t x < distance_to t y) ⊎ (distance_to t x ≡ distance_to t y)
    order = grind (arith, ints)

-- Right of the target and nearer than a number left of it.
pub near_back : (t x y : ℤ) → y ≤ℤ t → t ≤ℤ x → (x -ℤ t) <ℤ (t -ℤ y) → IsNoFarther t x y
near_back t x y a b c = inl (omega (arith, ints))

pub less_from : (a b : ℤ) → IsTrue (int_lt a b) → a <ℤ b
less_from a b t = grind (arith, ints)

pub at_most_from : (a b : ℤ) → IsTrue (int_le a b) → a ≤ℤ b
at_most_from a b t = grind (arith, ints)

-- ---- the first and the last grid number at which the width fits

after_first : (span : Span) (g : SiteGrid) (width first last y : ℤ) → AreEnds span g width first last → FitsSpan span g width y → first ≤ℤ y
after_first span g width first last y e f = elim order [
  | inl at_most ↦ at_most
  | inr less ↦ let gap = apart g y first e.rising f.on_grid e.first_on less in let low = f.within.low in absurd (omega (arith, ints, gap, e.first_near, low))
]
  where
    order : (first ≤ℤ y) ⊎ (y <ℤ first)
    order = grind (arith, ints)

before_last : (span : Span) (g : SiteGrid) (width first last y : ℤ) → AreEnds span g width first last → FitsSpan span g width y → y ≤ℤ last
before_last span g width first last y e f = elim order [
  | inl at_most ↦ at_most
  | inr less ↦ let gap = apart g last y e.rising e.last_on f.on_grid less in let high = f.within.high in absurd (omega (arith, ints, gap, e.last_near, high))
]
  where
    order : (y ≤ℤ last) ⊎ (last <ℤ y)
    order = grind (arith, ints)

pub none_fits : (span : Span) (g : SiteGrid) (width first last y : ℤ) → AreEnds span g width first last → last <ℤ first → FitsSpan span g width y → ⊥
none_fits span g width first last y e less f =
    let a = after_first span g width first last y e f in
    let b = before_last span g width first last y e f in
    omega (arith, ints, a, b)

between_fits : (span : Span) (g : SiteGrid) (width first last x : ℤ) → AreEnds span g width first last → IsOnGrid g x → first ≤ℤ x → x ≤ℤ last →
    FitsSpan span g width x
between_fits span g width first last x e on a b =
    let low = e.first_in in
    let high = e.last_in in
    record { on_grid = on; within = record { low = omega (arith, ints, low, a); high = omega (arith, ints, high, b) } }

pub first_nearest : (span : Span) (g : SiteGrid) (width first last t : ℤ) → AreEnds span g width first last → first ≤ℤ last → t ≤ℤ first →
    IsNearest (λ x. FitsSpan span g width x) t first
first_nearest span g width first last t e some before = record {
  fit = between_fits span g width first last first e e.first_on (omega (arith, ints)) some;
  least = λ y f. near_right t first y before (after_first span g width first last y e f);
}

pub last_nearest : (span : Span) (g : SiteGrid) (width first last t : ℤ) → AreEnds span g width first last → first ≤ℤ last → last ≤ℤ t →
    IsNearest (λ x. FitsSpan span g width x) t last
last_nearest span g width first last t e some after = record {
  fit = between_fits span g width first last last e e.last_on some (omega (arith, ints));
  least = λ y f. near_left t last y after (before_last span g width first last y e f);
}

-- A grid number is at or left of the left neighbor, or at or right of the right one.
either_side : (g : SiteGrid) (left y : ℤ) → pos 0 <ℤ g.step → IsOnGrid g left → IsOnGrid g y → (y ≤ℤ left) ⊎ ((left +ℤ g.step) ≤ℤ y)
either_side g left y rising p q = elim order [ inl at_most ↦ inl at_most | inr less ↦ inr (apart g left y rising p q less) ]
  where
    order : (y ≤ℤ left) ⊎ (left <ℤ y)
    order = grind (arith, ints)

left_least : (g : SiteGrid) (left t y : ℤ) → pos 0 <ℤ g.step → IsOnGrid g left → left ≤ℤ t → t <ℤ (left +ℤ g.step) →
    (t -ℤ left) ≤ℤ ((left +ℤ g.step) -ℤ t) → IsOnGrid g y → IsNoFarther t left y
left_least g left t y rising on below above near q = elim (either_side g left y rising on q) [
  | inl a ↦ near_left t left y below a
  | inr b ↦ near_across t left y below (omega (arith, ints, above, b)) (omega (arith, ints, near, b))
]

right_least : (g : SiteGrid) (left t y : ℤ) → pos 0 <ℤ g.step → IsOnGrid g left → left ≤ℤ t → t <ℤ (left +ℤ g.step) →
    ((left +ℤ g.step) -ℤ t) <ℤ (t -ℤ left) → IsOnGrid g y → IsNoFarther t (left +ℤ g.step) y
right_least g left t y rising on below above near q = elim (either_side g left y rising on q) [
  | inl a ↦ near_back t (left +ℤ g.step) y (omega (arith, ints, below, a)) (omega (arith, ints, above)) (omega (arith, ints, near, a))
  | inr b ↦ near_right t (left +ℤ g.step) y (omega (arith, ints, above)) b
]

pub between_nearest : (span : Span) (g : SiteGrid) (width first last t left x : ℤ) → AreEnds span g width first last → first <ℤ t → t <ℤ last →
    IsOnGrid g left → left ≤ℤ t → t <ℤ (left +ℤ g.step) → IsNearer left (left +ℤ g.step) t x → IsNearest (λ x. FitsSpan span g width x) t x
between_nearest span g width first last t left x e after before on below above pick = by_pick pick
  where
    low : first ≤ℤ left
    low = elim (either_side g left first e.rising on e.first_on) [ inl a ↦ a | inr b ↦ absurd (omega (arith, ints, above, b, after)) ]

    high : (left +ℤ g.step) ≤ℤ last
    high = apart g left last e.rising on e.last_on (omega (arith, ints, below, before))

    by_pick : IsNearer left (left +ℤ g.step) t x → IsNearest (λ x. FitsSpan span g width x) t x
    by_pick (inl (is, near)) = rw is record {
      fit = between_fits span g width first last left e on low (omega (arith, ints, high, e.rising));
      least = λ y f. left_least g left t y e.rising on below above near f.on_grid;
    }
    by_pick (inr (is, near)) = rw is record {
      fit = between_fits span g width first last (left +ℤ g.step) e (step_right g left (left +ℤ g.step) e.rising on refl)
          (omega (arith, ints, low, e.rising)) high;
      least = λ y f. right_least g left t y e.rising on below above near f.on_grid;
    }
