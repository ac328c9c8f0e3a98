-- The strips of one row and team that overlap a range of x, and the search for them among all
-- strips.
use Rattle.std.proofs.Common.{◌≡◌, ◌⊎◌, inl, inr, ℕ, ◌+◌, ◌-◌, ◌<◌, ◌≤◌, ℤ, ◌≤ℤ◌, ◌<ℤ◌, Bool, true, false, cond, List, length, get_or, eqb, ltb, refl}
use Rattle.std.proofs.Common.{sym, ap, subst, ◌∙◌, arith, int_le, int_lt}
use Rattle.std.specs.Prelude.{All, AllPairs}
use Rattle.std.specs.List.Sorted.{IsPartitionedBy}
use Rattle.std.proofs.lemmas.Bool.{false≢true}
use Rattle.std.proofs.lemmas.Bool.Decides.{nat_tests, eqb_tells}
use Rattle.std.proofs.lemmas.Int.{ints}
use Rattle.std.proofs.lemmas.List.{get_or_default}
use Rattle.lf_units.proofs.Comparisons.{less_of, of_less, most_of, of_most, not_most_of}
use Rattle.lf_segments.specs.declared.strip.Strip.{Strip}
use Rattle.lf_segments.specs.Strips.{AreNear, LiesBefore, IsNear, is_earlier}

-- The strip is of an earlier row or team, or of this one and `left` is true.
data Earlier (row team : ℕ) (left : Bool) (g : Strip) : Type 0 where
  by_row : g.row < row → Earlier row team left g
  by_team : g.row ≡ row → g.team < team → Earlier row team left g
  by_x : g.row ≡ row → g.team ≡ team → left ≡ true → Earlier row team left g

earlier_of : (row team : ℕ) (left : Bool) (g : Strip) → is_earlier row team left g ≡ true → Earlier row team left g
earlier_of row team left g t = elim (eqb_tells g.row row) [
  | inl same ↦ elim (eqb_tells g.team team) [
    | inl both ↦ by_x same.1 both.1 (sym (ap (λ b. cond b (cond (eqb g.team team) left (ltb g.team team)) (ltb g.row row)) same.0 ∙ ap (λ b. cond b left
        (ltb g.team team)) both.0) ∙ t)
    | inr apart ↦ by_team same.1 (less g.team team (sym (ap (λ b. cond b (cond (eqb g.team team) left (ltb g.team team)) (ltb g.row row)) same.0 ∙ ap
        (λ b. cond b left (ltb g.team team)) apart.0) ∙ t))
  ]
  | inr apart ↦ by_row (less g.row row (sym (ap (λ b. cond b (cond (eqb g.team team) left (ltb g.team team)) (ltb g.row row)) apart.0) ∙ t))
]
  where
    less : (a b : ℕ) → ltb a b ≡ true → a < b
    less a b e = grind (arith, nat_tests)

of_earlier : (row team : ℕ) (left : Bool) (g : Strip) → Earlier row team left g → is_earlier row team left g ≡ true
of_earlier row team left g (by_row less) =
    let a : eqb g.row row ≡ false = grind (arith, nat_tests) in
    let b : ltb g.row row ≡ true = grind (arith, nat_tests) in
    ap (λ t. cond t (cond (eqb g.team team) left (ltb g.team team)) (ltb g.row row)) a ∙ b
of_earlier row team left g (by_team same less) =
    let a : eqb g.row row ≡ true = grind (arith, nat_tests) in
    let b : eqb g.team team ≡ false = grind (arith, nat_tests) in
    let e : ltb g.team team ≡ true = grind (arith, nat_tests) in
    ap (λ t. cond t (cond (eqb g.team team) left (ltb g.team team)) (ltb g.row row)) a ∙ (ap (λ t. cond t left (ltb g.team team)) b ∙ e)
of_earlier row team left g (by_x same both t) =
    let a : eqb g.row row ≡ true = grind (arith, nat_tests) in
    let b : eqb g.team team ≡ true = grind (arith, nat_tests) in
    ap (λ t. cond t (cond (eqb g.team team) left (ltb g.team team)) (ltb g.row row)) a ∙ (ap (λ t. cond t left (ltb g.team team)) b ∙ t)

-- A strip of an earlier row is earlier, and one of a later row is not.
pub earlier_row : (row team : ℕ) (left : Bool) (g : Strip) → g.row < row → is_earlier row team left g ≡ true
earlier_row row team left g less = of_earlier row team left g (by_row less)

pub later_row : (row team : ℕ) (left : Bool) (g : Strip) → row < g.row → is_earlier row team left g ≡ false
later_row row team left g more = from (is_earlier row team left g) refl
  where
    never : Earlier row team left g → ⊥
    never (by_row h) = omega (arith, h, more)
    never (by_team e h) = omega (arith, e, more)
    never (by_x e f h) = omega (arith, e, more)

    from : (b : Bool) → is_earlier row team left g ≡ b → is_earlier row team left g ≡ false
    from true is = absurd (never (earlier_of row team left g is))
    from false is = is

-- A strip in front of an earlier one is earlier, if the values for one row and team allow it.
earlier_before : (row team : ℕ) (s t : Bool) (a b : Strip) → LiesBefore a b → (a.area.x2 ≤ℤ b.area.x1 → t ≡ true → s ≡ true) → Earlier row team t b →
    Earlier row team s a
earlier_before row team s t a b (inl less) falls (by_row h) = by_row (omega (arith, less, h))
earlier_before row team s t a b (inl less) falls (by_team e h) = by_row (omega (arith, less, e))
earlier_before row team s t a b (inl less) falls (by_x e f h) = by_row (omega (arith, less, e))
earlier_before row team s t a b (inr (same, other)) falls (by_row h) = by_row (omega (arith, same, h))
earlier_before row team s t a b (inr (same, inl less)) falls (by_team e h) = by_team (same ∙ e) (omega (arith, less, h))
earlier_before row team s t a b (inr (same, inl less)) falls (by_x e f h) = by_team (same ∙ e) (omega (arith, less, f))
earlier_before row team s t a b (inr (same, inr (alike, apart))) falls (by_team e h) = by_team (same ∙ e) (omega (arith, alike, h))
earlier_before row team s t a b (inr (same, inr (alike, apart))) falls (by_x e f h) = by_x (same ∙ e) (alike ∙ f) (falls apart h)

parted : (row team : ℕ) (left : Strip → Bool) (xs : List Strip) → AllPairs LiesBefore xs →
    ((i j : ℕ) (d : Strip) → i < j → j < length xs → (get_or xs i d).area.x2 ≤ℤ (get_or xs j d).area.x1 → left (get_or xs j d) ≡ true →
    left (get_or xs i d) ≡ true) →
    IsPartitionedBy (λ g. is_earlier row team (left g) g) xs
parted row team left xs pairs falls i j d order within t = elim same_or [
  | inl same ↦ let At : ℕ → Type 0 = λ n. is_earlier row team (left (get_or xs n d)) (get_or xs n d) ≡ true in subst At (sym same) t
  | inr less ↦
      of_earlier row team (left (get_or xs i d)) (get_or xs i d)
      (earlier_before row team (left (get_or xs i d)) (left (get_or xs j d)) (get_or xs i d) (get_or xs j d) (pairs i j d less within)
      (λ apart h. falls i j d less within apart h) (earlier_of row team (left (get_or xs j d)) (get_or xs j d) t))
]
  where
    same_or : (i ≡ j) ⊎ (i < j)
    same_or = grind arith

pub ended_parted : (row team : ℕ) (x : ℤ) (xs : List Strip) → AllPairs LiesBefore xs → All (λ g. g.area.x1 <ℤ g.area.x2) xs →
    IsPartitionedBy (λ g. is_earlier row team (int_le g.area.x2 x) g) xs
ended_parted row team x xs pairs wide = parted row team (λ g. int_le g.area.x2 x) xs pairs
    (λ i j d less within apart h.
    let w = wide j d within in
    let l = most_of (get_or xs j d).area.x2 x h in
    of_most (get_or xs i d).area.x2 x (omega (arith, ints, w, l, apart)))

pub begun_parted : (row team : ℕ) (x : ℤ) (xs : List Strip) → AllPairs LiesBefore xs → All (λ g. g.area.x1 <ℤ g.area.x2) xs →
    IsPartitionedBy (λ g. is_earlier row team (int_lt g.area.x1 x) g) xs
begun_parted row team x xs pairs wide = parted row team (λ g. int_lt g.area.x1 x) xs pairs
    (λ i j d less within apart h.
    let w = wide i d (omega (arith, less, within)) in
    let l = less_of (get_or xs j d).area.x1 x h in
    of_less (get_or xs i d).area.x1 x (omega (arith, ints, w, l, apart)))

-- If the last strip in front of a position is ended, all in front of it are.
pub ended_last : (row team : ℕ) (x : ℤ) (xs : List Strip) → AllPairs LiesBefore xs → All (λ g. g.area.x1 <ℤ g.area.x2) xs → (n : ℕ) (e : Strip) →
    0 < n → n ≤ length xs → is_earlier row team (int_le (get_or xs (n - 1) e).area.x2 x) (get_or xs (n - 1) e) ≡ true → (k : ℕ) (d : Strip) → k < n →
    is_earlier row team (int_le (get_or xs k d).area.x2 x) (get_or xs k d) ≡ true
ended_last row team x xs pairs wide n e some bound here k d less =
    let there : is_earlier row team (int_le (get_or xs (n - 1) d).area.x2 x) (get_or xs (n - 1) d) ≡ true =
    subst (λ (g : Strip). is_earlier row team (int_le g.area.x2 x) g ≡ true) (get_or_default xs (n - 1) e d (omega arith)) here in
    ended_parted row team x xs pairs wide k (n - 1) d (omega arith) (omega arith) there

-- If the strip at a position is not ended, no strip from there on is.
pub not_ended_after : (row team : ℕ) (x : ℤ) (xs : List Strip) → AllPairs LiesBefore xs → All (λ g. g.area.x1 <ℤ g.area.x2) xs → (n : ℕ) (e : Strip) →
    n < length xs → is_earlier row team (int_le (get_or xs n e).area.x2 x) (get_or xs n e) ≡ false → (k : ℕ) (d : Strip) → n ≤ k → k < length xs →
    is_earlier row team (int_le (get_or xs k d).area.x2 x) (get_or xs k d) ≡ false
not_ended_after row team x xs pairs wide n e inside here k d from within = of (is_earlier row team (int_le (get_or xs k d).area.x2 x) (get_or xs k d)) refl
  where
    there : is_earlier row team (int_le (get_or xs n d).area.x2 x) (get_or xs n d) ≡ false
    there = subst (λ (g : Strip). is_earlier row team (int_le g.area.x2 x) g ≡ false) (get_or_default xs n e d inside) here

    of : (b : Bool) → is_earlier row team (int_le (get_or xs k d).area.x2 x) (get_or xs k d) ≡ b →
        is_earlier row team (int_le (get_or xs k d).area.x2 x) (get_or xs k d) ≡ false
    of false is = is
    of true is = absurd (false≢true (sym there ∙ ended_parted row team x xs pairs wide n k d from within is))

-- If one strip is not begun, no strip after it is.
pub not_begun_after : (row team : ℕ) (x : ℤ) (xs : List Strip) → AllPairs LiesBefore xs → All (λ g. g.area.x1 <ℤ g.area.x2) xs → (n : ℕ) (e : Strip) →
    n < length xs → is_earlier row team (int_lt (get_or xs n e).area.x1 x) (get_or xs n e) ≡ false → (k : ℕ) (d : Strip) → n ≤ k → k < length xs →
    is_earlier row team (int_lt (get_or xs k d).area.x1 x) (get_or xs k d) ≡ false
not_begun_after row team x xs pairs wide n e inside here k d from within = of (is_earlier row team (int_lt (get_or xs k d).area.x1 x) (get_or xs k d)) refl
  where
    there : is_earlier row team (int_lt (get_or xs n d).area.x1 x) (get_or xs n d) ≡ false
    there = subst (λ (g : Strip). is_earlier row team (int_lt g.area.x1 x) g ≡ false) (get_or_default xs n e d inside) here

    of : (b : Bool) → is_earlier row team (int_lt (get_or xs k d).area.x1 x) (get_or xs k d) ≡ b →
        is_earlier row team (int_lt (get_or xs k d).area.x1 x) (get_or xs k d) ≡ false
    of false is = is
    of true is = absurd (false≢true (sym there ∙ begun_parted row team x xs pairs wide n k d from within is))

-- One more strip that is begun.
pub begun_more : (row team : ℕ) (x : ℤ) (xs : List Strip) (first n : ℕ) (e : Strip) → n < length xs →
    ((k : ℕ) (d : Strip) → first ≤ k → k < n → is_earlier row team (int_lt (get_or xs k d).area.x1 x) (get_or xs k d) ≡ true) →
    is_earlier row team (int_lt (get_or xs n e).area.x1 x) (get_or xs n e) ≡ true → (k : ℕ) (d : Strip) → first ≤ k → k < n + 1 →
    is_earlier row team (int_lt (get_or xs k d).area.x1 x) (get_or xs k d) ≡ true
begun_more row team x xs first n e inside before here k d from less = elim two [
  | inl below ↦ before k d from below
  | inr same ↦
      subst (λ (m : ℕ). is_earlier row team (int_lt (get_or xs m d).area.x1 x) (get_or xs m d) ≡ true) (sym same)
      (subst (λ (g : Strip). is_earlier row team (int_lt g.area.x1 x) g ≡ true) (get_or_default xs n e d inside) here)
]
  where
    two : (k < n) ⊎ (k ≡ n)
    two = grind arith

-- A strip is near if it is not ended and is begun.
near_of : (row team : ℕ) (lo hi : ℤ) (g : Strip) → is_earlier row team (int_le g.area.x2 lo) g ≡ false → is_earlier row team (int_lt g.area.x1 hi) g ≡ true →
    IsNear row team lo hi g
near_of row team lo hi g first second = from (earlier_of row team (int_lt g.area.x1 hi) g second)
  where
    never : Earlier row team (int_le g.area.x2 lo) g → ⊥
    never e = false≢true (sym first ∙ of_earlier row team (int_le g.area.x2 lo) g e)

    right : (b : Bool) → int_le g.area.x2 lo ≡ b → g.row ≡ row → g.team ≡ team → lo <ℤ g.area.x2
    right true e same alike = absurd (never (by_x same alike e))
    right false e same alike = not_most_of g.area.x2 lo e

    from : Earlier row team (int_lt g.area.x1 hi) g → IsNear row team lo hi g
    from (by_row h) = absurd (never (by_row h))
    from (by_team e h) = absurd (never (by_team e h))
    from (by_x e f h) = record { in_row = e; of_team = f; right = right (int_le g.area.x2 lo) refl e f; left = less_of g.area.x1 hi h }

not_ended : (row team : ℕ) (lo hi : ℤ) (g : Strip) → IsNear row team lo hi g → is_earlier row team (int_le g.area.x2 lo) g ≡ true → ⊥
not_ended row team lo hi g near t = never (earlier_of row team (int_le g.area.x2 lo) g t)
  where
    never : Earlier row team (int_le g.area.x2 lo) g → ⊥
    never (by_row h) = let e = near.in_row in omega (arith, h, e)
    never (by_team e h) = let f = near.of_team in omega (arith, h, f)
    never (by_x e f h) = let l = most_of g.area.x2 lo h in let r = near.right in omega (arith, ints, l, r)

begun : (row team : ℕ) (lo hi : ℤ) (g : Strip) → IsNear row team lo hi g → is_earlier row team (int_lt g.area.x1 hi) g ≡ false → ⊥
begun row team lo hi g near t =
    false≢true (sym t ∙ of_earlier row team (int_lt g.area.x1 hi) g (by_x near.in_row near.of_team (of_less g.area.x1 hi near.left)))

pub are_near : (xs : List Strip) (row team : ℕ) (lo hi : ℤ) (start end : ℕ) → end ≤ length xs →
    ((k : ℕ) (d : Strip) → k < start → is_earlier row team (int_le (get_or xs k d).area.x2 lo) (get_or xs k d) ≡ true) →
    ((k : ℕ) (d : Strip) → start ≤ k → k < length xs → is_earlier row team (int_le (get_or xs k d).area.x2 lo) (get_or xs k d) ≡ false) →
    ((k : ℕ) (d : Strip) → start ≤ k → k < end → is_earlier row team (int_lt (get_or xs k d).area.x1 hi) (get_or xs k d) ≡ true) →
    ((k : ℕ) (d : Strip) → end ≤ k → k < length xs → is_earlier row team (int_lt (get_or xs k d).area.x1 hi) (get_or xs k d) ≡ false) →
    AreNear xs row team lo hi start end
are_near xs row team lo hi start end bound ended left before after_it = record {
  within = bound;
  exact = λ n d within. (
    λ both. near_of row team lo hi (get_or xs n d) (left n d both.0 within) (before n d both.0 both.1),
    λ near. (from n d near, to n d within near),
  );
}
  where
    from : (n : ℕ) (d : Strip) → IsNear row team lo hi (get_or xs n d) → start ≤ n
    from n d near = elim order [ inl h ↦ h | inr h ↦ absurd (not_ended row team lo hi (get_or xs n d) near (ended n d h)) ]
      where
        order : (start ≤ n) ⊎ (n < start)
        order = grind arith

    to : (n : ℕ) (d : Strip) → n < length xs → IsNear row team lo hi (get_or xs n d) → n < end
    to n d within near = elim order [ inl h ↦ h | inr h ↦ absurd (begun row team lo hi (get_or xs n d) near (after_it n d h within)) ]
      where
        order : (n < end) ⊎ (end ≤ n)
        order = grind arith
