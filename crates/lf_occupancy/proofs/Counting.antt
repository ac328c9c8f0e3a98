-- How many boxes share a point with a strip.
use Rattle.std.proofs.Common.{◌≡◌, ◌≢◌, ◌⊎◌, inl, inr, ℕ, zero, suc, ◌+◌, ◌<◌, ◌≤◌, ℤ, pos, ◌*ℤ◌, ◌<ℤ◌, Bool, true, false, cond, List, [], ◌∷◌, Option, Some, None, arith}
use Rattle.std.proofs.Common.{length, get_or, set, take, eqb, ltb, int_lt, refl, sym, ap, subst, ◌∙◌}
use Rattle.std.specs.Prelude.{AllPairs, Contains, ◌&&◌, ◌↔◌, count_by, slice_get}
use Rattle.std.specs.Int.{int_max, int_min}
use Rattle.std.proofs.lemmas.Bool.Decides.{eqb_tells, nat_tests}
use Rattle.std.proofs.lemmas.Int.{ints, clamps}
use Rattle.std.proofs.lemmas.List.Sums.{sum_by-cons, count_by_more_yes, count_by_more_no}
use Rattle.lf_units.specs.declared.geometry.Rect.{Rect}
use Rattle.lf_units.specs.Area.{SharesPoint}
use Rattle.lf_segments.specs.declared.strip.Strip.{Strip}
use Rattle.lf_occupancy.specs.Views.{ArePartOf, FitIn, KeepsCapacities, Occupied, cell_box, count_in, widened, does_overlap}

-- 1 for true
abbrev pub one_if : Bool → ℕ
one_if b = cond b 1 0

both_true : (a b : Bool) → a && b ≡ true → (a ≡ true) × (b ≡ true)
both_true true true e = (refl, refl)
both_true true false e = absurd cc
both_true false b e = absurd cc

less_of : (a b : ℤ) → int_lt a b ≡ true → a <ℤ b
less_of a b e = grind (arith, ints)

pub of_less : (a b : ℤ) → a <ℤ b → int_lt a b ≡ true
of_less a b h = grind (arith, ints)

-- a box overlaps a strip by its edges if they share a point
pub overlaps_shares : (g : Strip) (r : Rect) → does_overlap g (Some r) ≡ true → SharesPoint g.area r
overlaps_shares g r e = record {
  x = int_max g.area.x1 r.x1;
  y = int_max g.area.y1 r.y1;
  in_first = record { left = omega (arith, ints, clamps); right = omega (arith, ints, clamps, x); bottom = omega (arith, ints, clamps); top = omega (arith, ints, clamps, y) };
  in_second = record { left = omega (arith, ints, clamps); right = omega (arith, ints, clamps, x); bottom = omega (arith, ints, clamps); top = omega (arith, ints, clamps, y) };
}
  where
    in_x : Bool
    in_x = int_lt (int_max g.area.x1 r.x1) (int_min g.area.x2 r.x2)

    in_y : Bool
    in_y = int_lt (int_max g.area.y1 r.y1) (int_min g.area.y2 r.y2)

    tests : (in_x ≡ true) × (in_y ≡ true)
    tests = both_true in_x in_y e

    x : int_max g.area.x1 r.x1 <ℤ int_min g.area.x2 r.x2
    x = less_of (int_max g.area.x1 r.x1) (int_min g.area.x2 r.x2) tests.0

    y : int_max g.area.y1 r.y1 <ℤ int_min g.area.y2 r.y2
    y = less_of (int_max g.area.y1 r.y1) (int_min g.area.y2 r.y2) tests.1

pub both_are : (a b : Bool) → a ≡ true → b ≡ true → a && b ≡ true
both_are a b e f = cc

pub shares_overlaps : (g : Strip) (r : Rect) → SharesPoint g.area r → does_overlap g (Some r) ≡ true
shares_overlaps g r s =
    let a = s.in_first in
    let b = s.in_second in
    let l = a.left in
    let m = b.left in
    let n = a.right in
    let o = b.right in
    let p = a.bottom in
    let q = b.bottom in
    let t = a.top in
    let u = b.top in
    let x : int_max g.area.x1 r.x1 <ℤ int_min g.area.x2 r.x2 = omega (arith, ints, clamps, l, m, n, o) in
    let y : int_max g.area.y1 r.y1 <ℤ int_min g.area.y2 r.y2 = omega (arith, ints, clamps, p, q, t, u) in
    both_are _ _ (of_less _ _ x) (of_less _ _ y)

pub one_more : (g : Strip) (b : Option Rect) (bs : List (Option Rect)) → count_in g (b ∷ bs) ≡ one_if (does_overlap g b) + count_in g bs
one_more g b bs = sum_by-cons (λ c. one_if (does_overlap g c)) b bs

-- boxes that are part of others
rest_is_part : (b c : Option Rect) (bs cs : List (Option Rect)) → ArePartOf (b ∷ bs) (c ∷ cs) → ArePartOf bs cs
rest_is_part b c bs cs p own = p (suc own)

rest_of_none : (b : Option Rect) (bs : List (Option Rect)) → ArePartOf (b ∷ bs) [] → ArePartOf bs []
rest_of_none b bs p own = p (suc own)

first_is_none : (b : Option Rect) (bs : List (Option Rect)) → ArePartOf (b ∷ bs) [] → b ≡ None
first_is_none b bs p = elim (p 0) [ inl none ↦ none | inr same ↦ same ]

no_more_of : (g : Strip) (b c : Option Rect) → (b ≡ None) ⊎ (b ≡ c) → one_if (does_overlap g b) ≤ one_if (does_overlap g c)
no_more_of g b c either = elim either [
  | inl none ↦ subst (λ (x : Option Rect). one_if (does_overlap g x) ≤ one_if (does_overlap g c)) (sym none) (omega arith)
  | inr same ↦ subst (λ (x : Option Rect). one_if (does_overlap g x) ≤ one_if (does_overlap g c)) (sym same) (omega arith)
]

-- no more of them share a point with a strip
pub part_is_no_more : (g : Strip) (part whole : List (Option Rect)) → ArePartOf part whole → count_in g part ≤ count_in g whole
part_is_no_more g [] whole p = omega arith
part_is_no_more g (b ∷ bs) [] p =
    let rest = part_is_no_more g bs [] (rest_of_none b bs p) in
    let step = one_more g b bs in
    let none = ap (λ (x : Option Rect). one_if (does_overlap g x)) (first_is_none b bs p) in
    omega (arith, rest, step, none)
part_is_no_more g (b ∷ bs) (c ∷ cs) p =
    let rest = part_is_no_more g bs cs (rest_is_part b c bs cs p) in
    let first = no_more_of g b c (p 0) in
    let before = one_more g b bs in
    let after = one_more g c cs in
    omega (arith, rest, first, before, after)

-- if a box that shares a point with the strip is missing, there is room for it
pub part_leaves_room : (g : Strip) (part whole : List (Option Rect)) (own : ℕ) (r : Rect) → ArePartOf part whole → cell_box part own ≡ None →
    cell_box whole own ≡ Some r → SharesPoint g.area r → count_in g part + 1 ≤ count_in g whole
part_leaves_room g part [] own r p none is shares = absurd cc
part_leaves_room g [] (c ∷ cs) zero r p none is shares =
    let after = one_more g c cs in
    let one = ap one_if (ap (does_overlap g) is ∙ shares_overlaps g r shares) in
    omega (arith, after, one)
part_leaves_room g [] (c ∷ cs) (suc own) r p none is shares =
    let rest = part_leaves_room g [] cs own r (λ k. inl refl) refl is shares in
    let after = one_more g c cs in
    omega (arith, rest, after)
part_leaves_room g (b ∷ bs) (c ∷ cs) zero r p none is shares =
    let rest = part_is_no_more g bs cs (rest_is_part b c bs cs p) in
    let before = one_more g b bs in
    let after = one_more g c cs in
    let zero_before = ap (λ (x : Option Rect). one_if (does_overlap g x)) none in
    let one = ap one_if (ap (does_overlap g) is ∙ shares_overlaps g r shares) in
    omega (arith, rest, before, after, zero_before, one)
part_leaves_room g (b ∷ bs) (c ∷ cs) (suc own) r p none is shares =
    let rest = part_leaves_room g bs cs own r (rest_is_part b c bs cs p) none is shares in
    let first = no_more_of g b c (p 0) in
    let before = one_more g b bs in
    let after = one_more g c cs in
    omega (arith, rest, first, before, after)

-- boxes that fit still fit if no strip has less room
pub fits_still : (old new : Occupied) (team : ℕ) (boxes : List (Option Rect)) → new.index.strips ≡ old.index.strips → new.site ≡ old.site →
    KeepsCapacities old.rooms new.rooms → FitIn old team boxes → FitIn new team boxes
fits_still old new team boxes strips site rooms fits n g at of_team =
    let same = ap (λ (w : ℤ). count_in (widened (pos 16 *ℤ w) g) boxes) site in
    let most = fits n g (ap (λ (xs : List Strip). slice_get xs n) (sym strips) ∙ at) of_team in
    let no_less = rooms.each n in
    omega (arith, same, most, no_less)

-- another box for one cell increases the count by at most one
pub set_is_one_more : (g : Strip) (boxes : List (Option Rect)) (own : ℕ) (box : Option Rect) → count_in g (set boxes own box) ≤ count_in g boxes + 1
set_is_one_more g [] own box = omega arith
set_is_one_more g (b ∷ bs) zero box =
    let before = one_more g b bs in
    let after = one_more g box bs in
    let most = at_most_one (does_overlap g box) in
    omega (arith, before, after, most)
  where
    at_most_one : (t : Bool) → one_if t ≤ 1
    at_most_one true = omega arith
    at_most_one false = omega arith
set_is_one_more g (b ∷ bs) (suc own) box =
    let rest = set_is_one_more g bs own box in
    let before = one_more g b bs in
    let after = one_more g b (set bs own box) in
    omega (arith, before, after, rest)

-- how often a number is in a list
abbrev count_of : ℕ → List ℕ → ℕ
count_of k owns = count_by (λ own. eqb own k) owns

abbrev count_below : ℕ → List ℕ → ℕ
count_below k owns = count_by (λ own. ltb own k) owns

of_more : (k own : ℕ) (owns : List ℕ) → count_of k (own ∷ owns) ≡ one_if (eqb own k) + count_of k owns
of_more k own owns = sum_by-cons (λ o. cond (eqb o k) 1 0) own owns

below_more : (k own : ℕ) (owns : List ℕ) → count_below k (own ∷ owns) ≡ one_if (ltb own k) + count_below k owns
below_more k own owns = sum_by-cons (λ o. cond (ltb o k) 1 0) own owns

later : (own : ℕ) (owns : List ℕ) (k : ℕ) → Contains owns k → Contains (own ∷ owns) k
later own owns k (i, within, is) = (suc i, omega (arith, within), is)

count_none : (k : ℕ) (owns : List ℕ) → (Contains owns k → ⊥) → count_of k owns ≡ 0
count_none k [] never = refl
count_none k (own ∷ owns) never = elim (eqb_tells own k) [
  | inl same ↦ absurd (never (0, omega arith, same.1))
  | inr apart ↦
      let rest = count_none k owns (λ there. never (later own owns k there)) in
      let step = of_more k own owns in
      let none = ap one_if apart.0 in
      omega (arith, rest, step, none)
]

count_once : (k : ℕ) (owns : List ℕ) → AllPairs (λ a b. a ≢ b) owns → Contains owns k → count_of k owns ≡ 1
count_once k [] once (i, within, is) = absurd (omega (arith, within))
count_once k (own ∷ owns) once there = elim (eqb_tells own k) [
  | inl same ↦
      let rest = count_none k owns (λ c. once 0 (suc c.0) k (omega arith) (let h = c.1 in omega (arith, h)) (same.1 ∙ sym c.2)) in
      let step = of_more k own owns in
      let one = ap one_if same.0 in
      omega (arith, rest, step, one)
  | inr apart ↦
      let rest = count_once k owns (λ i j d less within. once (suc i) (suc j) d (omega (arith, less)) (omega (arith, within))) (after_it there apart.1) in
      let step = of_more k own owns in
      let none = ap one_if apart.0 in
      omega (arith, rest, step, none)
]
  where
    after_it : Contains (own ∷ owns) k → own ≢ k → Contains owns k
    after_it (zero, within, is) other = absurd (other is)
    after_it (suc i, within, is) other = (i, omega (arith, within), is)

below_next : (k : ℕ) (owns : List ℕ) → count_below (k + 1) owns ≡ count_below k owns + count_of k owns
below_next k [] = refl
below_next k (own ∷ owns) =
    let rest = below_next k owns in
    let a = below_more (k + 1) own owns in
    let b = below_more k own owns in
    let c = of_more k own owns in
    let one : one_if (ltb own (k + 1)) ≡ one_if (ltb own k) + one_if (eqb own k) = grind (arith, nat_tests) in
    omega (arith, rest, a, b, c, one)

below_none : (owns : List ℕ) → count_below 0 owns ≡ 0
below_none [] = refl
below_none (own ∷ owns) =
    let rest = below_none owns in
    let a = below_more 0 own owns in
    let none : one_if (ltb own 0) ≡ 0 = grind (arith, nat_tests) in
    omega (arith, rest, a, none)

below_all : (k : ℕ) (owns : List ℕ) → ((own : ℕ) → Contains owns own → own < k) → count_below k owns ≡ length owns
below_all k [] low = refl
below_all k (own ∷ owns) low =
    let rest = below_all k owns (λ o there. low o (later own owns o there)) in
    let a = below_more k own owns in
    let less = low own (0, omega arith, refl) in
    let one : one_if (ltb own k) ≡ 1 = grind (arith, nat_tests) in
    omega (arith, rest, a, one)

-- a list that names each cell whose box shares a point with a strip once is as long as the count in
-- the strip
pub named_are_counted : (g : Strip) (boxes : List (Option Rect)) (owns : List ℕ) → AllPairs (λ a b. a ≢ b) owns →
    ((own : ℕ) → Contains owns own ↔ (does_overlap g (cell_box boxes own) ≡ true)) → length owns ≡ count_in g boxes
named_are_counted g boxes owns once exact = sym (below_all (length boxes) owns low) ∙ up_to (length boxes) (omega arith) ∙ ap (count_in g) (take_whole boxes)
  where
    take_whole : (bs : List (Option Rect)) → take (length bs) bs ≡ bs
    take_whole [] = refl
    take_whole (b ∷ bs) = ap (λ (cs : List (Option Rect)). b ∷ cs) (take_whole bs)

    past : (bs : List (Option Rect)) (k : ℕ) → does_overlap g (cell_box bs k) ≡ true → k < length bs
    past [] k e = absurd cc
    past (b ∷ bs) zero e = omega arith
    past (b ∷ bs) (suc k) e = let h = past bs k e in omega (arith, h)

    low : (own : ℕ) → Contains owns own → own < length boxes
    low own there = past boxes own ((exact own).0 there)

    at : (bs : List (Option Rect)) (k : ℕ) → k < length bs → cell_box bs k ≡ get_or bs k None
    at [] k within = absurd (omega (arith, within))
    at (b ∷ bs) zero within = refl
    at (b ∷ bs) (suc k) within = at bs k (omega (arith, within))

    yes_or_no : (b : Bool) → (b ≡ true) ⊎ (b ≡ false)
    yes_or_no true = inl refl
    yes_or_no false = inr refl

    not_both : (b : Bool) → b ≡ true → b ≡ false → ⊥
    not_both b t f = absurd cc

    next_too : (k : ℕ) → k < length boxes → count_below k owns ≡ count_in g (take k boxes) → count_below (k + 1) owns ≡ count_in g (take (k + 1) boxes)
    next_too k inside before =
        let next = below_next k owns in
        let here = ap (does_overlap g) (at boxes k inside) in
        elim (yes_or_no (does_overlap g (cell_box boxes k))) [
          | inl it_does ↦
              let more = count_by_more_yes (does_overlap g) boxes k None inside (sym here ∙ it_does) in
              let one = count_once k owns once ((exact k).1 it_does) in
              omega (arith, before, next, more, one)
          | inr it_does_not ↦
              let more = count_by_more_no (does_overlap g) boxes k None inside (sym here ∙ it_does_not) in
              let none = count_none k owns (λ there. not_both (does_overlap g (cell_box boxes k)) ((exact k).0 there) it_does_not) in
              omega (arith, before, next, more, none)
        ]

    up_to : (k : ℕ) → k ≤ length boxes → count_below k owns ≡ count_in g (take k boxes)
    up_to zero within = below_none owns
    up_to (suc k) within =
        let At : ℕ → Type 0 = λ m. count_below m owns ≡ count_in g (take m boxes) in
        let same : k + 1 ≡ suc k = omega arith in
        subst At same (next_too k (omega (arith, within)) (up_to k (omega (arith, within))))
