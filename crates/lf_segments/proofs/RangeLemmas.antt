-- The strips of one row, which are adjacent, and the facts that a binary search among them gives
-- about all strips.
use Rattle.std.proofs.Common.{◌≡◌, ◌⊎◌, inl, inr, ℕ, ◌+◌, ◌-◌, ◌<◌, ◌≤◌, ℤ, Bool, true, false, List, length, get_or, take, drop, sym, ap, subst}
use Rattle.std.proofs.Common.{◌∙◌, arith, int_le, int_lt}
use Rattle.std.specs.Prelude.{All, AllPairs}
use Rattle.std.proofs.lemmas.List.{get_or-map, get_or-take, get_or-drop, length-drop, length-map, length-take}
use Rattle.lf_segments.specs.RowStarts.{IsRangeOf}
use Rattle.lf_segments.specs.declared.strip.Strip.{Strip}
use Rattle.lf_segments.specs.Strips.{AreNear, is_earlier, rows_in}
use Rattle.lf_segments.proofs.OrderLemmas.{are_near, earlier_row, later_row}

-- The strips from start on and below end.
abbrev pub part : List Strip → ℕ → ℕ → List Strip
part xs start end = take (end - start) (drop start xs)

row_in : (xs : List Strip) (k d : ℕ) (g : Strip) → k < length xs → get_or (rows_in xs) k d ≡ (get_or xs k g).row
row_in xs k d g within = get_or-map (λ (q : Strip). q.row) xs k g d within

pub end_within : (xs : List Strip) (row start end : ℕ) → IsRangeOf (rows_in xs) row start end → end ≤ length xs
end_within xs row start end range = let many = length-map xs (λ (g : Strip). g.row) in let within = range.within in omega (arith, many, within)

pub part_long : (xs : List Strip) (start end : ℕ) → start ≤ end → end ≤ length xs → length (part xs start end) ≡ end - start
part_long xs start end order within =
    let long = length-take (end - start) (drop start xs) in
    let rest = length-drop start xs in
    omega (arith, long, rest, order, within)

pub part_get : (xs : List Strip) (start end k : ℕ) (d : Strip) → k < end - start → get_or (part xs start end) k d ≡ get_or xs (start + k) d
part_get xs start end k d less = get_or-take (end - start) (drop start xs) k d less ∙ get_or-drop start xs k d

pub part_pairs : (R : Strip → Strip → Type 0) (xs : List Strip) (start end : ℕ) → start ≤ end → end ≤ length xs → AllPairs R xs →
    AllPairs R (part xs start end)
part_pairs R xs start end order within pairs i j d less inside =
    let long = part_long xs start end order within in
    let last : start + j < length xs = omega (arith, long, inside, order, within) in
    let there : R (get_or xs (start + i) d) (get_or xs (start + j) d) = pairs (start + i) (start + j) d (omega (arith, less)) last in
    subst (λ (g : Strip). R g (get_or (part xs start end) j d)) (sym (part_get xs start end i d (omega (arith, long, less, inside))))
    (subst (λ (g : Strip). R (get_or xs (start + i) d) g) (sym (part_get xs start end j d (omega (arith, long, inside)))) there)

pub part_all : (P : Strip → Type 0) (xs : List Strip) (start end : ℕ) → start ≤ end → end ≤ length xs → All P xs → All P (part xs start end)
part_all P xs start end order within all k d inside =
    let long = part_long xs start end order within in
    subst P (sym (part_get xs start end k d (omega (arith, long, inside)))) (all (start + k) d (omega (arith, long, inside, order, within)))

-- Whether strips of a row are earlier decides it for all strips.
earlier_in_all : (left : Strip → Bool) (xs : List Strip) (row team start end n : ℕ) → IsRangeOf (rows_in xs) row start end →
    n ≤ end - start →
    ((k : ℕ) (d : Strip) → k < n → is_earlier row team (left (get_or (part xs start end) k d)) (get_or (part xs start end) k d) ≡ true) →
    (k : ℕ) (d : Strip) → k < start + n → is_earlier row team (left (get_or xs k d)) (get_or xs k d) ≡ true
earlier_in_all left xs row team start end n range some earlier k d less = elim two [
  | inl before ↦
      let within = end_within xs row start end range in
      let order = range.order in
      let is = row_in xs k 0 d (omega (arith, before, order, within)) in
      let low = range.before k 0 before in
      earlier_row row team (left (get_or xs k d)) (get_or xs k d) (omega (arith, is, low))
  | inr from ↦
      let inner : k - start < n = omega (arith, from, less) in
      let here : start + (k - start) ≡ k = omega (arith, from) in
      let is : get_or (part xs start end) (k - start) d ≡ get_or xs k d =
      part_get xs start end (k - start) d (omega (arith, inner, some)) ∙ ap (λ m. get_or xs m d) here in
      subst (λ (g : Strip). is_earlier row team (left g) g ≡ true) is (earlier (k - start) d inner)
]
  where
    two : (k < start) ⊎ (start ≤ k)
    two = grind arith

rest_in_all : (left : Strip → Bool) (xs : List Strip) (row team start end n : ℕ) → IsRangeOf (rows_in xs) row start end →
    ((k : ℕ) (d : Strip) → n ≤ k → k < length (part xs start end) → is_earlier row team (left (get_or (part xs start end) k d)) (get_or (part xs start end) k d)
    ≡ false) →
    (k : ℕ) (d : Strip) → start + n ≤ k → k < length xs → is_earlier row team (left (get_or xs k d)) (get_or xs k d) ≡ false
rest_in_all left xs row team start end n range rest k d least inside = elim two [
  | inl below ↦
      let within = end_within xs row start end range in
      let long = part_long xs start end range.order within in
      let here : start + (k - start) ≡ k = omega (arith, least) in
      let is : get_or (part xs start end) (k - start) d ≡ get_or xs k d =
      part_get xs start end (k - start) d (omega (arith, below, least)) ∙ ap (λ m. get_or xs m d) here in
      subst (λ (g : Strip). is_earlier row team (left g) g ≡ false) is (rest (k - start) d (omega (arith, least)) (omega (arith, long, below, least)))
  | inr past ↦
      let many = length-map xs (λ (g : Strip). g.row) in
      let is = row_in xs k 0 d inside in
      let high = range.after_it k 0 past (omega (arith, many, inside)) in
      later_row row team (left (get_or xs k d)) (get_or xs k d) (omega (arith, is, high))
]
  where
    two : (k < end) ⊎ (end ≤ k)
    two = grind arith

-- A run that is earlier among the strips of a row is earlier among all strips.
run_in_all : (left : Strip → Bool) (xs : List Strip) (row team start end n m : ℕ) → m ≤ end - start →
    ((k : ℕ) (d : Strip) → n ≤ k → k < m → is_earlier row team (left (get_or (part xs start end) k d)) (get_or (part xs start end) k d) ≡ true) →
    (k : ℕ) (d : Strip) → start + n ≤ k → k < start + m → is_earlier row team (left (get_or xs k d)) (get_or xs k d) ≡ true
run_in_all left xs row team start end n m some earlier k d least less =
    let inner : k - start < m = omega (arith, least, less) in
    let here : start + (k - start) ≡ k = omega (arith, least) in
    let is : get_or (part xs start end) (k - start) d ≡ get_or xs k d =
    part_get xs start end (k - start) d (omega (arith, inner, some)) ∙ ap (λ m. get_or xs m d) here in
    subst (λ (g : Strip). is_earlier row team (left g) g ≡ true) is (earlier (k - start) d (omega (arith, least)) inner)

-- The strips of a row that are not ended, and begun from there on, are near.
pub near_in_row : (xs : List Strip) (row team : ℕ) (lo hi : ℤ) (start end n m : ℕ) → IsRangeOf (rows_in xs) row start end →
    n ≤ length (part xs start end) → m ≤ length (part xs start end) →
    ((k : ℕ) (d : Strip) → k < n → is_earlier row team (int_le (get_or (part xs start end) k d).area.x2 lo) (get_or (part xs start end) k d) ≡ true) →
    ((k : ℕ) (d : Strip) → n ≤ k → k < length (part xs start end) →
    is_earlier row team (int_le (get_or (part xs start end) k d).area.x2 lo) (get_or (part xs start end) k d) ≡ false) →
    ((k : ℕ) (d : Strip) → n ≤ k → k < m → is_earlier row team (int_lt (get_or (part xs start end) k d).area.x1 hi) (get_or (part xs start end) k d) ≡ true) →
    ((k : ℕ) (d : Strip) → m ≤ k → k < length (part xs start end) →
    is_earlier row team (int_lt (get_or (part xs start end) k d).area.x1 hi) (get_or (part xs start end) k d) ≡ false) →
    AreNear xs row team lo hi (start + n) (start + m)
near_in_row xs row team lo hi start end n m range first second ended left begun after_it =
    let within = end_within xs row start end range in
    let order = range.order in
    let long = part_long xs start end order within in
    are_near xs row team lo hi (start + n) (start + m) (omega (arith, long, second, order, within))
    (earlier_in_all (λ g. int_le g.area.x2 lo) xs row team start end n range (omega (arith, long, first)) ended)
    (rest_in_all (λ g. int_le g.area.x2 lo) xs row team start end n range left)
    (run_in_all (λ g. int_lt g.area.x1 hi) xs row team start end n m (omega (arith, long, second)) begun)
    (rest_in_all (λ g. int_lt g.area.x1 hi) xs row team start end m range after_it)
