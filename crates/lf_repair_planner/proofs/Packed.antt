-- Packed cells, part by part.
use Rattle.std.proofs.Common.{◌≡◌, ℕ, ◌+◌, ◌-◌, ◌<◌, ◌≤◌, ◌⊎◌, inl, inr, List, [], ◌∷◌}
use Rattle.std.proofs.Common.{◌++◌, suc, zero, drop, get_or, length, set, take, sym, ap, ◌∙◌, arith, subst}
use Rattle.std.proofs.lemmas.List.{get_or_append_left, get_or-append-add, get_or_default, get_or-drop, get_or-take, length-append, length-drop, length-take-le}
use Rattle.std.proofs.lemmas.List.Sums.{sum_by-cons}
use Rattle.std.specs.List.{All, remove, slice_index_or}
use Rattle.lf_repair_planner.specs.declared.packed_cell.PackedCell.{PackedCell}
use Rattle.lf_repair_planner.specs.Packing.{IsPacked, IsPackedWithin, total_width}
use Rattle.lf_repair_planner.specs.Windows.{IsBackStart, IsFrontEnd}

none_packed : (start end : ℕ) → IsPackedWithin start end []
none_packed start end = record {
  from = λ i d l. absurd (omega (arith, l));
  within = λ i d l. absurd (omega (arith, l));
  apart = λ i j d a b. absurd (omega (arith, b));
}

-- the first of packed cells, and those after it
pub packed_rest : (start end : ℕ) (x : PackedCell) (xs : List PackedCell) → IsPackedWithin start end (x ∷ xs) → IsPackedWithin (x.at + x.width) end xs
packed_rest start end x xs p = record {
  from = λ i d l. p.apart zero (suc i) d (omega arith) (omega (arith, l));
  within = λ i d l. p.within (suc i) d (omega (arith, l));
  apart = λ i j d a b. p.apart (suc i) (suc j) d (omega (arith, a)) (omega (arith, b));
}

pub packed_first : (start end : ℕ) (x : PackedCell) (xs : List PackedCell) → start ≤ x.at → x.at + x.width ≤ end → IsPackedWithin (x.at + x.width) end xs
    → IsPackedWithin start end (x ∷ xs)
packed_first start end x xs from within p = record { from = begun; within = ended; apart = apart }
  where
    begun : All (λ c. start ≤ c.at) (x ∷ xs)
    begun zero d l = from
    begun (suc i) d l = let b = p.from i d (omega (arith, l)) in omega (arith, b, from)

    ended : All (λ c. c.at + c.width ≤ end) (x ∷ xs)
    ended zero d l = within
    ended (suc i) d l = p.within i d (omega (arith, l))

    apart : (i j : ℕ) (d : PackedCell) → i < j → j < length (x ∷ xs)
        → (slice_index_or (x ∷ xs) i d).at + (slice_index_or (x ∷ xs) i d).width ≤ (slice_index_or (x ∷ xs) j d).at
    apart i zero d a b = absurd (omega (arith, a))
    apart zero (suc j) d a b = p.from j d (omega (arith, b))
    apart (suc i) (suc j) d a b = p.apart i j d (omega (arith, a)) (omega (arith, b))

-- what is packed between narrower sites
pub packed_wider : (start end low high : ℕ) (xs : List PackedCell) → low ≤ start → end ≤ high → IsPackedWithin start end xs → IsPackedWithin low high xs
packed_wider start end low high xs below above p = record {
  from = λ i d l. let b = p.from i d l in omega (arith, b, below);
  within = λ i d l. let b = p.within i d l in omega (arith, b, above);
  apart = p.apart;
}

-- packed cells in front of packed cells
pub packed_append : (start middle end : ℕ) (xs ys : List PackedCell) → start ≤ middle → middle ≤ end → IsPackedWithin start middle xs → IsPackedWithin middle end ys
    → IsPackedWithin start end (xs ++ ys)
packed_append start middle end [] ys below above p q = packed_wider middle end start end ys below (omega arith) q
packed_append start middle end (x ∷ xs) ys below above p q =
    let from = p.from zero x (omega arith) in
    let within = p.within zero x (omega arith) in
    packed_first start end x (xs ++ ys) from (omega (arith, within, above))
    (packed_append (x.at + x.width) middle end xs ys within above (packed_rest start middle x xs p) q)

pub packed_take : (start end n : ℕ) (xs : List PackedCell) → IsPackedWithin start end xs → IsPackedWithin start end (take n xs)
packed_take start end zero xs p = none_packed start end
packed_take start end (suc n) [] p = none_packed start end
packed_take start end (suc n) (x ∷ xs) p =
    packed_first start end x (take n xs) (p.from zero x (omega arith)) (p.within zero x (omega arith))
    (packed_take (x.at + x.width) end n xs (packed_rest start end x xs p))

pub packed_drop : (start end n : ℕ) (xs : List PackedCell) → IsPackedWithin start end xs → IsPackedWithin start end (drop n xs)
packed_drop start end zero xs p = p
packed_drop start end (suc n) [] p = none_packed start end
packed_drop start end (suc n) (x ∷ xs) p =
    let from = p.from zero x (omega arith) in
    packed_drop start end n xs (packed_wider (x.at + x.width) end start end xs (omega (arith, from)) (omega arith) (packed_rest start end x xs p))

-- packed cells without one
pub packed_without : (start end n : ℕ) (xs : List PackedCell) → IsPackedWithin start end xs → IsPackedWithin start end (remove xs n)
packed_without start end zero [] p = p
packed_without start end (suc n) [] p = p
packed_without start end zero (x ∷ xs) p = packed_drop start end 1 (x ∷ xs) p
packed_without start end (suc n) (x ∷ xs) p =
    packed_first start end x (remove xs n) (p.from zero x (omega arith)) (p.within zero x (omega arith))
    (packed_without (x.at + x.width) end n xs (packed_rest start end x xs p))

-- packed cells with another one, of the same width, in the place of one
pub packed_replaced : (start end n : ℕ) (xs : List PackedCell) (y d : PackedCell) → n < length xs → y.at ≡ (get_or xs n d).at → y.width ≡ (get_or xs n d).width
    → IsPackedWithin start end xs → IsPackedWithin start end (set xs n y)
packed_replaced start end n [] y d within at wide p = absurd (omega (arith, within))
packed_replaced start end zero (x ∷ xs) y d within at wide p =
    let from = p.from zero x (omega arith) in
    let ends = p.within zero x (omega arith) in
    let same : x.at + x.width ≡ y.at + y.width = omega (arith, at, wide) in
    packed_first start end y xs (omega (arith, from, at)) (omega (arith, ends, same)) (subst (λ s. IsPackedWithin s end xs) same (packed_rest start end x xs p))
packed_replaced start end (suc n) (x ∷ xs) y d within at wide p =
    packed_first start end x (set xs n y) (p.from zero x (omega arith)) (p.within zero x (omega arith))
    (packed_replaced (x.at + x.width) end n xs y d (omega (arith, within)) at wide (packed_rest start end x xs p))

pub width_replaced : (n : ℕ) (xs : List PackedCell) (y d : PackedCell) → n < length xs → y.width ≡ (get_or xs n d).width → total_width (set xs n y) ≡ total_width xs
width_replaced n [] y d within wide = absurd (omega (arith, within))
width_replaced zero (x ∷ xs) y d within wide =
    let old = sum_by-cons (λ (c : PackedCell). c.width) x xs in
    let new = sum_by-cons (λ (c : PackedCell). c.width) y xs in
    omega (arith, old, new, wide)
width_replaced (suc n) (x ∷ xs) y d within wide =
    let old = sum_by-cons (λ (c : PackedCell). c.width) x xs in
    let new = sum_by-cons (λ (c : PackedCell). c.width) x (set xs n y) in
    let rest = width_replaced n xs y d (omega (arith, within)) wide in
    omega (arith, old, new, rest)

-- cells that are right of others are right of their end
pub packed_after : (start end site : ℕ) (xs ys : List PackedCell) → IsPackedWithin start end (xs ++ ys) → IsFrontEnd xs site → IsPackedWithin site end ys
packed_after start end site xs ys p front = record {
  from = λ k d l. front.least (slice_index_or ys k d).at (λ j e h.
      let before = p.apart j (length xs + k) d (omega (arith, h)) (let n = long in omega (arith, l, n)) in
      let here = get_or-append-add xs ys k d in
      let there = get_or_append_left xs ys d j h ∙ get_or_default xs j d e h in
      subst (λ (c : PackedCell). c.at + c.width ≤ (get_or ys k d).at) there
      (subst (λ (c : PackedCell). (get_or (xs ++ ys) j d).at + (get_or (xs ++ ys) j d).width ≤ c.at) here before));
  within = λ k d l. subst (λ (c : PackedCell). c.at + c.width ≤ end) (get_or-append-add xs ys k d) (p.within (length xs + k) d (let n = long in omega (arith, l, n)));
  apart = λ i j d a b. subst (λ (c : PackedCell). (get_or ys i d).at + (get_or ys i d).width ≤ c.at) (get_or-append-add xs ys j d)
      (subst (λ (c : PackedCell). c.at + c.width ≤ (get_or (xs ++ ys) (length xs + j) d).at) (get_or-append-add xs ys i d)
      (p.apart (length xs + i) (length xs + j) d (omega (arith, a)) (let n = long in omega (arith, b, n))));
}
  where
    long : length (xs ++ ys) ≡ length xs + length ys
    long = length-append xs ys

-- cells that are left of others are left of their start
pub packed_before : (start room site : ℕ) (xs ys : List PackedCell) → IsPackedWithin start room (xs ++ ys) → IsBackStart room ys site → IsPackedWithin start site xs
packed_before start room site xs ys p back = record {
  from = λ k d l. subst (λ (c : PackedCell). start ≤ c.at) (get_or_append_left xs ys d k l) (p.from k d (let n = long in omega (arith, l, n)));
  within = λ k d l. back.greatest ((slice_index_or xs k d).at + (slice_index_or xs k d).width)
      (subst (λ (c : PackedCell). c.at + c.width ≤ room) (get_or_append_left xs ys d k l) (p.within k d (let n = long in omega (arith, l, n))))
      (λ j e h.
      let before = p.apart k (length xs + j) e (omega (arith, l)) (let n = long in omega (arith, h, n)) in
      let here = get_or-append-add xs ys j e in
      let there = get_or_append_left xs ys e k l ∙ get_or_default xs k e d l in
      subst (λ (c : PackedCell). c.at + c.width ≤ (get_or ys j e).at) there
      (subst (λ (c : PackedCell). (get_or (xs ++ ys) k e).at + (get_or (xs ++ ys) k e).width ≤ c.at) here before));
  apart = λ i j d a b. subst (λ (c : PackedCell). (get_or xs i d).at + (get_or xs i d).width ≤ c.at) (get_or_append_left xs ys d j b)
      (subst (λ (c : PackedCell). c.at + c.width ≤ (get_or (xs ++ ys) j d).at) (get_or_append_left xs ys d i (omega (arith, a, b)))
      (p.apart i j d a (let n = long in omega (arith, b, n))));
}
  where
    long : length (xs ++ ys) ≡ length xs + length ys
    long = length-append xs ys

-- the cells in front of a position end where the last of them does
pub front_end_is : (room first : ℕ) (cells : List PackedCell) (d : PackedCell) → 0 < first → first ≤ length cells → IsPacked room cells
    → IsFrontEnd (take first cells) ((slice_index_or cells (first - 1) d).at + (slice_index_or cells (first - 1) d).width)
front_end_is room first cells d some within p = record {
  ends = λ k e l. let below : k < first = omega (arith, l, long) in
      subst (λ (c : PackedCell). c.at + c.width ≤ (get_or cells (first - 1) d).at + (get_or cells (first - 1) d).width)
      (sym (get_or-take first cells k e below ∙ get_or_default cells k e d (omega (arith, below, within)))) (ended k below);
  least = λ limit h. subst (λ (c : PackedCell). c.at + c.width ≤ limit)
      (get_or-take first cells (first - 1) d (omega (arith, some))) (h (first - 1) d (omega (arith, some, long)));
}
  where
    long : length (take first cells) ≡ first
    long = length-take-le first cells within

    last_or : (k : ℕ) → k < first → (k < first - 1) ⊎ (k ≡ first - 1)
    last_or k h = grind arith

    ended : (k : ℕ) → k < first → (get_or cells k d).at + (get_or cells k d).width ≤ (get_or cells (first - 1) d).at + (get_or cells (first - 1) d).width
    ended k h = elim (last_or k h) [
      | inl less ↦ let a = p.apart k (first - 1) d less (omega (arith, some, within)) in omega (arith, a)
      | inr same ↦ subst (λ n. (get_or cells n d).at + (get_or cells n d).width ≤ (get_or cells (first - 1) d).at + (get_or cells (first - 1) d).width)
          (sym same) (omega arith)
    ]

-- the cells from a position on begin where the first of them does
pub back_start_is : (room last : ℕ) (cells : List PackedCell) (d : PackedCell) → last < length cells → IsPacked room cells
    → IsBackStart room (drop last cells) (slice_index_or cells last d).at
back_start_is room last cells d within p = record {
  begins = λ k e l. subst (λ (c : PackedCell). (get_or cells last d).at ≤ c.at)
      (sym (get_or-drop last cells k e ∙ get_or_default cells (last + k) e d (omega (arith, l, long)))) (begun k (omega (arith, l, long)));
  short = let e = p.within last d within in omega (arith, e);
  greatest = λ limit short h. subst (λ (c : PackedCell). limit ≤ c.at)
      (get_or-drop last cells zero d ∙ ap (λ n. get_or cells n d) (omega arith)) (h zero d (omega (arith, within, long)));
}
  where
    long : length (drop last cells) ≡ length cells - last
    long = length-drop last cells

    first_or : (k : ℕ) → (k ≡ 0) ⊎ (0 < k)
    first_or k = grind arith

    begun : (k : ℕ) → last + k < length cells → (get_or cells last d).at ≤ (get_or cells (last + k) d).at
    begun k h = elim (first_or k) [
      | inl none ↦ let same : last ≡ last + k = omega (arith, none) in
          subst (λ n. (get_or cells last d).at ≤ (get_or cells n d).at) same (omega arith)
      | inr some ↦ let a = p.apart last (last + k) d (omega (arith, some)) h in omega (arith, a)
    ]
