-- The least number of a list of boxes, from those of its parts.
use Rattle.std.proofs.Common.{◌≢◌, inl, inr, ℕ, List, [], ◌∷◌, ◌++◌, Option, Some, None, refl, sym, subst, ◌∙◌, ◌+◌, ◌<◌, length, get_or, take, drop, arith}
use Rattle.std.specs.Prelude.{All, IfSome, IsSomeAnd, IsPermutation}
use Rattle.std.proofs.lemmas.List.Elements.{All-append, All-weaker, Contains-append_left, Contains-append_right}
use Rattle.std.proofs.lemmas.List.{take_more, take-append-drop}
use Rattle.std.proofs.lemmas.List.Sorted.{All-permutation, Contains-permutation, IsPermutation-append_comm}
use Rattle.lf_units.specs.Area.{SharesPoint}
use Rattle.lf_units.specs.declared.geometry.Rect.{Rect}
use Rattle.lf_units.specs.Near.{IsOverlapping}
use Rattle.lf_units.specs.Packed.{IsBound, IsUpTo, IsLeastOf, HoldsNoLess}
use Rattle.lf_units.specs.declared.placed.Placed.{Placed}
use Rattle.lf_units.specs.declared.bound.Bound.{Bound}

-- If a is at most n, and b is at most a, then b is at most n.
up_to_less : (a b : Option ℕ) (n : ℕ) → IsUpTo a n → IfSome a (IsUpTo b) → IsUpTo b n
up_to_less None b n low less = absurd low
up_to_less (Some x) None n low less = absurd less
up_to_less (Some x) (Some y) n low less = omega arith

-- A number is no greater than itself.
up_to_itself : (a : Option ℕ) → IfSome a (IsUpTo a)
up_to_itself None = tt
up_to_itself (Some x) = omega arith

-- The relation `no greater` is transitive.
no_greater_along : (a b c : Option ℕ) → IfSome a (IsUpTo b) → IfSome b (IsUpTo c) → IfSome a (IsUpTo c)
no_greater_along None b c first second = tt
no_greater_along (Some x) b c first second = up_to_less b c x first second

-- A number found in one of two lists is found in their concatenation, and one found in a list is
-- found in its permutations.
overlapping_before : (xs ys : List Placed) (rect : Rect) (but : ℕ) (a : Option ℕ) → IsSomeAnd a (IsOverlapping xs rect but) → IsSomeAnd a (IsOverlapping (xs ++ ys) rect but)
overlapping_before xs ys rect but None m = absurd m
overlapping_before xs ys rect but (Some own) m = record {
  placed = m.placed;
  among = Contains-append_left xs ys m.placed m.among;
  number = m.number;
  other = m.other;
  shares = m.shares;
}

overlapping_after : (xs ys : List Placed) (rect : Rect) (but : ℕ) (a : Option ℕ) → IsSomeAnd a (IsOverlapping ys rect but) → IsSomeAnd a (IsOverlapping (xs ++ ys) rect but)
overlapping_after xs ys rect but None m = absurd m
overlapping_after xs ys rect but (Some own) m = record {
  placed = m.placed;
  among = Contains-append_right xs ys m.placed m.among;
  number = m.number;
  other = m.other;
  shares = m.shares;
}

overlapping_permuted : (xs ys : List Placed) (rect : Rect) (but : ℕ) (a : Option ℕ) → IsPermutation xs ys → IsSomeAnd a (IsOverlapping xs rect but) → IsSomeAnd a (IsOverlapping ys rect but)
overlapping_permuted xs ys rect but None moved m = absurd m
overlapping_permuted xs ys rect but (Some own) moved m = record {
  placed = m.placed;
  among = Contains-permutation xs ys m.placed moved m.among;
  number = m.number;
  other = m.other;
  shares = m.shares;
}

-- The least of one list, continued through another, is the least of both.
pub least_along : (xs ys : List Placed) (rect : Rect) (but : ℕ) (a b c : Option ℕ) →
    IsLeastOf xs rect but a b → IsLeastOf ys rect but b c → IsLeastOf (xs ++ ys) rect but a c
least_along xs ys rect but a b c first second = record {
  from = elim second.from [
    | inr m ↦ inr (overlapping_after xs ys rect but c m)
    | inl kept ↦ elim first.from [
      | inl kept_first ↦ inl (kept ∙ kept_first)
      | inr m ↦
          let P : Option ℕ → Type 0 = λ o. IsSomeAnd o (IsOverlapping (xs ++ ys) rect but) in
          inr (subst P (sym kept) (overlapping_before xs ys rect but b m))
    ]
  ];
  no_greater = no_greater_along a b c first.no_greater second.no_greater;
  least_overlapped =
      let Low : Option ℕ → Placed → Type 0 = λ o p. p.own ≢ but → SharesPoint rect p.rect → IsUpTo o p.own in
      All-append (Low c) xs ys
      (All-weaker (Low b) (Low c) (λ p low other shares. up_to_less b c p.own (low other shares) second.no_greater) xs first.least_overlapped)
      second.least_overlapped;
}

-- One box more.
pub least_one_more : (boxes : List Placed) (n : ℕ) (d : Placed) (rect : Rect) (but : ℕ) (a b c : Option ℕ) → n < length boxes →
    IsLeastOf (take n boxes) rect but a b → IsLeastOf (get_or boxes n d ∷ []) rect but b c → IsLeastOf (take (n + 1) boxes) rect but a c
least_one_more boxes n d rect but a b c within first second =
    subst (λ (xs : List Placed). IsLeastOf xs rect but a c) (sym (take_more boxes n d within))
    (least_along (take n boxes) (get_or boxes n d ∷ []) rect but a b c first second)

-- The order of the boxes does not matter.
pub least_permuted : (xs ys : List Placed) (rect : Rect) (but : ℕ) (a b : Option ℕ) → IsPermutation xs ys → IsLeastOf xs rect but a b → IsLeastOf ys rect but a b
least_permuted xs ys rect but a b moved of = record {
  from = elim of.from [ inl kept ↦ inl kept | inr m ↦ inr (overlapping_permuted xs ys rect but b moved m) ];
  no_greater = of.no_greater;
  least_overlapped = All-permutation (λ p. p.own ≢ but → SharesPoint rect p.rect → IsUpTo b p.own) xs ys moved of.least_overlapped;
}

-- The front of a list and then the rest, or the rest and then the front.
pub least_of_halves : (boxes : List Placed) (n : ℕ) (rect : Rect) (but : ℕ) (a b c : Option ℕ) → IsLeastOf (take n boxes) rect but a b →
    IsLeastOf (drop n boxes) rect but b c → IsLeastOf boxes rect but a c
least_of_halves boxes n rect but a b c first second =
    subst (λ (xs : List Placed). IsLeastOf xs rect but a c) (take-append-drop n boxes)
    (least_along (take n boxes) (drop n boxes) rect but a b c first second)

pub least_turned : (boxes : List Placed) (n : ℕ) (rect : Rect) (but : ℕ) (a b c : Option ℕ) → IsLeastOf (drop n boxes) rect but a b →
    IsLeastOf (take n boxes) rect but b c → IsLeastOf boxes rect but a c
least_turned boxes n rect but a b c first second =
    let front : List Placed = take n boxes in
    let back : List Placed = drop n boxes in
    subst (λ (xs : List Placed). IsLeastOf xs rect but a c) (take-append-drop n boxes)
    (least_permuted (back ++ front) (front ++ back) rect but a c (IsPermutation-append_comm back front)
    (least_along back front rect but a b c first second))

-- Boxes in a bound within which no number is less change nothing.
pub least_kept : (bound : Bound) (boxes : List Placed) (rect : Rect) (but : ℕ) (a : Option ℕ) → All (IsBound bound) boxes →
    HoldsNoLess bound rect a → IsLeastOf boxes rect but a a
least_kept bound boxes rect but a within low = record {
  from = inl refl;
  no_greater = up_to_itself a;
  least_overlapped =
      All-weaker (IsBound bound) (λ p. p.own ≢ but → SharesPoint rect p.rect → IsUpTo a p.own)
      (λ p held other shares. low p held shares) boxes within;
}
