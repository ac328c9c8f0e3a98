-- Segments by their right ends.
use Rattle.std.proofs.Common.{◌≡◌, ◌⊎◌, inl, inr, ℕ, ℤ, ◌<◌, ◌≤◌, ◌≤ℤ◌, ◌<ℤ◌, List, length, get_or, sym, subst, arith, true, false, int_le}
use Rattle.std.specs.Prelude.{AllPairs}
use Rattle.std.specs.List.Sorted.{IsPartitionedBy, IsPartitionPoint}
use Rattle.std.proofs.lemmas.Int.{ints}
use Rattle.lf_units.proofs.Comparisons.{most_of, of_most, not_most_of}
use Rattle.lf_segments.specs.declared.segment.Segment.{Segment}

-- The segments that end at a limit or left of it are the first ones.
pub parted : (xs : List Segment) (limit : ℤ) → AllPairs (λ g h. g.span.hi ≤ℤ h.span.hi) xs → IsPartitionedBy (λ g. int_le g.span.hi limit) xs
parted xs limit r i j d order within t = elim same_or [
  | inl h ↦ let At : ℕ → Type 0 = λ n. int_le (get_or xs n d).span.hi limit ≡ true in subst At (sym h) t
  | inr h ↦
      let later = r i j d h within in
      let most = most_of (get_or xs j d).span.hi limit t in
      of_most (get_or xs i d).span.hi limit (omega (arith, ints, later, most))
]
  where
    same_or : (i ≡ j) ⊎ (i < j)
    same_or = grind arith

pub ended_point : (xs : List Segment) (limit : ℤ) (n : ℕ) → IsPartitionPoint (λ g. int_le g.span.hi limit ≡ true) (λ g. int_le g.span.hi limit ≡ false) xs n →
    (k : ℕ) (d : Segment) → k < n → (get_or xs k d).span.hi ≤ℤ limit
ended_point xs limit n point k d less = most_of (get_or xs k d).span.hi limit (point.0 k d (omega arith) less)

pub rest_point : (xs : List Segment) (limit : ℤ) (n : ℕ) → IsPartitionPoint (λ g. int_le g.span.hi limit ≡ true) (λ g. int_le g.span.hi limit ≡ false) xs n →
    (k : ℕ) (d : Segment) → n ≤ k → k < length xs → limit <ℤ (get_or xs k d).span.hi
rest_point xs limit n point k d from within = not_most_of (get_or xs k d).span.hi limit (point.1 k d from within)
