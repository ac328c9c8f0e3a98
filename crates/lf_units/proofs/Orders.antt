-- Spans in the order of their lower ends.
use Rattle.std.proofs.Common.{◌≡◌, ℤ, ◌≤ℤ◌, ◌<ℤ◌, List, get_or, false, Ordering, arith}
use Rattle.std.specs.declared.cmp.Ordering.TheVariants.{Less, Equal, Greater}
use Rattle.std.specs.Ordering.{int_cmp, is_lt, MatchOrdering}
use Rattle.std.specs.Cmp.{int_ranks}
use Rattle.std.specs.List.Sorted.{IsSortedByKey}
use Rattle.std.proofs.lemmas.Cmp.{int_cmp_total}
use Rattle.std.proofs.lemmas.Int.{ints}
use Rattle.std.proofs.lemmas.List.Sorted.{sorted_far, ranks_by}
use Rattle.lf_units.specs.declared.span.Span.{Span}
use Rattle.lf_units.specs.Spans.{IsRising, IsInOrder}

not_less : (r : Ordering) (a b : ℤ) → MatchOrdering r (a <ℤ b) (a ≡ b) (b <ℤ a) → is_lt r ≡ false → b ≤ℤ a
not_less Less a b m e = absurd cc
not_less Equal a b m e = omega (arith, ints, m)
not_less Greater a b m e = omega (arith, ints, m)

pub in_order_of_sorted : (xs : List Span) → IsSortedByKey (λ s. s.lo) int_cmp xs → IsInOrder xs
in_order_of_sorted xs up i j d less within =
    let key : Span → ℤ = λ s. s.lo in
    not_less (int_cmp (get_or xs j d).lo (get_or xs i d).lo) (get_or xs j d).lo (get_or xs i d).lo (int_ranks (get_or xs j d).lo (get_or xs i d).lo)
    (sorted_far (λ x y. is_lt (int_cmp x.lo y.lo)) (ranks_by int_cmp_total key) xs up i j d (omega arith) within)

pub in_order_of_rising : (xs : List Span) → IsRising xs → IsInOrder xs
in_order_of_rising xs r i j d less within =
    let filled = r.filled i d (omega (arith, less, within)) in
    let apart = r.apart i j d less within in
    omega (arith, ints, filled, apart)
