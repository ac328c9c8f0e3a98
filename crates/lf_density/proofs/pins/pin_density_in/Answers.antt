use Rattle.std.proofs.Common.{◌∙◌, ℕ, List, length, ap, subst, arith}
use Rattle.std.specs.List.Sorted.{IsPermutation}
use Rattle.std.proofs.lemmas.List.Sorted.{IsNonDecreasingBy-from_sort, length_permutation}
use Rattle.lf_density.specs.Pins.{bin_counts, pin_density_by}
use Rattle.lf_density.proofs.pins.pin_density_in.Goals as goal

pub pin_density_from-requires : goal.pin_density_from-requires
pin_density_from-requires c =
    let sorted = ap (λ (xs : List ℕ). length xs) c.as_slice.ensures.value in
    let same = length_permutation c.in_ok-rising.rising.items c.sort_unstable.new.self.items c.sort_unstable.ensures.permutation in
    omega (arith, sorted, same, c.in_ok-rising.ensures.many, c.requires.few)

pub returns : goal.returns
returns c = record {
  rising = c.sort_unstable.new.self.items;
  same = subst (λ (xs : List ℕ). IsPermutation xs c.sort_unstable.new.self.items) c.in_ok-rising.ensures.is c.sort_unstable.ensures.permutation;
  rise = IsNonDecreasingBy-from_sort (λ (n : ℕ). n) c.sort_unstable.new.self.items c.sort_unstable.ensures.sorted;
  is = c.pin_density_from.ensures ∙ ap (λ (xs : List ℕ). pin_density_by xs) c.as_slice.ensures.value;
}
