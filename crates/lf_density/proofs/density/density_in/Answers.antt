use Rattle.std.proofs.Common.{◌≡◌, ◌∙◌, ℕ, ◌*◌, List, length, ap, subst, arith}
use Rattle.std.specs.List.Sorted.{IsPermutation}
use Rattle.std.proofs.lemmas.List.Sorted.{IsNonDecreasingBy-from_sort, length_permutation}
use Rattle.lf_density.specs.Bins.{bin_areas}
use Rattle.lf_density.specs.Density.{density_by, utilizations}
use Rattle.lf_density.proofs.density.density_in.Goals as goal

pub density_from-requires : goal.density_from-requires
density_from-requires c =
    let sorted = ap (λ (xs : List ℕ). length xs) c.as_slice-3.ensures.value in
    let same = length_permutation c.in_ok-rising.rising.items c.sort_unstable.new.self.items c.sort_unstable.ensures.permutation in
    let slice = ap (λ (xs : List ℕ). length xs) c.as_slice.ensures.value in
    omega (arith, sorted, same, slice, c.in_ok-rising.ensures.few, c.in_ok-usable_areas.ensures.many, c.requires.few)

pub returns : goal.returns
returns c =
    let g = c.args.grid.now in
    let usable = bin_areas g c.args.usable.now in
    let boxes = bin_areas g c.args.boxes.now in
    let area = g.side * g.side in
    let is : c.in_ok-rising.rising.items ≡ utilizations area usable boxes =
    c.in_ok-rising.ensures.is ∙ ap (λ (xs : List ℕ). utilizations area xs c.as_slice-2.result.now) (c.as_slice.ensures.value ∙ c.in_ok-usable_areas.ensures.is)
    ∙ ap (λ (xs : List ℕ). utilizations area usable xs) (c.as_slice-2.ensures.value ∙ c.in_ok-used_areas.ensures.is) in
    record {
      rising = c.sort_unstable.new.self.items;
      same = subst (λ (xs : List ℕ). IsPermutation xs c.sort_unstable.new.self.items) is c.sort_unstable.ensures.permutation;
      rise = IsNonDecreasingBy-from_sort (λ (n : ℕ). n) c.sort_unstable.new.self.items c.sort_unstable.ensures.sorted;
      is = c.density_from.ensures ∙ ap (λ (xs : List ℕ). density_by g.side xs) c.as_slice-3.ensures.value;
    }
