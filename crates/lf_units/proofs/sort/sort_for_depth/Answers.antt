use Rattle.std.proofs.lemmas.List.Sorted.{IsPermutation-trans}
use Rattle.lf_units.proofs.sort.sort_for_depth.Goals as goal

pub returns : goal.returns
returns c =
    IsPermutation-trans c.args.boxes.now c.sort_unstable_by_key.new.self c.sort_bands.new.boxes
    c.sort_unstable_by_key.ensures.permutation c.sort_bands.ensures
