use Rattle.lf_units.proofs.Lists.{permuted_in_parts}
use Rattle.lf_units.proofs.sort.+sort_bands.Goals as goal

pub returns : goal.returns
returns t c =
    permuted_in_parts c.args.boxes.now _ _ c.sort_bands.new.boxes c.sort_bands-2.new.boxes c.split_at_mut-before.ensures.value
    c.sort_bands.ensures c.sort_bands-2.ensures
