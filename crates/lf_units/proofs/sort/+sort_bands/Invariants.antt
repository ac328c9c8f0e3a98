use Rattle.lf_units.proofs.sort.+sort_bands.Given as goal

abbrev pub decreases-sort_bands : goal.decreases-sort_bands
decreases-sort_bands l = l.depth
