use Rattle.lf_gaps.proofs.gap.nearer_in_wide_gap.Goals as goal

pub returns : goal.returns
returns c = record { next = c.nearest_in.result; nearest = c.nearest_in.ensures; nearer = c.nearer_of.ensures }
