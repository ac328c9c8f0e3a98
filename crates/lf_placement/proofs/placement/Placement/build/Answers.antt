use Rattle.lf_placement.proofs.placement.Placement.build.Goals as goal

pub invariant_of-result : goal.invariant_of-result
invariant_of-result c = record { holds = c.in_ok-frame.ensures.holds; placing = c.in_ok-frame.ensures.placing }
