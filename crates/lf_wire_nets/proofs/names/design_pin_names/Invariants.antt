use Rattle.lf_wire_nets.specs.Names.{is_design_pin_named}
use Rattle.lf_wire_nets.proofs.FirstLemmas.{FindsSoFar}
use Rattle.lf_wire_nets.proofs.names.design_pin_names.Given as goal

-- The pins so far have the positions of the first ones with each name.
abbrev pub invariant-loop-at : goal.invariant-loop-at
invariant-loop-at l = FindsSoFar is_design_pin_named l.pins l.at l.names
