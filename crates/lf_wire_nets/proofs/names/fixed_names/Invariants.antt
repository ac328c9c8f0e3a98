use Rattle.lf_wire_nets.specs.Names.{is_fixed_named}
use Rattle.lf_wire_nets.proofs.FirstLemmas.{FindsSoFar}
use Rattle.lf_wire_nets.proofs.names.fixed_names.Given as goal

-- The components so far have the positions of the first ones with each name.
abbrev pub invariant-loop-at : goal.invariant-loop-at
invariant-loop-at l = FindsSoFar is_fixed_named l.components l.at l.names
