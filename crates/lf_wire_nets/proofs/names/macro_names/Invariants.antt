use Rattle.lf_wire_nets.specs.Names.{is_macro_named}
use Rattle.lf_wire_nets.proofs.FirstLemmas.{FindsSoFar}
use Rattle.lf_wire_nets.proofs.names.macro_names.Given as goal

-- The macros so far have the positions of the first ones with each name.
abbrev pub invariant-loop-at : goal.invariant-loop-at
invariant-loop-at l = FindsSoFar is_macro_named l.macros l.at l.names
