use Rattle.lf_wire_nets.specs.Names.{is_cell_named}
use Rattle.lf_wire_nets.proofs.FirstLemmas.{FindsSoFar}
use Rattle.lf_wire_nets.proofs.names.cell_names.Given as goal

-- The cells so far have the positions of the first ones with each name.
abbrev pub invariant-loop-at : goal.invariant-loop-at
invariant-loop-at l = FindsSoFar is_cell_named l.cells l.at l.names
