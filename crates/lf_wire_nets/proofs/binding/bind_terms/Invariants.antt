use Rattle.std.proofs.Common.{◌≡◌, ◌<◌, drop, length}
use Rattle.std.specs.List.{flat_map}
use Rattle.lf_wire_nets.specs.Binding.{bound_pins}
use Rattle.lf_wire_nets.specs.Texts.{facts_of}
use Rattle.lf_wire_nets.specs.Rows.{AreRowsKnown, with_pins}
use Rattle.lf_wire_nets.proofs.binding.bind_terms.Given as goal

-- The nets so far, with the remaining pins, are all that there will be.
abbrev pub invariant-loop-term : goal.invariant-loop-term
invariant-loop-term l = record {
  known : AreRowsKnown l.rows;
  net : 0 < length l.rows.netlist.nets;
  nets : with_pins (flat_map (bound_pins (facts_of l.texts)) (drop l.term-index l.terms)) l.rows.netlist.nets ≡ with_pins (flat_map (bound_pins (facts_of l.texts)) l.terms) l.initial.rows.netlist.nets;
}
