use Rattle.std.proofs.Common.{◌≡◌, ◌+◌, ◌≤◌, ◌++◌, drop}
use Rattle.std.specs.Prelude.{count_by}
use Rattle.lf_wire_nets.specs.Binding.{bound_nets, is_supply}
use Rattle.lf_wire_nets.specs.Texts.{facts_of}
use Rattle.lf_wire_nets.specs.Rows.{AreRowsKnown}
use Rattle.lf_wire_nets.proofs.binding.bind_all.Given as goal

-- The nets so far, followed by the remaining ones, are all of them; likewise the supplies.
abbrev pub invariant-loop-net : goal.invariant-loop-net
invariant-loop-net l = record {
  known : AreRowsKnown l.rows;
  nets : l.rows.netlist.nets ++ bound_nets (facts_of l.texts) (drop l.net-index l.nets) ≡ l.initial.rows.netlist.nets ++ bound_nets (facts_of l.texts) l.nets;
  supplies : l.supplies + count_by is_supply (drop l.net-index l.nets) ≡ count_by is_supply l.nets;
  few : l.supplies ≤ l.net-index;
}
