use Rattle.std.proofs.Common.{◌≡◌, ◌<◌, drop, length, map}
use Rattle.lf_wire_nets.specs.Binding.{pin_of_port}
use Rattle.lf_wire_nets.specs.Rows.{AreRowsKnown, with_pins}
use Rattle.lf_wire_nets.proofs.binding.push_ports.Given as goal

-- The nets so far, with the pins at the remaining ports, are all that there will be.
abbrev pub invariant-loop-port : goal.invariant-loop-port
invariant-loop-port l = record {
  known : AreRowsKnown l.rows;
  net : 0 < length l.rows.netlist.nets;
  nets : with_pins (map pin_of_port (drop l.port-index l.ports)) l.rows.netlist.nets ≡ with_pins (map pin_of_port l.ports) l.initial.rows.netlist.nets;
}
