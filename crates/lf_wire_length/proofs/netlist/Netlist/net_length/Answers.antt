use Rattle.std.proofs.Common.{arith, map}
use Rattle.lf_wire_length.specs.Stored.{pin_stored}
use Rattle.lf_wire_length.proofs.StoredLemmas.{nets_counted}
use Rattle.lf_wire_length.proofs.netlist.Netlist.net_length.Goals as goal

pub length_of_stored_net-requires-clause-net : goal.length_of_stored_net-requires-clause-net
length_of_stored_net-requires-clause-net g c =
    let count = nets_counted c.self.inside.starts.items (map (pin_stored c.self.inside.rows.items) c.self.inside.pins.items) in
    grind (arith, count, c.self.view_is, c.as_slice-2.ensures.value, c.requires)
