use Rattle.std.proofs.Common.{arith, map}
use Rattle.lf_wire_length.specs.Stored.{pin_stored}
use Rattle.lf_wire_length.proofs.StoredLemmas.{nets_counted}
use Rattle.lf_wire_length.proofs.netlist.Netlist.start_net.Goals as goal

pub returns-clause-too_many : goal.returns-clause-too_many
returns-clause-too_many c = λ e.
    let most = c.add_net_to.ensures.too_many e in
    let count = nets_counted c.self.inside.starts.items (map (pin_stored c.self.inside.rows.items) c.self.inside.pins.items) in
    grind (arith, most, count, c.self.view_is)
