use Rattle.std.proofs.Common.{arith, map}
use Rattle.lf_wire_length.specs.Stored.{pin_stored}
use Rattle.lf_wire_length.proofs.StoredLemmas.{nets_counted}
use Rattle.lf_wire_length.proofs.netlist.Netlist.pin.Goals as goal

pub pin_at-requires : goal.pin_at-requires
pin_at-requires c =
    let count = nets_counted c.self.inside.starts.items (map (pin_stored c.self.inside.rows.items) c.self.inside.pins.items) in
    grind (arith, count, c.self.view_is, c.as_slice.ensures.value, c.requires)
