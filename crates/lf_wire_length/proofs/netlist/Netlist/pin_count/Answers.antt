use Rattle.std.proofs.Common.{[], arith, map}
use Rattle.std.proofs.lemmas.List.{length-map}
use Rattle.lf_wire_length.specs.Stored.{pin_stored}
use Rattle.lf_wire_length.proofs.StoredLemmas.{net_mapped, nets_counted}
use Rattle.lf_wire_length.proofs.netlist.Netlist.pin_count.Goals as goal

pub pins_of-requires : goal.pins_of-requires
pins_of-requires c =
    let count = nets_counted c.self.inside.starts.items (map (pin_stored c.self.inside.rows.items) c.self.inside.pins.items) in
    grind (arith, count, c.self.view_is, c.as_slice.ensures.value, c.requires)

pub returns : goal.returns
returns c =
    let count = nets_counted c.self.inside.starts.items (map (pin_stored c.self.inside.rows.items) c.self.inside.pins.items) in
    let net = net_mapped (pin_stored c.self.inside.rows.items) c.self.inside.starts.items c.self.inside.pins.items c.args.net [] (grind (arith, count, c.self.view_is, c.requires)) in
    let many = length-map c.pins_of.result.now (pin_stored c.self.inside.rows.items) in
    grind (arith, net, many, c.self.view_is, c.as_slice.ensures.value, c.as_slice-2.ensures.value, c.pins_of.ensures)
