use Rattle.std.proofs.Common.{◌≡◌, ap, arith, map, min, ◌∙◌}
use Rattle.lf_wire_length.specs.Stored.{nets_from, pin_stored}
use Rattle.lf_wire_length.specs.TeamNets.{length_of_listed}
use Rattle.lf_wire_length.proofs.netlist.Netlist.length_of.Goals as goal

pub returns : goal.returns
returns g c =
    let same : nets_from c.as_slice-2.result.now (map (pin_stored c.as_slice.result.now) c.as_slice-3.result.now) ≡ c.args.self.now.nets =
    grind (arith, c.as_slice.ensures.value, c.as_slice-2.ensures.value, c.as_slice-3.ensures.value, c.self.view_is) in
    c.length_of_some.ensures ∙ ap (λ nets. min (length_of_listed (g.P.PlacedCells.place_of c.args.places.now) nets c.args.nets.now) 18446744073709551615) same
