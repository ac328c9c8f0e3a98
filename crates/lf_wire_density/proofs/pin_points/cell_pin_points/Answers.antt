use Rattle.std.proofs.Common.{◌∙◌, List, ap, arith}
use Rattle.std.proofs.lemmas.List.{take_all}
use Rattle.lf_wire_length.specs.declared.pins.NetPin.{NetPin}
use Rattle.lf_wire_density.specs.PinPoints.{cell_pin_point, cell_pin_points}
use Rattle.lf_wire_density.proofs.PointLists.{next_net}
use Rattle.lf_wire_density.proofs.pin_points.cell_pin_points.Goals as goal

pub loop-net-preserved : goal.loop-net-preserved
loop-net-preserved g c =
    next_net (cell_pin_point (g.P.PlacedCells.place_of c.args.places.now)) c.args.netlist.now.nets c.loop-net.net c.loop-net.points.items
    c.push_net.new.points.items (omega (arith, c.loop-net-test.true, c.len-net-end.ensures)) c.loop-net.invariant c.in_ok-push_net.ensures

pub returns : goal.returns
returns g c =
    c.loop-net.invariant
    ∙ ap (λ (nets : List (List NetPin)). cell_pin_points (g.P.PlacedCells.place_of c.args.places.now) nets)
    (take_all c.loop-net.net c.args.netlist.now.nets (omega (arith, c.loop-net-test.false, c.len-net-end.ensures)))
