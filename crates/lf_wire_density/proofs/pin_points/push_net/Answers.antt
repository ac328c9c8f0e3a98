use Rattle.std.proofs.Common.{◌∙◌, ◌++◌, List, [], ap, arith, get_or}
use Rattle.std.specs.List.{filter_map}
use Rattle.std.proofs.lemmas.List.{take_all}
use Rattle.lf_wire_length.specs.declared.pins.NetPin.{NetPin}
use Rattle.lf_wire_density.specs.PinPoints.{cell_pin_point}
use Rattle.lf_wire_density.proofs.PointLists.{next_pin}
use Rattle.lf_wire_density.proofs.pin_points.push_net.Goals as goal

pub loop-at-preserved : goal.loop-at-preserved
loop-at-preserved g c =
    next_pin (cell_pin_point (g.P.PlacedCells.place_of c.args.places.now)) (get_or c.args.netlist.now.nets c.args.net []) c.loop-at.at c.args.points.now.items
    c.loop-at.points.items c.push_pin.new.points.items (omega (arith, c.loop-at-test.true, c.pin_count-at-end.ensures)) c.loop-at.invariant c.in_ok-push_pin.ensures

pub returns : goal.returns
returns g c =
    let pins = get_or c.args.netlist.now.nets c.args.net [] in
    c.loop-at.invariant
    ∙ ap (λ (ps : List NetPin). c.args.points.now.items ++ filter_map (cell_pin_point (g.P.PlacedCells.place_of c.args.places.now)) ps)
    (take_all c.loop-at.at pins (omega (arith, c.loop-at-test.false, c.pin_count-at-end.ensures)))
