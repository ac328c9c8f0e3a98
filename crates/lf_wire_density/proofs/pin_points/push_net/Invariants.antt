use Rattle.std.proofs.Common.{◌≡◌, ◌++◌, [], get_or, take}
use Rattle.std.specs.List.{filter_map}
use Rattle.lf_wire_density.specs.PinPoints.{cell_pin_point}
use Rattle.lf_wire_density.proofs.pin_points.push_net.Given as goal

-- the points of the pins so far
abbrev pub invariant-loop-at : goal.invariant-loop-at
invariant-loop-at g l = l.points.items
    ≡ l.initial.points.items ++ filter_map (cell_pin_point (g.P.PlacedCells.place_of l.places)) (take l.at (get_or l.netlist.nets l.net []))
