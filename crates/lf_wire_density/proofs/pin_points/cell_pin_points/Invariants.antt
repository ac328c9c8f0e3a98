use Rattle.std.proofs.Common.{◌≡◌, take}
use Rattle.lf_wire_density.specs.PinPoints.{cell_pin_points}
use Rattle.lf_wire_density.proofs.pin_points.cell_pin_points.Given as goal

-- the points of the pins of the nets so far
abbrev pub invariant-loop-net : goal.invariant-loop-net
invariant-loop-net g l = l.points.items ≡ cell_pin_points (g.P.PlacedCells.place_of l.places) (take l.net l.netlist.nets)
