use Rattle.std.proofs.Common.{◌≡◌, ◌-◌, ◌^◌, take, map, min}
use Rattle.lf_wire_length.specs.Stored.{nets_from, pin_stored}
use Rattle.lf_wire_length.specs.TeamNets.{length_of_listed}
use Rattle.lf_wire_length.proofs.measure.length_of_some.Given as goal

-- the sum of the nets so far
abbrev pub invariant-loop-net : goal.invariant-loop-net
invariant-loop-net g l = l.total ≡ min (length_of_listed (g.P.PlacedCells.place_of l.places) (nets_from l.starts (map (pin_stored l.rows) l.pins)) (take l.net-index l.nets)) (2 ^ 64 - 1)
