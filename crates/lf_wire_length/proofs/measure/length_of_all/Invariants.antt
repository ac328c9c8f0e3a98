use Rattle.std.proofs.Common.{◌≡◌, ◌*◌, ◌≤◌, take, map, sum_by}
use Rattle.lf_wire_length.specs.Length.{length_of_net}
use Rattle.lf_wire_length.specs.Stored.{nets_from, pin_stored}
use Rattle.lf_wire_length.proofs.measure.length_of_all.Given as goal

-- the sum of the nets so far
abbrev pub invariant-loop-net : goal.invariant-loop-net
invariant-loop-net g l = record {
  total_so_far : l.total ≡ sum_by (length_of_net (g.P.PlacedCells.place_of l.places)) (take l.net (nets_from l.starts (map (pin_stored l.rows) l.pins)));
  small : l.total ≤ l.net * 800000000000;
}
