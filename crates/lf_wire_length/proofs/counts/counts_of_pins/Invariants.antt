use Rattle.std.proofs.Common.{◌≡◌, take, fold}
use Rattle.lf_wire_length.specs.Counts.{ArePinCountsOf, counts_after, no_pins}
use Rattle.lf_wire_length.proofs.counts.counts_of_pins.Given as goal

-- the counts of the pins so far
abbrev pub invariant-loop-at : goal.invariant-loop-at
invariant-loop-at g l = record {
  so_far : l.counts ≡ fold (counts_after (g.P.PlacedCells.place_of l.places) l.rows) no_pins (take l.at l.pins);
  in_range : ArePinCountsOf l.at l.counts;
}
