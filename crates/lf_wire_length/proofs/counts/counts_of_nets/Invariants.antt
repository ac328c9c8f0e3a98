use Rattle.std.proofs.Common.{◌≡◌, take, fold}
use Rattle.lf_wire_length.specs.Counts.{AreNetCountsOf, no_counts, with_pins_of_net}
use Rattle.lf_wire_length.specs.Stored.{stored_nets}
use Rattle.lf_wire_length.proofs.counts.counts_of_nets.Given as goal

-- the counts of the nets so far
abbrev pub invariant-loop-net : goal.invariant-loop-net
invariant-loop-net g l = record {
  so_far : l.counts ≡ fold (with_pins_of_net (g.P.PlacedCells.place_of l.places) (g.P.PlacedCells.team_of l.places)) no_counts (take l.net (stored_nets l.stored));
  in_range : AreNetCountsOf l.net l.counts;
}
