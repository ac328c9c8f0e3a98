use Rattle.std.proofs.Common.{◌≡◌, take, map, All}
use Rattle.lf_wire_length.specs.Stored.{nets_from, pin_stored}
use Rattle.lf_wire_length.specs.Teams.{IsSummaryInRange, net_summary}
use Rattle.lf_wire_length.proofs.joined.summaries.Given as goal

-- the summaries of the nets so far
abbrev pub invariant-loop-net : goal.invariant-loop-net
invariant-loop-net g l = record {
  summarized : l.nets.items ≡ map (net_summary (g.P.PlacedCells.place_of l.places) (g.P.PlacedCells.team_of l.places)) (take l.net (nets_from l.starts (map (pin_stored l.rows) l.pins)));
  in_range : All IsSummaryInRange l.nets.items;
}
