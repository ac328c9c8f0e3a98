use Rattle.std.proofs.Common.{◌≡◌, take, fold}
use Rattle.lf_wire_length.specs.Stored.{stored_nets}
use Rattle.lf_wire_length.specs.Teams.{AreLengthsOf, no_team_lengths, with_pins_of_team}
use Rattle.lf_wire_length.proofs.team_lengths.lengths_of_team.Given as goal

-- the lengths of the nets so far
abbrev pub invariant-loop-net : goal.invariant-loop-net
invariant-loop-net g l = record {
  so_far : l.sums ≡ fold (with_pins_of_team (g.P.PlacedCells.place_of l.places) (g.P.PlacedCells.team_of l.places) l.own) no_team_lengths (take l.net (stored_nets l.stored));
  in_range : AreLengthsOf l.net l.sums;
}
