use Rattle.std.proofs.Common.{◌≡◌}
use Rattle.lf_wire_length.specs.Stored.{stored_nets}
use Rattle.lf_wire_length.specs.Teams.{lengths_of_teams}
use Rattle.lf_wire_length.proofs.team_lengths.lengths_by_team.Given as goal

-- the lengths of the teams so far
abbrev pub invariant-loop-own : goal.invariant-loop-own
invariant-loop-own g l = l.lengths.items ≡ lengths_of_teams (g.P.PlacedCells.place_of l.places) (g.P.PlacedCells.team_of l.places) (stored_nets l.stored) l.own
