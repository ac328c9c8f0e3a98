use Rattle.std.proofs.Common.{◌≡◌, take, fold}
use Rattle.lf_wire_length.specs.declared.joined.JoinedTeams.TheVariants.{NoTeam}
use Rattle.lf_wire_length.specs.Teams.{joined_after}
use Rattle.lf_wire_length.proofs.joined.joined_by.Given as goal

-- the teams of the pins so far
abbrev pub invariant-loop-pin : goal.invariant-loop-pin
invariant-loop-pin g l = l.teams ≡ fold (joined_after (g.P.PlacedCells.place_of l.places) (g.P.PlacedCells.team_of l.places) l.rows) NoTeam (take l.pin-index l.pins)
