use Rattle.std.proofs.Common.{◌≡◌, take, false}
use Rattle.std.specs.List.{list_any}
use Rattle.lf_wire_length.specs.Teams.{is_of_team}
use Rattle.lf_wire_length.proofs.joined.joins_team.Given as goal

-- no pin so far is of the team
abbrev pub invariant-loop-pin : goal.invariant-loop-pin
invariant-loop-pin g l = list_any (is_of_team (g.P.PlacedCells.place_of l.places) (g.P.PlacedCells.team_of l.places) l.rows l.own) (take l.pin-index l.pins) ≡ false
