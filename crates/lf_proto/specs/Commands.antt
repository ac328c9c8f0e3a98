-- A request as a command whose names are lists of bytes, not slices of a line.
use Rattle.std.specs.Prelude.{ℕ, List}
use denote.Ref.{Bor}
use Rattle.lf_floorplan.specs.declared.place.Place.{Place}
use Rattle.lf_proto.specs.declared.request.Command.{Command}
use Rattle.lf_proto.specs.declared.request.Command.TheVariants.{Bye, To}
use Rattle.lf_proto.specs.declared.request.TeamCommand.{TeamCommand}
use Rattle.lf_proto.specs.declared.request.TeamCommand.TheVariants.{Open, Within}
use Rattle.lf_proto.specs.Verbs.{action_of}

-- a team's command whose cells are named by lists of bytes
abbrev pub order_of : TeamCommand (Bor (List ℕ)) Place → TeamCommand (List ℕ) Place
order_of Open = Open
order_of (Within session action) = Within session (action_of action)

-- a command whose team and cells are named by lists of bytes
abbrev pub command_with_names : Command (Bor (List ℕ)) Place → Command (List ℕ) Place
command_with_names Bye = Bye
command_with_names (To team order) = To team.now (order_of order)
