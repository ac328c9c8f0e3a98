use Rattle.lf_wire_length.proofs.TeamNetLemmas.{difference, part}
use Rattle.lf_wire_length.proofs.laws.team_nets_decide.Goals as goal

pub returns : goal.returns
returns c = record { difference = difference; part = part }
