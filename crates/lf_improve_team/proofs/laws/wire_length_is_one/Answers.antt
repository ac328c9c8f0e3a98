use Rattle.lf_improve_team.proofs.Lengths.{length_is_one}
use Rattle.lf_improve_team.proofs.laws.wire_length_is_one.Goals as goal

pub returns : goal.returns
returns c = length_is_one
