use Rattle.lf_proto.proofs.Blanks.{passes_around}
use Rattle.lf_proto.proofs.parse.blanks_around_pass.Goals as goal

pub returns : goal.returns
returns c = passes_around
