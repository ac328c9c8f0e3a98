use Rattle.lf_proto.proofs.Blanks.{passes_between}
use Rattle.lf_proto.proofs.parse.blanks_between_pass.Goals as goal

pub returns : goal.returns
returns c = passes_between
