use Rattle.lf_proto.proofs.Cuttings.{gives_lines}
use Rattle.lf_proto.proofs.framer.framing_keeps_lines.Goals as goal

pub returns : goal.returns
returns c = gives_lines
