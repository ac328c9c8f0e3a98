use Rattle.std.proofs.Common.{◌∙◌}
use Rattle.lf_proto.proofs.Fields.{fields_are}
use Rattle.lf_proto.proofs.parse.fields_of.Goals as goal

pub returns : goal.returns
returns c = c.fields.ensures.value ∙ fields_are c.args.line.now c.requires
