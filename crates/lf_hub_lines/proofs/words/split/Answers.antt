use Rattle.std.proofs.Common.{◌∙◌}
use Rattle.lf_proto.proofs.Fields.{fields_are}
use Rattle.lf_hub_lines.proofs.words.split.Goals as goal

pub returns : goal.returns
returns c = c.fields.ensures.value ∙ fields_are c.args.line.now c.requires
