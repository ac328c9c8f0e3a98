use Rattle.std.proofs.Common.{rules}
use Rattle.lf_legalize.proofs.SoftLemmas.{minus_none}
use Rattle.lf_legalize.proofs.open_spans.without.Goals as goal

pub returns-then-is_empty : goal.returns-then-is_empty
returns-then-is_empty c = minus_none c.args.spans.items c.args.soft.now (search rules) c.requires.spans
