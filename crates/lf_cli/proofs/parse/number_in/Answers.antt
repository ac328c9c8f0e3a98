use Rattle.std.proofs.Common.{arith}
use Rattle.lf_cli.proofs.Numbers.{number_none}
use Rattle.lf_cli.proofs.parse.number_in.Goals as goal

pub returns-in_default-clause-number : goal.returns-in_default-clause-number
returns-in_default-clause-number c = number_none 1 c.args.most 32 c.args.text.now c.in_default.ensures.value.0 (omega arith)
