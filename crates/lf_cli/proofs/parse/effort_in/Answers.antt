use Rattle.std.proofs.Common.{arith}
use Rattle.lf_cli.proofs.Numbers.{number_none}
use Rattle.lf_cli.proofs.parse.effort_in.Goals as goal

pub returns-in_default-clause-effort : goal.returns-in_default-clause-effort
returns-in_default-clause-effort c = number_none 0 10000 32 c.args.text.now c.in_default.ensures.value.0 (omega arith)
