use Rattle.std.proofs.Common.{◌∙◌}
use Rattle.lf_cli.proofs.Jobs.{listed}
use Rattle.lf_cli.proofs.parse.is_among.Goals as goal

pub returns-in-Some : goal.returns-in-Some
returns-in-Some c = rw c.in-Some.is (c.is_listed.ensures ∙ listed c.in-Some.path.now c.args.paths.now)
