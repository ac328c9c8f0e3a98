use Rattle.lf_cli.proofs.Found.{subcommand_is}
use Rattle.lf_cli.proofs.parse.subcommand_found.Goals as goal

pub returns : goal.returns
returns c = subcommand_is c.args.matches.now c.subcommand.result c.subcommand.ensures.name c.subcommand.ensures.rows
