use Rattle.std.proofs.Common.{◌≡◌, drop, fold}
use Rattle.clap.specs.Simple.{app_of}
use Rattle.lf_cli.specs.Command.{command_line, with_subcommand_line}
use Rattle.lf_cli.proofs.subcommand.command_line.Given as goal

-- With the remaining subcommands the command is complete.
abbrev pub invariant-loop-chosen : goal.invariant-loop-chosen
invariant-loop-chosen l = fold with_subcommand_line (app_of l.command) (drop l.chosen-index l.chosen-items) ≡ command_line
