use Rattle.std.proofs.Common.{◌∙◌, ap, drop, fold, sym, ◌+◌}
use Rattle.std.proofs.lemmas.List.{at_drop_more}
use Rattle.clap.specs.Simple.{app_of}
use Rattle.lf_cli.specs.Command.{subcommands, with_subcommand_line}
use Rattle.lf_cli.specs.declared.subcommand.Subcommand.TheVariants.{Demo}
use Rattle.lf_cli.proofs.subcommand.command_line.Goals as goal

pub loop-chosen-preserved : goal.loop-chosen-preserved
loop-chosen-preserved c =
    ap (λ app. fold with_subcommand_line app (drop (c.loop-chosen.chosen-index + 1) subcommands)) c.in_ok-command.ensures
    ∙ sym (at_drop_more (fold with_subcommand_line (app_of c.loop-chosen.command)) subcommands c.loop-chosen.chosen-index Demo c.loop-chosen-test.true)
    ∙ c.loop-chosen.invariant
