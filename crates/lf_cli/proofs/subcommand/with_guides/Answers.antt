use Rattle.std.proofs.Common.{◌∙◌, ap, codes}
use Rattle.std.proofs.lemmas.Result.{IfOk-weaker}
use Rattle.clap.specs.Simple.{App, app_of, with_rule}
use Rattle.clap.specs.Walk.{Rule}
use Rattle.lf_cli.specs.Command.{flag_rule}
use Rattle.lf_cli.proofs.subcommand.with_guides.Goals as goal

pub returns-clause-line : goal.returns-clause-line
returns-clause-line c =
    let first = c.in_ok-arg.ensures.shape c.flag.ensures.local ∙ ap (λ (rule : Rule). with_rule (app_of c.args.command) rule) c.flag.ensures.rule in
    IfOk-weaker c.arg-2.result _ _
    (λ made adds. adds.shape c.flag-2.ensures.local ∙ ap (λ (rule : Rule). with_rule (app_of c.in_ok-arg.field-0) rule) c.flag-2.ensures.rule
    ∙ ap (λ (app : App). with_rule app (flag_rule (codes "near-nets"))) first) c.arg-2.ensures
