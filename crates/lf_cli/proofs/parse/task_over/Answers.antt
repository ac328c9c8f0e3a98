use Rattle.std.proofs.Common.{◌∙◌, sym}
use Rattle.std.proofs.lemmas.Result.{IfOk-weaker}
use Rattle.std.proofs.lemmas.Bool.{false≢true}
use Rattle.clap.specs.Matches.{found_of}
use Rattle.clap.specs.Walk.{rows_of}
use Rattle.lf_cli.proofs.Jobs.{whole}
use Rattle.lf_cli.proofs.parse.task_over.Goals as goal

pub returns-else-is_empty : goal.returns-else-is_empty
returns-else-is_empty c =
    IfOk-weaker c.task_on.result _ _
    (λ task is. is ∙ whole c.args.chosen c.in-Some.def.now c.in-Ok.lefs (rows_of (found_of c.args.matches.now))
    (sym c.is_demo.ensures ∙ c.if-is_demo.false) c.in-Some.ensures c.in-Ok.ensures (λ none. false≢true (sym c.if-is_empty.false ∙ c.is_empty.ensures.1 none)))
    c.task_on.ensures
