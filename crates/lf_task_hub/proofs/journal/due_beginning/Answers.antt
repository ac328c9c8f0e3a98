use Rattle.std.proofs.Common.{inl, map}
use Rattle.std.proofs.lemmas.Result.{err_from_is_err_and}
use Rattle.lf_task_journal.proofs.Early.{line_early}
use Rattle.lf_task_hub.proofs.journal.due_beginning.Goals as goal

pub returns-in_err-line-clause-err : goal.returns-in_err-line-clause-err
returns-in_err-line-clause-err g c =
    let p = err_from_is_err_and c.from_residual.result c.from_residual.ensures.1 in
    rw (p.1, p.2) (inl (line_early (g.T.InputFiles.gives c.args.texts.now) c.args.input.design.def.now (map (λ lef. lef.now) c.args.input.design.lefs.now)
    c.in_err-line.field-0.0 c.in_err-line.ensures.err))
