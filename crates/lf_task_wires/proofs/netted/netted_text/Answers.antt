use Rattle.std.proofs.Common.{◌∙◌}
use Rattle.lf_task_wires.proofs.NettedSteps.{text_kept}
use Rattle.lf_task_wires.proofs.netted.netted_text.Goals as goal

pub returns-clause-ok : goal.returns-clause-ok
returns-clause-ok c =
    let is = rw c.deref.ensures.value at c.in_ok-loaded.ensures.ok in
    let kept = text_kept c.with_clauses.result c.args.input.now.is_text_kept c.args.text.items is.0 c.with_clauses.ensures.text
    (c.with_clauses.ensures.clauses ∙ is.2.clauses_are) in
    record { document = is.0; read = is.1; loads = is.2.loads; nets_are = is.2.nets_are; refused = is.2.refused; are = kept.0; kept = kept.1 }
