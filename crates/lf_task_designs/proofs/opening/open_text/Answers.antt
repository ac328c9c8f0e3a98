use Rattle.lf_def.specs.Contents.{contents}
use Rattle.lf_task_designs.proofs.OpenedTexts.{both_ok}
use Rattle.lf_task_designs.proofs.opening.open_text.Goals as goal

pub returns-clause-ok : goal.returns-clause-ok
returns-clause-ok c =
    both_ok c.open_document.result _ _ _ c.open_document.ensures.design c.open_document.ensures.clauses
    (λ kept design clauses. (contents c.in_ok-document.document, record { read = c.in_ok-document.ensures.ok; clauses_are = rw c.in_ok-document.ensures.text at clauses; loads = design }))
