use Rattle.lf_task_designs.proofs.OpenedTexts.{both_ok}
use Rattle.lf_task_designs.proofs.opening.open_with_text.Goals as goal

pub returns-clause-ok : goal.returns-clause-ok
returns-clause-ok g c =
    both_ok c.open_file.result _ _ _ c.open_file.ensures.given c.open_file.ensures.ok
    (λ opened given kept. (
      kept.0,
      record { library = c.in_ok-library.library; lefs_are = c.in_ok-library.ensures.ok; given = given; read = kept.1.read; loads = kept.1.loads },
      kept.1.clauses_are,
    ))
