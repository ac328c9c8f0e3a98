use Rattle.std.proofs.Common.{inr}
use Rattle.std.proofs.lemmas.Result.{IfErr-weaker, IfOk-weaker}
use Rattle.lf_task_designs.proofs.OpenedTexts.{both_ok}
use Rattle.lf_task_designs.proofs.opening.open_file.Goals as goal

pub returns-clause-given : goal.returns-clause-given
returns-clause-given g c =
    IfOk-weaker c.open_kept.result _ _ (λ opened same. rw same (rw c.def_file.ensures.path at c.in_ok-text.ensures.ok)) c.open_kept.ensures.text

pub returns-clause-ok : goal.returns-clause-ok
returns-clause-ok g c =
    both_ok c.open_kept.result _ _ _ c.open_kept.ensures.text c.open_kept.ensures.ok (λ opened same kept. rw same kept)

pub returns-clause-err : goal.returns-clause-err
returns-clause-err g c =
    IfErr-weaker c.open_kept.result _ _ (λ fault refused. inr (c.in_ok-text.text.items, rw c.def_file.ensures.path at c.in_ok-text.ensures.ok, refused))
    c.open_kept.ensures.err
