use Rattle.lf_task_usage.proofs.Said.{before}
use Rattle.lf_task_usage.proofs.usage.put_hint.Goals as goal

pub returns-clause-ok : goal.returns-clause-ok
returns-clause-ok g c =
    before c.put_named_hint.result _ _ _ _ _ (rw c.as_bytes.ensures.value at c.in_ok-send.ensures.ok) (rw c.second_word.ensures at c.put_named_hint.ensures.ok)
