use Rattle.lf_io.proofs.Known.{Appends-more}
use Rattle.lf_task_usage.proofs.Said.{before}
use Rattle.lf_task_usage.proofs.usage.put_subcommand_hint.Goals as goal

pub returns-clause-ok : goal.returns-clause-ok
returns-clause-ok g c =
    let name = rw c.as_bytes.ensures.value at c.in_ok-send-2.ensures.ok in
    before c.send-4.result _ _ _ _ _ (Appends-more _ _ _ _ _ (Appends-more _ _ _ _ _ c.in_ok-send.ensures.ok name) c.in_ok-send-3.ensures.ok) c.send-4.ensures.ok
