use Rattle.std.proofs.Common.{◌≡◌, [], ◌∷◌, codes, decimal, rules}
use Rattle.lf_task_faults.proofs.Shown.{before}
use Rattle.lf_task_faults.proofs.fault_detail.put_first.Goals as goal

pub returns-clause-ok : goal.returns-clause-ok
returns-clause-ok g c =
    let number : c.as_bytes.result.now ≡ decimal c.args.number = search rules in
    before c.send-3.result _ _ _ (codes " (the first is in line ") _ c.in_ok-send.ensures.ok
    (before c.send-3.result _ _ _ (decimal c.args.number) (41 ∷ []) (rw number at c.in_ok-send-2.ensures.ok) c.send-3.ensures.ok)
