use Rattle.std.proofs.Common.{[], ◌∷◌, ◌++◌, codes}
use Rattle.lf_io.proofs.Known.{Appends-more}
use Rattle.lf_task_faults.specs.Faults.{fence_words}
use Rattle.lf_task_faults.proofs.Shown.{before}
use Rattle.lf_task_faults.proofs.fault_detail.write_claiming_fences.Goals as goal

pub returns-clause-ok : goal.returns-clause-ok
returns-clause-ok g c =
    let start = codes " (claimed by " in
    let first = fence_words c.args.first.now in
    let between = codes " and " in
    let second = fence_words c.args.second.now in
    let one = Appends-more _ _ _ start first c.in_ok-send.ensures.ok c.in_ok-put_fence.ensures.ok in
    let joined = Appends-more _ _ _ (start ++ first) between one c.in_ok-send-2.ensures.ok in
    let two = Appends-more _ _ _ (start ++ first ++ between) second joined c.in_ok-put_fence-2.ensures.ok in
    before c.send-3.result _ _ _ (start ++ first ++ between ++ second) (41 ∷ []) two c.send-3.ensures.ok
