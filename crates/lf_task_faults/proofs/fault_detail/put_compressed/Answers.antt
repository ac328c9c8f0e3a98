use Rattle.std.proofs.Common.{[], ◌∷◌, ◌++◌, codes}
use Rattle.lf_io.proofs.Known.{Appends-more}
use Rattle.lf_task_faults.specs.Faults.{shown_bytes, unpack_words}
use Rattle.lf_task_faults.proofs.Shown.{before}
use Rattle.lf_task_faults.proofs.fault_detail.put_compressed.Goals as goal

pub returns-clause-ok : goal.returns-clause-ok
returns-clause-ok g c =
    let start = codes ": the text is compressed: read it as <(" in
    let unpack = unpack_words c.args.compression in
    let path = shown_bytes c.args.path.now in
    let packed = Appends-more _ _ _ start unpack c.in_ok-send.ensures.ok (rw c.unpack_words.ensures at c.in_ok-send-2.ensures.ok) in
    let named = Appends-more _ _ _ (start ++ unpack) path packed (rw c.as_bytes.ensures.value at c.in_ok-put_shown.ensures.ok) in
    before c.send-3.result _ _ _ (start ++ unpack ++ path) (41 ∷ []) named c.send-3.ensures.ok
