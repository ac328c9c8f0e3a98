use Rattle.std.proofs.Common.{[], ◌∷◌, ◌++◌, codes}
use Rattle.lf_io.proofs.Known.{Appends-more}
use Rattle.lf_task_faults.specs.declared.faults.TextKind.TheVariants.{State}
use Rattle.lf_task_faults.specs.Faults.{bytes_words, number_words, shown_bytes, text_kind_words}
use Rattle.lf_task_faults.proofs.Shown.{before}
use Rattle.lf_task_faults.proofs.fault_detail.put_no_state.Goals as goal

pub returns-clause-ok : goal.returns-clause-ok
returns-clause-ok g c =
    let start = codes "lefence: " in
    let path = text_kind_words State ++ shown_bytes c.args.path.now in
    let line = number_words c.args.refusal.now.line in
    let bytes = bytes_words c.args.refusal.now.shown.items in
    let named = Appends-more _ _ _ start path c.in_ok-send.ensures.ok c.in_ok-put_text_file.ensures.ok in
    let numbered = Appends-more _ _ _ (start ++ path) line named c.in_ok-put_number.ensures.ok in
    let all = Appends-more _ _ _ (start ++ path ++ line) bytes numbered (rw c.as_slice.ensures.value at c.in_ok-put_line.ensures.ok) in
    before c.send-2.result _ _ _ (start ++ path ++ line ++ bytes) (10 ∷ []) all c.send-2.ensures.ok
