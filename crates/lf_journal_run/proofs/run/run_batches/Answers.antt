use Rattle.std.proofs.Common.{◌≡◌, ◌++◌, ℕ, List, map, ◌∙◌, ap}
use Rattle.lf_journal_text.specs.Views.{log_of}
use Rattle.lf_journal_run.specs.Texts.{entries_in, lines_text, replies_text}
use Rattle.lf_journal_run.proofs.Comparing.{compared}
use Rattle.lf_journal_run.proofs.run.run_batches.Goals as goal

pub returns-clause-run : goal.returns-clause-run
returns-clause-run g c = λ l.
    let logs = map log_of c.args.batches.now in
    let lines : c.deref.result.now ≡ lines_text (entries_in logs) =
    c.deref.ensures.value ∙ (c.in_ok-put_all_lines.ensures ∙ ap (λ (x : List ℕ). x ++ lines_text (entries_in logs)) c.new-lines.ensures.items) in
    let due : c.deref-2.result.now ≡ replies_text (entries_in logs) =
    c.deref-2.ensures.value ∙ (c.in_ok-put_all_replies.ensures ∙ ap (λ (x : List ℕ). x ++ replies_text (entries_in logs)) c.new-due.ensures.items) in
    compared l c.args.floor.now _ logs c.replies_to-replies.result.ending c.deref.result.now c.replies_to-replies.result.text.items c.deref-2.result.now c.other_reply_in.result
    lines due (c.replies_to-replies.ensures.writes l) c.other_reply_in.ensures
