use Rattle.std.proofs.Common.{inr, refl}
use Rattle.lf_task_journal.proofs.run.run_journal_file.Goals as goal

pub returns-clause-err : goal.returns-clause-err
returns-clause-err g c =
    inr (inr record {
      line = c.in_ok-line.line.items;
      line_is = c.in_ok-line.ensures.ok;
      name = c.in_ok-state.state.items;
      name_is = c.in_ok-state.ensures.ok;
      text = c.in_ok-text.text.items;
      given = rw c.journal_file.ensures.path at c.in_ok-text.ensures.ok;
      refusal = c.in-Err-Refused.refusal;
      refused = λ l. rw (c.deref.ensures.value, c.deref-2.ensures.value, c.deref-3.ensures.value) at (rw c.in-Err-Refused.field-0-is at (c.in-Err-Refused.ensures.err l));
      reported = (refl, refl);
    })
