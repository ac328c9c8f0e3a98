use Rattle.std.proofs.Common.{◌≡◌, List, ℕ, drop, ap, ◌∙◌}
use Rattle.lf_journal_text.specs.Batches.{recovered}
use Rattle.lf_hub_serve.specs.Saving.{records_in}
use Rattle.lf_hub_serve.proofs.Records.{settled_keeps, one_more, before_or_after}
use Rattle.lf_hub_serve.proofs.saving.put_records.Goals as goal

pub returns-then-records-gt-MOST-clause-any_moment : goal.returns-then-records-gt-MOST-clause-any_moment
returns-then-records-gt-MOST-clause-any_moment g c clean f left =
    settled_keeps g.D.Disk.seen g.D.Disk.may_leave c.args.journal.now.disk c.args.journal.now.end c.args.journal.now.len c.args.records.now f (c.requires.settled clean) left

pub returns-then-journal-gt-SEGMENT-clause-any_moment : goal.returns-then-journal-gt-SEGMENT-clause-any_moment
returns-then-journal-gt-SEGMENT-clause-any_moment g c clean f left =
    settled_keeps g.D.Disk.seen g.D.Disk.may_leave c.args.journal.now.disk c.args.journal.now.end c.args.journal.now.len c.args.records.now f (c.requires.settled clean) left

pub returns-then-not-has_no_zero-clause-any_moment : goal.returns-then-not-has_no_zero-clause-any_moment
returns-then-not-has_no_zero-clause-any_moment g c clean f left =
    settled_keeps g.D.Disk.seen g.D.Disk.may_leave c.args.journal.now.disk c.args.journal.now.end c.args.journal.now.len c.args.records.now f (c.requires.settled clean) left

pub returns-in_err-batch-clause-any_moment : goal.returns-in_err-batch-clause-any_moment
returns-in_err-batch-clause-any_moment g c clean f left =
    settled_keeps g.D.Disk.seen g.D.Disk.may_leave c.args.journal.now.disk c.args.journal.now.end c.args.journal.now.len c.args.records.now f (c.requires.settled clean) left

pub returns-in-Ok-clause-any_moment : goal.returns-in-Ok-clause-any_moment
returns-in-Ok-clause-any_moment g c clean f left =
    let payload : drop 38 c.deref.result.now ≡ c.args.records.now = ap (λ (b : List ℕ). drop 38 b) c.deref.ensures.value ∙ c.in_ok-batch.ensures.records in
    before_or_after (recovered (g.D.Disk.seen c.args.journal.now.disk)) c.deref.result.now c.args.records.now f payload (c.put.ensures.any_moment clean f left)

pub returns-in-Ok-clause-saved : goal.returns-in-Ok-clause-saved
returns-in-Ok-clause-saved g c clean =
    let payload : drop 38 c.deref.result.now ≡ c.args.records.now = ap (λ (b : List ℕ). drop 38 b) c.deref.ensures.value ∙ c.in_ok-batch.ensures.records in
    ap records_in (c.in-Ok.ensures.acknowledged clean).1 ∙ one_more (recovered (g.D.Disk.seen c.args.journal.now.disk)) c.deref.result.now c.args.records.now payload
