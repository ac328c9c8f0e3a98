use Rattle.std.proofs.Common.{◌≡◌, ◌≤◌, ℕ, List, Option, Some, None, Ok, length, map, drop, sym, ◌∙◌, ap, subst, arith, rules}
use Rattle.std.specs.Prelude.{MatchOption}
use Rattle.lf_journal_text.specs.Records.{Log, segment_of}
use Rattle.lf_journal_text.specs.Views.{log_of}
use Rattle.lf_journal_text.specs.declared.segment.Batch.{Batch}
use Rattle.lf_journal_run.specs.Beginnings.{due_beginning, other_beginning}
use Rattle.lf_journal_run.specs.Runs.{GetsOtherReply, NamesRecord, RunsLogs}
use Rattle.lf_journal_run.specs.Texts.{logs_size}
use Rattle.lf_journal_run.proofs.Comparing.{not_run}
use Rattle.lf_journal_run.proofs.Sizes.{logs_within}
use Rattle.lf_journal_run.proofs.run.run_journal.Goals as goal

pub other_reply-requires : goal.other_reply-requires
other_reply-requires g c =
    let logs = map log_of c.in_ok-batches.batches.items in
    let fits : length c.args.journal.now ≤ 18446744073709551615 = search rules in
    let same = ap (λ (l : List Batch). logs_size (map log_of l)) c.deref-in-Some-2.ensures.value in
    omega (arith, logs_within c.args.journal.now logs c.in_ok-batches.ensures.ok, same, fits)

pub returns-clause-err : goal.returns-clause-err
returns-clause-err g c = λ l.
    let items = c.in_ok-batches.batches.items in
    let logs = map log_of items in
    let due = due_beginning c.args.due.design.now c.args.due.state.now in
    let begins : other_beginning logs due ≡ None =
    sym (ap (λ (l : List Batch). other_beginning (map log_of l) due) c.deref.ensures.value) ∙ (sym c.other_beginning.ensures ∙ c.in_default.is) in
    let behind = c.behind_beginning.ensures ∙ ap (λ (l : List Batch). drop 1 (map log_of l)) c.deref-2.ensures.value in
    let found = subst (λ (f : Option ℕ). MatchOption f (RunsLogs l c.args.floor.now (map log_of c.behind_beginning.result.now) c.run_batches.new.floor)
    (GetsOtherReply l c.args.floor.now (map log_of c.behind_beginning.result.now))) c.in-Some-2.is (c.in_ok-run_batches.ensures.run l) in
    let gets = subst (λ (logs : List Log). GetsOtherReply l c.args.floor.now logs c.in-Some-2.number) behind found in
    let names = subst (λ (l : List Batch). NamesRecord (map log_of l) c.in-Some-2.number c.other_reply.result) c.deref-in-Some-2.ensures.value c.other_reply.ensures in
    not_run l c.args.journal.now c.args.due.design.now c.args.due.state.now c.args.floor.now logs c.in-Some-2.number c.other_reply.result c.in_ok-batches.ensures.ok begins gets names
