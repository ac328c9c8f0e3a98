use Rattle.std.proofs.Common.{◌≡◌, List, ℕ, [], ◌++◌, refl, sym, ap, subst, ◌∙◌, append_assoc, append-nil}
use Rattle.lf_hub_clients.specs.Turns.{IsAnswered}
use Rattle.lf_hub_serve.specs.Saving.{KeepsRecords, records_of_file}
use Rattle.lf_hub_serve.specs.Serving.{Service, Serves}
use Rattle.lf_hub_serve.specs.Servers.{HasFailed, service_of}
use Rattle.lf_hub_serve.proofs.Services.{serves_same, serves_then, serves_on, serves_breaks, breaks_on, breaks_whole}
use Rattle.lf_hub_serve.proofs.Records.{settled_keeps}
use Rattle.lf_hub_serve.proofs.serving.serve_rounds.Goals as goal

pub loop-init : goal.loop-init
loop-init g c =
    let server = c.args.server.now in
    record {
      served = (
        [],
        serves_same (IsAnswered g.F.Floor.answers g.F.Floor.shows) (service_of g.W.Wire.calls server []) (service_of g.W.Wire.calls server []) refl,
        λ clean. sym (append-nil (records_of_file (g.D.Disk.seen c.args.journal.now.disk))),
      );
      usable = c.requires.usable;
      settled = c.requires.settled;
      calm = refl;
      clean = λ clean. clean;
    }

pub loop-preserved : goal.loop-preserved
loop-preserved g c =
    let takes = IsAnswered g.F.Floor.answers g.F.Floor.shows in
    let calls = g.W.Wire.calls in
    let before = c.loop.invariant.served in
    let more = c.in-Ok.ensures.ok in
    let now = c.loop.server in
    let new = c.serve_round.new.server in
    let last = c.answer_operator.new.server in
    let saved = before.0 ++ more.0 in
    let start = service_of calls c.args.server.now [] in
    let same : service_of calls last [] ≡ service_of calls new [] = c.answer_operator.ensures.same in
    let round : Serves takes start (service_of calls new saved) =
    serves_then takes start (service_of calls now before.0) (service_of calls new saved) before.1
    (serves_on takes before.0 more.0 now.core.hub new.core.hub now.floor new.floor (calls now.wire) (calls new.wire) more.1) in
    record {
      served = (
        saved,
        subst (λ (s : Service g.row.F.Denot). Serves takes start s) (sym (ap (λ (s : Service g.row.F.Denot). record s { saved = saved }) same)) round,
        λ clean. more.2 clean ∙ ap (λ (r : List ℕ). r ++ more.0) (before.2 (c.serve_round.ensures.clean clean))
            ∙ append_assoc (records_of_file (g.D.Disk.seen c.args.journal.now.disk)) before.0 more.0,
      );
      usable = c.in-Ok.ensures.usable;
      settled = c.in-Ok.ensures.settled;
      calm = c.in-Ok.ensures.calm ∙ c.loop.invariant.calm;
      clean = λ clean. c.loop.invariant.clean (c.serve_round.ensures.clean clean);
    }

-- what was saved before a round, and in it
pub returns-then-answer_operator-clause-served : goal.returns-then-answer_operator-clause-served
returns-then-answer_operator-clause-served g c =
    let takes = IsAnswered g.F.Floor.answers g.F.Floor.shows in
    let calls = g.W.Wire.calls in
    let before = c.loop.invariant.served in
    let more = c.in-Ok.ensures.ok in
    let now = c.loop.server in
    let new = c.serve_round.new.server in
    let last = c.answer_operator.new.server in
    let journal = c.serve_round.new.journal in
    let saved = before.0 ++ more.0 in
    let start = service_of calls c.args.server.now [] in
    let same : service_of calls last [] ≡ service_of calls new [] = c.answer_operator.ensures.same in
    let round : Serves takes start (service_of calls new saved) =
    serves_then takes start (service_of calls now before.0) (service_of calls new saved) before.1
    (serves_on takes before.0 more.0 now.core.hub new.core.hub now.floor new.floor (calls now.wire) (calls new.wire) more.1) in (
      saved,
      breaks_whole takes start (service_of calls last saved)
          (subst (λ (s : Service g.row.F.Denot). Serves takes start s) (sym (ap (λ (s : Service g.row.F.Denot). record s { saved = saved }) same)) round),
      λ clean f left. subst (λ (r : List ℕ). KeepsRecords r last.core.hub.records f)
          (more.2 clean ∙ ap (λ (r : List ℕ). r ++ more.0) (before.2 (c.serve_round.ensures.clean clean))
          ∙ append_assoc (records_of_file (g.D.Disk.seen c.args.journal.now.disk)) before.0 more.0)
          (settled_keeps g.D.Disk.seen g.D.Disk.may_leave journal.disk journal.end journal.len last.core.hub.records f (c.in-Ok.ensures.settled clean) left),
    )

pub returns-in-Err-clause-served : goal.returns-in-Err-clause-served
returns-in-Err-clause-served g c =
    let takes = IsAnswered g.F.Floor.answers g.F.Floor.shows in
    let calls = g.W.Wire.calls in
    let before = c.loop.invariant.served in
    let more = c.in-Err.ensures.err in
    let now = c.loop.server in
    let new = c.serve_round.new.server in
    let saved = before.0 ++ more.0 in (
      saved,
      serves_breaks takes (service_of calls c.args.server.now []) (service_of calls now before.0) (service_of calls new saved) before.1
          (breaks_on takes before.0 more.0 now.core.hub new.core.hub now.floor new.floor (calls now.wire) (calls new.wire) more.1),
      λ clean f left. subst (λ (r : List ℕ). KeepsRecords r new.core.hub.records f)
          (ap (λ (r : List ℕ). r ++ more.0) (before.2 (c.serve_round.ensures.clean clean))
          ∙ append_assoc (records_of_file (g.D.Disk.seen c.args.journal.now.disk)) before.0 more.0)
          (more.2 clean f left),
    )

pub returns-clause-served : goal.returns-clause-served
returns-clause-served g c =
    let journal = c.loop.journal in
    let before = c.loop.invariant.served in (
      before.0,
      breaks_whole (IsAnswered g.F.Floor.answers g.F.Floor.shows) (service_of g.W.Wire.calls c.args.server.now []) (service_of g.W.Wire.calls c.loop.server before.0) before.1,
      λ clean f left. subst (λ (r : List ℕ). KeepsRecords r c.loop.server.core.hub.records f) (before.2 clean)
          (settled_keeps g.D.Disk.seen g.D.Disk.may_leave journal.disk journal.end journal.len c.loop.server.core.hub.records f (c.loop.invariant.settled clean) left),
    )

pub returns-then-answer_operator-clause-saved : goal.returns-then-answer_operator-clause-saved
returns-then-answer_operator-clause-saved g c is = ap (λ (s : Service g.row.F.Denot). s.hub.records) c.answer_operator.ensures.same ∙ c.in-Ok.ensures.saved

pub returns-then-answer_operator-clause-cause : goal.returns-then-answer_operator-clause-cause
returns-then-answer_operator-clause-cause g c = c.answer_operator.ensures.stopped c.if-answer_operator.true

pub returns-in-Err-clause-cause : goal.returns-in-Err-clause-cause
returns-in-Err-clause-cause g c =
    let journal = c.serve_round.new.journal in
    subst (λ (n : ℕ). HasFailed c.in-Err.failure n (g.D.Disk.faults journal.disk) c.serve_round.new.server.core.hub.records journal.end)
    c.loop.invariant.calm c.in-Err.ensures.cause
