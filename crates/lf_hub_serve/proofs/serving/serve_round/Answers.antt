use Rattle.std.proofs.Common.{◌≡◌, List, ℕ, [], sym, ap, subst}
use Rattle.std.proofs.lemmas.Result.{err_from_is_err_and}
use Rattle.lf_hub_clients.specs.Turns.{IsAnswered}
use Rattle.lf_hub_serve.specs.Saving.{KeepsRecords, records_of_file}
use Rattle.lf_hub_serve.specs.Serving.{Service, Serves}
use Rattle.lf_hub_serve.specs.Servers.{service_of}
use Rattle.lf_hub_serve.proofs.Services.{serves_then, serves_breaks, serves_with, breaks_whole, breaks_with}
use Rattle.lf_hub_serve.proofs.Records.{settled_keeps, keeps_nil}
use Rattle.lf_hub_serve.proofs.serving.serve_round.Goals as goal

pub returns-clause-ok : goal.returns-clause-ok
returns-clause-ok g c =
    let takes = IsAnswered g.F.Floor.answers g.F.Floor.shows in
    let calls = g.W.Wire.calls in
    let gathered = c.gather.new.server in
    let saved = c.save.new.server in
    let sent = c.send_replies.new.server in
    let records = gathered.core.hub.records in (
      records,
      serves_then takes (service_of calls c.args.server.now []) (service_of calls gathered []) (service_of calls sent records) c.in_ok-is_busy.ensures.ok
          (serves_then takes (service_of calls gathered []) (service_of calls saved records) (service_of calls sent records) c.in_ok-save.ensures.ok
          (serves_with takes records saved.core.hub sent.core.hub saved.floor sent.floor (calls saved.wire) (calls sent.wire) c.in_ok-was_sent.ensures.ok)),
      c.in_ok-save.ensures.saved,
    )

pub returns-in_err-is_busy-clause-err : goal.returns-in_err-is_busy-clause-err
returns-in_err-is_busy-clause-err g c =
    let p = err_from_is_err_and c.from_residual.result c.from_residual.ensures.1 in
    let journal = c.args.journal.now in
    let last = c.gather.new.server.core.hub.records in
    rw p.1 (
      [],
      c.in_err-is_busy.ensures.err,
      λ clean f left. keeps_nil (records_of_file (g.D.Disk.seen journal.disk)) last f
          (settled_keeps g.D.Disk.seen g.D.Disk.may_leave journal.disk journal.end journal.len last f (c.requires.settled clean) left),
    )

pub returns-in_err-save-clause-err : goal.returns-in_err-save-clause-err
returns-in_err-save-clause-err g c =
    let p = err_from_is_err_and c.from_residual-in_err-save.result c.from_residual-in_err-save.ensures.1 in
    let takes = IsAnswered g.F.Floor.answers g.F.Floor.shows in
    let calls = g.W.Wire.calls in
    let gathered = c.gather.new.server in
    let saved = c.save.new.server in
    let journal = c.args.journal.now in
    let start = service_of calls c.args.server.now [] in
    let same : service_of calls saved [] ≡ service_of calls gathered [] = c.in_err-save.ensures.err in
    let records = ap (λ (s : Service g.row.F.Denot). s.hub.records) same in
    rw p.1 (
      [],
      breaks_whole takes start (service_of calls saved []) (subst (λ (s : Service g.row.F.Denot). Serves takes start s) (sym same) c.in_ok-is_busy.ensures.ok),
      λ clean f left. keeps_nil (records_of_file (g.D.Disk.seen journal.disk)) saved.core.hub.records f
          (subst (λ (l : List ℕ). KeepsRecords (records_of_file (g.D.Disk.seen journal.disk)) l f) (sym records) (c.save.ensures.any_moment clean f left)),
    )

pub returns-in_err-was_sent-clause-err : goal.returns-in_err-was_sent-clause-err
returns-in_err-was_sent-clause-err g c =
    let p = err_from_is_err_and c.from_residual-in_err-was_sent.result c.from_residual-in_err-was_sent.ensures.1 in
    let takes = IsAnswered g.F.Floor.answers g.F.Floor.shows in
    let calls = g.W.Wire.calls in
    let gathered = c.gather.new.server in
    let saved = c.save.new.server in
    let sent = c.send_replies.new.server in
    let journal = c.save.new.journal in
    let records = gathered.core.hub.records in
    let last = sent.core.hub.records in
    rw p.1 (
      records,
      serves_breaks takes (service_of calls c.args.server.now []) (service_of calls gathered []) (service_of calls sent records) c.in_ok-is_busy.ensures.ok
          (serves_breaks takes (service_of calls gathered []) (service_of calls saved records) (service_of calls sent records) c.in_ok-save.ensures.ok
          (breaks_with takes records saved.core.hub sent.core.hub saved.floor sent.floor (calls saved.wire) (calls sent.wire) c.in_err-was_sent.ensures.err)),
      λ clean f left. subst (λ (r : List ℕ). KeepsRecords r last f) (c.in_ok-save.ensures.saved clean)
          (settled_keeps g.D.Disk.seen g.D.Disk.may_leave journal.disk journal.end journal.len last f (c.in_ok-save.ensures.settled clean) left),
    )
