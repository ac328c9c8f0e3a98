use Rattle.std.proofs.Common.{List, ℕ, [], ◌++◌, refl, sym, ap, subst, ◌∙◌}
use Rattle.lf_hub_clients.specs.Turns.{IsAnswered}
use Rattle.lf_hub.specs.Machine.{Hub}
use Rattle.lf_hub_serve.specs.Saving.{KeepsRecords, records_of_file}
use Rattle.lf_hub_serve.specs.Served.{records_of}
use Rattle.lf_hub_serve.specs.Servers.{service_of}
use Rattle.lf_hub_serve.proofs.Services.{serves_same, breaks_whole}
use Rattle.lf_hub_serve.proofs.Records.{settled_keeps, keeps_nil}
use Rattle.lf_hub_serve.proofs.Runs.{hub_served}
use Rattle.lf_hub_serve.proofs.serving.serve_hub.Goals as goal

pub returns-clause-served : goal.returns-clause-served
returns-clause-served g c is =
    let takes = IsAnswered g.F.Floor.answers g.F.Floor.shows in
    let calls = g.W.Wire.calls in
    let rounds = c.serve_rounds.ensures.served in
    let before = records_of_file (g.D.Disk.seen c.args.journal.now.disk) in
    let so = hub_served takes calls c.args.server.now c.serve_rounds.new.server rounds.0 is rounds.1 in (
      so.safe,
      so.held,
      so.served,
      λ stopped. sym so.unsaved ∙ c.serve_rounds.ensures.saved stopped,
      λ clean f left. subst (λ (r : List ℕ). KeepsRecords (before ++ r) (records_of so.held) f) so.saved
          (subst (λ (r : List ℕ). KeepsRecords (before ++ rounds.0) r f) so.unsaved (rounds.2 clean f left)),
    )

pub returns-in_default-clause-served : goal.returns-in_default-clause-served
returns-in_default-clause-served g c is =
    let takes = IsAnswered g.F.Floor.answers g.F.Floor.shows in
    let calls = g.W.Wire.calls in
    let server = c.args.server.now in
    let journal = c.args.journal.now in
    let start = service_of calls server [] in
    let before = records_of_file (g.D.Disk.seen journal.disk) in
    let so = hub_served takes calls server server [] is (breaks_whole takes start start (serves_same takes start start refl)) in (
      so.safe,
      so.held,
      so.served,
      λ stopped. sym so.unsaved ∙ ap (λ (h : Hub). h.records) is.hub,
      λ clean f left. subst (λ (r : List ℕ). KeepsRecords (before ++ r) (records_of so.held) f) so.saved
          (keeps_nil before (records_of so.held) f
          (settled_keeps g.D.Disk.seen g.D.Disk.may_leave journal.disk journal.end journal.len (records_of so.held) f (c.requires.settled clean) left)),
    )
