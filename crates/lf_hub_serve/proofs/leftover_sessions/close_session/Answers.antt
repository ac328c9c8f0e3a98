use Rattle.std.proofs.Common.{◌≡◌, ◌∙◌, ap, inl, true, ℕ, List, ◌++◌, sym, rules}
use Rattle.std.specs.Prelude.{IsTrue}
use Rattle.std.proofs.lemmas.Bool.{false≢true}
use Rattle.std.proofs.lemmas.Result.{on_ok_weaker}
use Rattle.lf_hub_clients.specs.Turns.{IsAnswered, closing_turn}
use Rattle.lf_hub.specs.Machine.{is_accepted}
use Rattle.lf_hub_serve.specs.Saving.{records_of_file}
use Rattle.lf_hub_serve.specs.Leftovers.{start_record}
use Rattle.lf_hub_serve.proofs.Closings.{closes_one}
use Rattle.lf_hub_serve.proofs.leftover_sessions.close_session.Goals as goal

pub returns-clause-closes : goal.returns-clause-closes
returns-clause-closes g c =
    let line = c.close-outcome.new.line in
    let reply = c.close-outcome.new.reply in
    let turn = closing_turn 0 c.args.team line.items reply.items c.close-outcome.result in
    let before = records_of_file (g.D.Disk.seen c.args.journal.now.disk) in
    let accepted : is_accepted turn ≡ true = search rules in
    let text : c.deref-3.result.now ≡ start_record line.items reply.items = search rules in
    on_ok_weaker c.write_records.result
    (λ saved. closes_one (IsAnswered g.F.Floor.answers g.F.Floor.shows) c.args.floor.now c.close-outcome.new.self turn
    (IsTrue (g.D.Disk.is_clean c.write_records.new.journal.disk)) before (records_of_file (g.D.Disk.seen c.write_records.new.journal.disk))
    (inl (c.close-outcome.ensures.answers, λ unchanged. absurd (false≢true (sym unchanged ∙ accepted)))) accepted
    (λ clean. saved clean ∙ ap (λ (l : List ℕ). before ++ l) text)) c.write_records.ensures.saved
