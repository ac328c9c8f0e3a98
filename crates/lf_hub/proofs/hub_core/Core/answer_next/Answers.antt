use Rattle.std.proofs.Common.{◌≡◌, ℕ, List, [], ◌++◌, ◌∷◌, refl, sym, ap, subst, ◌∙◌, arith, rules}
use Rattle.std.proofs.lemmas.Grind.{common_steps}
use Rattle.std.specs.Vec.{with_items}
use Rattle.std.proofs.lemmas.List.{with_items_is, places}
use Rattle.lf_hub_clients.specs.Connections.{Connection, turn_of, with_answer, without_first}
use Rattle.lf_hub_clients.specs.Turns.{IsAnswered}
use Rattle.lf_hub_turns.specs.Queues.{turn_done}
use Rattle.lf_hub.specs.Machine.{Hub, Answers, after, changed_at, connection_at, sessions_after}
use Rattle.lf_hub.proofs.Steppings.{answered-hub, recorded}
use Rattle.lf_hub.proofs.hub_core.Core.answer_next.Goals as goal

pub returns-clause-advances : goal.returns-clause-advances
returns-clause-advances g c =
    let view = c.self.view_is in
    let slots : c.as_mut_slice.result.now ≡ c.args.self.now.hub.slots = c.as_mut_slice.ensures.value ∙ ap (λ v. v.hub.slots) view in
    let here = connection_at c.args.slot c.args.self.now.hub.slots in
    let line = c.answer_client.new.line.items in
    let reply = c.answer_client.new.reply.items in
    let outcome = c.in_ok-outcome.outcome in
    let turn = turn_of here line reply outcome in
    let own : c.self.inside.clients.items ≡ c.args.self.now.hub.slots = ap (λ v. v.hub.slots) view in
    let number : c.number-number.result ≡ here.number = grind (arith, common_steps, own, c.number-number.ensures, c.index.ensures) in
    let team : c.team-team.result ≡ here.team = grind (arith, common_steps, own, c.team-team.ensures, c.index-2.ensures) in
    let written = with_items_is c.self.inside.clients c.answer_client.new.clients (search (rules, places)) in
    let lines = subst (λ (s : List Connection). (connection_at c.args.slot s).lines ≡ line ∷ without_first (connection_at c.args.slot s).lines) slots c.in_ok-outcome.ensures.first in
    let clients = written ∙ c.in_ok-outcome.ensures.after
    ∙ ap (λ (s : List Connection). changed_at c.args.slot (with_answer (turn_of (connection_at c.args.slot s) line reply outcome)) s) slots in
    let sessions = c.note_outcome.ensures ∙ ap (λ m. sessions_after c.args.slot m outcome c.reserve-2.new.self.items) team
    ∙ ap (sessions_after c.args.slot here.team outcome) (c.reserve-2.ensures.items ∙ ap (λ v. v.hub.sessions) view) in
    let waiting = c.put_slot.ensures ∙ ap (λ l. l ++ c.args.slot ∷ []) (c.reserve.ensures.items ∙ ap (λ v. v.hub.answered) view) in
    let records = recorded turn c.number-number.result c.as_slice.result.now c.as_slice-2.result.now c.has_record_room-takes.new.records.items c.args.self.now.hub.records c.put_record.new.records.items
    c.put_record.ensures number c.as_slice.ensures.value c.as_slice-2.ensures.value (c.has_record_room-takes.ensures.items ∙ ap (λ v. v.hub.records) view) in
    let made : c.self.inside.made ≡ c.args.self.now.hub.made = ap (λ v. v.hub.made) view in
    let hub = answered-hub c.args.self.now.hub c.args.slot turn c.self.inside.made (with_items c.self.inside.clients c.answer_client.new.clients).items c.note_outcome.new.sessions.items
    c.put_slot.new.slots.items c.put_record.new.records.items made clients sessions waiting records in
    let answered = subst (λ (s : List Connection). IsAnswered g.F.Floor.answers g.F.Floor.shows c.args.floor.now (turn_of (connection_at c.args.slot s) line reply outcome) c.answer_client.new.floor) slots
    c.in_ok-outcome.ensures.answered in
    ((c.requires.next, (c.requires.slot, c.requires.waits, lines, refl), hub), answered, c.end_turn.ensures ∙ ap (λ v. turn_done c.in_ok-outcome.stays v.turns) view)
