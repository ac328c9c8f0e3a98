use Rattle.std.proofs.Common.{◌≡◌, ℕ, List, Option, Some, refl, sym, ap, subst, ◌∙◌, true, arith}
use Rattle.std.proofs.lemmas.Grind.{common_steps}
use Rattle.lf_hub_clients.specs.Turns.{IsAnswered, closing_turn}
use Rattle.lf_hub_turns.specs.Queues.{turn_done}
use Rattle.lf_hub.specs.Machine.{Hub, Closes, after, connection_at, session_of}
use Rattle.lf_hub.proofs.Steppings.{closed-hub, recorded}
use Rattle.lf_hub.proofs.hub_core.Core.close_next.Goals as goal

pub returns-clause-advances : goal.returns-clause-advances
returns-clause-advances g c =
    let view = c.self.view_is in
    let line = c.close_session-outcome.new.line.items in
    let reply = c.close_session-outcome.new.reply.items in
    let outcome = c.close_session-outcome.result in
    let here = connection_at c.args.slot c.args.self.now.hub.slots in
    let slots : c.self.inside.clients.items ≡ c.args.self.now.hub.slots = ap (λ v. v.hub.slots) view in
    let number : c.number-number.result ≡ here.number = grind (arith, common_steps, slots, c.number-number.ensures, c.index.ensures) in
    let team : c.team-team.result ≡ here.team = grind (arith, common_steps, slots, c.team-team.ensures, c.index-2.ensures) in
    let session : session_of c.args.slot c.args.self.now.hub.sessions ≡ Some c.in-Some.own =
    ap (λ v. session_of c.args.slot v.hub.sessions) (sym view) ∙ ap (session_of c.args.slot) (sym c.as_slice.ensures.value) ∙ sym c.session_of.ensures ∙ c.in-Some.is in
    let turn = closing_turn here.number here.team line reply outcome in
    let before : Hub = record { made = c.self.inside.made; slots = c.self.inside.clients.items; sessions = c.self.inside.sessions.items; answered = c.self.inside.answered.items; records = c.self.inside.records.items } in
    let records = recorded turn c.number-number.result c.as_slice-2.result.now c.as_slice-3.result.now c.reserve.new.self.items c.self.inside.records.items c.put_record.new.records.items
    c.put_record.ensures number c.as_slice-2.ensures.value c.as_slice-3.ensures.value c.reserve.ensures.items in
    let hub = closed-hub before c.args.slot c.in-Some.own turn c.remove_session.new.sessions.items c.put_record.new.records.items c.remove_session.ensures.items records
    ∙ ap (λ h. after h (Closes c.args.slot c.in-Some.own turn)) (ap (λ v. v.hub) view) in
    let answered = subst (λ n. IsAnswered g.F.Floor.answers g.F.Floor.shows c.args.floor.now (closing_turn n here.team line reply outcome) c.close_session-outcome.new.floor) number
    (subst (λ m. IsAnswered g.F.Floor.answers g.F.Floor.shows c.args.floor.now (closing_turn c.number-number.result m line reply outcome) c.close_session-outcome.new.floor) team
    c.close_session-outcome.ensures.answered) in
    ((c.requires.next, (c.requires.slot, c.requires.left, session, refl), hub), answered, c.end_turn-2.ensures ∙ ap (λ v. turn_done true v.turns) view)
