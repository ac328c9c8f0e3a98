use Rattle.std.proofs.Common.{◌≡◌, ◌<◌, ◌+◌, length, sym, ◌∙◌, List, ℕ, Some, None, subst}
use Rattle.lf_floorplan.specs.declared.frame.Frame.{Frame}
use Rattle.lf_floorplan.specs.declared.place.Place.{Place}
use Rattle.lf_proto.specs.declared.reply.Reply.TheVariants.{Def}
use Rattle.lf_proto.specs.declared.request.Command.TheVariants.{To}
use Rattle.lf_proto.specs.declared.request.TeamCommand.{TeamCommand}
use Rattle.lf_proto.specs.Commands.{order_of}
use Rattle.lf_floor_model.specs.Steps.{IsAnswerOf}
use Rattle.lf_floor_model.specs.Teams.{team_number}
use Rattle.lf_floor.specs.Responses.{def_text}
use Rattle.lf_floor_verbs.specs.Tables.{floor_in}
use Rattle.lf_floor.proofs.Requested.{def_answers, given_none, none_without_session, none_without_team}
use Rattle.lf_floor.proofs.floor.Floor.def_requested.Goals as goal

pub returns-clause-requested : goal.returns-clause-requested
returns-clause-requested g c = λ l.
    let floor = floor_in c.self.inside.tables in
    let number = c.in_ok-number.number in
    rw (← c.self.view_is, c.in-To.is)
    (subst (λ (order : TeamCommand (List ℕ) Place). IsAnswerOf l floor (To c.in-To.team.now order) (Def (def_text floor c.in-To.team.now)) floor) (sym c.in_ok-session.ensures.is)
    (def_answers l c.self.inside.tables c.in-To.team.now c.in_ok-session.session c.in_ok-seen.field-0 number
    (subst (λ (f : Frame). Some number ≡ team_number f c.in-To.team.now) c.frame.ensures c.in_ok-number.ensures.found)
    (rw c.self.invariant.revisions (subst (λ (f : Frame). number < length f.teams + 1) c.frame.ensures c.in_ok-number.ensures.within))
    (sym (sym c.seen.ensures ∙ c.in_ok-seen.was {u = tt}))))

pub returns-in_err-number-clause-none : goal.returns-in_err-number-clause-none
returns-in_err-number-clause-none g c = λ l text.
    given_none c.from_residual-in_err-number.result _
    (rw (← c.self.view_is, c.in-To.is)
    (λ asks answers. none_without_team l (floor_in c.self.inside.tables) c.in-To.team.now (order_of c.in-To.order) text
    (subst (λ (f : Frame). None ≡ team_number f c.in-To.team.now) c.frame.ensures c.in_err-number.ensures.found) answers))

pub returns-in_err-seen-clause-none : goal.returns-in_err-seen-clause-none
returns-in_err-seen-clause-none g c = λ l text.
    let tables = c.self.inside.tables in
    let floor = floor_in tables in
    let number = c.in_ok-number.number in
    given_none c.from_residual-in_err-seen.result _
    (rw (← c.self.view_is, c.in-To.is)
    (λ asks answers. none_without_session l tables c.in-To.team.now c.in_ok-session.session number text
    (subst (λ (f : Frame). Some number ≡ team_number f c.in-To.team.now) c.frame.ensures c.in_ok-number.ensures.found)
    (rw c.self.invariant.revisions (subst (λ (f : Frame). number < length f.teams + 1) c.frame.ensures c.in_ok-number.ensures.within))
    (sym (sym c.seen.ensures ∙ c.in_err-seen.was {u = tt}))
    (subst (λ (order : TeamCommand (List ℕ) Place). IsAnswerOf l floor (To c.in-To.team.now order) (Def text) floor) c.in_ok-session.ensures.is answers)))
