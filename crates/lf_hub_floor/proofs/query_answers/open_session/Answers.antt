use Rattle.std.proofs.Common.{ℕ, Option, sym, subst}
use Rattle.std.specs.Prelude.{MatchOption}
use Rattle.lf_hub_floor.specs.QuerySessions.{HasNoFreeSlot, OpensSession}
use Rattle.lf_hub_floor.proofs.QuerySessions.{opens_session}
use Rattle.lf_hub_floor.proofs.query_answers.open_session.Goals as goal

pub returns : goal.returns
returns g c =
    let l = c.legalizer_exists.ensures in
    subst (λ (o : Option ℕ). MatchOption o (HasNoFreeSlot c.args.floor.now c.args.team.now c.step-reply.new.self)
    (λ session. OpensSession c.args.floor.now c.args.team.now session c.step-reply.new.self)) (sym c.session_opened.ensures)
    (opens_session c.args.floor.now c.args.team.now c.step-reply.result c.step-reply.new.self l (c.step-reply.ensures.step l))
