use Rattle.lf_hub_floor.proofs.QuerySessions.{closes_session}
use Rattle.lf_hub_floor.proofs.query_answers.close_session.Goals as goal

pub returns : goal.returns
returns g c = λ before opens.
    closes_session before c.args.team.now c.args.session c.args.floor.now opens c.legalizer_exists.ensures c.step-closed.result c.step-closed.new.self
    (c.step-closed.ensures.step c.legalizer_exists.ensures)
