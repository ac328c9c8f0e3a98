use Rattle.std.proofs.Common.{◌∙◌, sym, subst}
use Rattle.lf_proto.specs.Verbs.{action_of}
use Rattle.lf_floor_model.specs.States.{FloorState}
use Rattle.lf_hub_floor.specs.QuerySessions.{OpensSession}
use Rattle.lf_hub_floor.proofs.QuerySessions.{query_keeps, shows_in_session, shows_unopened}
use Rattle.lf_hub_floor.proofs.query_answers.look_query.Goals as goal

pub returns-in-Some-clause-shows : goal.returns-in-Some-clause-shows
returns-in-Some-clause-shows g c = λ l any.
    shows_in_session l c.args.floor.now c.open_session.new.floor c.execute_within-reply.new.floor c.args.team.now c.in-Some.session any (action_of c.args.query)
    c.execute_within-reply.result c.execute_within-reply.new.text.items c.in-Some.ensures c.requires.query (c.execute_within-reply.ensures.steps l)

pub returns-in-Some-clause-unchanged : goal.returns-in-Some-clause-unchanged
returns-in-Some-clause-unchanged g c =
    let l = c.legalizer_exists.ensures in
    c.close_session.ensures c.args.floor.now
    (subst (λ (f : FloorState). OpensSession c.args.floor.now c.args.team.now c.in-Some.session f)
    (sym (query_keeps l c.open_session.new.floor c.execute_within-reply.new.floor c.args.team.now c.in-Some.session (action_of c.args.query)
    c.execute_within-reply.result c.requires.query (c.execute_within-reply.ensures.steps l).step)) c.in-Some.ensures)

pub returns-in-None-clause-shows : goal.returns-in-None-clause-shows
returns-in-None-clause-shows g c = λ l any.
    shows_unopened l c.args.floor.now c.open_session.new.floor c.execute_within-reply-in-None.new.floor c.args.team.now any (action_of c.args.query)
    c.execute_within-reply-in-None.result c.execute_within-reply-in-None.new.text.items c.requires.query (c.execute_within-reply-in-None.ensures.steps l)
    c.in-None.ensures c.teams_match_frame.ensures

pub returns-in-None-clause-unchanged : goal.returns-in-None-clause-unchanged
returns-in-None-clause-unchanged g c =
    let l = c.legalizer_exists.ensures in
    query_keeps l c.open_session.new.floor c.execute_within-reply-in-None.new.floor c.args.team.now 0 (action_of c.args.query)
    c.execute_within-reply-in-None.result c.requires.query (c.execute_within-reply-in-None.ensures.steps l).step
    ∙ c.in-None.ensures.kept
