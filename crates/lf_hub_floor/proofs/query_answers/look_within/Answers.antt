use Rattle.std.proofs.Common.{◌++◌, ◌∙◌, ap, ℕ, List}
use Rattle.std.specs.Prelude.{codes}
use Rattle.lf_proto.specs.Verbs.{action_of}
use Rattle.lf_proto.specs.declared.verb.Action.TheVariants.{Close, Sync, Check, Def, Where, Find}
use Rattle.lf_hub_floor.proofs.QuerySessions.{close_shows, revision_shows, shows_same}
use Rattle.lf_hub_floor.proofs.query_answers.look_within.Goals as goal

pub returns-in-Close-clause-shows : goal.returns-in-Close-clause-shows
returns-in-Close-clause-shows g c = λ l session.
    shows_same l c.args.floor.now c.args.team.now session (action_of c.args.action) Close c.put.new.out.items (ap action_of c.in-Close.is)
    (close_shows l c.args.floor.now c.args.team.now session c.put.new.out.items
    (c.put.ensures.items ∙ ap (λ (text : List ℕ). text ++ codes "ok\n") c.requires.empty))

pub returns-in-Sync-clause-shows : goal.returns-in-Sync-clause-shows
returns-in-Sync-clause-shows g c = λ l session.
    shows_same l c.args.floor.now c.args.team.now session (action_of c.args.action) Sync c.write_short_reply.new.text.items (ap action_of c.in-Sync.is)
    (revision_shows l c.args.floor.now c.args.team.now session c.revision_of-revision.result c.write_short_reply.new.text.items c.revision_of-revision.ensures
    c.write_short_reply.ensures.text)

pub returns-in-Check-clause-shows : goal.returns-in-Check-clause-shows
returns-in-Check-clause-shows g c = λ l session.
    shows_same l c.args.floor.now c.args.team.now session (action_of c.args.action) (action_of (Check)) c.look_query.new.text.items (ap action_of c.in-Check.is)
    (c.look_query.ensures.shows l session)

pub returns-in-Def-clause-shows : goal.returns-in-Def-clause-shows
returns-in-Def-clause-shows g c = λ l session.
    shows_same l c.args.floor.now c.args.team.now session (action_of c.args.action) (action_of (Def)) c.look_query-in-Def.new.text.items (ap action_of c.in-Def.is)
    (c.look_query-in-Def.ensures.shows l session)

pub returns-in-Where-clause-shows : goal.returns-in-Where-clause-shows
returns-in-Where-clause-shows g c = λ l session.
    shows_same l c.args.floor.now c.args.team.now session (action_of c.args.action) (action_of (Where c.in-Where.cell)) c.look_query-in-Where.new.text.items (ap action_of c.in-Where.is)
    (c.look_query-in-Where.ensures.shows l session)

pub returns-in-Find-clause-shows : goal.returns-in-Find-clause-shows
returns-in-Find-clause-shows g c = λ l session.
    shows_same l c.args.floor.now c.args.team.now session (action_of c.args.action) (action_of (Find c.in-Find.cell c.in-Find.target)) c.look_query-in-Find.new.text.items (ap action_of c.in-Find.is)
    (c.look_query-in-Find.ensures.shows l session)
