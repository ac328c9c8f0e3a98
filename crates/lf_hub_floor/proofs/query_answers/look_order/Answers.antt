use Rattle.std.proofs.Common.{ap, sym, subst, List, ℕ}
use Rattle.lf_floorplan.specs.declared.place.Place.{Place}
use Rattle.lf_proto.specs.Commands.{order_of}
use Rattle.lf_proto.specs.declared.request.TeamCommand.{TeamCommand}
use Rattle.lf_hub_floor.specs.QueryAnswers.{ShowsOrder}
use Rattle.lf_hub_floor.proofs.QuerySessions.{open_shows}
use Rattle.lf_hub_floor.proofs.query_answers.look_order.Goals as goal

pub returns-in-Open-clause-shows : goal.returns-in-Open-clause-shows
returns-in-Open-clause-shows g c = λ l.
    subst (λ (order : TeamCommand (List ℕ) Place). ShowsOrder l c.args.floor.now c.args.team.now order c.write_short_reply.new.text.items)
    (sym (ap order_of c.in-Open.is))
    (open_shows l c.args.floor.now c.args.team.now c.revision_of-revision.result c.write_short_reply.new.text.items c.revision_of-revision.ensures
    c.write_short_reply.ensures.text)
