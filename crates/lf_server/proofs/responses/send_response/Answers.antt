use Rattle.std.proofs.Common.{List, ℕ, OnErr, subst}
use Rattle.lf_server.proofs.Parts.{Front, response_parts}
use Rattle.lf_server.proofs.responses.send_response.Goals as goal

pub returns-in-Reply-clause-prefix : goal.returns-in-Reply-clause-prefix
returns-in-Reply-clause-prefix g c = rw c.in-Reply.is c.send_reply.ensures.prefix

pub returns-in-DefText-clause-prefix : goal.returns-in-DefText-clause-prefix
returns-in-DefText-clause-prefix g c =
    subst (λ (t : List ℕ). OnErr c.send_def.result (Front (g.W.Sink.contents c.args.sink.now) (g.W.Sink.contents c.send_def.new.sink) t))
    (response_parts c.args.floor.now c.args.team.now c.args.response.now c.in-DefText.count c.put_def_line.new.text.bytes.items c.in-DefText.is
    (c.requires c.in-DefText.count c.in-DefText.is) c.put_def_line.ensures) c.send_def.ensures.prefix
