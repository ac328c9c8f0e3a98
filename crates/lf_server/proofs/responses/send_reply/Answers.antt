use Rattle.std.proofs.Common.{◌++◌, ◌∙◌, List, ℕ, OnErr, codes, subst}
use Rattle.lf_server.proofs.Parts.{Front, def_parts, front_after, front_first, report_parts}
use Rattle.lf_server.proofs.responses.send_reply.Goals as goal

pub returns-in_err-send_both-in-Report-clause-prefix : goal.returns-in_err-send_both-in-Report-clause-prefix
returns-in_err-send_both-in-Report-clause-prefix g c =
    subst (λ (t : List ℕ). OnErr c.from_residual.result (Front (g.W.Sink.contents c.args.sink.now) (g.W.Sink.contents c.send_both.new.sink) t))
    (report_parts c.args.floor.now c.args.team.now c.args.reply.now c.in-Report.report c.as_bytes.result.now c.in-Report.is c.as_bytes.ensures)
    (front_first c.from_residual.result _ _ (codes "ok " ++ c.as_bytes.result.now) (codes "\n") c.in_err-send_both-in-Report.ensures.prefix)

pub returns-in_ok-send_both-in-Report-clause-prefix : goal.returns-in_ok-send_both-in-Report-clause-prefix
returns-in_ok-send_both-in-Report-clause-prefix g c =
    subst (λ (t : List ℕ). OnErr c.send.result (Front (g.W.Sink.contents c.args.sink.now) (g.W.Sink.contents c.send.new.sink) t))
    (report_parts c.args.floor.now c.args.team.now c.args.reply.now c.in-Report.report c.as_bytes.result.now c.in-Report.is c.as_bytes.ensures)
    (front_after c.send.result _ (g.W.Sink.contents c.send_both.new.sink) _ (codes "ok " ++ c.as_bytes.result.now) (codes "\n")
    c.in_ok-send_both-in-Report.ensures.ok c.send.ensures.prefix)

pub returns-in-Def-clause-prefix : goal.returns-in-Def-clause-prefix
returns-in-Def-clause-prefix g c =
    subst (λ (t : List ℕ). OnErr c.send_both-in-Def.result (Front (g.W.Sink.contents c.args.sink.now) (g.W.Sink.contents c.send_both-in-Def.new.sink) t))
    (def_parts c.args.floor.now c.args.team.now c.args.reply.now c.in-Def.def c.as_slice.result.now c.as_bytes-in-Def.result.now c.as_bytes-in-Def-2.result.now
    c.in-Def.is c.as_bytes-in-Def.ensures (c.as_slice.ensures.value ∙ c.put_def_line.ensures) c.as_bytes-in-Def-2.ensures) c.send_both-in-Def.ensures.prefix
