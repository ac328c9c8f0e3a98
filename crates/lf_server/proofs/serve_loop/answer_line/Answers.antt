use Rattle.std.proofs.Common.{◌∙◌, List, ℕ, ap, subst, sym, Some, None}
use Rattle.std.specs.Prelude.{option_map}
use Rattle.lf_proto.specs.Commands.{command_with_names}
use Rattle.lf_floor.specs.Responses.{reply_in}
use Rattle.lf_server.specs.declared.serve_loop.Ending.TheVariants.{Bye, WriteFault}
use Rattle.lf_server.specs.Exchanges.{requests_end, reply_text_of}
use Rattle.lf_server.specs.Progress.{IsAnswered}
use Rattle.lf_server.proofs.Steps.{breaks_one, exchanged, on_err_yes, on_ok_no, sends_one}
use Rattle.lf_server.proofs.serve_loop.answer_line.Goals as goal

pub returns-then-is_err-clause-serves : goal.returns-then-is_err-clause-serves
returns-then-is_err-clause-serves g c = λ l.
    let e = sym c.is_err.ensures.value ∙ c.if-is_err.true in
    exchanged l (Some WriteFault) _ _ c.args.floor.now c.answer-response.new.floor (option_map (λ bytes. bytes.now) c.args.line)
    (option_map command_with_names c.request_of_line-request.result) (reply_in c.answer-response.new.floor c.team_requested.result.now c.answer-response.result) c.team_requested.result.now c.request_of_line-request.ensures c.team_requested.ensures
    (breaks_one _ _ _ _ _ _ (reply_text_of c.answer-response.new.floor c.team_requested.result.now (reply_in c.answer-response.new.floor c.team_requested.result.now c.answer-response.result))
    (on_err_yes c.send_response.result e c.send_response.ensures.prefix) (on_err_yes c.send_response.result e c.send_response.ensures.failed)) (subst (λ (t : List ℕ). IsAnswered l c.args.floor.now (option_map command_with_names c.request_of_line-request.result) (reply_in c.answer-response.new.floor t c.answer-response.result) c.answer-response.new.floor)
    (sym c.team_requested.ensures) (c.answer-response.ensures.answered l))

pub returns-then-is_end-clause-serves : goal.returns-then-is_end-clause-serves
returns-then-is_end-clause-serves g c = λ l.
    let e = sym c.is_err.ensures.value ∙ c.if-is_err.false in
    exchanged l (Some Bye) _ _ c.args.floor.now c.answer-response.new.floor (option_map (λ bytes. bytes.now) c.args.line)
    (option_map command_with_names c.request_of_line-request.result) (reply_in c.answer-response.new.floor c.team_requested.result.now c.answer-response.result) c.team_requested.result.now c.request_of_line-request.ensures c.team_requested.ensures (
      sends_one _ _ _ _ _ _ (reply_text_of c.answer-response.new.floor c.team_requested.result.now (reply_in c.answer-response.new.floor c.team_requested.result.now c.answer-response.result)) (on_ok_no c.send_response.result e c.send_response.ensures.ok)
          (on_ok_no c.send_response.result e c.send_response.ensures.flushed) (on_ok_no c.send_response.result e c.send_response.ensures.healthy),
      ap requests_end (sym c.request_of_line-request.ensures) ∙ (sym c.is_end.ensures ∙ c.if-is_end.true),
    ) (subst (λ (t : List ℕ). IsAnswered l c.args.floor.now (option_map command_with_names c.request_of_line-request.result) (reply_in c.answer-response.new.floor t c.answer-response.result) c.answer-response.new.floor)
    (sym c.team_requested.ensures) (c.answer-response.ensures.answered l))

pub returns-clause-serves : goal.returns-clause-serves
returns-clause-serves g c = λ l.
    let e = sym c.is_err.ensures.value ∙ c.if-is_err.false in
    exchanged l None _ _ c.args.floor.now c.answer-response.new.floor (option_map (λ bytes. bytes.now) c.args.line)
    (option_map command_with_names c.request_of_line-request.result) (reply_in c.answer-response.new.floor c.team_requested.result.now c.answer-response.result) c.team_requested.result.now c.request_of_line-request.ensures c.team_requested.ensures (
      sends_one _ _ _ _ _ _ (reply_text_of c.answer-response.new.floor c.team_requested.result.now (reply_in c.answer-response.new.floor c.team_requested.result.now c.answer-response.result)) (on_ok_no c.send_response.result e c.send_response.ensures.ok)
          (on_ok_no c.send_response.result e c.send_response.ensures.flushed) (on_ok_no c.send_response.result e c.send_response.ensures.healthy),
      ap requests_end (sym c.request_of_line-request.ensures) ∙ (sym c.is_end.ensures ∙ c.if-is_end.false),
    ) (subst (λ (t : List ℕ). IsAnswered l c.args.floor.now (option_map command_with_names c.request_of_line-request.result) (reply_in c.answer-response.new.floor t c.answer-response.result) c.answer-response.new.floor)
    (sym c.team_requested.ensures) (c.answer-response.ensures.answered l))
