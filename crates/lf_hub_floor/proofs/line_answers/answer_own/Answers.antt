use Rattle.lf_proto.specs.Commands.{command_with_names}
use Rattle.lf_hub_floor.proofs.Executing.{unchanged_keeps}
use Rattle.lf_hub_floor.proofs.line_answers.answer_own.Goals as goal

pub returns-clause-answers : goal.returns-clause-answers
returns-clause-answers g c = λ l.
    record { reply = c.execute-reply.result; steps = c.execute-reply.ensures.steps l; outcome_is = c.outcome_of.ensures }

pub returns-clause-unchanged : goal.returns-clause-unchanged
returns-clause-unchanged g c =
    let l = c.legalizer_exists.ensures in
    unchanged_keeps l c.args.floor.now c.execute-reply.new.floor (command_with_names c.args.request.now) c.execute-reply.result c.outcome_of.result
    (c.execute-reply.ensures.steps l).step c.outcome_of.ensures
