use Rattle.lf_proto.specs.Commands.{command_with_names}
use Rattle.lf_hub_floor.proofs.LongReplies.{others_are_short}
use Rattle.lf_hub_floor.proofs.line_answers.execute.Goals as goal

pub returns-then-write_reply-clause-short : goal.returns-then-write_reply-clause-short
returns-then-write_reply-clause-short g c = λ other.
    let l = c.legalizer_exists.ensures in
    c.write_reply.ensures.short
    (others_are_short l c.args.floor.now c.step-reply.new.self (command_with_names c.args.request.now) c.step-reply.result (c.step-reply.ensures.step l) other)
