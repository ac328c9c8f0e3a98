use Rattle.std.proofs.Common.{◌≡◌, ◌∙◌, ◌++◌, inl, inr, refl, sym, ap}
use Rattle.std.specs.Io.KnownBytes.{Appends}
use Rattle.lf_proto.specs.Commands.{command_with_names}
use Rattle.lf_repair_team.specs.Runs.{AppendsSomeOf}
use Rattle.lf_proto.specs.Printed.{request_line}
use Rattle.lf_repair_team.proofs.Results.{err_is, ok_is}
use Rattle.lf_repair_team.proofs.Runs.{left_out, none_cut, one_cut, one_written, step_only, unchanged}
use Rattle.lf_repair_team.proofs.Steps.{step_macros, step_names, step_numbers}
use Rattle.lf_repair_team.proofs.run_command.run_command.Goals as goal

pub returns-then-is_err-clause-err : goal.returns-then-is_err-clause-err
returns-then-is_err-clause-err g c = λ l team to plain. none_cut l team c.args.floor.now (g.K.Sink.contents c.args.lines.now)

pub returns-then-is_err-clause-only : goal.returns-then-is_err-clause-only
returns-then-is_err-clause-only g c = λ team to. unchanged team c.args.floor.now

pub returns-then-is_err-clause-requested : goal.returns-then-is_err-clause-requested
returns-then-is_err-clause-requested g c = λ l. inl refl

pub returns-then-not-is_accepted-clause-run : goal.returns-then-not-is_accepted-clause-run
returns-then-not-is_accepted-clause-run g c = λ l team to plain.
    left_out l team c.args.floor.now c.step-reply.new.self (g.K.Sink.contents c.args.lines.now) c.step-reply.result c.step-reply.ensures.refused
    (sym c.is_accepted.ensures ∙ c.if-not-is_accepted.true)

pub returns-then-not-is_accepted-clause-only : goal.returns-then-not-is_accepted-clause-only
returns-then-not-is_accepted-clause-only g c = λ team to.
    let l = c.legalizer_exists.ensures in
    step_only team (command_with_names c.args.request.now) c.args.floor.now c.step-reply.new.self to c.step-reply.ensures.others
    (step_numbers l team (command_with_names c.args.request.now) c.args.floor.now c.step-reply.new.self c.step-reply.result to (c.step-reply.ensures.step l)) c.step-reply.ensures.frame
    c.step-reply.ensures.components (step_names l team (command_with_names c.args.request.now) c.args.floor.now c.step-reply.new.self c.step-reply.result to (c.step-reply.ensures.step l))
    (step_macros l team (command_with_names c.args.request.now) c.args.floor.now c.step-reply.new.self c.step-reply.result to (c.step-reply.ensures.step l))
    c.step-reply.ensures.legal

pub returns-then-not-is_accepted-clause-requested : goal.returns-then-not-is_accepted-clause-requested
returns-then-not-is_accepted-clause-requested g c = λ l. inr (c.step-reply.result, c.step-reply.ensures.step l)

pub returns-then-is_err-2-clause-requested : goal.returns-then-is_err-2-clause-requested
returns-then-is_err-2-clause-requested g c = λ l. inr (c.step-reply.result, c.step-reply.ensures.step l)

pub returns-clause-requested : goal.returns-clause-requested
returns-clause-requested g c = λ l. inr (c.step-reply.result, c.step-reply.ensures.step l)

pub returns-then-is_err-2-clause-err : goal.returns-then-is_err-2-clause-err
returns-then-is_err-2-clause-err g c = λ l team to plain.
    let line : c.write_request.new.out.items ≡ c.clear.new.self.items ++ request_line (command_with_names c.args.request.now) =
    ok_is c.write_request.result (c.write_request.new.out.items ≡ c.clear.new.self.items ++ request_line (command_with_names c.args.request.now))
    (sym c.is_err.ensures.value ∙ c.if-is_err.false) c.write_request.ensures in
    let front : AppendsSomeOf (g.K.Sink.contents c.args.lines.now) (g.K.Sink.contents c.write_whole.new.lines) c.as_slice.result.now =
    err_is c.write_whole.result (AppendsSomeOf (g.K.Sink.contents c.args.lines.now) (g.K.Sink.contents c.write_whole.new.lines) c.as_slice.result.now)
    (sym c.is_err-2.ensures.value ∙ c.if-is_err-2.true) c.write_whole.ensures.err in
    one_cut l team c.args.floor.now c.step-reply.new.self (g.K.Sink.contents c.args.lines.now) (g.K.Sink.contents c.write_whole.new.lines)
    c.as_slice.result.now (command_with_names c.args.request.now) c.step-reply.result to plain (c.step-reply.ensures.step l)
    (sym c.is_accepted.ensures ∙ c.if-not-is_accepted.false)
    (c.as_slice.ensures.value ∙ line ∙ ap (λ xs. xs ++ request_line (command_with_names c.args.request.now)) c.clear.ensures.items) front

pub returns-then-is_err-2-clause-only : goal.returns-then-is_err-2-clause-only
returns-then-is_err-2-clause-only g c = λ team to.
    let l = c.legalizer_exists.ensures in
    step_only team (command_with_names c.args.request.now) c.args.floor.now c.step-reply.new.self to c.step-reply.ensures.others
    (step_numbers l team (command_with_names c.args.request.now) c.args.floor.now c.step-reply.new.self c.step-reply.result to (c.step-reply.ensures.step l)) c.step-reply.ensures.frame
    c.step-reply.ensures.components (step_names l team (command_with_names c.args.request.now) c.args.floor.now c.step-reply.new.self c.step-reply.result to (c.step-reply.ensures.step l))
    (step_macros l team (command_with_names c.args.request.now) c.args.floor.now c.step-reply.new.self c.step-reply.result to (c.step-reply.ensures.step l))
    c.step-reply.ensures.legal

pub returns-clause-run : goal.returns-clause-run
returns-clause-run g c = λ l team to plain.
    let line : c.write_request.new.out.items ≡ c.clear.new.self.items ++ request_line (command_with_names c.args.request.now) =
    ok_is c.write_request.result (c.write_request.new.out.items ≡ c.clear.new.self.items ++ request_line (command_with_names c.args.request.now))
    (sym c.is_err.ensures.value ∙ c.if-is_err.false) c.write_request.ensures in
    let whole : Appends (g.K.Sink.contents c.args.lines.now) (g.K.Sink.contents c.write_whole.new.lines) c.as_slice.result.now =
    ok_is c.write_whole.result (Appends (g.K.Sink.contents c.args.lines.now) (g.K.Sink.contents c.write_whole.new.lines) c.as_slice.result.now)
    (sym c.is_err-2.ensures.value ∙ c.if-is_err-2.false) c.write_whole.ensures.ok in
    one_written l team c.args.floor.now c.step-reply.new.self (g.K.Sink.contents c.args.lines.now) (g.K.Sink.contents c.write_whole.new.lines)
    c.as_slice.result.now (command_with_names c.args.request.now) c.step-reply.result to plain (c.step-reply.ensures.step l)
    (sym c.is_accepted.ensures ∙ c.if-not-is_accepted.false)
    (c.as_slice.ensures.value ∙ line ∙ ap (λ xs. xs ++ request_line (command_with_names c.args.request.now)) c.clear.ensures.items) whole

pub returns-clause-only : goal.returns-clause-only
returns-clause-only g c = λ team to.
    let l = c.legalizer_exists.ensures in
    step_only team (command_with_names c.args.request.now) c.args.floor.now c.step-reply.new.self to c.step-reply.ensures.others
    (step_numbers l team (command_with_names c.args.request.now) c.args.floor.now c.step-reply.new.self c.step-reply.result to (c.step-reply.ensures.step l)) c.step-reply.ensures.frame
    c.step-reply.ensures.components (step_names l team (command_with_names c.args.request.now) c.args.floor.now c.step-reply.new.self c.step-reply.result to (c.step-reply.ensures.step l))
    (step_macros l team (command_with_names c.args.request.now) c.args.floor.now c.step-reply.new.self c.step-reply.result to (c.step-reply.ensures.step l))
    c.step-reply.ensures.legal
