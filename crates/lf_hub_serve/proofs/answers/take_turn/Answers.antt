use Rattle.std.proofs.Common.{refl}
use Rattle.std.proofs.lemmas.Result.{err_from_is_err_and}
use Rattle.lf_hub_clients.specs.Turns.{IsAnswered}
use Rattle.lf_hub_serve.proofs.Services.{advanced, same_service, breaks_whole}
use Rattle.lf_hub_serve.proofs.answers.take_turn.Goals as goal

pub returns-clause-ok : goal.returns-clause-ok
returns-clause-ok g c =
    advanced (IsAnswered g.F.Floor.answers g.F.Floor.shows) c.args.server.now.core c.args.server.now.floor c.in_ok-progress.progress
    c.answer.new.self c.answer.new.floor (g.W.Wire.calls c.args.server.now.wire) c.in_ok-progress.ensures.advances

pub returns-in_err-progress-clause-err : goal.returns-in_err-progress-clause-err
returns-in_err-progress-clause-err g c =
    let p = err_from_is_err_and c.from_residual.result c.from_residual.ensures.1 in
    let takes = IsAnswered g.F.Floor.answers g.F.Floor.shows in
    let calls = g.W.Wire.calls c.args.server.now.wire in
    rw p.1 (breaks_whole takes _ _ (same_service takes c.args.server.now.core.hub c.answer.new.self.hub c.args.server.now.floor c.answer.new.floor calls calls
    c.in_err-progress.ensures.err c.in_err-progress.ensures.kept refl))
