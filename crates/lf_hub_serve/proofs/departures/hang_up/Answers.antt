use Rattle.std.proofs.Common.{◌≡◌, true, arith, refl, ap, ◌∙◌}
use Rattle.std.proofs.lemmas.Grind.{common_steps}
use Rattle.std.proofs.lemmas.Result.{err_from_is_err_and}
use Rattle.lf_hub_clients.specs.Turns.{IsAnswered}
use Rattle.lf_hub_clients.specs.Connections.{Connection}
use Rattle.lf_hub.specs.Machine.{connection_at, is_live}
use Rattle.lf_hub_serve.proofs.Services.{left, same_service, breaks_whole}
use Rattle.lf_hub_serve.proofs.departures.hang_up.Goals as goal

pub returns-clause-ok : goal.returns-clause-ok
returns-clause-ok g c =
    let hub = c.args.server.now.core.hub in
    let live : is_live (connection_at c.args.slot hub.slots).stage ≡ true =
    grind (arith, common_steps, c.is_live.ensures.live c.in-Some.ensures.below, c.if-not-is_live.false) in
    left (IsAnswered g.F.Floor.answers g.F.Floor.shows) hub c.leaves.new.self.hub c.args.server.now.floor
    (g.W.Wire.calls c.args.server.now.wire) (g.W.Wire.calls c.close.new.self) c.args.slot c.number-number.result
    (c.in-Some.ensures.below, live) c.in_ok-leaves.ensures.after (c.number-number.ensures ∙ ap (λ (x : Connection). x.number) c.in-Some.ensures.some) c.close.ensures.calls

pub returns-in_err-leaves-clause-err : goal.returns-in_err-leaves-clause-err
returns-in_err-leaves-clause-err g c =
    let p = err_from_is_err_and c.from_residual.result c.from_residual.ensures.1 in
    let takes = IsAnswered g.F.Floor.answers g.F.Floor.shows in
    let calls = g.W.Wire.calls c.args.server.now.wire in
    rw p.1 (breaks_whole takes _ _ (same_service takes c.args.server.now.core.hub c.leaves.new.self.hub c.args.server.now.floor c.args.server.now.floor calls calls
    c.in_err-leaves.ensures.err refl refl))
