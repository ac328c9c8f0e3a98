use Rattle.std.proofs.Common.{◌≡◌, ◌≤◌, ℕ, List, length, ap, subst, ◌∙◌}
use Rattle.std.proofs.lemmas.Result.{err_from_is_err_and}
use Rattle.lf_hub_clients.specs.Turns.{IsAnswered}
use Rattle.lf_hub_clients.specs.Connections.{Connection}
use Rattle.lf_hub.specs.Machine.{connection_at}
use Rattle.lf_hub_serve.proofs.Services.{sent, breaks_whole}
use Rattle.lf_hub_serve.proofs.departures.send_client.Goals as goal

pub returns-in_ok-sends-in-Bytes-clause-ok : goal.returns-in_ok-sends-in-Bytes-clause-ok
returns-in_ok-sends-in-Bytes-clause-ok g c =
    let hub = c.args.server.now.core.hub in
    let ready : c.ready-2.result.now ≡ (connection_at c.args.slot hub.slots).ready = c.ready-2.ensures ∙ ap (λ (x : Connection). x.ready) c.in-Some.ensures.some in
    sent (IsAnswered g.F.Floor.answers g.F.Floor.shows) hub c.sends.new.self.hub c.args.server.now.floor
    (g.W.Wire.calls c.args.server.now.wire) (g.W.Wire.calls c.write.new.self) c.args.slot c.number.result c.in-Bytes.count c.ready-2.result.now
    (c.in-Some.ensures.below, subst (λ (b : List ℕ). c.in-Bytes.count ≤ length b) ready c.in-Bytes.ensures.calls.0) c.sends.ensures.after
    (c.number.ensures ∙ ap (λ (x : Connection). x.number) c.in-Some.ensures.some) ready c.in-Bytes.ensures.calls.1

pub returns-in_err-sends-in-Bytes-clause-err : goal.returns-in_err-sends-in-Bytes-clause-err
returns-in_err-sends-in-Bytes-clause-err g c =
    let p = err_from_is_err_and c.from_residual.result c.from_residual.ensures.1 in
    let hub = c.args.server.now.core.hub in
    let ready : c.ready-2.result.now ≡ (connection_at c.args.slot hub.slots).ready = c.ready-2.ensures ∙ ap (λ (x : Connection). x.ready) c.in-Some.ensures.some in
    rw p.1 (breaks_whole (IsAnswered g.F.Floor.answers g.F.Floor.shows) _ _ (sent (IsAnswered g.F.Floor.answers g.F.Floor.shows) hub c.sends.new.self.hub c.args.server.now.floor
    (g.W.Wire.calls c.args.server.now.wire) (g.W.Wire.calls c.write.new.self) c.args.slot c.number.result c.in-Bytes.count c.ready-2.result.now
    (c.in-Some.ensures.below, subst (λ (b : List ℕ). c.in-Bytes.count ≤ length b) ready c.in-Bytes.ensures.calls.0) c.sends.ensures.after
    (c.number.ensures ∙ ap (λ (x : Connection). x.number) c.in-Some.ensures.some) ready c.in-Bytes.ensures.calls.1))
