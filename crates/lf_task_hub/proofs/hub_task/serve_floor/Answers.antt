use Rattle.std.proofs.Common.{subst, sym, ℕ}
use Rattle.std.proofs.lemmas.Result.{IfOk-weaker}
use Rattle.lf_floor_model.specs.States.{FloorState}
use Rattle.lf_task_hub.specs.Hubs.{FollowLines}
use Rattle.lf_task_hub.proofs.hub_task.serve_floor.Goals as goal

pub returns-in-Ok-clause-ok : goal.returns-in-Ok-clause-ok
returns-in-Ok-clause-ok g c =
    let closes = c.in_default.ensures.closes in
    IfOk-weaker c.serve_wire.result _ _
    (λ status serves. (
      record {
        closings = closes.turns;
        floor = c.close_sessions.new.floor;
        closes = subst (λ (floor : FloorState). FollowLines floor closes.turns c.close_sessions.new.floor) c.new-floor.ensures closes.follow;
        serves = serves.0;
      },
      serves.1,
    )) c.serve_wire.ensures.ok
