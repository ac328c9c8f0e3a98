use Rattle.std.proofs.Common.{sym}
use Rattle.lf_floor_model.proofs.Names.{fence_is, outside_is, unknown_is}
use Rattle.lf_floor.proofs.floor.team_with_name.Goals as goal

pub returns-in-Some-clause-found : goal.returns-in-Some-clause-found
returns-in-Some-clause-found c = fence_is c.args.frame.now c.args.name.now c.in-Some.number c.in-Some.ensures.found

pub returns-then-not-is_outside-clause-found : goal.returns-then-not-is_outside-clause-found
returns-then-not-is_outside-clause-found c = unknown_is c.args.frame.now c.args.name.now c.in-None.ensures.found (sym c.if-not-is_outside.ensures)

pub returns-else-not-is_outside-clause-found : goal.returns-else-not-is_outside-clause-found
returns-else-not-is_outside-clause-found c =
    rw c.len.ensures (outside_is c.args.frame.now c.args.name.now c.in-None.ensures.found (sym c.if-not-is_outside.ensures))
