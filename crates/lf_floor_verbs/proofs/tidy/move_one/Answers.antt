use Rattle.std.proofs.Common.{drop, length}
use Rattle.lf_floor_verbs.proofs.Fitting.{only_grown, only_made, only_through}
use Rattle.lf_floor_verbs.proofs.tidy.move_one.Goals as goal

pub returns-clause-only : goal.returns-clause-only
returns-clause-only c =
    only_through c.args.id.team c.args.placement.now c.reserve.new.self c.apply.new.self
    (only_grown c.args.id.team c.args.placement.now c.reserve.new.self c.reserve.ensures.same)
    (only_made c.args.id.team (drop (length c.as_slice-from.result.now) c.push.new.self) c.reserve.new.self c.apply.new.self c.apply.ensures.own
    c.apply.ensures.others c.apply.ensures.rest)
