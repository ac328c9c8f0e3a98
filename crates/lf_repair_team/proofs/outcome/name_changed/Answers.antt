use Rattle.std.proofs.Common.{inl, refl}
use Rattle.lf_repair_team.proofs.outcome.name_changed.Goals as goal

pub returns-then-same_place : goal.returns-then-same_place
returns-then-same_place c = inl (refl, c.same_place.ensures.0 c.if-same_place.true)
