use Rattle.std.proofs.Common.{inr, refl}
use Rattle.lf_legalize.proofs.limits.better.Goals as goal

pub returns-else-has_lesser_key : goal.returns-else-has_lesser_key
returns-else-has_lesser_key c = rw c.in-Some.is (inr (refl, λ s. let t = c.has_lesser_key.ensures.1 s in cc))
