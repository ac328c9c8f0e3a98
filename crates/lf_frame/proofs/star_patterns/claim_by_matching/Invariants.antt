use Rattle.std.proofs.Common.{take}
use Rattle.lf_frame.specs.Claims.{CountsFences, ClaimsBy}
use Rattle.lf_frame.proofs.star_patterns.claim_by_matching.Given as goal

abbrev pub invariant-loop-bound : goal.invariant-loop-bound
invariant-loop-bound l = CountsFences (ClaimsBy (take l.bound-index l.bounds) l.name) l.claim
