use Rattle.std.proofs.Common.{take}
use Rattle.std.specs.Prelude.{Any}
use Rattle.lf_frame.specs.Claims.{CountsFences, ClaimsUnder}
use Rattle.lf_frame.proofs.star_patterns.PatternsAtEnd.claim_on.Given as goal

abbrev pub invariant-loop-count : goal.invariant-loop-count
invariant-loop-count l = CountsFences (λ fence. Any (λ n. ClaimsUnder l.self l.name n fence) (take l.count-index l.self.lengths.items)) l.claim
