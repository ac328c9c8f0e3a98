use Rattle.std.proofs.Common.{◌≡◌, take}
use Rattle.lf_frame.proofs.claims.widened.Given as goal

abbrev pub invariant-loop-claim : goal.invariant-loop-claim
invariant-loop-claim l = l.wide.items ≡ take l.claim-index l.claims
