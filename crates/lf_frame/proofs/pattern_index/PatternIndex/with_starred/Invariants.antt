use Rattle.std.proofs.Common.{◌≡◌, ◌⊎◌, List, length}
use Rattle.lf_names.specs.Labels.{Labelled}
use Rattle.lf_frame.specs.declared.star_patterns.FencePattern.{FencePattern}
use Rattle.lf_frame.specs.Claims.{ClaimsBy, Labels, HasStarred, AreClaimsByName}
use Rattle.lf_frame.proofs.Claimed.{ClaimedBelow, SameFrom}
use Rattle.lf_frame.proofs.pattern_index.PatternIndex.with_starred.Given as goal

abbrev pub invariant-loop-number : goal.invariant-loop-number
invariant-loop-number l = record {
  long : length l.all ≡ length l.fn.claims;
  same : SameFrom l.number l.fn.claims l.all;
  reported : (literals : List Labelled) (starred : List FencePattern) → HasStarred l.self.starred starred → length l.fn.claims ≡ length l.components → AreClaimsByName (Labels literals) l.components l.fn.claims →
      ClaimedBelow (λ name fence. Labels literals name fence ⊎ ClaimsBy starred name fence) l.components l.all l.number;
}
