use Rattle.std.proofs.Common.{◌≡◌, length, take}
use Rattle.lf_frame.proofs.Claimed.{MatchesFound}
use Rattle.lf_frame.proofs.claims.claims_by_match.Given as goal

abbrev pub invariant-loop-found : goal.invariant-loop-found
invariant-loop-found l = record {
  long : length l.claims ≡ l.count;
  reported : MatchesFound (take l.found-index l.matches) l.count l.claims;
}
