-- The claims on each name of a list, as stored.
use Rattle.std.specs.Prelude.{List}
use Rattle.lf_frame.specs.declared.claim.Claim.{Claim}
use Rattle.lf_frame.specs.declared.claims.ClaimList.{ClaimList}
use Rattle.lf_frame.specs.declared.claims.ClaimList.TheVariants.{Short, Wide}

-- The claims, whatever their form.
abbrev pub claims_kept : ClaimList → List Claim
claims_kept (Short claims) = claims.items
claims_kept (Wide claims) = claims.items
