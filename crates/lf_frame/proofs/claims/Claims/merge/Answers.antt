use Rattle.std.proofs.Common.{◌≡◌, ℕ, List, set, sym, ap, ◌∙◌}
use Rattle.std.proofs.lemmas.List.{set-get_or}
use Rattle.std.proofs.lemmas.Option.{unwrap_or-slice_get}
use Rattle.lf_frame.specs.declared.claim.Claim.{Claim}
use Rattle.lf_frame.specs.declared.claim.Claim.TheVariants.{Unclaimed}
use Rattle.lf_frame.specs.ClaimTables.{claim_at}
use Rattle.lf_frame.proofs.claims.Claims.merge.Goals as goal

-- Replacing a claim by itself changes nothing.
same_put : (claims : List Claim) (number : ℕ) → set claims number (claim_at claims number) ≡ claims
same_put claims number = ap (set claims number) (unwrap_or-slice_get claims number Unclaimed) ∙ set-get_or claims number Unclaimed

pub returns-in-Unclaimed-clause-ok : goal.returns-in-Unclaimed-clause-ok
returns-in-Unclaimed-clause-ok c = rw c.in-Unclaimed.is (sym (same_put c.args.self.now c.args.number))
