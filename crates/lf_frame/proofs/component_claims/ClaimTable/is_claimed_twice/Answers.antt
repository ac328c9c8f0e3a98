use Rattle.std.proofs.Common.{◌∙◌, sym, ap}
use Rattle.lf_frame.specs.declared.claim.Claim.TheVariants.{Unclaimed, ByOne, ByTwo}
use Rattle.lf_frame.specs.ClaimTables.{ClaimFacts}
use Rattle.lf_frame.proofs.Claimants.{unclaimed_once, claimed_once}
use Rattle.lf_frame.proofs.Claimed.{claim_read, claim_is}
use Rattle.lf_frame.proofs.component_claims.ClaimTable.is_claimed_twice.Goals as goal

pub returns-in-ByTwo : goal.returns-in-ByTwo
returns-in-ByTwo c = λ regions groups claim.
    let same = ap (λ (t : ClaimFacts). t.claims) c.self.view_is in
    let is = claim_read c.args.self.now.claims _ c.args.number ByTwo same (c.in-ByTwo.ensures {u = tt}) in (
      λ t. (sym c.is_movable.ensures ∙ t, claim_is regions groups c.args.component.now.name _ ByTwo is claim),
      λ h. c.is_movable.ensures ∙ h.0,
    )

pub returns-in-ByOne : goal.returns-in-ByOne
returns-in-ByOne c = λ regions groups claim.
    let same = ap (λ (t : ClaimFacts). t.claims) c.self.view_is in
    let is = claim_read c.args.self.now.claims _ c.args.number (ByOne c.in-ByOne.field-0) same (c.in-ByOne.ensures {u = tt}) in (
      λ t. cc,
      λ h. absurd (claimed_once regions groups c.args.component.now.name c.in-ByOne.field-0 (claim_is regions groups c.args.component.now.name _ (ByOne c.in-ByOne.field-0) is claim) h.1),
    )

pub returns-in-Unclaimed : goal.returns-in-Unclaimed
returns-in-Unclaimed c = λ regions groups claim.
    let same = ap (λ (t : ClaimFacts). t.claims) c.self.view_is in
    let is = claim_read c.args.self.now.claims _ c.args.number Unclaimed same (c.in-Unclaimed.ensures {u = tt}) in (
      λ t. cc,
      λ h. absurd (unclaimed_once regions groups c.args.component.now.name (claim_is regions groups c.args.component.now.name _ Unclaimed is claim) h.1),
    )
