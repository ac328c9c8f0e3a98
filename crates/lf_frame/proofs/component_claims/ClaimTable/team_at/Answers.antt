use Rattle.std.proofs.Common.{inl, inr, ap, ◌∙◌}
use Rattle.lf_frame.specs.declared.claim.Claim.TheVariants.{Unclaimed, ByOne, ByTwo}
use Rattle.lf_frame.specs.ClaimTables.{ClaimFacts}
use Rattle.lf_frame.proofs.Claimed.{claim_read, claim_is, claim_known}
use Rattle.lf_frame.proofs.component_claims.ClaimTable.team_at.Goals as goal

pub returns-in-ByOne : goal.returns-in-ByOne
returns-in-ByOne c = λ regions groups components table differ e at once.
    let same = ap (λ (t : ClaimFacts). t.claims) c.self.view_is in
    let is = claim_read c.args.self.now.claims _ c.args.number (ByOne c.in-ByOne.team) same (c.in-ByOne.ensures {u = tt}) in
    inl (claim_is regions groups e.name _ (ByOne c.in-ByOne.team) is
    (claim_known regions groups components c.args.self.now.claims c.args.number e at (table.claims differ)))

pub returns-in-Unclaimed : goal.returns-in-Unclaimed
returns-in-Unclaimed c = λ regions groups components table differ e at once.
    let same = ap (λ (t : ClaimFacts). t.claims) c.self.view_is in
    let is = claim_read c.args.self.now.claims _ c.args.number Unclaimed same (c.in-Unclaimed.ensures {u = tt}) in
    inr (
      claim_is regions groups e.name _ Unclaimed is (claim_known regions groups components c.args.self.now.claims c.args.number e at (table.claims differ)),
      ap (λ (t : ClaimFacts). t.ground) c.self.view_is ∙ table.ground,
    )

pub returns-in-ByTwo : goal.returns-in-ByTwo
returns-in-ByTwo c = λ regions groups components table differ e at once.
    let same = ap (λ (t : ClaimFacts). t.claims) c.self.view_is in
    let is = claim_read c.args.self.now.claims _ c.args.number ByTwo same (c.in-ByTwo.ensures {u = tt}) in
    absurd (once (claim_is regions groups e.name _ ByTwo is (claim_known regions groups components c.args.self.now.claims c.args.number e at
    (table.claims differ))))
