use Rattle.std.proofs.Common.{arith}
use Rattle.lf_frame.specs.ClaimRefusals.{IsClaimedTwice}
use Rattle.lf_frame.proofs.Claimed.{claim_there}
use Rattle.lf_frame.proofs.Firsts.{first_found, none_more}
use Rattle.lf_frame.proofs.component_claims.first_claimed_twice.Goals as goal

pub returns-then-is_claimed_twice : goal.returns-then-is_claimed_twice
returns-then-is_claimed_twice c = λ regions groups differ table.
    let claim = claim_there regions groups c.args.components.now c.args.table.now.claims c.loop-number.number c.index-components-number.result
    c.loop-number-test.true c.index-components-number.is (table.claims differ) in
    first_found (IsClaimedTwice regions groups) c.args.components.now c.loop-number.number c.index-components-number.result c.loop-number-test.true c.index-components-number.is
    ((c.is_claimed_twice.ensures regions groups claim).0 c.if-is_claimed_twice.true) (c.loop-number.invariant regions groups differ table)

pub loop-number-preserved : goal.loop-number-preserved
loop-number-preserved c = λ regions groups differ table.
    let claim = claim_there regions groups c.args.components.now c.args.table.now.claims c.loop-number.number c.index-components-number.result
    c.loop-number-test.true c.index-components-number.is (table.claims differ) in
    none_more (IsClaimedTwice regions groups) c.args.components.now c.loop-number.number c.index-components-number.result c.loop-number-test.true c.index-components-number.is
    (λ h. let t = (c.is_claimed_twice.ensures regions groups claim).1 h in let f = c.if-is_claimed_twice.false in cc) (c.loop-number.invariant regions groups differ table)

pub returns : goal.returns
returns c = λ regions groups differ table k d within. c.loop-number.invariant regions groups differ table k d (omega arith)
