use Rattle.lf_frame.proofs.TwoEnds.{reports_at_front, reports_together}
use Rattle.lf_frame.proofs.star_patterns.StarredPatterns.claim_on.Goals as goal

pub returns-then-is_empty : goal.returns-then-is_empty
returns-then-is_empty c =
    reports_at_front c.args.self.now c.args.name.now c.claim_on-front.result c.claim_on-front.ensures (λ backs has. (c.is_empty.ensures backs has).0 c.if-is_empty.true)

pub returns : goal.returns
returns c = rw c.merged.ensures (reports_together c.args.self.now c.args.name.now c.claim_on-front.result c.claim_on.result c.claim_on-front.ensures c.claim_on.ensures)
