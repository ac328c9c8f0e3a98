use Rattle.lf_frame.proofs.KeyLemmas.{reports_under}
use Rattle.lf_frame.proofs.star_patterns.PatternsAtEnd.claim_under.Goals as goal

pub returns-in-Some : goal.returns-in-Some
returns-in-Some c =
    let part = rw c.in-Some.is at c.part_at.ensures in
    reports_under c.args.self.now c.args.name.now c.in-Some.part.now c.args.count c.claim_by_matching.result part.0 part.1
    (rw c.patterns_for.ensures at c.claim_by_matching.ensures)
