use Rattle.lf_frame.proofs.Claimed.{reported_by_index}
use Rattle.lf_frame.proofs.pattern_index.PatternIndex.claims_of.Goals as goal

pub returns-in_default : goal.returns-in_default
returns-in_default c = λ bounds h. rw c.in_default.is at c.in_ok-claims.ensures.reported

pub returns : goal.returns
returns c = λ bounds h.
    let long = rw c.in-Some.is at c.in_ok-claims.ensures.long in
    let literal = rw c.in-Some.is at c.in_ok-claims.ensures.reported in (
      literal.0,
      reported_by_index c.args.self.now bounds c.args.components.now c.in_ok-completed.field-0 h
          (c.in_ok-completed.ensures c.args.self.now.literals h.starred h.tried long literal.1),
    )
