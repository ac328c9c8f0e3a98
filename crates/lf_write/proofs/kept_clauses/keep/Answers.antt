use Rattle.lf_write.proofs.Keeping.{near_more}
use Rattle.lf_write.proofs.kept_clauses.keep.Goals as goal

pub returns-in_ok-push-in-Some-clause-more : goal.returns-in_ok-push-in-Some-clause-more
returns-in_ok-push-in-Some-clause-more c =
    let next = rw (c.in-Some.is, c.as_slice.ensures.value) at c.in_ok-entry.ensures in
    rw c.in_ok-push-in-Some.ensures.items (near_more _ _ _ _ _ _ next c.requires)
