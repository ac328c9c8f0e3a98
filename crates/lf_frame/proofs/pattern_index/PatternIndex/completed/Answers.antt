use Rattle.lf_frame.specs.Claims.{Labels}
use Rattle.lf_frame.proofs.Claimed.{reported_without_starred}
use Rattle.lf_frame.proofs.pattern_index.PatternIndex.completed.Goals as goal

pub returns-then-is_empty : goal.returns-then-is_empty
returns-then-is_empty c = λ literals starred has long reported.
    reported_without_starred (Labels literals) starred c.args.components.now c.args.claims ((c.is_empty.ensures starred has).0 c.if-is_empty.true) reported
