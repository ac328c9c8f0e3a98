use Rattle.std.proofs.Common.{arith}
use Rattle.std.proofs.lemmas.Int.{ints}
use Rattle.lf_segments.proofs.StripLemmas.{same_strip}
use Rattle.lf_segments.proofs.strips.strip_at.Goals as goal

pub returns : goal.returns
returns c =
    let is = c.level-y.ensures.is in
    let low = c.level-y.ensures.low in
    let high = c.level-y.ensures.high in
    let up = c.args.frame.now.pitch_whole.high in
    let small = c.args.frame.now.pitch_whole.y_small in
    same_strip c.args.segment.now.row c.args.segment.now.team _ _ _ _ _ _ _ _ (omega (arith, ints)) (omega (arith, ints, is, low, high)) (omega (arith, ints))
    (omega (arith, ints, is, low, high, up, small))
