use Rattle.std.proofs.Common.{arith}
use Rattle.std.proofs.lemmas.Int.{ints}
use Rattle.lf_occupancy.proofs.strip_marks.mark_of.Goals as goal

pub overflow_sub-result : goal.overflow_sub-result
overflow_sub-result c =
    let left = c.args.part.now.left.low in
    let right = c.args.part.now.right in
    let wide = c.args.part.now.whole.wide in
    omega (arith, ints, left, right, wide)
