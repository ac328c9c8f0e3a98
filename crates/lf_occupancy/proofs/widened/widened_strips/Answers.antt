use Rattle.std.proofs.Common.{arith}
use Rattle.std.proofs.lemmas.Int.{ints, clamps}
use Rattle.lf_occupancy.proofs.Around.{near_is_widened}
use Rattle.lf_occupancy.proofs.widened.widened_strips.Goals as goal

pub returns : goal.returns
returns c =
    let r = c.reach_of-reach.ensures.is in
    let a = c.max.ensures.value in
    let b = c.min.ensures.value in
    let s = c.reach_of-reach.ensures.short in
    let p = s.least in
    let q = s.most in
    near_is_widened c.args.strips.now.site.now c.args.strips.now.index.now c.args.row c.args.team c.args.rect.now.x1 c.args.rect.now.x2 _ _ _ _ c.args.strips.now.site_width
    c.strips_are_placed.ensures (omega (arith, ints, clamps, a, r, p, q)) (omega (arith, ints, clamps, b, r, p, q)) c.strips_overlapping.ensures
