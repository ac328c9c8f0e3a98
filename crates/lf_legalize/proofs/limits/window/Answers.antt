use Rattle.std.proofs.Common.{arith}
use Rattle.std.proofs.lemmas.Int.{ints}
use Rattle.lf_legalize.proofs.Reaches.{small_search}
use Rattle.lf_legalize.proofs.limits.window.Goals as goal

pub overflow_add-span-2 : goal.overflow_add-span-2
overflow_add-span-2 c =
    let small = small_search c.args.search.now in
    omega (arith, ints, small.wide, small.x_small, c.args.search.now.near.across.low, c.args.search.now.near.across.high, c.requires)

pub returns-clause-lo : goal.returns-clause-lo
returns-clause-lo c =
    omega (arith, ints, c.args.search.now.near.across.low, c.args.search.now.near.across.high, c.requires)

pub returns-clause-hi : goal.returns-clause-hi
returns-clause-hi c =
    let small = small_search c.args.search.now in
    omega (arith, ints, small.wide, small.x_small, c.args.search.now.near.across.low, c.args.search.now.near.across.high, c.requires)
