use Rattle.std.proofs.Common.{◌≤ℤ◌, ◌<ℤ◌, ◌-ℤ◌, inl, inr, arith, rules}
use Rattle.std.proofs.lemmas.Int.{ints}
use Rattle.lf_gaps.proofs.Nearest.{narrow_gap}
use Rattle.lf_gaps.proofs.gap.nearer_in_gap.Goals as goal

pub returns-then-gap : goal.returns-then-gap
returns-then-gap c =
    let narrow : (c.args.gap.now.hi ≤ℤ c.args.gap.now.lo) = search rules in
    narrow_gap c.args.gap.now c.args.wanted.now c.args.best (inl narrow)

pub returns-then-gap-wanted : goal.returns-then-gap-wanted
returns-then-gap-wanted c =
    let narrow : ((c.args.gap.now.hi -ℤ c.args.gap.now.lo) <ℤ c.args.wanted.now.width) = search rules in
    narrow_gap c.args.gap.now c.args.wanted.now c.args.best (inr narrow)

pub nearer_in_wide_gap-requires : goal.nearer_in_wide_gap-requires
nearer_in_wide_gap-requires c = c.requires (omega (arith, ints, c.if-gap.false))
