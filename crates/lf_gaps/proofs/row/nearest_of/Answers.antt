use Rattle.std.proofs.Common.{refl, arith}
use Rattle.lf_gaps.proofs.Nearest.{place_before, found_before, found_in_back, found_after, found_at_last, rising_after_it, near_after}
use Rattle.lf_gaps.proofs.row.nearest_of.Goals as goal

pub nearest_rightwards-best-requires : goal.nearest_rightwards-best-requires
nearest_rightwards-best-requires c = record {
  grid = c.requires.grid;
  rising = rising_after_it c.args.spans.now c.partition_point-middle.result c.requires.rising;
  bounded = near_after c.args.spans.now c.partition_point-middle.result c.requires.bounded;
  wanted = c.requires.wanted;
}

pub loop-i-init : goal.loop-i-init
loop-i-init c = record {
  within = c.partition_point-middle.ensures.bound;
  nearest =
      found_after c.args.spans.now c.args.grid.now c.args.wanted.now.width c.args.wanted.now.target c.partition_point-middle.result
      c.nearest_rightwards-best.result
      c.nearest_rightwards-best.ensures;
}

pub returns-then-is_before : goal.returns-then-is_before
returns-then-is_before c =
    found_in_back c.args.spans.now c.args.grid.now c.args.wanted.now _ _ c.loop-i.best c.requires.rising (omega (arith, c.loop-i.invariant.within))
    (place_before c.args.spans.now c.args.grid.now c.args.wanted.now.width c.args.wanted.now.target c.loop-i.i c.loop-i.best (omega arith)
    c.loop-i.invariant.nearest)
    (c.if-is_before.ensures refl)

pub loop-i-preserved : goal.loop-i-preserved
loop-i-preserved c = record {
  within = omega (arith, c.loop-i.invariant.within);
  nearest =
      found_before c.args.spans.now c.args.grid.now c.args.wanted.now.width c.args.wanted.now.target _ _ c.loop-i.best c.nearest_in_span.result
      c.nearer_of-best.result
      (omega (arith, c.loop-i.invariant.within))
      (place_before c.args.spans.now c.args.grid.now c.args.wanted.now.width c.args.wanted.now.target c.loop-i.i c.loop-i.best (omega arith)
      c.loop-i.invariant.nearest)
      c.nearest_in_span.ensures c.nearer_of-best.ensures;
}

pub returns : goal.returns
returns c =
    found_at_last c.args.spans.now c.args.grid.now c.args.wanted.now.width c.args.wanted.now.target c.loop-i.i c.loop-i.best (omega arith)
    c.loop-i.invariant.nearest
