use Rattle.lf_cells.specs.Cells.{cells_of}
use Rattle.lf_repair_bounds.specs.Gaps.{place_at, placed_team}
use Rattle.lf_repair_bounds.proofs.GapLemmas.{gaps_more}
use Rattle.lf_repair_bounds.proofs.gaps.widest_gaps.Goals as goal

pub loop-own-preserved : goal.loop-own-preserved
loop-own-preserved c =
    let p = c.args.placement.now in
    gaps_more (placed_team p.frame c.args.team c.args.padding.sites (cells_of p.cells c.args.team)) (place_at c.args.places.now) c.args.owns.now c.loop-own.own-index _ c.loop-own.gaps.items _ _
    c.gap_of-gap.ensures c.loop-own-test.true c.in_ok-push.ensures.items c.loop-own.invariant
