use Rattle.std.proofs.Common.{refl, arith}
use Rattle.lf_segments.proofs.CoverLemmas.{covers_start, covers_skip, covers_more, covers_end, below_of}
use Rattle.lf_segments.proofs.cover.covered_over.Goals as goal

pub loop-placed-init : goal.loop-placed-init
loop-placed-init c =
    covers_start c.args.boxes.now c.args.area.now.y1 c.args.area.now.y2 c.args.free.now c.in_ok-covered.covered.items c.requires.high c.in_ok-covered.ensures

pub loop-placed-preserved-then-not-ends_elsewhere : goal.loop-placed-preserved-then-not-ends_elsewhere
loop-placed-preserved-then-not-ends_elsewhere c =
    covers_skip c.args.boxes.now c.args.area.now.y1 c.args.area.now.y2 c.loop-placed.last c.args.free.now c.loop-placed.covered.items
    c.loop-placed.placed-index _ (omega arith) c.loop-placed.invariant (c.if-not-ends_elsewhere.ensures.not refl)

pub loop-placed-preserved : goal.loop-placed-preserved
loop-placed-preserved c =
    covers_more c.args.boxes.now c.args.area.now.y1 c.args.area.now.y2 c.loop-placed.last c.args.free.now c.loop-placed.covered.items c.as_slice.result.now
    c.in_ok-covered-2.covered.items
    c.loop-placed.placed-index _ (omega arith) c.loop-placed.invariant (below_of _ _ (c.requires.near c.loop-placed.placed-index _ (omega arith)))
    (c.if-not-ends_elsewhere.ensures.ends refl) c.as_slice.ensures.value c.in_ok-covered-2.ensures

pub returns : goal.returns
returns c =
    covers_end c.args.boxes.now c.args.area.now.y1 c.args.area.now.y2 c.loop-placed.last c.args.free.now c.loop-placed.covered.items c.loop-placed.placed-index
    (omega arith) c.loop-placed.invariant
