use Rattle.std.proofs.Common.{subst, sym}
use Rattle.lf_floorplan.specs.Ground.{OverlapsSoft}
use Rattle.lf_legalize.proofs.plain_search.is_allowed.Goals as goal

pub returns-then-overlaps_soft : goal.returns-then-overlaps_soft
returns-then-overlaps_soft c = (
  λ t. absurd cc,
  λ may. absurd (may.off_soft (subst (OverlapsSoft c.args.search.now.frame.now) c.box_of-rect.ensures (c.overlaps_soft.ensures.0 c.if-overlaps_soft.true))),
)

pub returns : goal.returns
returns c = (
  λ legal. record {
    legal = c.is_legal.ensures.0 legal;
    off_soft = λ does_overlap. let overlapping_one = c.overlaps_soft.ensures.1 (subst (OverlapsSoft c.args.search.now.frame.now) (sym c.box_of-rect.ensures) does_overlap) in cc;
  },
  λ may. c.is_legal.ensures.1 may.legal,
)
