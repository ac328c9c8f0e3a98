use Rattle.std.proofs.Common.{refl, arith}
use Rattle.std.specs.Prelude.{Any}
use Rattle.lf_units.specs.Area.{SharesPoint}
use Rattle.lf_frame.proofs.RectLemmas.{none_next}
use Rattle.lf_frame.proofs.fence_checks.do_rects_meet.Goals as goal
use Rattle.lf_units.proofs.Any.{any_here}

pub returns-then-overlaps_rect : goal.returns-then-overlaps_rect
returns-then-overlaps_rect c = (
  λ t. any_here (λ a. Any (λ b. SharesPoint a b) c.args.second.now) c.args.first.now c.loop-rect.rect-index _ c.loop-rect-test.true (c.if-overlaps_rect.ensures.0 refl),
  λ h. refl,
)

pub loop-rect-preserved : goal.loop-rect-preserved
loop-rect-preserved c =
    none_next (λ a. Any (λ b. SharesPoint a b) c.args.second.now) c.args.first.now c.loop-rect.rect-index _ c.loop-rect-test.true
    (λ h. let t = c.if-overlaps_rect.ensures.1 h in cc) c.loop-rect.invariant

pub returns : goal.returns
returns c = (λ t. cc, λ h. absurd (c.loop-rect.invariant h.0 h.1 (omega (arith, h.2)) (rw h.3 h.4)))
