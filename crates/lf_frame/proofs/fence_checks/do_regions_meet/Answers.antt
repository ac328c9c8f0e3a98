use Rattle.lf_frame.proofs.RectLemmas.{point_of_rects, rects_of_point}
use Rattle.lf_frame.proofs.fence_checks.do_regions_meet.Goals as goal

pub returns : goal.returns
returns c = (
  λ t. point_of_rects c.args.first.now.rects c.args.second.now.rects (rw (← c.as_slice.ensures, ← c.as_slice-2.ensures) (c.do_rects_meet.ensures.0 t)),
  λ h. c.do_rects_meet.ensures.1 (rw (c.as_slice.ensures, c.as_slice-2.ensures) (rects_of_point c.args.first.now.rects c.args.second.now.rects h)),
)
