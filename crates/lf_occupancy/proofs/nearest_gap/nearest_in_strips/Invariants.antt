use Rattle.lf_gaps.specs.Gaps.{FindsGap}
use Rattle.lf_occupancy.specs.Strips.{strip_views}
use Rattle.lf_occupancy.proofs.Frees.{AreFreeBetween}
use Rattle.lf_occupancy.specs.Widened.{all_widened}
use Rattle.lf_occupancy.proofs.nearest_gap.nearest_in_strips.Given as goal

-- the nearest place in the free spans of the strips visited
abbrev pub invariant-loop-n : goal.invariant-loop-n
invariant-loop-n l =
    FindsGap (AreFreeBetween l.marked.strips.now.index.now.strips (strip_views (all_widened l.marked.strips.now) l.marked.boxes.now l.marked.mark_lists.now)
    l.id.own l.padding.length l.initial.n l.n l.n-end l.window) l.wanted l.best
