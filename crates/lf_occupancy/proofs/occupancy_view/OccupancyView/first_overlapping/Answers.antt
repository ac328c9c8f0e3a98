use Rattle.std.proofs.Common.{None, List, ap, sym, subst, ◌∙◌}
use Rattle.lf_occupancy.specs.declared.strip_marks.StripMarks.{StripMarks}
use Rattle.lf_occupancy.specs.MarkLists.{IsLeast}
use Rattle.lf_occupancy.specs.Views.{Occupied, IsFirstOverlappingCell}
use Rattle.lf_occupancy.specs.Strips.{ShowAllBoxes, MarksBoxes, Marked, OverlapsInOne, widened_strips, with_boxes, strip_views}
use Rattle.lf_occupancy.proofs.Showing.{mark_lists_shown}
use Rattle.lf_occupancy.proofs.Views.{first_of_least}
use Rattle.lf_occupancy.proofs.occupancy_view.OccupancyView.first_overlapping.Goals as goal

pub invariant_of-strips : goal.invariant_of-strips
invariant_of-strips c = record { site_width = c.occupancy.invariant.site }

pub least_overlapped-requires : goal.least_overlapped-requires
least_overlapped-requires c =
    let h = c.self.inside in
    let o = c.occupancy.inside in
    subst (λ (ls : List StripMarks). ShowAllBoxes (widened_strips o.site o.index.strips) h.boxes ls) (sym c.deref.ensures.value)
    (subst (λ (m : Marked). MarksBoxes m h.boxes) (sym c.occupancy.view_is) c.self.invariant)

pub returns : goal.returns
returns c =
    let h = c.self.inside in
    let o = c.occupancy.inside in
    let id = c.args.id in
    let rect = c.args.rect.now in
    let xs = widened_strips o.site o.index.strips in
    let at = ap (λ (m : Marked). with_boxes m h.boxes) c.occupancy.view_is ∙ c.self.view_is in
    let holds = subst (λ (m : Marked). MarksBoxes m h.boxes) (sym c.occupancy.view_is) c.self.invariant in
    subst (λ (v : Occupied). IsFirstOverlappingCell v id rect c.least_overlapped.result) at
    (first_of_least (with_boxes record { index = o.index; site = o.site; mark_lists = o.mark_lists.items } h.boxes) (strip_views xs h.boxes o.mark_lists.items) id rect
    c.least_overlapped.result (mark_lists_shown xs h.boxes o.mark_lists.items holds)
    (subst (λ (ls : List StripMarks). IsLeast (OverlapsInOne xs (strip_views xs h.boxes ls) id.team rect id.own) None c.least_overlapped.result) c.deref.ensures.value
    c.least_overlapped.ensures))
