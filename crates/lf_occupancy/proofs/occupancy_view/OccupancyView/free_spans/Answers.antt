use Rattle.std.proofs.Common.{◌≡◌, ℤ, List, ap, arith, of_z, rules, subst, sym, to_z, w64, ◌∙◌}
use Rattle.std.proofs.lemmas.Int.{ints}
use Rattle.std.proofs.lemmas.Result.{IfOk-weaker}
use Rattle.lf_rules.specs.Padding.{IsShort}
use Rattle.lf_occupancy.specs.declared.strip_marks.StripMarks.{StripMarks}
use Rattle.lf_occupancy.specs.Views.{Occupied, AreFreeSpans, IsPaddingOf}
use Rattle.lf_occupancy.specs.Strips.{ShowAllBoxes, AreFreeSpansOfStrip, MarksBoxes, Marked, widened_strips, with_boxes, strip_views}
use Rattle.lf_occupancy.proofs.Around.{site_short}
use Rattle.lf_occupancy.proofs.Showing.{mark_lists_shown}
use Rattle.lf_occupancy.proofs.Views.{spans_of_strip}
use Rattle.lf_occupancy.proofs.occupancy_view.OccupancyView.free_spans.Goals as goal

pub invariant_of-strips : goal.invariant_of-strips
invariant_of-strips c = record { site_width = c.occupancy.invariant.site }

pub free_in_one-requires : goal.free_in_one-requires
free_in_one-requires c =
    let h = c.self.inside in
    let o = c.occupancy.inside in
    subst (λ (ls : List StripMarks). ShowAllBoxes (widened_strips o.site o.index.strips) h.boxes ls) (sym c.deref.ensures.value)
    (subst (λ (m : Marked). MarksBoxes m h.boxes) (sym c.occupancy.view_is) c.self.invariant)

pub invariant_of-length : goal.invariant_of-length
invariant_of-length c =
    let o = c.occupancy.inside in
    let at = ap (λ (m : Marked). with_boxes m c.self.inside.boxes) c.occupancy.view_is ∙ c.self.view_is in
    let padding = subst (λ (v : Occupied). IsPaddingOf v c.args.padding) (sym at) c.requires in
    let is : to_z w64 (of_z w64 c.args.padding) ≡ c.args.padding = search rules in
    let a = padding.least in
    let b = padding.most in
    let h = (site_short o.site c.occupancy.invariant.site).most in
    record { short = subst IsShort (sym is) record { least = a; most = omega (arith, ints, b, h) } }

pub returns : goal.returns
returns c =
    let h = c.self.inside in
    let o = c.occupancy.inside in
    let id = c.args.without in
    let n = c.args.segment in
    let xs = o.index.strips in
    let widened_by_reach = widened_strips o.site xs in
    let at = ap (λ (m : Marked). with_boxes m h.boxes) c.occupancy.view_is ∙ c.self.view_is in
    let holds = subst (λ (m : Marked). MarksBoxes m h.boxes) (sym c.occupancy.view_is) c.self.invariant in
    let padding : ℤ = to_z w64 (of_z w64 c.args.padding) in
    let is : to_z w64 (of_z w64 c.args.padding) ≡ c.args.padding = search rules in
    let short : IsPaddingOf c.args.self.now padding = subst (λ (q : ℤ). IsPaddingOf c.args.self.now q) (sym is) c.requires in
    IfOk-weaker c.free_in_one.result (λ free. AreFreeSpansOfStrip xs (strip_views widened_by_reach h.boxes c.deref.result.now) id padding n free.items)
    (λ free. AreFreeSpans c.args.self.now n id c.args.padding free.items)
    (λ free f.
    subst (λ (q : ℤ). AreFreeSpans c.args.self.now n id q free.items) is
    (subst (λ (v : Occupied). IsPaddingOf v padding → AreFreeSpans v n id padding free.items) at
    (λ near.
    spans_of_strip (with_boxes record { index = o.index; site = o.site; mark_lists = o.mark_lists.items } h.boxes) (strip_views widened_by_reach h.boxes o.mark_lists.items) id padding n
    free.items near (mark_lists_shown widened_by_reach h.boxes o.mark_lists.items holds)
    (subst (λ (ls : List StripMarks). AreFreeSpansOfStrip xs (strip_views widened_by_reach h.boxes ls) id padding n free.items) c.deref.ensures.value f))
    short))
    c.free_in_one.ensures
