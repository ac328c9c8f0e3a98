use Rattle.std.proofs.Common.{◌≡◌, ℤ, List, ap, arith, length, of_z, rules, subst, sym, to_z, w64, ◌∙◌}
use Rattle.std.proofs.lemmas.Int.{ints}
use Rattle.lf_gaps.proofs.Nearest.{found_weaker}
use Rattle.lf_rules.specs.Padding.{IsShort}
use Rattle.lf_occupancy.specs.declared.strip_marks.StripMarks.{StripMarks}
use Rattle.lf_occupancy.specs.Views.{Occupied, IsFreeInRow, IsPaddingOf}
use Rattle.lf_occupancy.specs.Strips.{AreFreeTo, ShowAllBoxes, MarksBoxes, Marked, widened_strips, with_boxes, strip_views}
use Rattle.lf_occupancy.proofs.Around.{site_short}
use Rattle.lf_occupancy.proofs.Showing.{mark_lists_shown}
use Rattle.lf_occupancy.proofs.Views.{free_of_strips}
use Rattle.lf_occupancy.proofs.occupancy_view.OccupancyView.nearest_in_row.Goals as goal

pub invariant_of-strips : goal.invariant_of-strips
invariant_of-strips c = record { site_width = c.occupancy.invariant.site }

pub nearest_in_strips-requires-clause-mark_lists : goal.nearest_in_strips-requires-clause-mark_lists
nearest_in_strips-requires-clause-mark_lists c =
    let h = c.self.inside in
    let o = c.occupancy.inside in
    subst (λ (ls : List StripMarks). ShowAllBoxes (widened_strips o.site o.index.strips) h.boxes ls) (sym c.deref.ensures.value)
    (subst (λ (m : Marked). MarksBoxes m h.boxes) (sym c.occupancy.view_is) c.self.invariant)

pub invariant_of-length : goal.invariant_of-length
invariant_of-length c =
    let o = c.occupancy.inside in
    let at = ap (λ (m : Marked). with_boxes m c.self.inside.boxes) c.occupancy.view_is ∙ c.self.view_is in
    let padding = subst (λ (v : Occupied). IsPaddingOf v c.args.padding) (sym at) c.requires.padding in
    let is : to_z w64 (of_z w64 c.args.padding) ≡ c.args.padding = search rules in
    let a = padding.least in
    let b = padding.most in
    let h = (site_short o.site c.occupancy.invariant.site).most in
    record { short = subst IsShort (sym is) record { least = a; most = omega (arith, ints, b, h) } }

pub returns : goal.returns
returns c =
    let h = c.self.inside in
    let o = c.occupancy.inside in
    let id = c.args.id in
    let row = c.args.row in
    let window = c.args.window.now in
    let xs = o.index.strips in
    let widened_by_reach = widened_strips o.site xs in
    let at = ap (λ (m : Marked). with_boxes m h.boxes) c.occupancy.view_is ∙ c.self.view_is in
    let holds = subst (λ (m : Marked). MarksBoxes m h.boxes) (sym c.occupancy.view_is) c.self.invariant in
    let padding : ℤ = to_z w64 (of_z w64 c.args.padding) in
    let is : to_z w64 (of_z w64 c.args.padding) ≡ c.args.padding = search rules in
    let short : IsPaddingOf c.args.self.now padding = subst (λ (q : ℤ). IsPaddingOf c.args.self.now q) (sym is) c.requires.padding in
    found_weaker (AreFreeTo xs (strip_views widened_by_reach h.boxes c.deref.result.now) row id.team id.own window padding (length xs))
    (IsFreeInRow c.args.self.now row id window c.args.padding) c.args.wanted.now c.nearest_in_strips.result
    (λ free f.
    subst (λ (q : ℤ). IsFreeInRow c.args.self.now row id window q free) is
    (subst (λ (v : Occupied). IsPaddingOf v padding → IsFreeInRow v row id window padding free) at
    (λ near.
    free_of_strips (with_boxes record { index = o.index; site = o.site; mark_lists = o.mark_lists.items } h.boxes) (strip_views widened_by_reach h.boxes o.mark_lists.items) row id window
    padding free near (mark_lists_shown widened_by_reach h.boxes o.mark_lists.items holds)
    (subst (λ (ls : List StripMarks). AreFreeTo xs (strip_views widened_by_reach h.boxes ls) row id.team id.own window padding (length xs) free) c.deref.ensures.value f))
    short))
    c.nearest_in_strips.ensures
