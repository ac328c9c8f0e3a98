use Rattle.std.proofs.Common.{◌≡◌, [], ℤ, List, ap, arith, get_or, of_z, rules, subst, sym, to_z, w64, ◌∙◌}
use Rattle.std.specs.Prelude.{All}
use Rattle.std.proofs.lemmas.Int.{ints}
use Rattle.std.proofs.lemmas.Result.{IfOk-weaker}
use Rattle.lf_rules.specs.Padding.{IsShort}
use Rattle.lf_occupancy.specs.declared.strip_marks.StripMarks.{StripMarks}
use Rattle.lf_occupancy.specs.Views.{Occupied, IsPaddingOf, OverlapsNoBox, boxes_of}
use Rattle.lf_occupancy.specs.Strips.{ShowAllBoxes, MarksBoxes, Marked, widened_strips, with_boxes}
use Rattle.lf_occupancy.proofs.Around.{site_short}
use Rattle.lf_occupancy.proofs.occupancy_view.OccupancyView.apart_in_row.Goals as goal

pub invariant_of-strips : goal.invariant_of-strips
invariant_of-strips c = record { site_width = c.occupancy.invariant.site }

pub apart_in_strips-requires-clause-mark_lists : goal.apart_in_strips-requires-clause-mark_lists
apart_in_strips-requires-clause-mark_lists c =
    let h = c.self.inside in
    let o = c.occupancy.inside in
    subst (λ (ls : List StripMarks). ShowAllBoxes (widened_strips o.site o.index.strips) h.boxes ls) (sym c.deref.ensures.value)
    (subst (λ (m : Marked). MarksBoxes m h.boxes) (sym c.occupancy.view_is) c.self.invariant)

pub apart_in_strips-requires-clause-reach : goal.apart_in_strips-requires-clause-reach
apart_in_strips-requires-clause-reach c =
    let at = ap (λ (m : Marked). with_boxes m c.self.inside.boxes) c.occupancy.view_is ∙ c.self.view_is in
    let padding = subst (λ (v : Occupied). IsPaddingOf v c.args.padding) (sym at) c.requires in
    let is : to_z w64 (of_z w64 c.args.padding) ≡ c.args.padding = search rules in
    let most = padding.most in
    omega (arith, ints, is, most)

pub invariant_of-length : goal.invariant_of-length
invariant_of-length c =
    let o = c.occupancy.inside in
    let at = ap (λ (m : Marked). with_boxes m c.self.inside.boxes) c.occupancy.view_is ∙ c.self.view_is in
    let padding = subst (λ (v : Occupied). IsPaddingOf v c.args.padding) (sym at) c.requires in
    let is : to_z w64 (of_z w64 c.args.padding) ≡ c.args.padding = search rules in
    let a = padding.least in
    let b = padding.most in
    let h = (site_short o.site c.occupancy.invariant.site).most in
    record { short = subst IsShort (sym is) record { least = a; most = omega (arith, ints, b, h) } }

pub returns : goal.returns
returns c =
    let h = c.self.inside in
    let team = c.args.team in
    let at = ap (λ (m : Marked). with_boxes m h.boxes) c.occupancy.view_is ∙ c.self.view_is in
    let padding : ℤ = to_z w64 (of_z w64 c.args.padding) in
    let is : padding ≡ c.args.padding = search rules in
    IfOk-weaker c.apart_in_strips.result
    (λ apart. All (OverlapsNoBox (get_or h.boxes team []) padding) apart.items)
    (λ apart. All (OverlapsNoBox (boxes_of c.args.self.now team) c.args.padding) apart.items)
    (λ apart all.
    subst (λ (q : ℤ). All (OverlapsNoBox (boxes_of c.args.self.now team) q) apart.items) is
    (subst (λ (v : Occupied). All (OverlapsNoBox (boxes_of v team) padding) apart.items) at all))
    c.apart_in_strips.ensures
