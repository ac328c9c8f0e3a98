use Rattle.std.proofs.Common.{ℤ, FitsSigned, get_or, of_z, rules, subst, sym, to_z, w64}
use Rattle.std.specs.Prelude.{All, IfOk}
use Rattle.std.proofs.lemmas.Int.{to_z-of_z}
use Rattle.std.proofs.lemmas.Result.{IfOk-weaker}
use Rattle.lf_cells.specs.Cells.{id_of}
use Rattle.lf_rules.specs.Padding.{length_of}
use Rattle.lf_occupancy.specs.Views.{IsPaddingOf, Occupied, OverlapsNoBox, boxes_of}
use Rattle.lf_placement.specs.Placements.{OverlapsNoCell, Placing, placing_of}
use Rattle.lf_placement.proofs.FirstBroken.{apart_overlaps_none, padding_fits}
use Rattle.lf_placement.proofs.placement.Placement.apart_in_row.Goals as goal

pub with_boxes-requires-clause-sized : goal.with_boxes-requires-clause-sized
with_boxes-requires-clause-sized c = c.self.invariant.placing.sized

pub with_boxes-requires-clause-holds : goal.with_boxes-requires-clause-holds
with_boxes-requires-clause-holds c = c.self.invariant.holds

pub apart_in_row-requires : goal.apart_in_row-requires
apart_in_row-requires c =
    let p = placing_of c.self.inside.frame c.self.inside.cells c.self.inside.occupancy in
    let by : ℤ = c.length.result in
    let fits : FitsSigned w64 by = search rules in
    subst (λ (o : Occupied). IsPaddingOf o (to_z w64 (of_z w64 by))) (sym c.with_boxes.ensures)
    (subst (IsPaddingOf p.held) (sym (to_z-of_z w64 by fits))
    (subst (IsPaddingOf p.held) (sym c.length.ensures.is) (padding_fits p c.args.padding.sites c.self.invariant.placing.follows c.args.padding.most)))

pub returns : goal.returns
returns c =
    let p = placing_of c.self.inside.frame c.self.inside.cells c.self.inside.occupancy in
    let team = c.args.team in
    let sites = c.args.padding.sites in
    let by : ℤ = c.length.result in
    let fits : FitsSigned w64 by = search rules in
    subst (λ (q : Placing). IfOk c.apart_in_row.result (λ apart. All (λ own. OverlapsNoCell q sites (id_of team own)) apart.items)) c.self.view_is
    (IfOk-weaker c.apart_in_row.result
    (λ apart. All (OverlapsNoBox (boxes_of c.with_boxes.result team) (to_z w64 (of_z w64 by))) apart.items)
    (λ apart. All (λ own. OverlapsNoCell p sites (id_of team own)) apart.items)
    (λ apart all k d within.
    apart_overlaps_none p sites (id_of team (get_or apart.items k d)) (c.self.invariant.placing.sized team) c.self.invariant.placing.follows c.widened_strips_cover.ensures
    c.args.padding.most
    (subst (λ (o : Occupied). OverlapsNoBox (boxes_of o team) (length_of p.frame sites) (get_or apart.items k d)) c.with_boxes.ensures
    (subst (λ (q : ℤ). OverlapsNoBox (boxes_of c.with_boxes.result team) q (get_or apart.items k d)) c.length.ensures.is
    (subst (λ (q : ℤ). OverlapsNoBox (boxes_of c.with_boxes.result team) q (get_or apart.items k d)) (to_z-of_z w64 by fits) (all k d within)))))
    c.apart_in_row.ensures)
