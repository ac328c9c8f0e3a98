use Rattle.std.proofs.Common.{◌≡◌, List, get_or, sym, subst}
use Rattle.std.specs.Prelude.{None, Some, option_map}
use Rattle.lf_floorplan.specs.declared.macros.Macro.{Macro}
use Rattle.lf_rules.specs.declared.rule.Rule.TheVariants.{Overlap}
use Rattle.lf_occupancy.specs.Views.{IsFirstOverlappingCell, Occupied}
use Rattle.lf_placement.specs.Placements.{IsBrokenFrameRule, IsBrokenAt, Placing, placing_of}
use Rattle.lf_placement.proofs.FirstBroken.{overlapped_at}
use Rattle.lf_placement.proofs.placement.Placement.first_overlapping.Goals as goal

pub with_boxes-requires-clause-sized : goal.with_boxes-requires-clause-sized
with_boxes-requires-clause-sized c = c.self.invariant.placing.sized

pub with_boxes-requires-clause-holds : goal.with_boxes-requires-clause-holds
with_boxes-requires-clause-holds c = c.self.invariant.holds

pub returns : goal.returns
returns c =
    let mac = c.index-as_slice-cell_placement.result in
    subst (λ (p : Placing). IsBrokenAt p c.args.padding.sites c.args.id c.args.place.now (option_map (λ own. record { rule = Overlap; other = Some own }) c.first_overlapping.result))
    c.self.view_is
    (overlapped_at (placing_of c.self.inside.frame c.self.inside.cells c.self.inside.occupancy) c.args.padding.sites c.args.id c.args.place.now
    c.in_ok-cell_placement.cell_placement mac c.padded_box-rect.result c.first_overlapping.result (c.self.invariant.placing.sized c.args.id.team) c.self.invariant.placing.follows
    c.widened_strips_cover.ensures c.args.padding.most c.in_ok-cell_placement.ensures
    (subst (λ (ms : List Macro). mac ≡ get_or ms c.in_ok-cell_placement.cell_placement.mac mac) c.as_slice.ensures c.index-as_slice-cell_placement.is)
    c.padded_box-rect.ensures
    (subst (λ (p : Placing). IsBrokenFrameRule p c.args.id c.args.place.now None) (sym c.self.view_is) c.requires) (subst (λ (o : Occupied). IsFirstOverlappingCell o c.args.id c.padded_box-rect.result c.first_overlapping.result) c.with_boxes.ensures c.first_overlapping.ensures))
