use Rattle.std.proofs.Common.{◌<◌, Option, None, ap, length, subst, sym, ◌∙◌, map}
use Rattle.std.specs.Option.{option_map}
use Rattle.std.proofs.lemmas.Result.{IfOk-weaker}
use Rattle.lf_units.specs.declared.geometry.Point.{Point}
use Rattle.lf_floorplan.specs.declared.frame.Frame.{Frame}
use Rattle.lf_floorplan.specs.declared.macros.Macro.{Macro}
use Rattle.lf_floorplan.specs.declared.place.Place.{Place}
use Rattle.lf_floorplan.specs.Bounds.{IsNearDefRect}
use Rattle.lf_floorplan.specs.Boxes.{IsSized, macro_of, size_of}
use Rattle.lf_segments.specs.Indexes.{IsExtentOf, FrameIndexView}
use Rattle.lf_rules.specs.Choice.{IsChoice, PlacementQuery, spot_of}
use Rattle.lf_rules.specs.Team.{query_from}
use Rattle.lf_cells.specs.Cells.{cells_of}
use Rattle.lf_occupancy.specs.Views.{Occupied}
use Rattle.lf_legalize.specs.Members.{member_of}
use Rattle.lf_legalize.proofs.Indexes.{lies_in, within_extent, farthest_small, nearest_near, choice_for, none_legal}
use Rattle.lf_legalize.proofs.index_seeker.best_for.Goals as goal

pub mac_at-of_cell-requires : goal.mac_at-of_cell-requires
mac_at-of_cell-requires c = subst (λ (f : Frame). c.args.mac < length f.macros) (sym c.frame-frame.ensures) c.requires.known

pub height_of-requires : goal.height_of-requires
height_of-requires c =
    subst (IsSized c.frame-frame.result.now) (sym c.mac_at-of_cell.ensures)
    (subst (λ (f : Frame). IsSized f (macro_of f c.args.mac)) (sym c.frame-frame.ensures) c.requires.sized)

pub returns-in_default : goal.returns-in_default
returns-in_default c =
    let none = rw c.mac_at-of_cell.ensures at c.in_default.ensures in
    subst (λ (f : Frame). IsChoice (query_from f c.args.id.team c.args.padding.sites (map member_of (cells_of c.args.occupied.now.cells c.args.id.team)) c.args.id.own c.args.mac) c.args.target.now None)
    c.frame-frame.ensures
    (λ p may. none_legal (query_from c.frame-frame.result.now c.args.id.team c.args.padding.sites (map member_of (cells_of c.args.occupied.now.cells c.args.id.team))
    c.args.id.own c.args.mac) p
    (λ k high. none k high) may.legal)

pub invariant_of-search : goal.invariant_of-search
invariant_of-search c =
    let extent = c.extent-extent.result.now in
    let same = c.extent-extent.ensures ∙ ap (λ (g : FrameIndexView). g.extent) c.index.ensures ∙ ap (λ (o : Occupied). o.index.extent) c.occupancy-occupancy.ensures in
    record {
      of_frame = c.frame-frame.ensures;
      of_occupancy = c.occupancy-occupancy.ensures;
      known = subst (λ (f : Frame). c.args.mac < length f.macros) (sym c.frame-frame.ensures) c.requires.known;
      sized = subst (λ (f : Frame). IsSized f (macro_of f c.args.mac)) (sym c.frame-frame.ensures) c.requires.sized;
      size_is = c.size_of.ensures ∙ ap (λ (m : Macro). size_of c.frame-frame.result.now m) c.mac_at-of_cell.ensures;
      least = c.in-Some.ensures.least;
      most = c.in-Some.ensures.most;
      high = ap (λ (p : Point). p.y) c.size_of.ensures ∙ c.in-Some.ensures.high;
      near = nearest_near extent c.args.target.now c.nearest_point-near.result (subst IsNearDefRect (sym same) c.occupancy_holds_cells.ensures.index.extent.near)
          c.nearest_point-near.ensures;
    }

pub nearest-requires-clause-small : goal.nearest-requires-clause-small
nearest-requires-clause-small c =
    let same = c.extent-extent.ensures ∙ ap (λ (g : FrameIndexView). g.extent) c.index.ensures ∙ ap (λ (o : Occupied). o.index.extent) c.occupancy-occupancy.ensures in
    farthest_small c.extent-extent.result.now c.farthest_in.result (subst IsNearDefRect (sym same) c.occupancy_holds_cells.ensures.index.extent.near) c.farthest_in.ensures

pub nearest-requires-clause-all : goal.nearest-requires-clause-all
nearest-requires-clause-all c = λ p may.
    let extent = c.extent-extent.result.now in
    let f = c.frame-frame.result.now in
    let same = c.extent-extent.ensures ∙ ap (λ (g : FrameIndexView). g.extent) c.index.ensures ∙ ap (λ (o : Occupied). o.index.extent) c.occupancy-occupancy.ensures in
    let cell : PlacementQuery = query_from f c.args.id.team c.args.padding.sites (map member_of (cells_of c.args.occupied.now.cells c.args.id.team))
    c.args.id.own c.args.mac in
    let holds : IsExtentOf f extent = subst (IsExtentOf f) (sym same)
    (subst (λ (g : Frame). IsExtentOf g c.args.occupied.now.occupancy.index.extent) (sym c.frame-frame.ensures) c.occupancy_holds_cells.ensures.index.extent) in
    within_extent extent c.args.target.now c.nearest_point-near.result p c.farthest_in.result c.nearest_point-near.ensures c.farthest_in.ensures
    (lies_in cell extent p (subst (λ (g : Frame). IsSized g (macro_of g c.args.mac)) (sym c.frame-frame.ensures) c.requires.sized) holds may.legal)

pub returns : goal.returns
returns c =
    let extent = c.extent-extent.result.now in
    let f = c.frame-frame.result.now in
    let same = c.extent-extent.ensures ∙ ap (λ (g : FrameIndexView). g.extent) c.index.ensures ∙ ap (λ (o : Occupied). o.index.extent) c.occupancy-occupancy.ensures in
    let cell : PlacementQuery = query_from f c.args.id.team c.args.padding.sites (map member_of (cells_of c.args.occupied.now.cells c.args.id.team))
    c.args.id.own c.args.mac in
    let holds : IsExtentOf f extent = subst (IsExtentOf f) (sym same)
    (subst (λ (g : Frame). IsExtentOf g c.args.occupied.now.occupancy.index.extent) (sym c.frame-frame.ensures) c.occupancy_holds_cells.ensures.index.extent) in
    let sized = subst (λ (g : Frame). IsSized g (macro_of g c.args.mac)) (sym c.frame-frame.ensures) c.requires.sized in
    IfOk-weaker c.nearest.result
    (λ (found : Option Place). IsChoice cell c.nearest_point-near.result (option_map spot_of found))
    (λ (found : Option Place). IsChoice (query_from c.args.occupied.now.frame c.args.id.team c.args.padding.sites (map member_of (cells_of c.args.occupied.now.cells c.args.id.team)) c.args.id.own c.args.mac) c.args.target.now (option_map spot_of found))
    (λ found choice.
    subst (λ (g : Frame). IsChoice (query_from g c.args.id.team c.args.padding.sites (map member_of (cells_of c.args.occupied.now.cells c.args.id.team)) c.args.id.own c.args.mac) c.args.target.now (option_map spot_of found))
    c.frame-frame.ensures
    (choice_for cell extent c.args.target.now c.nearest_point-near.result (option_map spot_of found) c.nearest_point-near.ensures
    (λ p may. lies_in cell extent p sized holds may.legal) choice))
    c.nearest.ensures
