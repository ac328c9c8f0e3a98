use Rattle.std.proofs.Common.{◌≡◌, ◌∙◌, ℕ, Some, ap, sym, subst}
use Rattle.std.specs.Prelude.{option_map}
use Rattle.std.proofs.lemmas.Result.{IfOk-weaker}
use Rattle.lf_floorplan.specs.declared.frame.Frame.{Frame}
use Rattle.lf_floorplan.specs.LoadedCells.{borrowed_cell}
use Rattle.lf_floorplan.proofs.CellLemmas.{cell_sized}
use Rattle.lf_rules.specs.Choice.{spot_of}
use Rattle.lf_cells.specs.Cells.{cell_at, cells_of}
use Rattle.lf_legalize.specs.Members.{best_of}
use Rattle.lf_occupancy.specs.Floorplans.{IsOccupancyOf}
use Rattle.lf_occupancy.specs.Views.{Occupied}
use Rattle.lf_placement.proofs.Marks.{of_marked}
use Rattle.lf_repair_bounds.specs.EmptyFloors.{EmptyFloorView, IsEmptyFloorOf}
use Rattle.lf_repair_bounds.proofs.EmptyFloorPlaces.{alone_best}
use Rattle.lf_repair_bounds.proofs.nearest_place.nearest_of.Goals as goal

pub with_boxes-filled-requires : goal.with_boxes-filled-requires
with_boxes-filled-requires c =
    let same : c.bare.inside.frame.now ≡ c.args.lone.now.frame.now = ap (λ (v : EmptyFloorView). v.frame) c.bare.view_is ∙ sym c.args.lone.now.of_frame in
    let is = subst (λ (f : Frame). IsEmptyFloorOf f c.bare.inside.table c.bare.inside.occupancy) same c.bare.invariant in
    record { sized = is.cells.sized; holds = is.marked.holds }

pub seek-requires : goal.seek-requires
seek-requires c =
    let f = c.args.lone.now.frame.now in
    let table = c.bare.inside.table in
    let same : c.bare.inside.frame.now ≡ f = ap (λ (v : EmptyFloorView). v.frame) c.bare.view_is ∙ sym c.args.lone.now.of_frame in
    let is = subst (λ (f : Frame). IsEmptyFloorOf f table c.bare.inside.occupancy) same c.bare.invariant in
    record {
      held = subst (λ (o : Occupied). IsOccupancyOf f table o) (sym c.with_boxes-filled.ensures) (of_marked f table c.bare.inside.occupancy is.marked);
      sized = is.cells.sized c.args.id.team;
      few = is.cells.few c.args.id.team;
    }

pub returns : goal.returns
returns c =
    let f = c.args.lone.now.frame.now in
    let l = c.legalizer_exists.ensures in
    let id = c.args.id in
    let cell = borrowed_cell c.args.lone.now.cell.now in
    let cells = cells_of c.bare.inside.table id.team in
    let target = c.args.target.now in
    let mac = subst (λ (v : EmptyFloorView). option_map (λ c. c.mac) (cell_at v.table id) ≡ Some cell.mac) (sym c.bare.view_is) c.requires.mac in
    IfOk-weaker c.seek.result _ _
    (λ found is. alone_best l f cells id.own cell target (option_map spot_of found) (cell_sized f cell c.args.lone.now.known)
    (c.bare.invariant.cells.unplaced id.team) mac
    (is ∙ ap (λ (n : ℕ). best_of l f n c.none.result.sites cells id.own target) c.requires.team
    ∙ ap (λ (n : ℕ). best_of l f cell.team n cells id.own target) c.none.ensures))
    (c.seek.ensures.best l)
