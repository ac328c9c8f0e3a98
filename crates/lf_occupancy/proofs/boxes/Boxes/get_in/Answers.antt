use Rattle.std.proofs.Common.{[], List, Option, ap, get_or, sym, ◌∙◌}
use Rattle.std.specs.Prelude.{slice_get}
use Rattle.lf_units.specs.declared.geometry.Rect.{Rect}
use Rattle.lf_cells.specs.declared.cell.CellId.{CellId}
use Rattle.lf_cells.specs.Cells.{cells_of, id_of}
use Rattle.lf_occupancy.specs.Floorplans.{boxes_in}
use Rattle.lf_occupancy.specs.Views.{cell_box}
use Rattle.lf_occupancy.proofs.Building.{box_here, id_there, none_in}
use Rattle.lf_occupancy.proofs.boxes.Boxes.get_in.Goals as goal

pub returns-in-Some : goal.returns-in-Some
returns-in-Some c =
    let f = c.self.inside.frame.now in
    let cells = c.self.inside.cells.now in
    let team = c.args.team in
    let own = c.args.own in
    c.box_at_work.ensures.is
    ∙ ap (λ (i : CellId). cell_box (get_or (boxes_in f cells) i.team []) i.own)
    (id_there team own (slice_get (cells_of cells team) own) c.in-Some.id (sym c.in-Some.is ∙ c.cell_of.ensures))
    ∙ ap (λ (bs : List (List (Option Rect))). cell_box (get_or bs team []) own) c.self.view_is

pub returns-in-None : goal.returns-in-None
returns-in-None c =
    let f = c.self.inside.frame.now in
    let cells = c.self.inside.cells.now in
    let team = c.args.team in
    let own = c.args.own in
    sym (box_here f cells (id_of team own) ∙ none_in f team own (slice_get (cells_of cells team) own) (sym c.in-None.is ∙ c.cell_of.ensures))
    ∙ ap (λ (bs : List (List (Option Rect))). cell_box (get_or bs team []) own) c.self.view_is
