use Rattle.std.proofs.Common.{◌≡◌, ◌∙◌, List, None, Some, ap, refl, rules, slice_get, sym}
use Rattle.std.proofs.lemmas.Option.{slice_get_past, slice_get_read}
use Rattle.lf_cells.specs.declared.cell.CellId.{CellId}
use Rattle.lf_cells.specs.Cells.{cells_of}
use Rattle.lf_cells.proofs.TeamIds.{ids_get}
use Rattle.lf_cells.proofs.table.CellTable.cell_of.Goals as goal

pub returns-in-Some : goal.returns-in-Some
returns-in-Some c =
    let at : slice_get c.cells_of.result.now c.args.own ≡ Some c.in-Some.id.now =
    slice_get_read c.cells_of.result.now _ c.args.own c.in-Some.id.now refl (search rules) (search rules) in
    sym at ∙ ap (λ (ids : List CellId). slice_get ids c.args.own) c.cells_of.ensures
    ∙ ids_get c.args.team c.args.own (cells_of c.args.self.now c.args.team)

pub returns-in-None : goal.returns-in-None
returns-in-None c =
    let past : slice_get c.cells_of.result.now c.args.own ≡ None = slice_get_past c.cells_of.result.now c.args.own (search rules) in
    sym past ∙ ap (λ (ids : List CellId). slice_get ids c.args.own) c.cells_of.ensures
    ∙ ids_get c.args.team c.args.own (cells_of c.args.self.now c.args.team)
