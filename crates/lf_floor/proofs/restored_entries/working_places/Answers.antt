use Rattle.std.proofs.Common.{List, map, ap, ◌∙◌}
use Rattle.std.proofs.lemmas.List.{take_all}
use Rattle.lf_cells.specs.declared.cell.CellId.{CellId}
use Rattle.lf_cells.specs.Cells.{cells_of, working_at}
use Rattle.lf_floor.proofs.Fitting.{working_ids}
use Rattle.lf_floor.proofs.restored_entries.working_places.Goals as goal

pub returns : goal.returns
returns c =
    let cells = c.args.cells.now in
    c.loop-id.invariant
    ∙ ap (λ (ids : List CellId). map (λ id. working_at (cells_of cells id.team) id.own) ids)
    (take_all c.loop-id.id-index c.cells_of-ids.result.now c.loop-id-test.false ∙ c.cells_of-ids.ensures)
    ∙ working_ids cells c.args.team
