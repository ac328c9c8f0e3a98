use Rattle.std.proofs.Common.{◌≡◌, sym, subst, ◌∙◌}
use Rattle.lf_cells.specs.declared.cell.CellId.{CellId}
use Rattle.lf_cells.specs.Cells.{cells_of, moved}
use Rattle.lf_placement.proofs.Moves.{id_there}
use Rattle.lf_placement.specs.Placements.{OtherCellsStay}
use Rattle.lf_floor.proofs.Placed.{none_moved}
use Rattle.lf_floor.proofs.restored_cells.put_at.Goals as goal

pub returns-in-Some-clause-own : goal.returns-in-Some-clause-own
returns-in-Some-clause-own c =
    let cells = cells_of c.args.cells.now c.args.team in
    subst (λ (id : CellId). cells_of c.put_cell.new.cells id.team ≡ moved (cells_of c.args.cells.now id.team) id.own c.args.place)
    (id_there cells c.args.team c.args.own c.in-Some.id (sym c.cell_of.ensures ∙ c.in-Some.is)) c.put_cell.ensures.own

pub returns-in-Some-clause-others : goal.returns-in-Some-clause-others
returns-in-Some-clause-others c =
    let cells = cells_of c.args.cells.now c.args.team in
    subst (λ (id : CellId). OtherCellsStay id.team c.args.cells.now c.put_cell.new.cells)
    (id_there cells c.args.team c.args.own c.in-Some.id (sym c.cell_of.ensures ∙ c.in-Some.is)) c.put_cell.ensures.others

pub returns-in-None-clause-own : goal.returns-in-None-clause-own
returns-in-None-clause-own c = sym (none_moved (cells_of c.args.cells.now c.args.team) c.args.team c.args.own c.args.place (sym c.cell_of.ensures ∙ c.in-None.is))
