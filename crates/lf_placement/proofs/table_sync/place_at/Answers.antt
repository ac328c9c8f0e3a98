use Rattle.std.proofs.Common.{ap, sym, ◌∙◌}
use Rattle.lf_cells.specs.declared.cell.CellId.{CellId}
use Rattle.lf_cells.specs.Cells.{cells_of, working_at}
use Rattle.lf_placement.proofs.Moves.{id_there, none_works}
use Rattle.lf_placement.proofs.table_sync.place_at.Goals as goal

pub returns-in_err-cell_of : goal.returns-in_err-cell_of
returns-in_err-cell_of c =
    c.from_residual.ensures
    ∙ sym (none_works (cells_of c.args.cells.now c.args.team) c.args.team c.args.own (sym c.cell_of.ensures ∙ c.in_err-cell_of.was {u = tt}))

pub returns : goal.returns
returns c =
    c.working.ensures
    ∙ ap (λ (id : CellId). working_at (cells_of c.args.cells.now id.team) id.own)
    (id_there (cells_of c.args.cells.now c.args.team) c.args.team c.args.own c.in_ok-cell_of.field-0 (sym c.cell_of.ensures ∙ c.in_ok-cell_of.was {u = tt}))
