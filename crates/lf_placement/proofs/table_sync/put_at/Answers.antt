use Rattle.std.proofs.Common.{sym, ◌∙◌}
use Rattle.lf_cells.specs.Cells.{cells_of}
use Rattle.lf_placement.proofs.Moves.{none_moved}
use Rattle.lf_placement.proofs.table_sync.put_at.Goals as goal

pub returns-in_default-clause-own : goal.returns-in_default-clause-own
returns-in_default-clause-own c =
    sym (none_moved (cells_of c.args.cells.now c.args.team) c.args.team c.args.own c.args.place (sym c.cell_of.ensures ∙ c.in_default.is))
