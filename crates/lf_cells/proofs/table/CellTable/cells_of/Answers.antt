use Rattle.std.proofs.Common.{◌∙◌}
use Rattle.lf_cells.proofs.Finding.{ids_are}
use Rattle.lf_cells.proofs.table.CellTable.cells_of.Goals as goal

pub returns : goal.returns
returns c = c.ids_of.ensures ∙ ids_are c.self.inside.parts c.args.self.now c.args.team c.self.invariant c.self.view_is
