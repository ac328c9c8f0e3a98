use Rattle.lf_cells.proofs.Owners.{owners_are_all}
use Rattle.lf_cells.proofs.table.CellTable.cell_ids.Goals as goal

pub returns : goal.returns
returns c = rw c.as_slice.ensures.value (owners_are_all c.self.inside.parts c.args.self.now c.self.invariant c.self.view_is)
