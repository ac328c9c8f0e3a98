use Rattle.std.proofs.Common.{take}
use Rattle.lf_cells.specs.Records.{AreAdded}
use Rattle.lf_cells.proofs.table_parts.TableParts.of_cells.Given as goal

-- The cells in front of this one are added.
abbrev pub invariant-loop-cell : goal.invariant-loop-cell
invariant-loop-cell l = AreAdded l.fn.loaded.names (take l.cell-index l.fn.loaded.cells.items) l.count l.parts
