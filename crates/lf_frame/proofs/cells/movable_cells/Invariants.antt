use Rattle.lf_frame.specs.Findings.{inputs}
use Rattle.lf_frame.proofs.CellsMade.{AreEarlier, GoesOn}
use Rattle.lf_frame.proofs.cells.movable_cells.Given as goal

abbrev pub invariant-loop-number : goal.invariant-loop-number
invariant-loop-number l =
    GoesOn (inputs l.library l.document l.limits) l.document.components l.number l.cells × AreEarlier l.document.components l.number l.cells
