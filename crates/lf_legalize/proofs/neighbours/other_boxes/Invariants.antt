use Rattle.std.proofs.Common.{◌≡◌, ◌++◌, drop}
use Rattle.lf_cells.specs.Cells.{cells_of}
use Rattle.lf_legalize.proofs.Beside.{beside_from}
use Rattle.lf_legalize.proofs.neighbours.other_boxes.Given as goal

-- the boxes so far, followed by those of the remaining cells, are all boxes
abbrev pub invariant-loop-other : goal.invariant-loop-other
invariant-loop-other l =
    l.others.items ++ beside_from l.frame l.id.own l.other-index (drop l.other-index (cells_of l.cells l.id.team))
    ≡ beside_from l.frame l.id.own 0 (cells_of l.cells l.id.team)
