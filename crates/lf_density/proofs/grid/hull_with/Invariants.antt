use Rattle.std.proofs.Common.{◌≡◌, take}
use Rattle.lf_density.specs.Bins.{box_around, row_boxes}
use Rattle.lf_density.proofs.grid.hull_with.Given as goal

abbrev pub invariant-loop-row : goal.invariant-loop-row
invariant-loop-row l = l.around ≡ box_around l.fn.rect (row_boxes l.pitch (take l.row-index l.rows))
