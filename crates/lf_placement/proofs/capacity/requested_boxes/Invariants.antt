use Rattle.std.proofs.Common.{◌≡◌, map, take}
use Rattle.lf_cells.specs.Cells.{cells_of}
use Rattle.lf_placement.specs.Steps.{requested_box}
use Rattle.lf_placement.proofs.capacity.requested_boxes.Given as goal

abbrev pub invariant-loop-next : goal.invariant-loop-next
invariant-loop-next l = l.list.items ≡ map (requested_box l.sized.frame.now l.team (cells_of l.sized.cells.now l.team)) (take l.next-index l.moves)
