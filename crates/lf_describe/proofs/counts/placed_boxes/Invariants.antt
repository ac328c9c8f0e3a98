use Rattle.std.proofs.Common.{◌≡◌, map, take}
use Rattle.lf_reports.specs.Reports.{with_byte_name}
use Rattle.lf_describe.specs.Description.{placed_boxes}
use Rattle.lf_describe.proofs.counts.placed_boxes.Given as goal

abbrev pub invariant-loop-cell : goal.invariant-loop-cell
invariant-loop-cell l = l.boxes.items ≡ placed_boxes l.frame (map with_byte_name (take l.cell-index l.cells))
