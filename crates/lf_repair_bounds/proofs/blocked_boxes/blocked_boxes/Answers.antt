use Rattle.std.proofs.Common.{◌∙◌, ◌++◌, List, map, ap}
use Rattle.lf_units.specs.declared.geometry.Rect.{Rect}
use Rattle.lf_cells.specs.Cells.{cells_of}
use Rattle.lf_repair_bounds.specs.FreeRuns.{blocked_box}
use Rattle.lf_repair_bounds.specs.Gaps.{placed_team}
use Rattle.lf_repair_bounds.proofs.BlockedLemmas.{blocked_all}
use Rattle.lf_repair_bounds.proofs.blocked_boxes.blocked_boxes.Goals as goal

pub returns : goal.returns
returns c =
    blocked_all (placed_team c.args.frame.now c.args.team c.args.padding.sites (cells_of c.args.cells.now c.args.team)) c.push_cells.new.boxes.items _
    c.in_ok-push_cells.ensures
    (c.in_ok-push_rects.ensures ∙ ap (λ (rects : List Rect). c.push_cells.new.boxes.items ++ map blocked_box rects) c.as_slice.ensures)
