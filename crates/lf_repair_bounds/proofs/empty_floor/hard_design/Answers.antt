use Rattle.std.proofs.Common.{List, ap, length}
use Rattle.lf_units.specs.declared.geometry.Rect.{Rect}
use Rattle.lf_repair_bounds.proofs.Copying.{design_twin}
use Rattle.lf_repair_bounds.proofs.empty_floor.hard_design.Goals as goal

pub invariant_of-result : goal.invariant_of-result
invariant_of-result c =
    let kept = (c.in_ok-cells.ensures {u = tt}).design in
    let frame = (c.in_ok-frame.ensures {u = tt}).copies in
    let made = design_twin c.args.loaded.now.frame c.in_ok-frame.frame c.in_ok-cells.cells frame kept in
    record { few_cells = made.few_cells; cells_known = made.cells_known; names_differ = made.names_differ; components_rise = made.components_rise }

pub returns-clause-none : goal.returns-clause-none
returns-clause-none c = ap (λ (rects : List Rect). length rects) (c.in_ok-frame.ensures {u = tt}).none
