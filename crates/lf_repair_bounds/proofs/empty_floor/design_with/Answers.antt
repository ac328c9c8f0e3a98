use Rattle.lf_repair_bounds.proofs.Copying.{design_twin}
use Rattle.lf_repair_bounds.proofs.empty_floor.design_with.Goals as goal

pub invariant_of-result : goal.invariant_of-result
invariant_of-result c =
    let made = design_twin c.args.frame.now c.in_ok-frame.frame c.args.cells (c.in_ok-frame.ensures {u = tt}) c.requires in
    record { few_cells = made.few_cells; cells_known = made.cells_known; names_differ = made.names_differ; components_rise = made.components_rise }
