use Rattle.std.proofs.Common.{◌≡◌, ◌∙◌, subst, sym}
use Rattle.lf_floorplan.specs.Design.{MakeDesign}
use Rattle.lf_task_files.specs.Copies.{cells_of_parts}
use Rattle.lf_repair_bounds.proofs.Copying.{design_twin}
use Rattle.lf_task_files.proofs.Copying.{moved_none}
use Rattle.lf_task_files.proofs.copies.copy_of_design.Goals as goal

pub copy_cells-requires : goal.copy_cells-requires
copy_cells-requires c = record { whole = c.requires.whole; named = c.requires.design.names_differ }

pub design_of-requires : goal.design_of-requires
design_of-requires c =
    let all = cells_of_parts c.args.parts.now in
    let same : c.in_ok-cells.cells ≡ all = c.in_ok-cells.ensures {u = tt} ∙ moved_none all in
    subst (MakeDesign c.in_ok-copy.copy) (sym same) (design_twin c.args.frame.now c.in_ok-copy.copy all (c.in_ok-copy.ensures {u = tt}) c.requires.design)

pub returns : goal.returns
returns c =
    let all = cells_of_parts c.args.parts.now in
    record {
      frame = rw c.design_of.ensures.frame (c.in_ok-copy.ensures {u = tt});
      cells = c.design_of.ensures.cells ∙ c.in_ok-cells.ensures {u = tt} ∙ moved_none all;
    }
