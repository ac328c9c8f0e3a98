use Rattle.std.proofs.Common.{sym, ◌∙◌}
use Rattle.lf_occupancy.proofs.Building.{box_here}
use Rattle.lf_occupancy.proofs.boxes.box_at_work.Goals as goal

pub returns-clause-is : goal.returns-clause-is
returns-clause-is c = c.box_in_table.ensures.is ∙ sym (box_here c.args.frame.now c.args.cells.now c.args.id.now)
