use Rattle.std.proofs.Common.{sym, ◌∙◌}
use Rattle.lf_cells.proofs.Looks.{working_is}
use Rattle.lf_cells.proofs.table.CellTable.working.Goals as goal

pub returns-in_err-slot : goal.returns-in_err-slot
returns-in_err-slot c =
    c.from_residual.ensures
    ∙ sym (working_is c.self.inside.parts c.args.self.now c.args.id _ c.self.view_is (sym (c.in_err-slot.was {u = tt}) ∙ c.slot.ensures))

pub returns : goal.returns
returns c =
    c.place.ensures ∙ sym (working_is c.self.inside.parts c.args.self.now c.args.id _ c.self.view_is (sym (c.in_ok-slot.was {u = tt}) ∙ c.slot.ensures))
