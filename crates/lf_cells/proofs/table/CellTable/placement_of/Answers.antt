use Rattle.std.proofs.Common.{Option, Some, ap, sym, ◌∙◌}
use Rattle.lf_floorplan.specs.declared.place.Place.{Place}
use Rattle.lf_cells.proofs.Looks.{cell_placement_is}
use Rattle.lf_cells.proofs.table.CellTable.placement_of.Goals as goal

pub returns-in_err-slot : goal.returns-in_err-slot
returns-in_err-slot c =
    c.from_residual.ensures
    ∙ sym (cell_placement_is c.self.inside.parts c.args.self.now c.args.id _ c.self.view_is (sym (c.in_err-slot.was {u = tt}) ∙ c.slot.ensures))

pub returns : goal.returns
returns c =
    ap (λ (p : Option Place). Some (record { mac = c.in_ok-slot.slot.mac; working = p })) c.place.ensures ∙ sym (cell_placement_is c.self.inside.parts c.args.self.now c.args.id _ c.self.view_is
    (sym (c.in_ok-slot.was {u = tt}) ∙ c.slot.ensures))
