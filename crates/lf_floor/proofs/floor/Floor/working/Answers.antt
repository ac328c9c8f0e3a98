use Rattle.std.proofs.Common.{subst}
use Rattle.lf_cells.specs.Cells.{AreAllIds, Cells}
use Rattle.lf_floor.proofs.Places.{all_working}
use Rattle.lf_floor.proofs.floor.Floor.working.Goals as goal

pub returns : goal.returns
returns g c =
    let i = c.self.inside in
    let made = c.places_of.ensures in
    rw (← c.self.view_is, made.2, c.cells.ensures)
    (all_working i.tables c.self.invariant made.0 (subst (λ (cs : Cells). AreAllIds cs made.0) c.cells.ensures made.1))
