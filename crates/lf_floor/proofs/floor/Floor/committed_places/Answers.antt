use Rattle.std.proofs.Common.{subst}
use Rattle.std.proofs.lemmas.Result.{IfOk-weaker}
use Rattle.lf_cells.specs.Cells.{AreAllIds, Cells}
use Rattle.lf_floor.proofs.Places.{all_places}
use Rattle.lf_floor.proofs.floor.Floor.committed_places.Goals as goal

pub returns : goal.returns
returns g c =
    let i = c.self.inside in
    rw (← c.self.view_is) (IfOk-weaker c.all_committed.result _ _
    (λ places (ids, all, is). rw (is, c.cells.ensures)
    (all_places i.tables c.self.invariant ids (subst (λ (cs : Cells). AreAllIds cs ids) c.cells.ensures all))) c.all_committed.ensures)
