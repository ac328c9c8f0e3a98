use Rattle.std.proofs.Common.{◌∙◌, List, subst, sym}
use Rattle.std.specs.Prelude.{IfOk}
use Rattle.lf_cells.specs.declared.cell.Cell.{Cell}
use Rattle.lf_repair_strategy.specs.Targets.{AreWorkingPlaces}
use Rattle.lf_repair_team.proofs.Legal.{state_there}
use Rattle.lf_task_repair.proofs.OldPlaces.{no_state}
use Rattle.lf_task_repair.proofs.repairing.places_in_team.Goals as goal

pub returns-in_default : goal.returns-in_default
returns-in_default c = λ s there. absurd (no_state c.args.floor.now c.args.team.now s (sym c.team_number.ensures ∙ c.in_default.is) there)

pub returns : goal.returns
returns c = λ s there.
    let number = c.in-Some.number in
    subst (λ (cells : List Cell). IfOk c.working_places.result (λ places. AreWorkingPlaces cells places.items))
    (c.placement.ensures.cells number s (state_there c.args.floor.now c.args.team.now number s (sym c.team_number.ensures ∙ c.in-Some.is) there)) c.working_places.ensures
