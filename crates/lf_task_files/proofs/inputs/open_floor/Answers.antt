use Rattle.std.proofs.Common.{◌≡◌, ◌+◌, length, subst, sym}
use Rattle.lf_floor_model.specs.States.{FloorState}
use Rattle.lf_floor_model.proofs.Openings.{opening_whole}
use Rattle.lf_task_files.proofs.inputs.open_floor.Goals as goal

pub returns-in_ok-start_floor-in-None-clause-many : goal.returns-in_ok-start_floor-in-None-clause-many
returns-in_ok-start_floor-in-None-clause-many g c =
    subst (λ (f : FloorState). length f.teams ≡ length c.args.loaded.frame.teams + 1) (sym c.in_ok-start_floor-in-None.ensures) (opening_whole c.args.loaded).0
