use Rattle.std.proofs.Common.{◌≡◌, take}
use Rattle.std.specs.Prelude.{flat_map}
use Rattle.lf_task_reports.specs.Densities.{cell_boxes}
use Rattle.lf_task_reports.proofs.density.density_on.Given as goal

abbrev pub invariant-loop-number : goal.invariant-loop-number
invariant-loop-number g l = l.boxes.items ≡ flat_map (λ s. cell_boxes l.floor.frame s.cells) (take l.number l.floor.teams)
