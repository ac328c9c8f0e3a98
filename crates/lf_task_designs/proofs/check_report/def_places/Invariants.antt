use Rattle.std.proofs.Common.{◌≡◌, ◌++◌, drop}
use Rattle.lf_task_designs.specs.Checks.{def_places}
use Rattle.lf_task_designs.proofs.check_report.def_places.Given as goal

-- The places so far, followed by those of the remaining cells, are all places.
abbrev pub invariant-loop-at : goal.invariant-loop-at
invariant-loop-at l = l.places.items ++ def_places (drop l.at l.cells) ≡ def_places l.cells
