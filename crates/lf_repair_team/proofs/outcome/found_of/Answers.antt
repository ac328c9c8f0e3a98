use Rattle.std.proofs.Common.{List, subst}
use Rattle.lf_cells.specs.declared.cell.Cell.{Cell}
use Rattle.lf_repair_team.specs.CellEdits.{AreAtTargetsExcept, HaveLeftTargets}
use Rattle.lf_repair_team.proofs.Finding.{elsewhere, wanted_place_but}
use Rattle.lf_repair_team.proofs.outcome.found_of.Goals as goal

pub returns-clause-changed : goal.returns-clause-changed
returns-clause-changed g c =
    wanted_place_but c.args.session.now.team.now c.args.floor.now c.args.session.now.number c.args.targets.now c.in_ok-changed.changed.items c.requires
    (λ s at. subst (λ (cells : List Cell). AreAtTargetsExcept cells c.args.targets.now c.in_ok-changed.changed.items) (c.placement.ensures.cells c.args.session.now.number s at)
    c.in_ok-changed.ensures.changed)

pub returns-clause-moved : goal.returns-clause-moved
returns-clause-moved g c =
    elsewhere c.args.session.now.team.now c.args.floor.now c.args.session.now.number c.args.targets.now c.in_ok-changed.changed.items c.requires
    (λ s at. subst (λ (cells : List Cell). HaveLeftTargets cells c.args.targets.now c.in_ok-changed.changed.items) (c.placement.ensures.cells c.args.session.now.number s at)
    c.in_ok-changed.ensures.moved)
