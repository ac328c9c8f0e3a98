use Rattle.std.proofs.Common.{List, Option, subst}
use Rattle.lf_floorplan.specs.declared.place.Place.{Place}
use Rattle.lf_repair_team.specs.CellEdits.{AreAtTargetsOrOffSoft}
use Rattle.lf_repair_team.proofs.OffSoft.{targets_stay}
use Rattle.lf_repair_team.proofs.Runs.{unchanged}
use Rattle.lf_improve_team.proofs.Improving.{near_kept}
use Rattle.lf_improve_team.proofs.Lengths.{length_kept}
use Rattle.lf_improve_team.proofs.team.commit_if_better.Goals as goal

pub returns-in-Ok-true-clause-improved : goal.returns-in-Ok-true-clause-improved
returns-in-Ok-true-clause-improved g c =
    let team = c.args.session.now.team.now in
    let attempt = c.args.attempt.now in
    record {
      measured = length_kept team c.args.floor.now c.try_commit.new.floor c.in-Ok-true.ensures.only c.in-Ok-true.ensures.places attempt.wires.now.netlist.now.nets c.in-Some.length c.in-Some.ensures.measured;
      shorter = c.in-Some.ensures.shorter;
      near = near_kept attempt.goal.now.options.within attempt.input.now.pass.targets.items team c.args.floor.now c.try_commit.new.floor c.in-Ok-true.ensures.places (c.in-Some.ensures.near team c.requires.number);
      off_soft = targets_stay team c.args.floor.now c.try_commit.new.floor c.in-Ok-true.ensures.only attempt.input.now.pass.targets.items c.in-Ok-true.ensures.places
          (subst (λ (places : List (Option Place)). AreAtTargetsOrOffSoft team places c.args.floor.now) c.as_slice.ensures.value (c.are_off_soft.ensures c.if-not-are_off_soft.false));
      committed = λ l. c.in-Ok-true.ensures.committed l c.in-Ok-true.field-0-test;
    }

pub better_length-requires : goal.better_length-requires
better_length-requires g c = record { decides = c.requires.decides c.args.floor.now (unchanged c.args.session.now.team.now c.args.floor.now) }
