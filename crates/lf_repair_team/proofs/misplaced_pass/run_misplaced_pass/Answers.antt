use Rattle.std.proofs.Common.{◌∙◌, ap, arith, refl}
use Rattle.lf_floorplan.specs.declared.frame.Frame.{Frame}
use Rattle.lf_cells.specs.Cells.{cells_of}
use Rattle.lf_floor_model.specs.Teams.{team_number}
use Rattle.lf_repair_strategy.proofs.Ids.{ids_are}
use Rattle.lf_repair_team.proofs.Ids.{all_looked}
use Rattle.lf_repair_team.proofs.Legal.{state_there}
use Rattle.lf_repair_team.proofs.OffSoft.{all_settled, none_leaves_target, one_more_settled, then_targets}
use Rattle.lf_repair_team.proofs.ReachLemmas.{all_within, one_more_within}
use Rattle.lf_repair_team.proofs.Runs.{nothing, then_cut, then_only, then_written, unchanged}
use Rattle.lf_repair_team.proofs.misplaced_pass.run_misplaced_pass.Goals as goal

pub loop-own-init : goal.loop-own-init
loop-own-init g c = record {
  run = λ l. nothing l c.args.session.now.team.now c.args.floor.now (g.K.Sink.contents c.args.lines.now);
  only = unchanged c.args.session.now.team.now c.args.floor.now;
  committed = refl;
  targets = none_leaves_target c.args.session.now.team.now c.args.targets.now c.args.floor.now;
  settled = λ own within. absurd (omega (arith, within));
  within = λ own within. absurd (omega (arith, within));
}

pub unplace_if_misplaced-requires : goal.unplace_if_misplaced-requires
unplace_if_misplaced-requires g c = ap (λ (f : Frame). team_number f c.args.session.now.team.now) c.loop-own.invariant.only.frame ∙ c.requires

pub returns-in-Err-clause-err : goal.returns-in-Err-clause-err
returns-in-Err-clause-err g c = λ l.
    then_cut l c.args.session.now.team.now c.args.floor.now c.loop-own.floor c.unplace_if_misplaced.new.floor (g.K.Sink.contents c.args.lines.now) (g.K.Sink.contents c.loop-own.lines)
    (g.K.Sink.contents c.unplace_if_misplaced.new.lines) (c.loop-own.invariant.run l) (c.in-Err.ensures.err l)

pub returns-in-Err-clause-only : goal.returns-in-Err-clause-only
returns-in-Err-clause-only g c = then_only c.args.session.now.team.now c.args.floor.now c.loop-own.floor c.unplace_if_misplaced.new.floor c.loop-own.invariant.only c.in-Err.ensures.only

pub returns-in-Err-clause-committed : goal.returns-in-Err-clause-committed
returns-in-Err-clause-committed g c = c.in-Err.ensures.committed ∙ c.loop-own.invariant.committed

pub returns-in-Err-clause-targets : goal.returns-in-Err-clause-targets
returns-in-Err-clause-targets g c =
    then_targets c.args.session.now.team.now c.args.targets.now c.args.floor.now c.loop-own.floor c.unplace_if_misplaced.new.floor c.loop-own.invariant.targets c.in-Err.ensures.targets

pub loop-own-preserved : goal.loop-own-preserved
loop-own-preserved g c = record {
  run = λ l. then_written l c.args.session.now.team.now c.args.floor.now c.loop-own.floor c.unplace_if_misplaced.new.floor (g.K.Sink.contents c.args.lines.now)
      (g.K.Sink.contents c.loop-own.lines) (g.K.Sink.contents c.unplace_if_misplaced.new.lines) (c.loop-own.invariant.run l) (c.in-Ok.ensures.run l);
  only = then_only c.args.session.now.team.now c.args.floor.now c.loop-own.floor c.unplace_if_misplaced.new.floor c.loop-own.invariant.only c.in-Ok.ensures.only;
  committed = c.in-Ok.ensures.committed ∙ c.loop-own.invariant.committed;
  targets = then_targets c.args.session.now.team.now c.args.targets.now c.args.floor.now c.loop-own.floor c.unplace_if_misplaced.new.floor c.loop-own.invariant.targets c.in-Ok.ensures.targets;
  settled = one_more_settled c.args.session.now.team.now c.loop-own.floor c.unplace_if_misplaced.new.floor c.in-Ok.ensures.only c.args.targets.now c.loop-own.own c.loop-own.invariant.settled
      c.in-Ok.ensures.others c.in-Ok.ensures.settled;
  within = one_more_within c.args.search.now.reach c.args.targets.now c.args.session.now.team.now c.loop-own.floor c.unplace_if_misplaced.new.floor c.loop-own.own c.loop-own.invariant.within
      c.in-Ok.ensures.others c.in-Ok.ensures.within;
}

pub returns-clause-settled : goal.returns-clause-settled
returns-clause-settled g c =
    let number = c.args.session.now.number in
    let cells = cells_of c.placement.result.now.cells number in
    let ids = c.cells_of-count.result.now in
    let are = ids_are c.placement.result.now.cells c.cells.result.now number ids c.cells.ensures c.cells_of-count.ensures in
    all_settled c.args.session.now.team.now c.args.floor.now c.loop-own.floor c.loop-own.own c.args.targets.now c.loop-own.invariant.only.macros
    (λ s there. all_looked c.args.floor.now number c.loop-own.own cells ids are (omega (arith, c.loop-own-test.false)) (λ s at. c.placement.ensures.cells number s at) s
    (state_there c.args.floor.now c.args.session.now.team.now number s c.requires there)) c.loop-own.invariant.settled

pub returns-clause-within : goal.returns-clause-within
returns-clause-within g c =
    let number = c.args.session.now.number in
    let cells = cells_of c.placement.result.now.cells number in
    let ids = c.cells_of-count.result.now in
    let are = ids_are c.placement.result.now.cells c.cells.result.now number ids c.cells.ensures c.cells_of-count.ensures in
    all_within c.args.search.now.reach c.args.targets.now c.args.session.now.team.now c.args.floor.now c.loop-own.floor c.loop-own.own c.loop-own.invariant.only.macros
    (λ s there. all_looked c.args.floor.now number c.loop-own.own cells ids are (omega (arith, c.loop-own-test.false)) (λ s at. c.placement.ensures.cells number s at) s
    (state_there c.args.floor.now c.args.session.now.team.now number s c.requires there)) c.loop-own.invariant.within
