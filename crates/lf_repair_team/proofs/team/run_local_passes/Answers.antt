use Rattle.std.proofs.Common.{◌∙◌, ap, refl}
use Rattle.lf_floorplan.specs.declared.frame.Frame.{Frame}
use Rattle.lf_floor_model.specs.Teams.{team_number}
use Rattle.lf_repair_team.proofs.Runs.{nothing, then_cut, then_only, then_written, unchanged}
use Rattle.lf_repair_team.proofs.Settling.{both_unmoved}
use Rattle.lf_repair_team.proofs.team.run_local_passes.Goals as goal

pub loop-reach-init : goal.loop-reach-init
loop-reach-init g c = record {
  run = λ l. nothing l c.args.session.now.team.now c.args.floor.now (g.K.Sink.contents c.args.lines.now);
  only = unchanged c.args.session.now.team.now c.args.floor.now;
  committed = refl;
  unmoved = λ at own flag. refl;
  settled = c.requires.settled;
  free = λ free. free;
}

pub run_local_pass-requires : goal.run_local_pass-requires
run_local_pass-requires g c = record {
  number = ap (λ (f : Frame). team_number f c.args.session.now.team.now) c.loop-reach.invariant.only.frame ∙ c.requires.number;
  settled = c.loop-reach.invariant.settled;
}

pub returns-in-Err-clause-err : goal.returns-in-Err-clause-err
returns-in-Err-clause-err g c = λ l.
    then_cut l c.args.session.now.team.now c.args.floor.now c.loop-reach.floor c.run_local_pass.new.floor (g.K.Sink.contents c.args.lines.now) (g.K.Sink.contents c.loop-reach.lines)
    (g.K.Sink.contents c.run_local_pass.new.lines) (c.loop-reach.invariant.run l) (c.in-Err.ensures.err l)

pub returns-in-Err-clause-only : goal.returns-in-Err-clause-only
returns-in-Err-clause-only g c = then_only c.args.session.now.team.now c.args.floor.now c.loop-reach.floor c.run_local_pass.new.floor c.loop-reach.invariant.only c.in-Err.ensures.only

pub returns-in-Err-clause-committed : goal.returns-in-Err-clause-committed
returns-in-Err-clause-committed g c = c.in-Err.ensures.committed ∙ c.loop-reach.invariant.committed

pub returns-in-Err-clause-unmoved : goal.returns-in-Err-clause-unmoved
returns-in-Err-clause-unmoved g c =
    both_unmoved c.args.session.now.team.now c.args.session.now.impossible.now c.args.input.now.pass.targets.items c.args.floor.now c.loop-reach.floor c.run_local_pass.new.floor
    c.loop-reach.invariant.unmoved c.in-Err.ensures.unmoved

pub loop-reach-preserved : goal.loop-reach-preserved
loop-reach-preserved g c = record {
  run = λ l. then_written l c.args.session.now.team.now c.args.floor.now c.loop-reach.floor c.run_local_pass.new.floor (g.K.Sink.contents c.args.lines.now)
      (g.K.Sink.contents c.loop-reach.lines) (g.K.Sink.contents c.run_local_pass.new.lines) (c.loop-reach.invariant.run l) (c.in-Ok.ensures.run l);
  only = then_only c.args.session.now.team.now c.args.floor.now c.loop-reach.floor c.run_local_pass.new.floor c.loop-reach.invariant.only c.in-Ok.ensures.only;
  committed = c.in-Ok.ensures.committed ∙ c.loop-reach.invariant.committed;
  unmoved = both_unmoved c.args.session.now.team.now c.args.session.now.impossible.now c.args.input.now.pass.targets.items c.args.floor.now c.loop-reach.floor c.run_local_pass.new.floor
      c.loop-reach.invariant.unmoved c.in-Ok.ensures.unmoved;
  settled = c.in-Ok.ensures.settled;
  free = λ before. c.in-Ok.ensures.free (c.loop-reach.invariant.free before);
}
