use Rattle.std.proofs.Common.{◌∙◌, map, refl, rules, arith}
use Rattle.lf_task_run.specs.Commands.{kept_text}
use Rattle.lf_task_run.proofs.Running.{none_changes, nothing_requested, one_more_untouched, then_requested, then_kept}
use Rattle.lf_task_improve.proofs.Results.{all_added, nets_kept, next_added, none_added}
use Rattle.lf_task_improve.proofs.improving.improve_teams.Goals as goal

pub loop-number-init : goal.loop-number-init
loop-number-init g c = record {
  run = λ lz. nothing_requested lz c.args.floor.now (kept_text c.args.lines.now.lines);
  only = none_changes (map (λ team. team.now) c.args.plan.now.teams.now) c.args.floor.now;
  reported = none_added c.args.plan.now.options.within c.args.floor.now c.args.floor.now c.args.results.now.teams.items;
  untouched = λ team n named more. refl;
  measured = c.requires.measured;
  nets = c.requires.nets;
  longer = omega arith;
}

pub loop-number-preserved : goal.loop-number-preserved
loop-number-preserved g c = record {
  run = λ lz. then_kept lz c.args.floor.now c.loop-number.floor c.improve_numbered.new.floor (kept_text c.args.lines.now.lines) (kept_text c.loop-number.lines.lines)
      (kept_text c.improve_numbered.new.lines.lines) (c.loop-number.invariant.run lz) (c.in_ok-improve_numbered.ensures.run lz);
  only = then_requested (map (λ team. team.now) c.args.plan.now.teams.now) c.args.floor.now c.loop-number.floor c.improve_numbered.new.floor
      c.loop-number.invariant.only c.in_ok-improve_numbered.ensures.only;
  reported = next_added c.args.floor.now.frame (map (λ team. team.now) c.args.plan.now.teams.now) c.loop-number.number c.args.plan.now.options.within c.args.floor.now c.loop-number.floor
      c.improve_numbered.new.floor c.args.results.now.teams.items c.loop-number.results.teams.items _ (search rules) refl c.loop-number.invariant.only.frame
      (c.in_ok-improve_numbered.ensures.only.frame ∙ c.loop-number.invariant.only.frame) c.loop-number.invariant.untouched c.improve_numbered.ensures.others
      c.loop-number.invariant.reported c.in_ok-improve_numbered.ensures.reported;
  untouched = one_more_untouched c.args.floor.now c.loop-number.floor c.improve_numbered.new.floor c.loop-number.number c.loop-number.invariant.only.frame
      c.loop-number.invariant.untouched c.improve_numbered.ensures.others;
  measured = c.in_ok-improve_numbered.ensures.measured;
  nets = nets_kept c.args.plan.now.wires.of_teams.now c.args.plan.now.wires.netlist.now.nets c.loop-number.floor c.improve_numbered.new.floor
      c.loop-number.invariant.nets c.in_ok-improve_numbered.ensures.only.components;
  longer = omega (arith, c.loop-number.invariant.longer, c.in_ok-improve_numbered.ensures.longer);
}

pub returns-clause-reported : goal.returns-clause-reported
returns-clause-reported g c =
    all_added c.args.floor.now.frame (map (λ team. team.now) c.args.plan.now.teams.now) c.loop-number.number c.args.plan.now.options.within c.args.floor.now c.loop-number.floor
    c.args.results.now.teams.items c.loop-number.results.teams.items (search rules) c.loop-number.invariant.reported
