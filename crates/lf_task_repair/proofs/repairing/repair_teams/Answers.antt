use Rattle.std.proofs.Common.{◌∙◌, map, refl, rules, subst}
use Rattle.std.proofs.lemmas.Result.{err_from_is_err_and}
use Rattle.lf_floorplan.specs.declared.frame.Frame.{Frame}
use Rattle.lf_task_run.specs.Commands.{kept_text}
use Rattle.lf_task_repair.specs.Reports.{AddsTeamLines, reach_of_rows}
use Rattle.lf_task_run.specs.Teams.{selected_at}
use Rattle.lf_task_repair.proofs.Staying.{all_stayed, none_stayed, one_more_stayed}
use Rattle.lf_task_run.proofs.Running.{none_changes, nothing_requested, one_more_untouched, then_requested, then_kept}
use Rattle.lf_task_repair.proofs.Refusals.{of_later}
use Rattle.lf_task_repair.proofs.TeamLines.{every_reported, next_reported, none_reported}
use Rattle.lf_task_repair.proofs.repairing.repair_teams.Goals as goal

pub loop-number-init : goal.loop-number-init
loop-number-init g c = record {
  run = λ lz. nothing_requested lz c.args.floor.now (kept_text c.args.lines.now.lines);
  only = none_changes (map (λ team. team.now) c.args.plan.now.teams.now) c.args.floor.now;
  reported = none_reported _ c.args.floor.now c.args.floor.now c.args.report.now;
  untouched = λ team n named more. refl;
  stayed = λ to_stay. none_stayed c.args.floor.now;
}

pub loop-number-preserved : goal.loop-number-preserved
loop-number-preserved g c = record {
  run = λ lz. then_kept lz c.args.floor.now c.loop-number.floor c.repair_numbered.new.floor (kept_text c.args.lines.now.lines) (kept_text c.loop-number.lines.lines)
      (kept_text c.repair_numbered.new.lines.lines) (c.loop-number.invariant.run lz) (c.in_ok-repair_numbered.ensures.run lz);
  only = then_requested (map (λ team. team.now) c.args.plan.now.teams.now) c.args.floor.now c.loop-number.floor c.repair_numbered.new.floor
      c.loop-number.invariant.only c.in_ok-repair_numbered.ensures.only;
  reported = next_reported _ c.args.floor.now.frame (map (λ team. team.now) c.args.plan.now.teams.now) c.loop-number.number c.args.floor.now c.loop-number.floor
      c.repair_numbered.new.floor c.args.report.now c.loop-number.report _ (search rules) refl c.loop-number.invariant.only.frame
      (c.in_ok-repair_numbered.ensures.only.frame ∙ c.loop-number.invariant.only.frame) c.loop-number.invariant.untouched c.repair_numbered.ensures.others
      c.loop-number.invariant.reported
      (subst (λ (f : Frame). AddsTeamLines (reach_of_rows f c.args.plan.now.options.now.within)
      (selected_at c.loop-number.floor.frame (map (λ team. team.now) c.args.plan.now.teams.now) c.loop-number.number)
      c.loop-number.floor c.repair_numbered.new.floor c.loop-number.report c.repair_numbered.new.report)
      c.loop-number.invariant.only.frame c.in_ok-repair_numbered.ensures.reported);
  untouched = one_more_untouched c.args.floor.now c.loop-number.floor c.repair_numbered.new.floor c.loop-number.number c.loop-number.invariant.only.frame
      c.loop-number.invariant.untouched c.repair_numbered.ensures.others;
  stayed = λ to_stay. one_more_stayed c.args.floor.now c.loop-number.floor c.repair_numbered.new.floor c.loop-number.number c.loop-number.invariant.only.frame
      (c.loop-number.invariant.stayed to_stay) (c.repair_numbered.ensures.kept to_stay) c.repair_numbered.ensures.others;
}

pub returns-clause-kept : goal.returns-clause-kept
returns-clause-kept g c = λ to_stay. all_stayed c.args.floor.now c.loop-number.floor c.loop-number.number (c.loop-number.invariant.stayed to_stay)

pub returns-clause-reported : goal.returns-clause-reported
returns-clause-reported g c =
    every_reported _ c.args.floor.now.frame (map (λ team. team.now) c.args.plan.now.teams.now) c.loop-number.number c.args.floor.now c.loop-number.floor c.args.report.now
    c.loop-number.report (search rules) c.loop-number.invariant.reported

pub returns-in_err-repair_numbered-clause-err : goal.returns-in_err-repair_numbered-clause-err
returns-in_err-repair_numbered-clause-err g c =
    let p = err_from_is_err_and c.from_residual.result c.from_residual.ensures.1 in
    rw (p.1, p.2) (of_later (map (λ team. team.now) c.args.plan.now.teams.now) c.args.floor.now c.loop-number.floor _ c.loop-number.invariant.only.frame
    c.in_err-repair_numbered.ensures.err)
