use Rattle.std.proofs.Common.{◌∙◌, map}
use Rattle.lf_task_run.proofs.Running.{as_many}
use Rattle.lf_task_repair.proofs.TeamLines.{all_reported}
use Rattle.lf_task_repair.proofs.repairing.repair_selected.Goals as goal

pub close_report-requires : goal.close_report-requires
close_report-requires g c =
    let l = c.legalizer_exists.ensures in
    as_many l (map (λ team. team.now) c.args.job.now.teams.now) c.args.floor.now c.repair_teams.new.floor _ _ (c.in_ok-repair_teams.ensures.run l)
    c.in_ok-repair_teams.ensures.only c.requires.whole

pub returns-clause-ok : goal.returns-clause-ok
returns-clause-ok g c = record {
  known = c.requires.known;
  run = λ l. rw c.new-lines.ensures at (c.in_ok-repair_teams.ensures.run l);
  only = c.in_ok-repair_teams.ensures.only;
  does = record {
    stay = λ to_stay. c.in_ok-repair_teams.ensures.kept to_stay;
    decides = all_reported _ c.args.floor.now.frame (map (λ team. team.now) c.args.job.now.teams.now) c.args.start.now.limits c.args.floor.now c.repair_teams.new.floor
        c.in_ok-before.before c.in_ok-report.report c.repair_teams.new.report c.close_report.new.report c.in_ok-repair_teams.ensures.only.frame
        c.in_ok-report.ensures.text c.in_ok-report.ensures.sums (c.in_ok-report.ensures.least ∙ c.as_slice-least.ensures.value)
        (c.in_ok-report.ensures.impossible ∙ c.as_slice-impossible.ensures.value)
        c.in_ok-before.ensures c.in_ok-repair_teams.ensures.reported c.in_ok-status.ensures.reported;
  };
  committed_checked = c.in_ok-status.ensures.ok;
}
