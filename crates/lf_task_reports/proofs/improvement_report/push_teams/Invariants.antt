use Rattle.std.proofs.Common.{◌≡◌, ◌++◌, drop}
use Rattle.std.specs.Prelude.{flat_map}
use Rattle.lf_task_reports.specs.ImproveReports.{improved_team_line}
use Rattle.lf_task_reports.proofs.improvement_report.push_teams.Given as goal

-- The lines so far, followed by those of the remaining teams, are all of them.
abbrev pub invariant-loop-team : goal.invariant-loop-team
invariant-loop-team l = l.text.items ++ flat_map (improved_team_line l.frame l.lengths.before.now l.lengths.after.now) (drop l.team-index l.teams)
    ≡ l.initial.text.items ++ flat_map (improved_team_line l.frame l.lengths.before.now l.lengths.after.now) l.teams
