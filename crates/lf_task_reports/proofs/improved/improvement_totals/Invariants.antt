use Rattle.std.proofs.Common.{◌≡◌, drop, fold}
use Rattle.lf_task_reports.specs.ImproveReports.{improvement_totals, with_improved_team}
use Rattle.lf_task_reports.proofs.improved.improvement_totals.Given as goal

-- The sums so far, with those of the remaining teams, are all of them.
abbrev pub invariant-loop-team : goal.invariant-loop-team
invariant-loop-team l = fold with_improved_team l.sums (drop l.team-index l.teams) ≡ improvement_totals l.teams
