use Rattle.std.proofs.Common.{◌≡◌, ◌++◌, drop}
use Rattle.lf_task_reports.specs.WireReports.{team_wires_lines}
use Rattle.lf_task_reports.proofs.length_report.push_teams.Given as goal

-- The lines so far, followed by those of the remaining teams, are all of them.
abbrev pub invariant-loop-team : goal.invariant-loop-team
invariant-loop-team l = l.text.items ++ team_wires_lines l.frame l.team (drop l.team l.teams) ≡ l.initial.text.items ++ team_wires_lines l.frame 0 l.teams
