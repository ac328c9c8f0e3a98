use Rattle.std.proofs.Common.{◌≡◌, map}
use Rattle.lf_rules.specs.Legalizer.{Legalizer}
use Rattle.lf_cli.specs.declared.parse.LegalCells.TheVariants.{KeepLegal}
use Rattle.lf_task_run.specs.Commands.{IsKeptRun, kept_text}
use Rattle.lf_task_run.specs.Teams.{OnlySelectedChange}
use Rattle.lf_task_repair.specs.Reports.{AddsTeamLines, reach_of_rows}
use Rattle.lf_task_run.proofs.Running.{AreUntouched, first_requested}
use Rattle.lf_task_repair.proofs.Staying.{HaveStayed}
use Rattle.lf_task_repair.proofs.repairing.repair_teams.Given as goal

abbrev pub invariant-loop-number : goal.invariant-loop-number
invariant-loop-number g l = record {
  run : (lz : Legalizer) → IsKeptRun lz l.fn.floor (kept_text l.fn.lines.lines) (kept_text l.lines.lines) l.floor;
  only : OnlySelectedChange (map (λ team. team.now) l.plan.teams.now) l.fn.floor l.floor;
  reported : AddsTeamLines (reach_of_rows l.fn.floor.frame l.plan.options.now.within) (first_requested l.fn.floor.frame (map (λ team. team.now) l.plan.teams.now) l.number) l.fn.floor l.floor l.fn.report l.report;
  untouched : AreUntouched l.fn.floor l.floor l.number;
  stayed : l.plan.options.now.legal ≡ KeepLegal → HaveStayed l.fn.floor l.floor l.number;
}
