use Rattle.std.proofs.Common.{map}
use Rattle.std.specs.Prelude.{◌≤◌}
use Rattle.lf_rules.specs.Legalizer.{Legalizer}
use Rattle.lf_improve_team.specs.FloorLengths.{AreNetsOfFloor, IsWireLengthOn}
use Rattle.lf_task_run.specs.Commands.{IsKeptRun, kept_text}
use Rattle.lf_task_run.specs.Teams.{OnlySelectedChange}
use Rattle.lf_task_run.proofs.Running.{AreUntouched, first_requested}
use Rattle.lf_task_improve.specs.Improvements.{AddsResults}
use Rattle.lf_task_improve.proofs.improving.improve_teams.Given as goal

abbrev pub invariant-loop-number : goal.invariant-loop-number
invariant-loop-number g l = record {
  run : (lz : Legalizer) → IsKeptRun lz l.fn.floor (kept_text l.fn.lines.lines) (kept_text l.lines.lines) l.floor;
  only : OnlySelectedChange (map (λ team. team.now) l.plan.teams.now) l.fn.floor l.floor;
  reported : AddsResults (first_requested l.fn.floor.frame (map (λ team. team.now) l.plan.teams.now) l.number) l.plan.options.within l.fn.floor l.floor
      l.fn.results.teams.items l.results.teams.items;
  untouched : AreUntouched l.fn.floor l.floor l.number;
  measured : IsWireLengthOn l.plan.wires.netlist.now.nets l.floor l.results.length;
  nets : AreNetsOfFloor l.plan.wires.of_teams.now l.plan.wires.netlist.now.nets l.floor;
  longer : l.results.length ≤ l.fn.results.length;
}
