use Rattle.std.proofs.Common.{ℕ, ◌<◌}
use Rattle.lf_rules.specs.Legalizer.{Legalizer}
use Rattle.lf_repair_team.specs.CellEdits.{IsAtTargetOrOffSoft, IsWithin, KeepsCellsAtTargets, KeepsCommittedAndSettings}
use Rattle.lf_repair_team.specs.TeamRepairs.{ChangesOnly}
use Rattle.lf_repair_team.specs.Runs.{IsWrittenRun}
use Rattle.lf_repair_team.proofs.misplaced_pass.run_misplaced_pass.Given as goal

abbrev pub invariant-loop-own : goal.invariant-loop-own
invariant-loop-own g l = record {
  run : (lz : Legalizer) → IsWrittenRun lz l.session.team.now l.fn.floor (g.K.Sink.contents l.fn.lines) (g.K.Sink.contents l.lines) l.floor;
  only : ChangesOnly l.session.team.now l.fn.floor l.floor;
  committed : KeepsCommittedAndSettings l.session.team.now l.session.session l.fn.floor l.floor;
  targets : KeepsCellsAtTargets l.session.team.now l.targets l.fn.floor l.floor;
  settled : (own : ℕ) → own < l.own → IsAtTargetOrOffSoft l.session.team.now l.targets l.floor own;
  within : (own : ℕ) → own < l.own → IsWithin l.search.reach l.targets l.floor l.session.team.now own;
}
