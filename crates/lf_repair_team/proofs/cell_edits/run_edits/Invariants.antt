use Rattle.lf_rules.specs.Legalizer.{Legalizer}
use Rattle.lf_repair_team.specs.CellEdits.{KeepsCommittedAndSettings, KeepsLockedLegal, KeepsLockedPlaces}
use Rattle.lf_repair_team.specs.TeamRepairs.{ChangesOnly}
use Rattle.lf_repair_team.specs.Runs.{IsWrittenRun}
use Rattle.lf_repair_team.proofs.cell_edits.run_edits.Given as goal

abbrev pub invariant-loop-cell_edit : goal.invariant-loop-cell_edit
invariant-loop-cell_edit g l = record {
  run : (lz : Legalizer) → IsWrittenRun lz l.session.team.now l.fn.floor (g.K.Sink.contents l.fn.lines) (g.K.Sink.contents l.lines) l.floor;
  only : ChangesOnly l.session.team.now l.fn.floor l.floor;
  marked : KeepsLockedPlaces l.session.team.now l.locked l.fn.floor l.floor;
  flagged : KeepsLockedPlaces l.session.team.now l.session.impossible.now l.fn.floor l.floor;
  legal : KeepsLockedLegal l.session.team.now l.locked l.fn.floor l.floor;
  committed : KeepsCommittedAndSettings l.session.team.now l.session.session l.fn.floor l.floor;
}
