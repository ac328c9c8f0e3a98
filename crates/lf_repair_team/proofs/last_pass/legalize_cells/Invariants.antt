use Rattle.std.proofs.Common.{take}
use Rattle.std.specs.Prelude.{All}
use Rattle.lf_rules.specs.Legalizer.{Legalizer}
use Rattle.lf_repair_team.specs.CellEdits.{IsLegalOrUnplaced, IsLegalOrWithoutPlace, KeepsCommittedAndSettings, KeepsLegalCells, KeepsLockedPlaces, KeepsWithin, MovesOffSoft}
use Rattle.lf_repair_team.specs.TeamRepairs.{ChangesOnly}
use Rattle.lf_repair_team.specs.Runs.{IsWrittenRun}
use Rattle.lf_repair_team.proofs.last_pass.legalize_cells.Given as goal

abbrev pub invariant-loop-own : goal.invariant-loop-own
invariant-loop-own g l = record {
  run : (lz : Legalizer) → IsWrittenRun lz l.session.team.now l.fn.floor (g.K.Sink.contents l.fn.lines) (g.K.Sink.contents l.lines) l.floor;
  only : ChangesOnly l.session.team.now l.fn.floor l.floor;
  legal : KeepsLegalCells l.session.team.now l.fn.floor l.floor;
  flagged : KeepsLockedPlaces l.session.team.now l.session.impossible.now l.fn.floor l.floor;
  committed : KeepsCommittedAndSettings l.session.team.now l.session.session l.fn.floor l.floor;
  all : All (λ own. IsLegalOrUnplaced l.floor l.session.team.now own) l.cells;
  done : All (λ own. IsLegalOrWithoutPlace l.search.reach l.targets l.floor l.session.team.now own) (take l.own-index l.cells);
  off_soft : MovesOffSoft l.session.team.now l.fn.floor l.floor;
  within : KeepsWithin l.search.reach l.targets l.session.team.now l.fn.floor l.floor;
}
