use Rattle.std.proofs.Common.{◌≡◌, None, take}
use Rattle.std.specs.Prelude.{All}
use Rattle.lf_rules.specs.Legalizer.{Legalizer}
use Rattle.lf_repair_team.specs.CellEdits.{KeepsCommittedAndSettings, KeepsLegalCells, KeepsLockedPlaces, KeepsWithin, MovesOffSoft}
use Rattle.lf_repair_team.specs.TeamRepairs.{ChangesOnly, place_of_cell_in}
use Rattle.lf_repair_team.specs.Runs.{IsWrittenRun}
use Rattle.lf_repair_team.proofs.last_pass.unplace_cells.Given as goal

abbrev pub invariant-loop-own : goal.invariant-loop-own
invariant-loop-own g l = record {
  run : (lz : Legalizer) → IsWrittenRun lz l.session.team.now l.fn.floor (g.K.Sink.contents l.fn.lines) (g.K.Sink.contents l.lines) l.floor;
  only : ChangesOnly l.session.team.now l.fn.floor l.floor;
  legal : KeepsLegalCells l.session.team.now l.fn.floor l.floor;
  flagged : KeepsLockedPlaces l.session.team.now l.session.impossible.now l.fn.floor l.floor;
  committed : KeepsCommittedAndSettings l.session.team.now l.session.session l.fn.floor l.floor;
  unplaced : All (λ own. place_of_cell_in l.floor l.session.team.now own ≡ None) (take l.own-index l.cells);
  off_soft : MovesOffSoft l.session.team.now l.fn.floor l.floor;
  within : KeepsWithin l.search.reach l.targets l.session.team.now l.fn.floor l.floor;
}
