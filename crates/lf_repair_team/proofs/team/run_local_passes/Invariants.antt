use Rattle.lf_rules.specs.Legalizer.{Legalizer}
use Rattle.lf_repair_team.specs.CellEdits.{AreFlaggedAtTargets, IsSettled, KeepsCommittedAndSettings, KeepsLockedPlaces, NoneIsFlagged}
use Rattle.lf_repair_team.specs.TeamRepairs.{ChangesOnly}
use Rattle.lf_repair_team.specs.Runs.{IsWrittenRun}
use Rattle.lf_repair_team.proofs.team.run_local_passes.Given as goal

abbrev pub invariant-loop-reach : goal.invariant-loop-reach
invariant-loop-reach g l = record {
  run : (lz : Legalizer) → IsWrittenRun lz l.session.team.now l.fn.floor (g.K.Sink.contents l.fn.lines) (g.K.Sink.contents l.lines) l.floor;
  only : ChangesOnly l.session.team.now l.fn.floor l.floor;
  committed : KeepsCommittedAndSettings l.session.team.now l.session.session l.fn.floor l.floor;
  unmoved : AreFlaggedAtTargets l.session.team.now l.session.impossible.now l.input.pass.targets.items l.fn.floor
      → KeepsLockedPlaces l.session.team.now l.session.impossible.now l.fn.floor l.floor;
  settled : IsSettled l.search.reach l.input.pass.targets.items l.session.team.now l.session.impossible.now l.floor l.later.items;
  free : NoneIsFlagged l.input.pass.locked.items l.fn.unrepaired.items → NoneIsFlagged l.input.pass.locked.items l.later.items;
}
