use Rattle.std.proofs.Common.{◌≡◌, ◌≤◌, length}
use Rattle.lf_occupancy.specs.Views.{KeepsCapacities}
use Rattle.lf_state_text.specs.Saved.{team_views}
use Rattle.lf_floor_verbs.specs.Tables.{teams_in}
use Rattle.lf_floor.specs.SavedStates.{FirstHaveNoEntriesYet, saved_teams_at}
use Rattle.lf_floor.proofs.Saving.{AreLeft}
use Rattle.lf_floor.proofs.restore.restore_teams.Given as goal

abbrev pub invariant-loop-alloc : goal.invariant-loop-alloc
invariant-loop-alloc l = record {
  left : AreLeft l.fn.tables l.tables (saved_teams_at l.fn.tables (team_views l.fn.rows.items)) (saved_teams_at l.fn.tables (team_views l.left.items));
  few : length l.left.items ≤ length (teams_in l.fn.tables);
  cells : l.tables.placement.cells ≡ l.fn.tables.placement.cells;
  room : KeepsCapacities l.counts l.tables.placement.held.rooms;
  each : FirstHaveNoEntriesYet (length l.left.items) l.counts l.tables;
}

abbrev pub decreases-loop-alloc : goal.decreases-loop-alloc
decreases-loop-alloc l = length l.left.items
