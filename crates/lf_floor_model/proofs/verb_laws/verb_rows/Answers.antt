use Rattle.lf_floor_model.proofs.VerbRows.{session_row, stale_row, undo_row, spent_row, best_row, no_place_row, tidy_row, tidy_commit_row, commit_row, refused_row, swap_row, pad_row}
use Rattle.lf_floor_model.proofs.verb_laws.verb_rows.Goals as goal

pub returns : goal.returns
returns c = record {
  sessions = session_row;
  stale = stale_row;
  undo = undo_row;
  spent = spent_row;
  best = best_row;
  no_place = no_place_row;
  tidy = tidy_row;
  tidy_commit = tidy_commit_row;
  commit = commit_row;
  refused = refused_row;
  swap = swap_row;
  pad = pad_row;
}
