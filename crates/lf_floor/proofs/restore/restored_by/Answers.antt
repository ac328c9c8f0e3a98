use Rattle.std.proofs.Common.{◌≡◌, List, length, map, ap, subst, sym, ◌∙◌}
use Rattle.lf_state_text.specs.declared.saved_rows.SavedTeamRow.{SavedTeamRow}
use Rattle.lf_state_text.specs.Saved.{SavedTeam, team_views}
use Rattle.lf_floor.specs.Saved.{MatchDesign, restored_floor}
use Rattle.lf_floor.specs.Placed.{without_cells}
use Rattle.lf_floor_verbs.specs.Tables.{floor_in, frame_of, teams_in}
use Rattle.lf_floor.specs.SavedStates.{PlacesTeams}
use Rattle.lf_floor.proofs.Placing.{due_placed, each_awaits, floor_placed, in_place, rows_many, rows_reported, tables_placed}
use Rattle.lf_floor.proofs.restore.restored_by.Goals as goal

pub restore_teams-requires : goal.restore_teams-requires
restore_teams-requires c =
    let rows = c.args.rows.items in
    let saved = team_views rows in
    let left = c.place_cells.new.rows in
    let old = c.args.tables in
    let new = c.in_ok-placed.placed in
    let are = c.requires.tables in
    let due = c.requires.due in
    let same = c.deref_mut.ensures.value in
    let placed : PlacesTeams saved old new = subst (λ (rows : List SavedTeamRow). PlacesTeams (team_views rows) old new) same c.in_ok-placed.ensures.places in
    let emptied : team_views left ≡ map without_cells saved =
    c.place_cells.ensures.rows ∙ ap (λ (rows : List SavedTeamRow). map without_cells (team_views rows)) same in
    let back = in_place c.args.rows.len rows left c.args.rows.ok.0 (c.place_cells.auto.rows ∙ ap (λ (rows : List SavedTeamRow). length rows) same) in
    record {
      tables = tables_placed saved old are due new placed;
      many = rows_many saved old are due new placed _ left back emptied;
      due =
          subst (λ (l : List SavedTeam). MatchDesign (frame_of new).limits (teams_in new) l) (sym (rows_reported saved old are due new placed _ left back emptied))
          (due_placed saved old are due new placed);
      room = c.in_ok-tally.ensures.room;
      each = each_awaits saved old are due new placed _ c.in_ok-tally.tally (λ k. c.in_ok-tally.ensures.bounds k);
    }

pub returns-clause-floor : goal.returns-clause-floor
returns-clause-floor c =
    let rows = c.args.rows.items in
    let saved = team_views rows in
    let left = c.place_cells.new.rows in
    let old = c.args.tables in
    let new = c.in_ok-placed.placed in
    let are = c.requires.tables in
    let due = c.requires.due in
    let same = c.deref_mut.ensures.value in
    let placed : PlacesTeams saved old new = subst (λ (rows : List SavedTeamRow). PlacesTeams (team_views rows) old new) same c.in_ok-placed.ensures.places in
    let emptied : team_views left ≡ map without_cells saved =
    c.place_cells.ensures.rows ∙ ap (λ (rows : List SavedTeamRow). map without_cells (team_views rows)) same in
    let back = in_place c.args.rows.len rows left c.args.rows.ok.0 (c.place_cells.auto.rows ∙ ap (λ (rows : List SavedTeamRow). length rows) same) in
    floor_placed saved old are due new placed (floor_in c.restore_teams.new.tables)
    (c.in_ok-restore_teams.ensures.floor ∙ ap (restored_floor (floor_in new)) (rows_reported saved old are due new placed _ left back emptied))
