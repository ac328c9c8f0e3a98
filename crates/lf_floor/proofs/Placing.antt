-- Tables after the placement of all cells and before the undo entries are restored.
use Rattle.std.proofs.Common.{◌≡◌, ◌≢◌, ◌<◌, ℕ, zero, suc, ◌+◌, List, [], ◌∷◌, ◌++◌, length, map, take, drop, get_or, Option, refl, ap, sym, subst, ◌∙◌, arith, append-nil}
use Rattle.std.specs.Prelude.{All, slice_index_or}
use Rattle.std.proofs.lemmas.List.{drop_all, length-map, length-replicate, take_all}
use Rattle.std.proofs.lemmas.List.Elements.{All-nil}
use Rattle.lf_floorplan.specs.declared.frame.Frame.{Frame}
use Rattle.lf_cells.specs.declared.cell.Cell.{Cell}
use Rattle.lf_cells.specs.Cells.{Cells, cells_of}
use Rattle.lf_sessions.specs.Slots.{slots_of}
use Rattle.lf_undo.specs.declared.moves.Move.{Move}
use Rattle.lf_undo.specs.Entries.{Places, entries_of}
use Rattle.lf_undo.specs.Stacks.{Stacks, stack_of}
use Rattle.lf_placement.specs.Placements.{BoundsAt, Fits, Placing, working_places_of}
use Rattle.lf_floor_model.specs.States.{FloorState, TeamState}
use Rattle.lf_floor_model.specs.Steps.{floor_of}
use Rattle.lf_floor_model.specs.Teams.{IsTeamOf}
use Rattle.lf_state_text.specs.declared.saved_rows.SavedCell.{SavedCell}
use Rattle.lf_state_text.specs.declared.saved_rows.SavedTeamRow.{SavedTeamRow}
use Rattle.lf_state_text.specs.Designs.{NamedTeam}
use Rattle.lf_state_text.specs.Saved.{SavedTeam, saved_at, team_view, team_views, IsSavedTeamOf}
use Rattle.lf_floor.specs.Saved.{MatchDesign, map_two, named_team, restored_floor, restored_cell, restored_team, saved_cell}
use Rattle.lf_floor.specs.Placed.{AreAsMany, without_cells}
use Rattle.lf_floor.proofs.Framing.{cells_names, due_at, due_each, due_many, restored_each, restored_twice, saved_restored, team_placed}
use Rattle.lf_floor_verbs.specs.declared.tables.Tables.{Tables}
use Rattle.lf_floor.specs.SavedStates.{HasNoEntriesYet, FirstHaveNoEntriesYet, PlacesTeams, saved_teams_at, saved_team_at}
use Rattle.lf_floor_verbs.specs.Tables.{AreTables, EntriesFit, table_cells, floor_in, frame_of, own_team, padding_of, revision_of, team_with, teams_in}
use Rattle.lf_floor.proofs.Rows.{count_teams, each_team, replicate_each, team_at}

-- ---- rows that were borrowed for a change, in their list again

pub in_place : (many : ℕ) (rows left : List SavedTeamRow) → many ≡ length rows → length left ≡ length rows → take many (left ++ drop (length left) rows) ≡ left
in_place many rows left is same =
    ap (λ (rest : List SavedTeamRow). take many (left ++ rest)) (drop_all (length left) rows (omega (arith, same)))
    ∙ ap (λ (all : List SavedTeamRow). take many all) (append-nil left)
    ∙ take_all many left (omega (arith, is, same))

-- ---- saved teams whose cells are placed

each_reported : (teams : List TeamState) (saved : List SavedTeam) (d : TeamState) → length teams ≡ length saved
    → ((k : ℕ) → k < length saved → map saved_cell (get_or teams k d).cells ≡ (saved_at saved k).cells)
    → map_two saved_team_at teams (map without_cells saved) ≡ saved
each_reported [] [] d many each = refl
each_reported [] (t ∷ saved) d many each = absurd (omega (arith, many))
each_reported (s ∷ teams) [] d many each = absurd (omega (arith, many))
each_reported (s ∷ teams) (t ∷ saved) d many each =
    ap (λ (cs : List SavedCell). record t { cells = cs } ∷ map_two saved_team_at teams (map without_cells saved)) (each zero (omega arith))
    ∙ ap (λ (l : List SavedTeam). t ∷ l) (each_reported teams saved d (omega (arith, many)) (λ k less. each (suc k) (omega (arith, less))))

-- ---- all teams' cells are placed

module _ (saved : List SavedTeam) (old : Tables) (are : AreTables old) (due : MatchDesign (frame_of old).limits (teams_in old) saved) where
  long : length saved ≡ length old.revisions.items
  long = due_many (frame_of old).limits (teams_in old) saved due ∙ count_teams old

  due_here : (k : ℕ) → k < length saved → IsSavedTeamOf (frame_of old).limits (named_team [] (own_team k old)) (saved_at saved k)
  due_here k less =
      subst (λ (s : TeamState). IsSavedTeamOf (frame_of old).limits (named_team [] s) (saved_at saved k))
      (team_at old k (own_team k old) (subst (λ (n : ℕ). k < n) long less))
      (due_at (frame_of old).limits (teams_in old) saved k (own_team k old) due less)

  pub as_many : AreAsMany saved old.placement.cells
  as_many = λ k less. (due_here k less).cells ∙ length-map (table_cells k old) (λ (c : Cell). c.name)

  module _ (new : Tables) (placed : PlacesTeams saved old new) where
    none_there : (k : ℕ) → stack_of new.undo k ≡ []
    none_there k = ap (λ (xs : List (List (List Move))). slice_index_or xs k []) placed.undo ∙ replicate_each (length (frame_of old).teams + 1) k

    own_cells : (k : ℕ) → k < length saved → table_cells k new ≡ map_two restored_cell (table_cells k old) (saved_at saved k).cells
    own_cells k less = placed.cells.cells k less

    pub each_awaits : (count : ℕ) (tally : List ℕ) → ((k : ℕ) → BoundsAt new.placement k (working_places_of (table_cells k new)) tally) → FirstHaveNoEntriesYet count tally new
    each_awaits count tally bounds = λ k less. record { none = none_there k; bounds = bounds k }

    placed_team : (k : ℕ) → k < length saved → own_team k new
        ≡ record {
          cells = map_two restored_cell (table_cells k old) (saved_at saved k).cells;
          revision = revision_of old k;
          entries = [];
          slots = slots_of old.sessions k;
          padding = padding_of old k;
        }
    placed_team k less =
        let now : List Cell = map_two restored_cell (table_cells k old) (saved_at saved k).cells in
        let revision_is : revision_of new k ≡ revision_of old k = ap (λ rs. slice_index_or rs.items k 0) placed.revisions in
        let padding_is : padding_of new k ≡ padding_of old k = ap (λ ps. slice_index_or (map (λ p. p.sites) ps.items) k 0) placed.paddings in
        let slots_are : slots_of new.sessions k ≡ slots_of old.sessions k = ap (λ (ss : List (List (Option ℕ))). slice_index_or ss k []) placed.sessions in
        ap (λ (cs : List Cell). team_with k cs new) (own_cells k less)
        ∙ ap (λ (st : List (List Move)). record { cells = now; revision = revision_of new k; entries = entries_of (working_places_of now) st; slots = slots_of new.sessions k; padding = padding_of new k }) (none_there k)
        ∙ ap (λ (n : ℕ). record { cells = now; revision = n; entries = []; slots = slots_of new.sessions k; padding = padding_of new k }) revision_is
        ∙ ap (λ (ss : List (Option ℕ)). record { cells = now; revision = revision_of old k; entries = []; slots = ss; padding = padding_of new k }) slots_are
        ∙ ap (λ (n : ℕ). record { cells = now; revision = revision_of old k; entries = []; slots = slots_of old.sessions k; padding = n }) padding_is

    -- there is one team more than fences
    teams_many : length (frame_of old).teams + 1 ≡ length (frame_of new).teams + 1
    teams_many = ap (λ (f : Frame). length f.teams + 1) (sym placed.frame)

    revisions_many : length new.revisions.items ≡ length old.revisions.items
    revisions_many = ap (λ rs. length rs.items) placed.revisions

    new_many : length (teams_in new) ≡ length saved
    new_many = count_teams new ∙ revisions_many ∙ sym long

    within : (k : ℕ) → k < length saved → k < length new.revisions.items
    within k less = subst (λ (n : ℕ). k < n) (long ∙ sym revisions_many) less

    one_team : (k : ℕ) → k < length saved → IsTeamOf (frame_of old) (own_team k new)
    one_team k less =
        subst (λ (s : TeamState). IsTeamOf (frame_of old) s) (sym (placed_team k less))
        (team_placed (frame_of old) (own_team k old) (saved_at saved k).cells
        (each_team (λ t. IsTeamOf (frame_of old) t) old k are.teams (subst (λ (n : ℕ). k < n) long less)) (as_many k less))

    all_teams : All (λ t. IsTeamOf (frame_of new) t) (teams_in new)
    all_teams = λ k d less.
        let there : k < length saved = subst (λ (n : ℕ). k < n) new_many less in
        subst (λ (f : Frame). IsTeamOf f (slice_index_or (teams_in new) k d)) (sym placed.frame)
        (subst (λ (s : TeamState). IsTeamOf (frame_of old) s) (sym (team_at new k d (within k there))) (one_team k there))

    no_entries : (k : ℕ) → EntriesFit k new
    no_entries k =
        subst (λ (stack : List (List Move)). All (λ (places : Places). Fits new.placement k places) (entries_of (working_places_of (table_cells k new)) stack))
        (sym (none_there k)) (All-nil (λ (places : Places). Fits new.placement k places))

    pub tables_placed : AreTables new
    tables_placed = record {
      components = ap (λ (cs : List (List ℕ)). length cs) placed.cells.components ∙ are.components ∙ teams_many;
      undo = ap (λ (xs : List (List (List Move))). length xs) placed.undo ∙ length-replicate (length (frame_of old).teams + 1) [] ∙ teams_many;
      sessions = ap (λ (ss : List (List (Option ℕ))). length ss) placed.sessions ∙ are.sessions ∙ teams_many;
      revisions = revisions_many ∙ are.revisions ∙ teams_many;
      paddings = ap (λ ps. length (map (λ p. p.sites) ps.items)) placed.paddings ∙ are.paddings ∙ teams_many;
      limit = placed.limit ∙ ap (λ (f : Frame). f.limits.undo) (sym placed.frame);
      teams = all_teams;
      fit = no_entries;
    }

    same_named : (k : ℕ) → k < length saved → named_team [] (own_team k new) ≡ named_team [] (own_team k old)
    same_named k less =
        ap (λ (cs : List Cell). record { name = []; cells = map (λ c. c.name) cs }) (own_cells k less)
        ∙ ap (λ (ns : List (List ℕ)). record { name = []; cells = ns }) (cells_names (table_cells k old) (saved_at saved k).cells (as_many k less))

    pub due_placed : MatchDesign (frame_of new).limits (teams_in new) saved
    due_placed =
        let d = own_team 0 old in
        subst (λ (f : Frame). MatchDesign f.limits (teams_in new) saved) (sym placed.frame)
        (due_each (frame_of old).limits (teams_in new) saved d (sym new_many)
        (λ k less. subst (λ (s : TeamState). IsSavedTeamOf (frame_of old).limits (named_team [] s) (saved_at saved k)) (sym (team_at new k d (within k less)))
        (subst (λ (t : NamedTeam). IsSavedTeamOf (frame_of old).limits t (saved_at saved k)) (sym (same_named k less)) (due_here k less))))

    same_restored : (k : ℕ) → k < length saved → restored_team (own_team k new) (saved_at saved k) ≡ restored_team (own_team k old) (saved_at saved k)
    same_restored k less =
        let t = saved_at saved k in
        ap (λ (cs : List Cell). restored_team (team_with k cs new) t) (own_cells k less)
        ∙ ap (λ (cs : List Cell). record { cells = cs; revision = t.revision; entries = entries_of (map (λ c. c.working) t.cells) t.entries; slots = t.slots; padding = t.padding })
        (restored_twice (table_cells k old) t.cells)

    same_teams : map_two restored_team (teams_in new) saved ≡ map_two restored_team (teams_in old) saved
    same_teams =
        let d = own_team 0 old in
        restored_each (teams_in new) (teams_in old) saved d new_many (count_teams old ∙ sym long)
        (λ k less. ap (λ (s : TeamState). restored_team s (saved_at saved k)) (team_at new k d (within k less))
        ∙ same_restored k less
        ∙ sym (ap (λ (s : TeamState). restored_team s (saved_at saved k)) (team_at old k d (subst (λ (n : ℕ). k < n) long less))))

    -- restoring the teams with placed cells gives the same floor as restoring the old ones
    pub floor_placed : (floor : FloorState) → floor ≡ restored_floor (floor_in new) saved → floor ≡ restored_floor (floor_in old) saved
    floor_placed floor is =
        is
        ∙ ap (λ (f : Frame). floor_of f new.placement.cells.components (map_two restored_team (teams_in new) saved)) placed.frame
        ∙ ap (λ (cs : List (List ℕ)). floor_of (frame_of old) cs (map_two restored_team (teams_in new) saved)) placed.cells.components
        ∙ ap (floor_of (frame_of old) old.placement.cells.components) same_teams

    -- the saved teams without cells, with the cells of the tables, are the saved teams
    pub still_reported : saved_teams_at new (map without_cells saved) ≡ saved
    still_reported =
        let d = own_team 0 old in
        each_reported (teams_in new) saved d new_many
        (λ k less. ap (λ (s : TeamState). map saved_cell s.cells) (team_at new k d (within k less))
        ∙ ap (λ (cs : List Cell). map saved_cell cs) (own_cells k less)
        ∙ saved_restored (table_cells k old) (saved_at saved k).cells (as_many k less))

    module _ (rows left : List SavedTeamRow) (same : rows ≡ left) (emptied : team_views left ≡ map without_cells saved) where
      -- the same for the remaining rows
      pub rows_reported : saved_teams_at new (team_views rows) ≡ saved
      rows_reported = ap (λ (l : List SavedTeamRow). saved_teams_at new (team_views l)) same ∙ ap (saved_teams_at new) emptied ∙ still_reported

      -- one row for each team
      pub rows_many : length rows ≡ length (teams_in new)
      rows_many =
          ap (λ (l : List SavedTeamRow). length l) same ∙ sym (length-map left team_view) ∙ ap (λ (l : List SavedTeam). length l) emptied
          ∙ length-map saved without_cells ∙ sym new_many

-- ---- the teams get their entries one after another

pub still_awaits : (other : ℕ) (before after : List ℕ) (old mid new : Tables) → mid.placement.cells ≡ old.placement.cells
    → stack_of mid.undo other ≡ stack_of old.undo other → new.placement ≡ mid.placement → new.undo ≡ mid.undo
    → ((at : Places) → BoundsAt old.placement other at before → BoundsAt mid.placement other at after)
    → HasNoEntriesYet other before old → HasNoEntriesYet other after new
still_awaits other before after old mid new cells stack placement undo bounds awaits = record {
  none = ap (λ (u : Stacks (List Move)). stack_of u other) undo ∙ stack ∙ awaits.none;
  bounds =
      subst (λ (p : Placing). BoundsAt p other (working_places_of (cells_of p.cells other)) after) (sym placement)
      (subst (λ (cs : Cells). BoundsAt mid.placement other (working_places_of (cells_of cs other)) after) (sym cells)
      (bounds (working_places_of (table_cells other old)) awaits.bounds));
}

-- the teams up to the last one have no entries yet
pub rest_awaits : (count more : ℕ) (before after : List ℕ) (old new : Tables) → more ≡ count + 1 → FirstHaveNoEntriesYet more before old
    → ((other : ℕ) → other ≢ count → HasNoEntriesYet other before old → HasNoEntriesYet other after new) → FirstHaveNoEntriesYet count after new
rest_awaits count more before after old new is each stay = λ k less.
    stay k (λ same. absurd (omega (arith, less, same))) (each k (omega (arith, less, is)))
