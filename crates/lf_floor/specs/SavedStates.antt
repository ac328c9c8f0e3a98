-- The contents of a state text of the tables of a floor.
use Rattle.std.specs.Prelude.{◌≡◌, ℕ, ◌+◌, ◌<◌, List, [], Option, length, map, replicate, slice_set}
use Rattle.std.specs.List.{range_with_len}
use Rattle.lf_undo.specs.Stacks.{stack_of}
use Rattle.lf_floor_model.specs.States.{TeamState}
use Rattle.lf_state_text.specs.Designs.{NamedDesign}
use Rattle.lf_placement.specs.Placements.{BoundsAt, working_places_of}
use Rattle.lf_state_text.specs.Saved.{SavedTeam, moves_within, state_text}
use Rattle.lf_floor.specs.Saved.{map_two, saved_cell}
use Rattle.lf_floor.specs.Placed.{ArePlaced}
use Rattle.lf_floor_verbs.specs.declared.tables.Tables.{Tables}
use Rattle.lf_floor_verbs.specs.Tables.{table_cells, frame_of, padding_of, revision_of, sites_in, teams_in}
use Rattle.lf_sessions.specs.Slots.{slots_of}

-- the saved team of that number; its undo entries have the moves of its cells
abbrev pub saved_team_of : ℕ → Tables → SavedTeam
saved_team_of number tables = record {
  revision = revision_of tables number;
  padding = padding_of tables number;
  slots = slots_of tables.sessions number;
  cells = map saved_cell (table_cells number tables);
  entries = map (moves_within (length (table_cells number tables))) (stack_of tables.undo number);
}

-- the saved teams
abbrev pub saved_teams_of : Tables → List SavedTeam
saved_teams_of tables = map (λ number. saved_team_of number tables) (range_with_len 0 (length tables.revisions.items))

-- the text of a design's saved teams
abbrev pub state_text_of : NamedDesign × List SavedTeam → List ℕ
state_text_of saved = state_text saved.0 saved.1

-- the team has this revision, padding and slots, and nothing else differs
pub record HasNumbers (number revision padding : ℕ) (slots : List (Option ℕ)) (old new : Tables) : Type 0 where
  pub placement : new.placement ≡ old.placement
  pub undo : new.undo ≡ old.undo
  pub sessions : new.sessions ≡ slice_set old.sessions number slots
  pub revisions : new.revisions.items ≡ slice_set old.revisions.items number revision
  pub paddings : sites_in new ≡ slice_set (sites_in old) number padding

-- the teams' cells are at the places of the saved teams, and there are no undo entries
pub record PlacesTeams (saved : List SavedTeam) (old new : Tables) : Type 0 where
  pub frame : frame_of new ≡ frame_of old
  pub cells : ArePlaced saved old.placement.cells new.placement.cells
  pub undo : new.undo.lists ≡ replicate (length (frame_of old).teams + 1) []
  pub limit : new.undo.limit ≡ (frame_of old).limits.undo
  pub sessions : new.sessions ≡ old.sessions
  pub revisions : new.revisions ≡ old.revisions
  pub paddings : new.paddings ≡ old.paddings

-- the team has no undo entry, and the tally bounds its working places
pub record HasNoEntriesYet (number : ℕ) (tally : List ℕ) (tables : Tables) : Type 0 where
  pub none : stack_of tables.undo number ≡ []
  pub bounds : BoundsAt tables.placement number (working_places_of (table_cells number tables)) tally

-- the same for the first count teams
abbrev pub FirstHaveNoEntriesYet : ℕ → List ℕ → Tables → Type 0
FirstHaveNoEntriesYet count tally tables = (number : ℕ) → number < count → HasNoEntriesYet number tally tables

-- the saved team with the present places of the team's cells; the rest is the saved team's
abbrev pub saved_team_at : TeamState → SavedTeam → SavedTeam
saved_team_at s t = record t { cells = map saved_cell s.cells }

-- the same for each team of the tables
abbrev pub saved_teams_at : Tables → List SavedTeam → List SavedTeam
saved_teams_at tables saved = map_two saved_team_at (teams_in tables) saved
