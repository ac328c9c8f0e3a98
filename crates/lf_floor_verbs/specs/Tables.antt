-- The teams of a floor: cells, undo entries, session slots, revisions and paddings are in one table
-- of each kind for all teams.
use Rattle.std.specs.Prelude.{◌≡◌, ◌≢◌, ℕ, ◌+◌, ◌<◌, All, List, [], length, map, replicate, take, ◌∷◌, None, Some, slice_index_or, slice_set}
use Rattle.std.specs.List.{range_with_len}
use Rattle.lf_floorplan.specs.declared.frame.Frame.{Frame}
use Rattle.lf_floorplan.specs.declared.loaded.Loaded.{Loaded}
use Rattle.lf_rules.specs.declared.padding.Padding.{Padding}
use Rattle.lf_rules.specs.Legalizer.{Legalizer}
use Rattle.lf_cells.specs.declared.cell.Cell.{Cell}
use Rattle.lf_cells.specs.Cells.{cells_of}
use Rattle.lf_cells.specs.Initial.{initial_cells, initial_components}
use Rattle.lf_occupancy.specs.Views.{KeepsCapacities}
use Rattle.lf_placement.specs.Placements.{Fits, OtherCellsStay, Placing, SameButPlaces, SameButRooms}
use Rattle.lf_sessions.specs.Slots.{seen_at, slots_of, with_slot}
use Rattle.lf_undo.specs.Stacks.{stack_of}
use Rattle.lf_undo.specs.Entries.{entries_of}
use Rattle.lf_floor_model.specs.States.{FloorState, TeamState}
use Rattle.lf_floor_model.specs.Steps.{floor_of}
use Rattle.lf_floor_model.specs.Teams.{IsTeamOf, TeamRules, team_rules}
use Rattle.lf_floor_model.specs.Outcomes.{changed, places_of}
use Rattle.lf_floor_verbs.specs.declared.context.TeamContext.{TeamContext}
use Rattle.lf_floor_verbs.specs.declared.tables.Tables.{Tables}

-- ---- one team among all

-- the frame of all teams
abbrev pub frame_of : Tables → Frame
frame_of tables = tables.placement.frame

-- the cells of the team of that number
abbrev pub table_cells : ℕ → Tables → List Cell
table_cells number tables = cells_of tables.placement.cells number

-- the number of changes that the team of that number has made
abbrev pub revision_of : Tables → ℕ → ℕ
revision_of tables number = slice_index_or tables.revisions.items number 0

-- the padding of each team, in core sites
abbrev pub sites_in : Tables → List ℕ
sites_in tables = map (λ p. p.sites) tables.paddings.items

-- the padding of the team of that number
abbrev pub padding_of : Tables → ℕ → ℕ
padding_of tables number = slice_index_or (sites_in tables) number 0

-- the team of that number, with these cells; an undo entry has the places before its moves
abbrev pub team_with : ℕ → List Cell → Tables → TeamState
team_with number cells tables =
    record {
      cells = cells;
      revision = revision_of tables number;
      entries = entries_of (places_of cells) (stack_of tables.undo number);
      slots = slots_of tables.sessions number;
      padding = padding_of tables number;
    }

-- the team of that number, with its cells in the table
abbrev pub own_team : ℕ → Tables → TeamState
own_team number tables = team_with number (table_cells number tables) tables

-- the team of the context
abbrev pub team_in : {S : Type 0} → TeamContext S → Tables → TeamState
team_in around tables = own_team around.number tables

-- the rules of the team of the context, with a legalizer and the frame of the placement
abbrev pub context_at : {S : Type 0} → Legalizer → TeamContext S → Placing → TeamRules
context_at l around placing = team_rules l placing.frame around.number around.padding.sites

-- the same, with the frame of the tables
abbrev pub context_in : {S : Type 0} → Legalizer → TeamContext S → Tables → TeamRules
context_in l around tables = context_at l around tables.placement

-- all teams
abbrev pub teams_in : Tables → List TeamState
teams_in tables = map (λ number. own_team number tables) (range_with_len 0 (length tables.revisions.items))

-- the floor of these tables
abbrev pub floor_in : Tables → FloorState
floor_in tables = floor_of (frame_of tables) tables.placement.cells.components (teams_in tables)

-- ---- what a verb may rely on, and what it keeps

-- each table has a row for the team of that number
pub record HasRows (number : ℕ) (tables : Tables) : Type 0 where
  pub undo : number < length tables.undo.lists
  pub sessions : number < length tables.sessions
  pub revisions : number < length tables.revisions.items
  pub paddings : number < length (sites_in tables)

-- the team's cells fit at the places of each of its undo entries
abbrev pub EntriesFit : ℕ → Tables → Type 0
EntriesFit number tables = All (Fits tables.placement number) (own_team number tables).entries

-- the tables have a row for each team of the frame; an undo stack holds as many entries as the
-- limits allow; each team is a team of the frame; its cells fit at the places of each of its
-- entries
pub record AreTables (tables : Tables) : Type 0 where
  pub components : length tables.placement.cells.components ≡ length (frame_of tables).teams + 1
  pub undo : length tables.undo.lists ≡ length (frame_of tables).teams + 1
  pub sessions : length tables.sessions ≡ length (frame_of tables).teams + 1
  pub revisions : length tables.revisions.items ≡ length (frame_of tables).teams + 1
  pub paddings : length (sites_in tables) ≡ length (frame_of tables).teams + 1
  pub limit : tables.undo.limit ≡ (frame_of tables).limits.undo
  pub teams : All (λ t. IsTeamOf (frame_of tables) t) (teams_in tables)
  pub fit : (number : ℕ) → EntriesFit number tables

-- the session has seen the team's revision, and the next revision fits into 32 bits
pub record IsCurrent (number session : ℕ) (tables : Tables) : Type 0 where
  pub seen : seen_at (slots_of tables.sessions number) session ≡ Some (revision_of tables number)
  pub left : revision_of tables number < 4294967295

-- the tables have a row for the team of that number, which is a team of the frame; an undo stack
-- holds as many entries as the limits allow, and the team's cells fit at the places of each of its
-- entries
pub record HasTeamRow (number : ℕ) (tables : Tables) : Type 0 where
  pub rows : HasRows number tables
  pub limit : tables.undo.limit ≡ (frame_of tables).limits.undo
  pub team : IsTeamOf (frame_of tables) (own_team number tables)
  pub fit : EntriesFit number tables

-- the same, and the session may change the team
pub record CanChange (number session : ℕ) (tables : Tables) : Type 0 where
  pub served : HasTeamRow number tables
  pub current : IsCurrent number session tables

-- the frame and the strips are unchanged, and no strip's room shrinks
pub record KeepsRooms (old new : Placing) : Type 0 where
  pub frame : new.frame ≡ old.frame
  pub index : new.held.index ≡ old.held.index
  pub site : new.held.site ≡ old.held.site
  pub rooms : KeepsCapacities old.held.rooms new.held.rooms

-- the same, and except for the rooms only working places of that team's cells differ
pub record OnlyMovesTeam (number : ℕ) (old new : Placing) : Type 0 where
  pub ground : KeepsRooms old new
  pub same : SameButPlaces (cells_of old.cells number) (cells_of new.cells number)
  pub others : OtherCellsStay number old.cells new.cells

-- only the team of that number may differ, the tables keep their rows, and no strip's room shrinks
pub record KeepsOtherTeams (number : ℕ) (old new : Tables) : Type 0 where
  pub teams : (other : ℕ) → other ≢ number → own_team other new ≡ own_team other old
  pub components : new.placement.cells.components ≡ old.placement.cells.components
  pub ground : KeepsRooms old.placement new.placement
  pub undo : length new.undo.lists ≡ length old.undo.lists
  pub sessions : length new.sessions ≡ length old.sessions
  pub revisions : length new.revisions.items ≡ length old.revisions.items
  pub paddings : length (sites_in new) ≡ length (sites_in old)
  pub limit : new.undo.limit ≡ old.undo.limit

-- rooms may grow, and nothing else differs
pub record OnlyGainRoom (old new : Tables) : Type 0 where
  pub placement : SameButRooms old.placement new.placement
  pub undo : new.undo ≡ record old.undo { room = new.undo.room }
  pub sessions : new.sessions ≡ old.sessions
  pub revisions : new.revisions ≡ old.revisions
  pub paddings : new.paddings ≡ old.paddings

-- one more change of the team is counted, which this session has seen
pub record CountsChange (number session : ℕ) (old new : Tables) : Type 0 where
  pub placement : new.placement ≡ old.placement
  pub undo : new.undo ≡ old.undo
  pub sessions : new.sessions ≡ with_slot old.sessions number session (Some (revision_of old number + 1))
  pub revisions : new.revisions.items ≡ slice_set old.revisions.items number (revision_of old number + 1)
  pub paddings : new.paddings ≡ old.paddings

-- the team has this padding, and nothing else differs
pub record SetsPadding (number : ℕ) (padding : Padding) (old new : Tables) : Type 0 where
  pub rest : new ≡ record old { paddings = new.paddings }
  pub paddings : sites_in new ≡ slice_set (sites_in old) number padding.sites

-- the team after a change of the session that takes its cells from `before` to `now`: the old
-- places are its newest undo entry
abbrev pub team_after_change : ℕ → ℕ → List Cell → List Cell → Tables → TeamState
team_after_change number session before now tables =
    let s = team_with number before tables in
    (changed session now (take tables.undo.limit (places_of before ∷ s.entries)) s).team

-- ---- the tables of a design as loaded

pub record AreInitial (design : Loaded) (tables : Tables) : Type 0 where
  pub frame : frame_of tables ≡ design.frame
  pub cells : tables.placement.cells.cells ≡ initial_cells design
  pub components : tables.placement.cells.components ≡ initial_components design
  pub undo : tables.undo.lists ≡ replicate (length design.frame.teams + 1) []
  pub limit : tables.undo.limit ≡ design.frame.limits.undo
  pub sessions : tables.sessions
      ≡ replicate (length design.frame.teams + 1) (replicate design.frame.limits.sessions None)
  pub revisions : tables.revisions.items ≡ replicate (length design.frame.teams + 1) 0
  pub paddings : sites_in tables ≡ replicate (length design.frame.teams + 1) 0
