-- The teams of a floor, whose parts are in tables of all teams.
use Rattle.std.proofs.Common.{◌≡◌, ◌≢◌, ◌<◌, ℕ, zero, suc, ◌+◌, List, [], length, map, set, get_or, Option, Some, None, ⊎_elim, refl, ap, sym, ◌∙◌, zero-add, subst}
use Rattle.std.specs.Prelude.{◌↔◌, slice_get, slice_set, slice_index_or, replicate, option_and_then, All}
use Rattle.std.specs.List.{range_with_len}
use Rattle.std.proofs.lemmas.List.{length-set, length-replicate, get_or-replicate, get_or-set_same, get_or-set_other}
use Rattle.std.proofs.lemmas.List.FromFn.{length-map-range_with_len, get_or-map-range_with_len, fill_by_all}
use Rattle.std.proofs.lemmas.List.Elements.{All-nil, All-set}
use Rattle.std.proofs.lemmas.Bool.{cases_eq}
use Rattle.std.proofs.lemmas.Option.{slice_get_read}
use Rattle.lf_floorplan.specs.declared.frame.Frame.{Frame}
use Rattle.lf_floorplan.specs.declared.loaded.Loaded.{Loaded}
use Rattle.lf_placement.specs.Placements.{Fits}
use Rattle.lf_cells.specs.declared.cell.Cell.{Cell}
use Rattle.lf_cells.specs.Initial.{own_cells, own_components}
use Rattle.lf_undo.specs.Stacks.{stack_of}
use Rattle.lf_undo.specs.Entries.{Places, entries_of}
use Rattle.lf_undo.specs.declared.moves.Move.{Move}
use Rattle.lf_sessions.specs.Slots.{slots_of}
use Rattle.lf_floor_model.specs.Outcomes.{places_of}
use Rattle.lf_floor_model.specs.States.{TeamState, FloorState}
use Rattle.lf_floor_model.specs.Steps.{floor_of}
use Rattle.lf_floor_model.specs.Teams.{team_number, state_of, IsTeamOf}
use Rattle.lf_rules.specs.FullyLegal.{IsFullyLegal}
use Rattle.lf_floor_model.specs.Committed.{IsCommittedLegal, AreAtLoadedPlaces, loaded_design}
use Rattle.lf_floor_model.specs.Designs.{initial_floor, initial_team, initial_teams}
use Rattle.lf_floor_model.proofs.Forms.{state_at}
use Rattle.lf_floor_model.proofs.Loading.{loaded_committed, loaded_places}
use Rattle.lf_floor_model.proofs.Openings.{opened_at, opening_whole}
use Rattle.lf_floor_verbs.specs.declared.tables.Tables.{Tables}
use Rattle.lf_floor_verbs.specs.Tables.{AreInitial, AreTables, EntriesFit, HasTeamRow, KeepsOtherTeams, table_cells, floor_in, frame_of, own_team, padding_of, revision_of, sites_in, team_with, teams_in}
use Rattle.lf_floor_verbs.proofs.Fitting.{entries_stay}

-- ---- one team among all

pub count_teams : (tables : Tables) → length (teams_in tables) ≡ length tables.revisions.items
count_teams tables = length-map-range_with_len (λ (number : ℕ). own_team number tables) 0 (length tables.revisions.items)

pub team_at : (tables : Tables) (k : ℕ) (d : TeamState) → k < length tables.revisions.items → get_or (teams_in tables) k d ≡ own_team k tables
team_at tables k d within = get_or-map-range_with_len (λ (number : ℕ). own_team number tables) 0 (length tables.revisions.items) k k d within (zero-add k)

-- the team of that number is at its position
pub team_there : (tables : Tables) (k : ℕ) → k < length tables.revisions.items → slice_get (teams_in tables) k ≡ Some (own_team k tables)
team_there tables k within =
    slice_get_read (teams_in tables) (length tables.revisions.items) k (own_team k tables) (sym (count_teams tables)) within
    (sym (team_at tables k (own_team k tables) within))

-- a fact on all teams holds for each
pub each_team : (P : TeamState → Type 0) (tables : Tables) (k : ℕ) → All P (teams_in tables) → k < length tables.revisions.items → P (own_team k tables)
each_team P tables k all within =
    let t = own_team k tables in
    subst P (team_at tables k t within) (all k t (rw (count_teams tables) within))

-- if the other teams are unchanged, only one team has changed
pub one_changed : (old new : Tables) (k : ℕ) → KeepsOtherTeams k old new → teams_in new ≡ slice_set (teams_in old) k (own_team k new)
one_changed old new k others =
    let here : TeamState = own_team k new in
    let long : length (set (teams_in old) k here) ≡ length new.revisions.items =
    length-set (teams_in old) k here ∙ count_teams old ∙ sym others.revisions in
    sym (fill_by_all (λ (number : ℕ). own_team number new) (set (teams_in old) k here) (length new.revisions.items) here long (each here))
  where
    each : (here : TeamState) (i : ℕ) → i < length new.revisions.items → get_or (set (teams_in old) k (own_team k new)) i here ≡ own_team i new
    each here i within =
        let there : i < length old.revisions.items = rw (sym others.revisions) within in
        ⊎_elim
        (λ (same : i ≡ k). ap (λ (n : ℕ). get_or (set (teams_in old) k (own_team k new)) n here) same
        ∙ get_or-set_same (teams_in old) k (own_team k new) here (rw (count_teams old) (rw (sym same) there))
        ∙ ap (λ (n : ℕ). own_team n new) (sym same))
        (λ (differ : i ≢ k). get_or-set_other (teams_in old) k i (own_team k new) here differ ∙ team_at old i here there ∙ sym (others.teams i differ))
        (cases_eq i k)

-- a view of the cells of the team of that number is a view of its cells in the tables
pub cells_seen : {Y : Type 0} (F : List Cell → Option Y) (tables : Tables) (view : FloorState) (team : List ℕ) (number : ℕ)
    → floor_in tables ≡ view → Some number ≡ team_number (frame_of tables) team → number < length tables.revisions.items
    → option_and_then (λ (s : TeamState). F s.cells) (state_of view team) ≡ F (table_cells number tables)
cells_seen {Y} F tables view team number is named within =
    ap (λ (v : FloorState). seen v) (sym is)
    ∙ ap (λ (o : Option ℕ). option_and_then (λ (s : TeamState). F s.cells) (state_at (teams_in tables) o)) (sym named)
    ∙ ap (λ (o : Option TeamState). option_and_then (λ (s : TeamState). F s.cells) o) (team_there tables number within)
  where
    seen : FloorState → Option Y
    seen v = option_and_then (λ (s : TeamState). F s.cells) (state_of v team)

-- the team of that number is served
pub served : (tables : Tables) (number : ℕ) → AreTables tables → number < length (frame_of tables).teams + 1 → HasTeamRow number tables
served tables number are within = record {
  rows = record { undo = rw are.undo within; sessions = rw are.sessions within; revisions = rw are.revisions within; paddings = rw are.paddings within };
  limit = are.limit;
  team = each_team (λ t. IsTeamOf (frame_of tables) t) tables number are.teams (rw are.revisions within);
  fit = are.fit number;
}

-- if the team's entries fit and the other teams are unchanged, all entries fit
pub all_fit : (number : ℕ) (old new : Tables) → KeepsOtherTeams number old new → ((other : ℕ) → EntriesFit other old) → EntriesFit number new
    → (other : ℕ) → EntriesFit other new
all_fit number old new others fit own other = ⊎_elim
    (λ (same : other ≡ number). rw same own)
    (λ (differ : other ≢ number). entries_stay other old new others.ground (others.teams other differ) (fit other))
    (cases_eq other number)

-- the floor after a change of one team alone
pub floor_changed : (old new : Tables) (k : ℕ) → KeepsOtherTeams k old new
    → floor_in new ≡ floor_of (frame_of old) old.placement.cells.components (slice_set (teams_in old) k (own_team k new))
floor_changed old new k others =
    ap (λ (f : Frame). floor_of f new.placement.cells.components (teams_in new)) others.ground.frame
    ∙ ap (λ (cs : List (List ℕ)). floor_of (frame_of old) cs (teams_in new)) others.components
    ∙ ap (floor_of (frame_of old) old.placement.cells.components) (one_changed old new k others)

pub tables_still : (old new : Tables) (k : ℕ) → KeepsOtherTeams k old new → AreTables old → IsTeamOf (frame_of old) (own_team k new) → EntriesFit k new
    → AreTables new
tables_still old new k others are own fit =
    let many : length (frame_of old).teams + 1 ≡ length (frame_of new).teams + 1 = ap (λ (f : Frame). length f.teams + 1) (sym others.ground.frame) in
    record {
      components = ap (λ (cs : List (List ℕ)). length cs) others.components ∙ are.components ∙ many;
      undo = others.undo ∙ are.undo ∙ many;
      sessions = others.sessions ∙ are.sessions ∙ many;
      revisions = others.revisions ∙ are.revisions ∙ many;
      paddings = others.paddings ∙ are.paddings ∙ many;
      limit = others.limit ∙ are.limit ∙ ap (λ (f : Frame). f.limits.undo) (sym others.ground.frame);
      teams =
          subst (λ (f : Frame). All (λ t. IsTeamOf f t) (teams_in new)) (sym others.ground.frame)
          (subst (λ (ts : List TeamState). All (λ t. IsTeamOf (frame_of old) t) ts) (sym (one_changed old new k others))
          (All-set (λ (t : TeamState). IsTeamOf (frame_of old) t) (teams_in old) k (own_team k new) own are.teams));
      fit = all_fit k old new others are.fit fit;
    }

-- ---- the teams of a design as loaded

pub replicate_each : (n k : ℕ) → get_or (replicate {A = List (List Move)} n []) k [] ≡ []
replicate_each zero k = refl
replicate_each (suc n) zero = refl
replicate_each (suc n) (suc k) = replicate_each n k

module _ (design : Loaded) (tables : Tables) (opens : AreInitial design tables) where
  abbrev pub count : ℕ
  count = length design.frame.teams + 1

  revisions_are : length tables.revisions.items ≡ count
  revisions_are = ap (λ (xs : List ℕ). length xs) opens.revisions ∙ length-replicate count 0

  paddings_are : length (sites_in tables) ≡ count
  paddings_are = ap (λ (xs : List ℕ). length xs) opens.paddings ∙ length-replicate count 0

  opened_team : (k : ℕ) → k < count → own_team k tables ≡ initial_team design k
  opened_team k within =
      let cells : table_cells k tables ≡ own_cells k design.cells =
      ap (λ (cs : List (List Cell)). slice_index_or cs k []) opens.cells
      ∙ get_or-map-range_with_len (λ (number : ℕ). own_cells number design.cells) 0 count k k [] within (zero-add k) in
      let revision : revision_of tables k ≡ 0 = ap (λ (xs : List ℕ). slice_index_or xs k 0) opens.revisions ∙ get_or-replicate count k 0 0 within in
      let stack : stack_of tables.undo k ≡ [] = ap (λ (xs : List (List (List Move))). slice_index_or xs k []) opens.undo ∙ get_or-replicate count k [] [] within in
      let slots : slots_of tables.sessions k ≡ replicate design.frame.limits.sessions None =
      ap (λ (xs : List (List (Option ℕ))). slice_index_or xs k []) opens.sessions
      ∙ get_or-replicate count k (replicate design.frame.limits.sessions None) [] within in
      let padding : padding_of tables k ≡ 0 = ap (λ (xs : List ℕ). slice_index_or xs k 0) opens.paddings ∙ get_or-replicate count k 0 0 within in
      ap (λ (cs : List Cell). team_with k cs tables) cells
      ∙ ap (λ (n : ℕ). record { cells = own_cells k design.cells; revision = n; entries = entries_of (places_of (own_cells k design.cells)) (stack_of tables.undo k); slots = slots_of tables.sessions k; padding = padding_of tables k }) revision
      ∙ ap (λ (es : List (List Move)). record { cells = own_cells k design.cells; revision = 0; entries = entries_of (places_of (own_cells k design.cells)) es; slots = slots_of tables.sessions k; padding = padding_of tables k }) stack
      ∙ ap (λ (ss : List (Option ℕ)). record { cells = own_cells k design.cells; revision = 0; entries = []; slots = ss; padding = padding_of tables k }) slots
      ∙ ap (λ (n : ℕ). record { cells = own_cells k design.cells; revision = 0; entries = []; slots = replicate design.frame.limits.sessions None; padding = n }) padding

  -- the tables built from a design have its first teams
  pub opened_teams : teams_in tables ≡ initial_teams design 0 count
  opened_teams =
      let d = initial_team design 0 in
      subst (λ (n : ℕ). map (λ (number : ℕ). own_team number tables) (range_with_len 0 n) ≡ initial_teams design 0 count) (sym revisions_are)
      (sym (fill_by_all (λ (number : ℕ). own_team number tables) (initial_teams design 0 count) count d (opening_whole design).0
      (λ k within. opened_at design 0 count k d within ∙ ap (λ (n : ℕ). initial_team design n) (zero-add k) ∙ sym (opened_team k within))))

  -- there is no entry yet
  no_entries : (k : ℕ) → EntriesFit k tables
  no_entries k =
      subst (λ (stack : List (List Move)). All (λ (places : Places). Fits tables.placement k places) (entries_of (places_of (table_cells k tables)) stack))
      (sym (ap (λ (xs : List (List (List Move))). slice_index_or xs k []) opens.undo ∙ replicate_each count k)) (All-nil (λ (places : Places). Fits tables.placement k places))

  teams_are : count ≡ length (frame_of tables).teams + 1
  teams_are = ap (λ (f : Frame). length f.teams + 1) (sym opens.frame)

  pub opened_tables : AreTables tables
  opened_tables = record {
    components =
        ap (λ (cs : List (List ℕ)). length cs) opens.components
        ∙ length-map-range_with_len (λ (number : ℕ). own_components number design.cells) 0 count
        ∙ teams_are;
    undo = ap (λ (xs : List (List (List Move))). length xs) opens.undo ∙ length-replicate count [] ∙ teams_are;
    sessions =
        ap (λ (xs : List (List (Option ℕ))). length xs) opens.sessions ∙ length-replicate count (replicate design.frame.limits.sessions None) ∙ teams_are;
    revisions = revisions_are ∙ teams_are;
    paddings = paddings_are ∙ teams_are;
    limit = opens.limit ∙ ap (λ (f : Frame). f.limits.undo) (sym opens.frame);
    teams =
        rw opens.frame (subst (λ (ts : List TeamState). All (λ t. IsTeamOf design.frame t) ts) (sym opened_teams) (opening_whole design).1);
    fit = no_entries;
  }

  pub opened_floor : floor_in tables ≡ initial_floor design
  opened_floor =
      ap (λ (f : Frame). floor_of f tables.placement.cells.components (teams_in tables)) opens.frame
      ∙ ap (floor_of design.frame tables.placement.cells.components) opened_teams
      ∙ ap (λ (cs : List (List ℕ)). floor_of design.frame cs (initial_teams design 0 count)) opens.components

  pub opened_as_loaded : AreAtLoadedPlaces design (floor_in tables)
  opened_as_loaded = subst (λ (f : FloorState). AreAtLoadedPlaces design f) (sym opened_floor) (loaded_places design)

  pub opened_legal : IsCommittedLegal (floor_in tables) ↔ IsFullyLegal design.frame (loaded_design design)
  opened_legal = subst (λ (f : FloorState). IsCommittedLegal f ↔ IsFullyLegal design.frame (loaded_design design)) (sym opened_floor) (loaded_committed design)
