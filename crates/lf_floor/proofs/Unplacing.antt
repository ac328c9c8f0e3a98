-- Tables of a design without placed cells, and their floor.
use Rattle.std.proofs.Common.{◌≡◌, ◌≢◌, ◌<◌, ◌≤◌, ℕ, zero, suc, Bool, true, false, nat_lt, ◌+◌, List, [], ◌∷◌, length, map, get_or, Option, refl, ap, sym, subst, ◌∙◌, arith, zero-add}
use Rattle.std.specs.Prelude.{All, AllPairs, slice_set, slice_index_or}
use Rattle.std.specs.List.{range_with_len}
use Rattle.std.proofs.lemmas.Bool.{ltb-false, ltb-true}
use Rattle.std.proofs.lemmas.List.{length-map}
use Rattle.std.proofs.lemmas.List.FromFn.{get_or-map-range_with_len, length-map-range_with_len}
use Rattle.std.proofs.lemmas.List.Elements.{All-cons, All-head, All-nil, All-tail}
use Rattle.lf_floorplan.specs.declared.frame.Frame.{Frame}
use Rattle.lf_floorplan.specs.declared.loaded.Loaded.{Loaded}
use Rattle.lf_floorplan.specs.declared.place.Place.{Place}
use Rattle.lf_floorplan.specs.Bounds.{IsDesignName}
use Rattle.lf_cells.specs.declared.cell.Cell.{Cell}
use Rattle.lf_cells.specs.Cells.{Cells, as_committed, cells_of, moved}
use Rattle.lf_cells.specs.Initial.{initial_cells, initial_components, own_cells}
use Rattle.lf_legalize.specs.Members.{IsSizedCell}
use Rattle.lf_placement.specs.Placements.{AreSized, Fits}
use Rattle.lf_placement.proofs.Moves.{same_moved}
use Rattle.lf_undo.specs.declared.moves.Move.{Move}
use Rattle.lf_undo.specs.Entries.{Places, entries_of}
use Rattle.lf_undo.specs.Stacks.{stack_of}
use Rattle.lf_floor_model.specs.Designs.{initial_floor}
use Rattle.lf_floor_model.specs.Outcomes.{places_of}
use Rattle.lf_floor_model.specs.States.{FloorState, TeamState}
use Rattle.lf_floor_model.specs.Teams.{IsTeamOf}
use Rattle.lf_floor_model.proofs.Kept.{sized_as}
use Rattle.lf_floor_model.proofs.Openings.{opened_team}
use Rattle.lf_floor.specs.Saved.{ShareDesign, fixed_cells, fixed_part}
use Rattle.lf_floor.proofs.KeepingDesign.{committed_fixed}
use Rattle.lf_floor.proofs.Placed.{fixed_same}
use Rattle.lf_floor_verbs.specs.declared.tables.Tables.{Tables}
use Rattle.lf_floor_verbs.specs.Tables.{AreInitial, AreTables, EntriesFit, table_cells, floor_in, frame_of, own_team, teams_in}
use Rattle.lf_floor.specs.StartUnplaced.{AreOfDesign, HaveSameCells, loaded_cells}
use Rattle.lf_floor.proofs.Restoring.{names_alike, same_head, same_tail}
use Rattle.lf_floor.proofs.Rows.{count_teams, each_team, opened_floor, opened_tables, replicate_each, team_at}

-- ---- the cells of all teams

pub same_cells : (cells : Cells) → HaveSameCells cells cells
same_cells cells = record { cells = λ k. refl; components = refl }

pub same_through : (a b c : Cells) → HaveSameCells a b → HaveSameCells b c → HaveSameCells a c
same_through a b c first next = record { cells = λ k. next.cells k ∙ first.cells k; components = next.components ∙ first.components }

set_fixed : (table : List (List Cell)) (team : ℕ) (cells : List Cell) → map fixed_part cells ≡ map fixed_part (slice_index_or table team [])
    → (k : ℕ) → map fixed_part (slice_index_or (slice_set table team cells) k []) ≡ map fixed_part (slice_index_or table k [])
set_fixed [] team cells same k = refl
set_fixed (cs ∷ table) zero cells same zero = same
set_fixed (cs ∷ table) zero cells same (suc k) = refl
set_fixed (cs ∷ table) (suc team) cells same zero = refl
set_fixed (cs ∷ table) (suc team) cells same (suc k) = set_fixed table team cells same k

-- the cells of one team are changed, and are still the same cells
one_set : (old new : Cells) (team : ℕ) (cells : List Cell) → map fixed_part cells ≡ map fixed_part (cells_of old team)
    → new.cells ≡ slice_set old.cells team cells → new.components ≡ old.components → HaveSameCells old new
one_set old new team cells same is components = record {
  cells = λ k. ap (λ (table : List (List Cell)). map fixed_part (slice_index_or table k [])) is ∙ set_fixed old.cells team cells same k;
  components = components;
}

pub one_moved : (old new : Cells) (team own : ℕ) (place : Option Place) → new.cells ≡ slice_set old.cells team (moved (cells_of old team) own place)
    → new.components ≡ old.components → HaveSameCells old new
one_moved old new team own place is components =
    one_set old new team (moved (cells_of old team) own place)
    (fixed_same (cells_of old team) (moved (cells_of old team) own place) (same_moved (cells_of old team) own place)) is components

pub one_committed : (old new : Cells) (team : ℕ) → new.cells ≡ slice_set old.cells team (map as_committed (cells_of old team))
    → new.components ≡ old.components → HaveSameCells old new
one_committed old new team is components = one_set old new team (map as_committed (cells_of old team)) (committed_fixed (cells_of old team)) is components

pub same_loaded : (design : Loaded) (built bare : Cells) → built.cells ≡ initial_cells design → built.components ≡ initial_components design
    → HaveSameCells built bare → HaveSameCells (loaded_cells design) bare
same_loaded design built bare cells components same = record {
  cells = λ k. same.cells k ∙ ap (λ (table : List (List Cell)). map fixed_part (slice_index_or table k [])) cells;
  components = same.components ∙ components;
}

-- ---- the cells of one team

cells_many : (cells others : List Cell) → map fixed_part cells ≡ map fixed_part others → length cells ≡ length others
cells_many cells others same =
    sym (length-map cells fixed_part) ∙ ap (λ (fs : List (List ℕ × ℕ)). length fs) same ∙ length-map others fixed_part

cells_sized : (f : Frame) (cells others : List Cell) → map fixed_part cells ≡ map fixed_part others → All (λ c. IsSizedCell f c) others → All (λ c. IsSizedCell f c) cells
cells_sized f [] others same all = All-nil (λ (c : Cell). IsSizedCell f c)
cells_sized f (c ∷ cs) [] same all = absurd cc
cells_sized f (c ∷ cs) (d ∷ ds) same all =
    All-cons (λ (c : Cell). IsSizedCell f c) c cs
    (sized_as f d c (ap (λ (x : List ℕ × ℕ). x.1) (same_head same)) (All-head (λ (c : Cell). IsSizedCell f c) d ds all))
    (cells_sized f cs ds (same_tail same) (All-tail (λ (c : Cell). IsSizedCell f c) d ds all))

cells_printed : (cells others : List Cell) → map fixed_part cells ≡ map fixed_part others → All (λ c. IsDesignName c.name) others → All (λ c. IsDesignName c.name) cells
cells_printed [] others same all = All-nil (λ (c : Cell). IsDesignName c.name)
cells_printed (c ∷ cs) [] same all = absurd cc
cells_printed (c ∷ cs) (d ∷ ds) same all =
    let name : d.name ≡ c.name = sym (ap (λ (x : List ℕ × ℕ). x.0) (same_head same)) in
    All-cons (λ (c : Cell). IsDesignName c.name) c cs
    (subst (λ (n : List ℕ). IsDesignName n) name (All-head (λ (c : Cell). IsDesignName c.name) d ds all))
    (cells_printed cs ds (same_tail same) (All-tail (λ (c : Cell). IsDesignName c.name) d ds all))

-- a team with these cells, wherever they are placed, and no undo entry
team_like : (f : Frame) (s : TeamState) (cells : List Cell) → IsTeamOf f s → map fixed_part cells ≡ map fixed_part s.cells
    → IsTeamOf f record { cells = cells; revision = s.revision; entries = []; slots = s.slots; padding = s.padding }
team_like f s cells is same = record {
  sized = cells_sized f cells s.cells same is.sized;
  printed = cells_printed cells s.cells same is.printed;
  names_differ = subst (λ (names : List (List ℕ)). AllPairs (λ a b. a ≢ b) names) (sym (names_alike cells s.cells same)) is.names_differ;
  few_cells = subst (λ (n : ℕ). n ≤ 4000000) (sym (cells_many cells s.cells same)) is.few_cells;
  all_slots = is.all_slots;
  whole_entries = All-nil (λ (ps : Places). length ps ≡ length cells);
  few_entries = omega arith;
  few_revisions = is.few_revisions;
  seen_past = is.seen_past;
}

-- ---- the cells of a design

past_end : {X : Type 0} (xs : List X) (k : ℕ) (d : X) → length xs ≤ k → get_or xs k d ≡ d
past_end [] k d past = refl
past_end (x ∷ xs) zero d past = absurd (omega (arith, past))
past_end (x ∷ xs) (suc k) d past = past_end xs k d (omega (arith, past))

-- a fact on the cells that a team is loaded with, and on no cells, holds for the cells of each team
each_loaded : (P : List Cell → Type 0) (design : Loaded) → ((k : ℕ) → P (own_cells k design.cells)) → P [] → (team : ℕ) → P (cells_of (loaded_cells design) team)
each_loaded P design own none team = by (nat_lt team (length design.frame.teams + 1)) refl where
  by : (b : Bool) → nat_lt team (length design.frame.teams + 1) ≡ b → P (cells_of (loaded_cells design) team)
  by true is =
      subst P
      (sym (get_or-map-range_with_len (λ (k : ℕ). own_cells k design.cells) 0 (length design.frame.teams + 1) team team [] (ltb-true team (length design.frame.teams + 1) is) (zero-add team)))
      (own team)
  by false is =
      subst P
      (sym (past_end (map (λ (k : ℕ). own_cells k design.cells) (range_with_len 0 (length design.frame.teams + 1))) team []
      (rw (length-map-range_with_len (λ (k : ℕ). own_cells k design.cells) 0 (length design.frame.teams + 1)) (ltb-false team (length design.frame.teams + 1) is))))
      none

pub sized_bare : (design : Loaded) (f : Frame) (cells : Cells) → f ≡ design.frame → HaveSameCells (loaded_cells design) cells → AreSized f cells
sized_bare design f cells is same = λ team.
    cells_sized f (cells_of cells team) (cells_of (loaded_cells design) team) (same.cells team)
    (subst (λ (g : Frame). All (λ c. IsSizedCell g c) (cells_of (loaded_cells design) team)) (sym is)
    (each_loaded (λ (cs : List Cell). All (λ c. IsSizedCell design.frame c) cs) design (λ k. (opened_team design k).sized)
    (All-nil (λ (c : Cell). IsSizedCell design.frame c)) team))

pub few_bare : (design : Loaded) (cells : Cells) → HaveSameCells (loaded_cells design) cells → (team : ℕ) → length (cells_of cells team) ≤ 4000000
few_bare design cells same = λ team.
    subst (λ (n : ℕ). n ≤ 4000000) (sym (cells_many (cells_of cells team) (cells_of (loaded_cells design) team) (same.cells team)))
    (each_loaded (λ (cs : List Cell). length cs ≤ 4000000) design (λ k. (opened_team design k).few_cells) (omega arith) team)

-- ---- all teams

-- teams with the same cells
fixed_each : (teams others : List TeamState) (d e : TeamState) → length teams ≡ length others
    → ((k : ℕ) → k < length others → fixed_cells (get_or teams k d) ≡ fixed_cells (get_or others k e)) → map fixed_cells teams ≡ map fixed_cells others
fixed_each [] [] d e many each = refl
fixed_each [] (u ∷ us) d e many each = absurd (omega (arith, many))
fixed_each (s ∷ ss) [] d e many each = absurd (omega (arith, many))
fixed_each (s ∷ ss) (u ∷ us) d e many each =
    ap (λ (f : List (List ℕ × ℕ)). f ∷ map fixed_cells ss) (each zero (omega arith))
    ∙ ap (λ (fs : List (List (List ℕ × ℕ))). fixed_cells u ∷ fs)
    (fixed_each ss us d e (omega (arith, many)) (λ k less. each (suc k) (omega (arith, less))))

module _ (design : Loaded) (tables : Tables) (are : AreOfDesign design tables) where
  -- the same tables with the cells as loaded
  abbrev opened : Tables
  opened = record tables { placement = record tables.placement { cells = loaded_cells design } }

  opens : AreInitial design opened
  opens = record {
    frame = are.frame;
    cells = refl;
    components = refl;
    undo = are.undo;
    limit = are.limit;
    sessions = are.sessions;
    revisions = are.revisions;
    paddings = are.paddings;
  }

  opened_are : AreTables opened
  opened_are = opened_tables design opened opens

  none_there : (k : ℕ) → stack_of tables.undo k ≡ []
  none_there k = ap (λ (xs : List (List (List Move))). slice_index_or xs k []) are.undo ∙ replicate_each (length design.frame.teams + 1) k

  own_entries : (k : ℕ) → (own_team k tables).entries ≡ []
  own_entries k = ap (λ (stack : List (List Move)). entries_of (places_of (table_cells k tables)) stack) (none_there k)

  one_team : (k : ℕ) → k < length tables.revisions.items → IsTeamOf (frame_of tables) (own_team k tables)
  one_team k less =
      let s = own_team k opened in
      subst (λ (es : List Places). IsTeamOf (frame_of tables) record { cells = table_cells k tables; revision = s.revision; entries = es; slots = s.slots; padding = s.padding })
      (sym (own_entries k))
      (team_like (frame_of tables) s (table_cells k tables) (each_team (λ t. IsTeamOf (frame_of tables) t) opened k opened_are.teams less) (are.cells.cells k))

  all_teams : All (λ t. IsTeamOf (frame_of tables) t) (teams_in tables)
  all_teams = λ k d less.
      let there : k < length tables.revisions.items = subst (λ (n : ℕ). k < n) (count_teams tables) less in
      subst (λ (s : TeamState). IsTeamOf (frame_of tables) s) (sym (team_at tables k d there)) (one_team k there)

  no_entries : (k : ℕ) → EntriesFit k tables
  no_entries k = subst (λ (es : List Places). All (λ (places : Places). Fits tables.placement k places) es) (sym (own_entries k)) (All-nil (λ (places : Places). Fits tables.placement k places))

  pub bare_tables : AreTables tables
  bare_tables = record {
    components = ap (λ (cs : List (List ℕ)). length cs) are.cells.components ∙ opened_are.components;
    undo = opened_are.undo;
    sessions = opened_are.sessions;
    revisions = opened_are.revisions;
    paddings = opened_are.paddings;
    limit = opened_are.limit;
    teams = all_teams;
    fit = no_entries;
  }

  same_teams : map fixed_cells (teams_in tables) ≡ map fixed_cells (teams_in opened)
  same_teams =
      let d = own_team 0 tables in
      fixed_each (teams_in tables) (teams_in opened) d d (count_teams tables ∙ sym (count_teams opened))
      (λ k less.
      let there : k < length tables.revisions.items = subst (λ (n : ℕ). k < n) (count_teams opened) less in
      ap fixed_cells (team_at tables k d there) ∙ are.cells.cells k ∙ sym (ap fixed_cells (team_at opened k d there)))

  pub bare_design : ShareDesign (initial_floor design) (floor_in tables)
  bare_design =
      subst (λ (f : FloorState). ShareDesign f (floor_in tables)) (opened_floor design opened opens)
      record { frame = refl; components = are.cells.components; cells = same_teams }
