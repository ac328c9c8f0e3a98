-- The committed and the working places of all cells of a floor's table are those of the floor.
use Rattle.std.proofs.Common.{◌≡◌, ℕ, ◌<◌, ◌≤◌, List, [], length, map, get_or, Option, Some, None, ◌⊎◌, inl, inr, refl, ap, sym, ◌∙◌, subst, arith}
use Rattle.std.specs.Prelude.{Contains, option_and_then, option_map, slice_get, unwrap_or}
use Rattle.std.proofs.lemmas.List.{get_or_past, length-map}
use Rattle.std.proofs.lemmas.List.Elements.{All-map, Contains-get_or}
use Rattle.std.proofs.lemmas.Option.{get_or_from_slice_get, slice_get_within}
use Rattle.lf_floorplan.specs.declared.place.Place.{Place}
use Rattle.lf_cells.specs.declared.cell.Cell.{Cell}
use Rattle.lf_cells.specs.declared.cell.CellId.{CellId}
use Rattle.lf_cells.specs.Cells.{AreAllIds, as_committed, cell_at, cells_of, committed_at, component_at, components_of, id_of, working_at}
use Rattle.lf_cells.proofs.Owners.{one_some, some_is}
use Rattle.lf_floor_model.specs.States.{FloorState, TeamState}
use Rattle.lf_floor_model.specs.Places.{AreCommittedPlaces, IsCommittedAt, cell_in, component_entry}
use Rattle.lf_floor_model.proofs.Openings.{map_at, pairs_map}
use Rattle.lf_floor_verbs.specs.declared.tables.Tables.{Tables}
use Rattle.lf_floor.specs.Entries.{committed_entry, working_entry}
use Rattle.lf_floor.specs.Working.{ListsWorkingPlaces, with_working, with_working_team}
use Rattle.lf_floor_verbs.specs.Tables.{AreTables, floor_in, teams_in}
use Rattle.lf_floor.proofs.Rows.{count_teams, team_there}
use Rattle.lf_floor.proofs.Saving.{get_mapped}

-- an element of a list, mapped, is an element of the mapped list
contains_mapped : {X Y : Type 0} (f : X → Y) (xs : List X) (x : X) → Contains xs x → Contains (map f xs) (f x)
contains_mapped f xs x (k, within, is) =
    (k, rw (length-map xs f) within, map_at f xs k (f x) x within ∙ ap f is)

some_team : (own : ℕ) (c : Cell) (o : Option TeamState) → option_and_then (λ (s : TeamState). slice_get s.cells own) o ≡ Some c → (s : TeamState) × (o ≡ Some s)
some_team own c None e = absurd (cc)
some_team own c (Some s) e = (s, refl)

within_or_past : (a b : ℕ) → (a < b) ⊎ (b ≤ a)
within_or_past a b = grind arith

-- a list with an element is one of the rows
row_within : (rows : List (List ℕ)) (number own position : ℕ) → slice_get (get_or rows number []) own ≡ Some position → number < length rows
row_within rows number own position e = by (within_or_past number (length rows)) where
  by : (number < length rows) ⊎ (length rows ≤ number) → number < length rows
  by (inl within) = within
  by (inr past) =
      let none : slice_get [] own ≡ Some position = ap (λ (row : List ℕ). slice_get row own) (sym (get_or_past rows number [] past)) ∙ e in
      absurd (cc)

-- the cells of a floor with its working places committed
by_team : (own : ℕ) (o : Option TeamState)
    → option_and_then (λ (s : TeamState). slice_get s.cells own) (option_map with_working_team o)
    ≡ option_map as_committed (option_and_then (λ (s : TeamState). slice_get s.cells own) o)
by_team own None = refl
by_team own (Some s) = get_mapped as_committed s.cells own

working_cell : (floor : FloorState) (number own : ℕ) → cell_in (with_working floor) number own ≡ option_map as_committed (cell_in floor number own)
working_cell floor number own =
    ap (λ (o : Option TeamState). option_and_then (λ (s : TeamState). slice_get s.cells own) o) (get_mapped with_working_team floor.teams number)
    ∙ by_team own (slice_get floor.teams number)

mapped_some : (o : Option Cell) (c : Cell) → option_map as_committed o ≡ Some c → (d : Cell) × (o ≡ Some d) × (as_committed d ≡ c)
mapped_some None c e = absurd (cc)
mapped_some (Some d) c e = (d, refl, ap (λ (p : Option Cell). unwrap_or p c) e)

module _ (tables : Tables) (are : AreTables tables) where
  cell_there : (number own : ℕ) → number < length tables.revisions.items → cell_in (floor_in tables) number own ≡ cell_at tables.placement.cells (id_of number own)
  cell_there number own within = ap (λ (o : Option TeamState). option_and_then (λ (s : TeamState). slice_get s.cells own) o) (team_there tables number within)

  cell_within : (number own : ℕ) (c : Cell) → cell_in (floor_in tables) number own ≡ Some c → number < length tables.revisions.items
  cell_within number own c there =
      let found = some_team own c (slice_get (teams_in tables) number) there in
      rw (← count_teams tables) (slice_get_within (teams_in tables) number found.0 found.1)

  entry_within : (number own position : ℕ) → component_entry (floor_in tables) number own ≡ Some position → number < length tables.revisions.items
  entry_within number own position there =
      omega (arith, row_within tables.placement.cells.components number own position there, are.components, are.revisions)

  module _ (ids : List CellId) (all : AreAllIds tables.placement.cells ids) where
    -- the entry of an existing cell
    entry_is : (id : CellId) (position : ℕ) (c : Cell) → component_at tables.placement.cells id ≡ Some position → cell_at tables.placement.cells id ≡ Some c
        → committed_entry tables.placement.cells id ≡ (position, c.committed)
    entry_is id position c entry cell =
        ap (λ (k : ℕ). (k, committed_at (cells_of tables.placement.cells id.team) id.own))
        (get_or_from_slice_get (components_of tables.placement.cells id.team) id.own position 0 entry)
        ∙ ap (λ (o : Option Cell). (position, option_and_then (λ (d : Cell). d.committed) o)) cell

    one_cell : (id : CellId) → Contains ids id → (c : Cell) × (cell_at tables.placement.cells id ≡ Some c)
    one_cell id there = one_some (cell_at tables.placement.cells id) ((all.cells id).0 there)

    one_entry : (id : CellId) → Contains ids id → (position : ℕ) × (component_at tables.placement.cells id ≡ Some position)
    one_entry id there = one_some (component_at tables.placement.cells id) ((all.entries id).0 there)

    listed : (id : CellId) (position : ℕ) (c : Cell) → Contains ids id → component_at tables.placement.cells id ≡ Some position → cell_at tables.placement.cells id ≡ Some c
        → Contains (map (committed_entry tables.placement.cells) ids) (position, c.committed)
    listed id position c there entry cell =
        subst (λ (e : ℕ × Option Place). Contains (map (committed_entry tables.placement.cells) ids) e) (entry_is id position c entry cell)
        (contains_mapped (committed_entry tables.placement.cells) ids id there)

    theirs : (id : CellId) → Contains ids id → (number : ℕ) × (own : ℕ) × IsCommittedAt (floor_in tables) number own (committed_entry tables.placement.cells id)
    theirs id there =
        let entry = one_entry id there in
        let cell = one_cell id there in
        let is = entry_is id entry.0 cell.0 entry.1 cell.1 in
        let within = entry_within id.team id.own entry.0 entry.1 in (
          id.team,
          id.own,
          record {
            position = entry.1 ∙ ap (λ (e : ℕ × Option Place). Some e.0) (sym is);
            place =
                ap (option_map (λ (c : Cell). c.committed)) (cell_there id.team id.own within ∙ cell.1)
                ∙ ap (λ (e : ℕ × Option Place). Some e.1) (sym is);
          },
        )

    -- the places of all cells of the tables are the committed places of the floor
    pub all_places : AreCommittedPlaces (floor_in tables) (map (committed_entry tables.placement.cells) ids)
    all_places = record {
      rise = pairs_map (committed_entry tables.placement.cells) (λ (a : ℕ × Option Place) (b : ℕ × Option Place). a.0 < b.0) ids all.rise;
      theirs =
          All-map (λ (e : ℕ × Option Place). (number : ℕ) × (own : ℕ) × IsCommittedAt (floor_in tables) number own e) (committed_entry tables.placement.cells) ids
          (λ k d within. theirs (get_or ids k d) (Contains-get_or ids k d within));
      cells = λ number own c there.
          let cell = sym (cell_there number own (cell_within number own c there)) ∙ there in
          let id = id_of number own in
          let held = (all.cells id).1 (some_is (cell_at tables.placement.cells id) c cell) in
          let entry = one_entry id held in
          (entry.0, entry.1, listed id entry.0 c held entry.1 cell);
      entries = λ number own position there.
          let id = id_of number own in
          let held = (all.entries id).1 (some_is (component_at tables.placement.cells id) position there) in
          let cell = one_cell id held in
          (cell.0, cell_there number own (entry_within number own position there) ∙ cell.1, listed id position cell.0 held there cell.1);
    }

    -- the same for working places
    working_is : (id : CellId) (position : ℕ) (c : Cell) → component_at tables.placement.cells id ≡ Some position → cell_at tables.placement.cells id ≡ Some c
        → working_entry tables.placement.cells id ≡ (position, c.working)
    working_is id position c entry cell =
        ap (λ (k : ℕ). (k, working_at (cells_of tables.placement.cells id.team) id.own))
        (get_or_from_slice_get (components_of tables.placement.cells id.team) id.own position 0 entry)
        ∙ ap (λ (o : Option Cell). (position, option_and_then (λ (d : Cell). d.working) o)) cell

    working_there : (number own : ℕ) (c : Cell) → number < length tables.revisions.items → cell_at tables.placement.cells (id_of number own) ≡ Some c
        → cell_in (with_working (floor_in tables)) number own ≡ Some (as_committed c)
    working_there number own c within cell =
        working_cell (floor_in tables) number own ∙ ap (option_map as_committed) (cell_there number own within ∙ cell)

    listed_working : (id : CellId) (position : ℕ) (c : Cell) → Contains ids id → component_at tables.placement.cells id ≡ Some position
        → cell_at tables.placement.cells id ≡ Some c → Contains (map (working_entry tables.placement.cells) ids) (position, c.working)
    listed_working id position c there entry cell =
        subst (λ (e : ℕ × Option Place). Contains (map (working_entry tables.placement.cells) ids) e) (working_is id position c entry cell)
        (contains_mapped (working_entry tables.placement.cells) ids id there)

    theirs_working : (id : CellId) → Contains ids id
        → (number : ℕ) × (own : ℕ) × IsCommittedAt (with_working (floor_in tables)) number own (working_entry tables.placement.cells id)
    theirs_working id there =
        let entry = one_entry id there in
        let cell = one_cell id there in
        let is = working_is id entry.0 cell.0 entry.1 cell.1 in
        let within = entry_within id.team id.own entry.0 entry.1 in (
          id.team,
          id.own,
          record {
            position = entry.1 ∙ ap (λ (e : ℕ × Option Place). Some e.0) (sym is);
            place =
                ap (option_map (λ (c : Cell). c.committed)) (working_there id.team id.own cell.0 within cell.1)
                ∙ ap (λ (e : ℕ × Option Place). Some e.1) (sym is);
          },
        )

    pub all_working : ListsWorkingPlaces (floor_in tables) (map (working_entry tables.placement.cells) ids)
    all_working = record {
      rise = pairs_map (working_entry tables.placement.cells) (λ (a : ℕ × Option Place) (b : ℕ × Option Place). a.0 < b.0) ids all.rise;
      theirs =
          All-map (λ (e : ℕ × Option Place). (number : ℕ) × (own : ℕ) × IsCommittedAt (with_working (floor_in tables)) number own e)
          (working_entry tables.placement.cells) ids
          (λ k d within. theirs_working (get_or ids k d) (Contains-get_or ids k d within));
      cells = λ number own c there.
          let back = mapped_some (cell_in (floor_in tables) number own) c (sym (working_cell (floor_in tables) number own) ∙ there) in
          let cell = sym (cell_there number own (cell_within number own back.0 back.1)) ∙ back.1 in
          let id = id_of number own in
          let held = (all.cells id).1 (some_is (cell_at tables.placement.cells id) back.0 cell) in
          let entry = one_entry id held in (
            entry.0,
            entry.1,
            subst (λ (d : Cell). Contains (map (working_entry tables.placement.cells) ids) (entry.0, d.committed)) back.2
                (listed_working id entry.0 back.0 held entry.1 cell),
          );
      entries = λ number own position there.
          let id = id_of number own in
          let held = (all.entries id).1 (some_is (component_at tables.placement.cells id) position there) in
          let cell = one_cell id held in (
            as_committed cell.0,
            working_there number own cell.0 (entry_within number own position there) cell.1,
            listed_working id position cell.0 held there cell.1,
          );
    }
