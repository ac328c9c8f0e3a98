-- The teams of a floor by their numbers.
use Rattle.std.proofs.Common.{◌≡◌, ◌∙◌, ◌<◌, ℕ, List, length, map, Option, Some, None, sym, ap, subst}
use Rattle.std.specs.Prelude.{slice_get, option_map}
use Rattle.std.proofs.lemmas.Option.{slice_get_within}
use Rattle.lf_rules.specs.Team.{IsLegalCell}
use Rattle.lf_cells.specs.declared.cell.Cell.{Cell}
use Rattle.lf_cells.specs.declared.cell.CellId.{CellId}
use Rattle.lf_cells.specs.Cells.{id_in, id_of}
use Rattle.lf_legalize.specs.Members.{member_of}
use Rattle.lf_floor_model.specs.States.{TeamState, FloorState}
use Rattle.lf_floor_model.proofs.LegalPlaces.{some_one}
use Rattle.lf_floor_verbs.specs.declared.tables.Tables.{Tables}
use Rattle.lf_placement.proofs.Moves.{id_there}
use Rattle.lf_floor_verbs.specs.Tables.{table_cells, floor_in, frame_of, own_team, padding_of, teams_in}
use Rattle.lf_floor_verbs.proofs.IllegalCells.{cell_there}
use Rattle.lf_floor.proofs.Rows.{count_teams, team_there}

-- the team of that number in the view
pub seen_is : (tables : Tables) (view : FloorState) (number : ℕ) (s : TeamState) → floor_in tables ≡ view → slice_get view.teams number ≡ Some s
    → s ≡ own_team number tables
seen_is tables view number s is there =
    let here : slice_get (teams_in tables) number ≡ Some s = ap (λ (v : FloorState). slice_get v.teams number) is ∙ there in
    let within : number < length (teams_in tables) = slice_get_within (teams_in tables) number s here in
    some_one (sym here ∙ team_there tables number (rw (sym (count_teams tables)) within))

-- a position without an id has no cell
pub no_cell_at : (cells : List Cell) (number own : ℕ) → id_in cells number own ≡ None → own < length cells → ⊥
no_cell_at cells number own none within = go (cell_there cells own within) where
  go : (c : Cell) × (slice_get cells own ≡ Some c) → ⊥
  go found = some_none (sym (ap (λ (o : Option Cell). option_map (λ (c : Cell). id_of number own) o) found.1) ∙ none) where
    some_none : Some (id_of number own) ≡ None → ⊥
    some_none e = cc

-- the fact on the cell of an id in the tables holds for the team of its number in the view
pub legal_seen : (tables : Tables) (view : FloorState) (number own sites : ℕ) (id : CellId) (s : TeamState) → floor_in tables ≡ view
    → id_in (table_cells number tables) number own ≡ Some id → sites ≡ padding_of tables number → slice_get view.teams number ≡ Some s
    → IsLegalCell (frame_of tables) id.team sites (map member_of (table_cells id.team tables)) id.own
    → IsLegalCell view.frame number s.padding (map member_of s.cells) own
legal_seen tables view number own sites id s is there padding at legal =
    let same : id ≡ id_of number own = id_there (table_cells number tables) number own id there in
    let team : s ≡ own_team number tables = seen_is tables view number s is at in
    subst (λ (v : FloorState). IsLegalCell v.frame number s.padding (map member_of s.cells) own) is
    (subst (λ (t : TeamState). IsLegalCell (frame_of tables) number t.padding (map member_of t.cells) own) (sym team)
    (subst (λ (n : ℕ). IsLegalCell (frame_of tables) number n (map member_of (table_cells number tables)) own) padding
    (subst (λ (i : CellId). IsLegalCell (frame_of tables) i.team sites (map member_of (table_cells i.team tables)) i.own) same legal)))

pub legal_unseen : (tables : Tables) (view : FloorState) (number own sites : ℕ) (id : CellId) (s : TeamState) → floor_in tables ≡ view
    → id_in (table_cells number tables) number own ≡ Some id → sites ≡ padding_of tables number → slice_get view.teams number ≡ Some s
    → IsLegalCell view.frame number s.padding (map member_of s.cells) own
    → IsLegalCell (frame_of tables) id.team sites (map member_of (table_cells id.team tables)) id.own
legal_unseen tables view number own sites id s is there padding at legal =
    let same : id ≡ id_of number own = id_there (table_cells number tables) number own id there in
    let team : s ≡ own_team number tables = seen_is tables view number s is at in
    subst (λ (i : CellId). IsLegalCell (frame_of tables) i.team sites (map member_of (table_cells i.team tables)) i.own) (sym same)
    (subst (λ (n : ℕ). IsLegalCell (frame_of tables) number n (map member_of (table_cells number tables)) own) (sym padding)
    (subst (λ (t : TeamState). IsLegalCell (frame_of tables) number t.padding (map member_of t.cells) own) team
    (subst (λ (v : FloorState). IsLegalCell v.frame number s.padding (map member_of s.cells) own) (sym is) legal)))

pub within_seen : (tables : Tables) (view : FloorState) (number own : ℕ) (id : CellId) (s : TeamState) → floor_in tables ≡ view
    → id_in (table_cells number tables) number own ≡ Some id → slice_get view.teams number ≡ Some s → own < length s.cells
    → id.own < length (table_cells id.team tables)
within_seen tables view number own id s is there at within =
    let same : id ≡ id_of number own = id_there (table_cells number tables) number own id there in
    let team : s ≡ own_team number tables = seen_is tables view number s is at in
    subst (λ (i : CellId). i.own < length (table_cells i.team tables)) (sym same) (subst (λ (t : TeamState). own < length t.cells) team within)

pub no_cell_seen : (tables : Tables) (view : FloorState) (number own : ℕ) (s : TeamState) → floor_in tables ≡ view
    → id_in (table_cells number tables) number own ≡ None → slice_get view.teams number ≡ Some s → own < length s.cells → ⊥
no_cell_seen tables view number own s is none at within =
    no_cell_at (table_cells number tables) number own none (subst (λ (t : TeamState). own < length t.cells) (seen_is tables view number s is at) within)
