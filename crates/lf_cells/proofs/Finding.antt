-- A team's cell by its name: the owner of the name, if it is a cell of the team.
use Rattle.std.proofs.Common.{◌≡◌, ℕ, zero, suc, ◌+◌, ◌<◌, Bool, true, false, cond, List, [], ◌∷◌, length}
use Rattle.std.proofs.Common.{map, get_or, Option, Some, None, refl, ap, sym, ◌∙◌, add-zero, zero-add, arith}
use Rattle.std.specs.Prelude.{slice_get, bytes_eq}
use Rattle.std.specs.List.{position_from, range_with_len}
use Rattle.std.proofs.lemmas.Iterator.Adapters.{position_from-zero}
use Rattle.std.proofs.lemmas.Option.{slice_get-get_or, slice_get_within, get_or_from_slice_get}
use Rattle.std.proofs.lemmas.List.{length-map}
use Rattle.std.proofs.lemmas.Slice.Eq.{bytes_eq-Decides}
use Rattle.lf_names.specs.Names.{position_of}
use Rattle.lf_names.proofs.Positions.{found_there, is_found_there}
use Rattle.lf_cells.specs.declared.cell.Cell.{Cell}
use Rattle.lf_cells.specs.declared.cell.CellId.{CellId}
use Rattle.lf_cells.specs.declared.records.CellRecord.{CellRecord}
use Rattle.lf_cells.specs.declared.table_parts.TableParts.{TableParts}
use Rattle.lf_cells.specs.Cells.{Cells, cells_of, cell_named, id_of, ids_of}
use Rattle.lf_cells.specs.Records.{cell_with_name, labels, labels_in, AreIndexed, table_of}
use Rattle.lf_cells.proofs.Lists.{map_at}

-- The search for the first cell with this name.
search_from : List ℕ → ℕ → List Cell → Option ℕ
search_from name n cells = position_from (λ (c : Cell). bytes_eq c.name name) n cells

first_from : (names : List (List ℕ)) (slots : List CellRecord) (name : List ℕ) (label own n : ℕ) → bytes_eq (get_or names label []) name ≡ true
    → slice_get (labels slots) own ≡ Some label
    → ((k l : ℕ) → k < own → slice_get (labels slots) k ≡ Some l → bytes_eq (get_or names l []) name ≡ false)
    → search_from name n (map (cell_with_name names) slots) ≡ Some (n + own)
unfolding search_from
first_from names [] name label own n is at early = cc
first_from names (s ∷ ss) name label zero n is at early =
    let same : s.label ≡ label = cc in
    let test : bytes_eq (get_or names s.label []) name ≡ true = rw same is in
    ap (λ (t : Bool). cond t (Some n) (search_from name (n + 1) (map (cell_with_name names) ss))) test ∙ ap (λ (k : ℕ). Some k) (sym (add-zero n))
first_from names (s ∷ ss) name label (suc own) n is at early =
    let shift : n + 1 + own ≡ n + suc own = omega arith in
    ap (λ (t : Bool). cond t (Some n) (search_from name (n + 1) (map (cell_with_name names) ss))) (early 0 s.label (omega arith) refl)
    ∙ first_from names ss name label own (n + 1) is at (λ k l below there. early (suc k) l (omega (arith, below)) there)
    ∙ ap (λ (k : ℕ). Some k) shift

none_from : (names : List (List ℕ)) (slots : List CellRecord) (name : List ℕ) (n : ℕ)
    → ((k l : ℕ) → slice_get (labels slots) k ≡ Some l → bytes_eq (get_or names l []) name ≡ false)
    → search_from name n (map (cell_with_name names) slots) ≡ None
unfolding search_from
none_from names [] name n fails = refl
none_from names (s ∷ ss) name n fails =
    ap (λ (t : Bool). cond t (Some n) (search_from name (n + 1) (map (cell_with_name names) ss))) (fails 0 s.label refl)
    ∙ none_from names ss name (n + 1) (λ k l there. fails (suc k) l there)

-- The team's cells in the lists of a table.
own_of : TableParts → ℕ → List CellRecord
own_of p team = get_or p.teams.items team []

named_is : (p : TableParts) (table : Cells) (name : List ℕ) (team : ℕ) → table_of p ≡ table
    → cell_named name (cells_of table team) ≡ search_from name 0 (map (cell_with_name p.names) (own_of p team))
unfolding search_from own_of
named_is p table name team view =
    ap (λ (t : Cells). cell_named name (cells_of t team)) (sym view)
    ∙ ap (λ (cells : List Cell). cell_named name cells) (map_at (λ (slots : List CellRecord). map (cell_with_name p.names) slots) p.teams.items team [])
    ∙ position_from-zero (λ (c : Cell). bytes_eq c.name name) (map (cell_with_name p.names) (get_or p.teams.items team []))

label_of : (p : TableParts) (team k : ℕ) → slice_get (get_or (labels_in p.teams.items) team []) k ≡ slice_get (labels (own_of p team)) k
unfolding own_of
label_of p team k = ap (λ (l : List ℕ). slice_get l k) (map_at labels p.teams.items team [])

many_are : (p : TableParts) (table : Cells) (team : ℕ) → table_of p ≡ table → length (cells_of table team) ≡ length (own_of p team)
unfolding own_of
many_are p table team view =
    ap (λ (t : Cells). length (cells_of t team)) (sym view)
    ∙ ap (λ (cells : List Cell). length cells) (map_at (λ (slots : List CellRecord). map (cell_with_name p.names) slots) p.teams.items team [])
    ∙ length-map (get_or p.teams.items team []) (cell_with_name p.names)

-- The ids that a table stores for a team are those of its cells.
pub ids_are : (p : TableParts) (table : Cells) (team : ℕ) → AreIndexed p → table_of p ≡ table → get_or p.ids.items team [] ≡ ids_of team (cells_of table team)
unfolding own_of
ids_are p table team indexed view =
    let many : length (get_or (labels_in p.teams.items) team []) ≡ length (cells_of table team) =
    ap (λ (l : List ℕ). length l) (map_at labels p.teams.items team [])
    ∙ length-map (get_or p.teams.items team []) (λ (s : CellRecord). s.label) ∙ sym (many_are p table team view) in
    indexed.ids.listed team ∙ ap (λ (k : ℕ). map (λ (own : ℕ). id_of team own) (range_with_len 0 k)) many

-- A cell with this name: the position of its name is that of the name, and it is the owner.
pub record Bears (p : TableParts) (name : List ℕ) (team k l : ℕ) : Type 0 where
  pub position : position_of p.names name ≡ Some l
  pub owner : slice_get p.owners.items l ≡ Some (id_of team k)

bears : (p : TableParts) (name : List ℕ) (team k l : ℕ) → AreIndexed p → slice_get (labels (own_of p team)) k ≡ Some l → bytes_eq (get_or p.names l []) name ≡ true
    → Bears p name team k l
bears p name team k l indexed there same =
    let owner : slice_get p.owners.items l ≡ Some (id_of team k) = (indexed.index.owned (id_of team k) l).1 (label_of p team k ∙ there) in
    let within : l < length p.owners.items = slice_get_within p.owners.items l (id_of team k) owner in
    let inside : l < length p.names = omega (arith, within, indexed.many) in
    let is : get_or p.names l [] ≡ name = (bytes_eq-Decides (get_or p.names l []) name).0 same in
    let at : slice_get p.names l ≡ Some name = slice_get-get_or p.names l [] inside ∙ ap (λ (n : List ℕ). Some n) is in
    record { position = found_there p.names name l indexed.differ at; owner = owner }

-- A test that cannot be true is false.
refuted : (t : Bool) → (t ≡ true → ⊥) → t ≡ false
refuted true fails = absurd (fails refl)
refuted false fails = refl

pub no_own : (p : TableParts) (table : Cells) (name : List ℕ) (team : ℕ) → AreIndexed p → table_of p ≡ table → position_of p.names name ≡ None
    → cell_named name (cells_of table team) ≡ None
no_own p table name team indexed view absent =
    let none : search_from name 0 (map (cell_with_name p.names) (own_of p team)) ≡ None =
    none_from p.names (own_of p team) name 0
    (λ k l there. refuted (bytes_eq (get_or p.names l []) name) (λ same. let b = bears p name team k l indexed there same in cc (b.position, absent))) in
    named_is p table name team view ∙ none

pub other_own : (p : TableParts) (table : Cells) (name : List ℕ) (team label : ℕ) (id : CellId) → AreIndexed p → table_of p ≡ table
    → position_of p.names name ≡ Some label → slice_get p.owners.items label ≡ Some id
    → (id.team ≡ team → ⊥) → cell_named name (cells_of table team) ≡ None
other_own p table name team label id indexed view found owner other =
    let none : search_from name 0 (map (cell_with_name p.names) (own_of p team)) ≡ None =
    none_from p.names (own_of p team) name 0 (λ k l there. refuted (bytes_eq (get_or p.names l []) name) (λ same.
    let b = bears p name team k l indexed there same in
    let at : l ≡ label = cc (b.position, found) in
    let whose : slice_get p.owners.items label ≡ Some (id_of team k) = rw at at b.owner in
    let is : id ≡ id_of team k = cc (whose, owner) in
    other (ap (λ (i : CellId). i.team) is))) in
    named_is p table name team view ∙ none

pub found_own : (p : TableParts) (table : Cells) (name : List ℕ) (team label : ℕ) (id : CellId) → AreIndexed p → table_of p ≡ table
    → position_of p.names name ≡ Some label → slice_get p.owners.items label ≡ Some id
    → id.team ≡ team → cell_named name (cells_of table team) ≡ Some id.own
found_own p table name team label id indexed view found owner own =
    let there : slice_get (labels (own_of p id.team)) id.own ≡ Some label = sym (label_of p id.team id.own) ∙ (indexed.index.owned id label).0 owner in
    let at : get_or p.names label [] ≡ name = get_or_from_slice_get p.names label name [] (is_found_there p.names name label found) in
    let test : bytes_eq (get_or p.names label []) name ≡ true = rw at ((bytes_eq-Decides name name).1 refl) in
    let first : search_from name 0 (map (cell_with_name p.names) (own_of p id.team)) ≡ Some id.own =
    first_from p.names (own_of p id.team) name label id.own 0 test there (λ k l below before. refuted (bytes_eq (get_or p.names l []) name) (λ same.
    let b = bears p name id.team k l indexed before same in
    let at : l ≡ label = cc (b.position, found) in
    let whose : slice_get p.owners.items label ≡ Some (id_of id.team k) = rw at at b.owner in
    let is : id ≡ id_of id.team k = cc (whose, owner) in
    let place : id.own ≡ k = ap (λ (i : CellId). i.own) is in
    absurd (omega (arith, below, place)))) ∙ ap (λ (k : ℕ). Some k) (zero-add id.own) in
    rw (← own) (named_is p table name id.team view ∙ first)

-- The owner of a name is among its team's cells.
pub found_within : (p : TableParts) (table : Cells) (team label : ℕ) (id : CellId) → AreIndexed p → table_of p ≡ table → slice_get p.owners.items label ≡ Some id
    → id.team ≡ team → id.own < length (cells_of table team)
found_within p table team label id indexed view owner own =
    let there : slice_get (labels (own_of p id.team)) id.own ≡ Some label = sym (label_of p id.team id.own) ∙ (indexed.index.owned id label).0 owner in
    let within : id.own < length (labels (own_of p id.team)) = slice_get_within (labels (own_of p id.team)) id.own label there in
    rw (← own) (omega (arith, within, length-map (own_of p id.team) (λ (s : CellRecord). s.label), many_are p table id.team view))
