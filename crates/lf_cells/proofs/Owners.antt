-- The owners of the names are the ids of all cells, in the order of the entries of the cells.
use Rattle.std.proofs.Common.{◌≡◌, ℕ, zero, suc, ◌+◌, ◌<◌, Bool, true, false, cond, eqb, List, [], ◌∷◌, length, map, get_or}
use Rattle.std.proofs.Common.{Option, Some, None, refl, ap, sym, ◌∙◌, add-zero, arith}
use Rattle.std.specs.Prelude.{◌↔◌, AllPairs, Contains, IsSome, option_map, slice_get}
use Rattle.std.specs.Option.{is_some}
use Rattle.std.proofs.lemmas.Option.{slice_get-map, slice_get_within, slice_get-get_or, get_or_from_slice_get}
use Rattle.lf_floorplan.specs.declared.cells.UnnamedCell.{UnnamedCell}
use Rattle.lf_cells.specs.declared.cell.CellId.{CellId}
use Rattle.lf_cells.specs.declared.records.CellRecord.{CellRecord}
use Rattle.lf_cells.specs.declared.table_parts.TableParts.{TableParts}
use Rattle.lf_cells.specs.Cells.{Cells, AreAllIds, cell_at, component_at}
use Rattle.lf_cells.specs.Records.{initial_record, own_records, cell_with_name, components_in, labels, labels_in, label_at, record_at, position_in}
use Rattle.lf_cells.specs.Records.{table_of, AreIndexed, AreAdded}
use Rattle.lf_cells.proofs.Lists.{map_at}
use Rattle.lf_cells.proofs.Looks.{cell_is, component_is, owner_is}

-- ---- one record

-- The record of a cell whose name has this position.
record HasSlot (p : TableParts) (id : CellId) (label : ℕ) : Type 0 where
  slot : CellRecord
  there : record_at p.teams.items id ≡ Some slot
  label_is : slot.label ≡ label

some_slot : (o : Option CellRecord) (label : ℕ) → option_map (λ (s : CellRecord). s.label) o ≡ Some label → (s : CellRecord) × (o ≡ Some s) × (s.label ≡ label)
some_slot None label e = absurd (cc)
some_slot (Some s) label e = (s, refl, cc)

-- The owner of a name has its record.
owner_slot : (p : TableParts) (id : CellId) (label : ℕ) → label_at (labels_in p.teams.items) id ≡ Some label → HasSlot p id label
owner_slot p id label at =
    let seen : option_map (λ (s : CellRecord). s.label) (record_at p.teams.items id) ≡ Some label =
    sym (slice_get-map (λ (s : CellRecord). s.label) (get_or p.teams.items id.team []) id.own)
    ∙ ap (λ (l : List ℕ). slice_get l id.own) (sym (map_at labels p.teams.items id.team [])) ∙ at in
    let found = some_slot (record_at p.teams.items id) label seen in
    record { slot = found.0; there = found.1; label_is = found.2 }

-- The position of the entry is that of the record.
slot_position : (p : TableParts) (id : CellId) (s : CellRecord) → record_at p.teams.items id ≡ Some s → position_in (components_in p.teams.items) id ≡ s.component
slot_position p id s there =
    ap (λ (cs : List ℕ). get_or cs id.own 0) (map_at (λ (slots : List CellRecord). map (λ (x : CellRecord). x.component) slots) p.teams.items id.team [])
    ∙ get_or_from_slice_get (map (λ (x : CellRecord). x.component) (get_or p.teams.items id.team [])) id.own s.component 0
    (slice_get-map (λ (x : CellRecord). x.component) (get_or p.teams.items id.team []) id.own ∙ ap (option_map (λ (x : CellRecord). x.component)) there)

-- ---- the order of the entries

-- The record is that of one of the cells, the first of them with this label.
record IsFrom (n : ℕ) (cells : List UnnamedCell) (s : CellRecord) : Type 0 where
  place : ℕ
  label_is : s.label ≡ n + place
  entry : (d : UnnamedCell) → s.component ≡ (get_or cells place d).component

slot_from : (number n : ℕ) (cells : List UnnamedCell) (own : ℕ) (s : CellRecord) → slice_get (own_records number n cells) own ≡ Some s → IsFrom n cells s
slot_from number n [] own s e = absurd (cc)
slot_from number n (c ∷ cs) own s e = go (eqb c.team number) own (λ k at. slot_from number (n + 1) cs k s at) e where
  later : IsFrom (n + 1) cs s → IsFrom n (c ∷ cs) s
  later is = record { place = suc is.place; label_is = omega (arith, is.label_is); entry = is.entry }

  first : Some (initial_record n c) ≡ Some s → IsFrom n (c ∷ cs) s
  first e = let same : initial_record n c ≡ s = cc in
      record { place = 0; label_is = sym (ap (λ (x : CellRecord). x.label) same) ∙ sym (add-zero n); entry = λ d. sym (ap (λ (x : CellRecord). x.component) same) }

  go : (b : Bool) (k : ℕ) → ((i : ℕ) → slice_get (own_records number (n + 1) cs) i ≡ Some s → IsFrom (n + 1) cs s)
      → slice_get (cond b (initial_record n c ∷ own_records number (n + 1) cs) (own_records number (n + 1) cs)) k ≡ Some s → IsFrom n (c ∷ cs) s
  go true zero rest e = first e
  go true (suc k) rest e = later (rest k e)
  go false k rest e = later (rest k e)

-- The position of the entry of the owner of a name is that of the cell with that name.
owner_position : (names : List (List ℕ)) (cells : List UnnamedCell) (count : ℕ) (p : TableParts) → AreAdded names cells count p → (i : ℕ) (id : CellId) (d : UnnamedCell)
    → slice_get p.owners.items i ≡ Some id → position_in (components_in p.teams.items) id ≡ (get_or cells i d).component
owner_position names cells count p taken i id d there =
    let has = owner_slot p id i ((taken.index.owned id i).0 there) in
    let own : slice_get (own_records id.team 0 cells) id.own ≡ Some has.slot =
    ap (λ (ss : List CellRecord). slice_get ss id.own) (sym (taken.each id.team)) ∙ has.there in
    let is = slot_from id.team 0 cells id.own has.slot own in
    let at : is.place ≡ i = omega (arith, is.label_is, has.label_is) in
    slot_position p id has.slot has.there ∙ is.entry d ∙ ap (λ (k : ℕ). (get_or cells k d).component) at

a_cell : (cells : List UnnamedCell) (j : ℕ) → j < length cells → UnnamedCell
a_cell [] j within = absurd (omega (arith, within))
a_cell (c ∷ cs) j within = c

-- The owners of a table that is built are in the order of the entries.
pub owners_rise : (names : List (List ℕ)) (cells : List UnnamedCell) (count : ℕ) (p : TableParts) → AllPairs (λ a b. a.component < b.component) cells → AreAdded names cells count p
    → AllPairs (λ id later. position_in (components_in p.teams.items) id < position_in (components_in p.teams.items) later) p.owners.items
owners_rise names cells count p rise taken i j e less within =
    let inside : j < length cells = omega (arith, within, taken.many) in
    let c = a_cell cells j inside in
    rw (
      owner_position names cells count p taken i (get_or p.owners.items i e) c (slice_get-get_or p.owners.items i e (omega (arith, less, within))),
      owner_position names cells count p taken j (get_or p.owners.items j e) c (slice_get-get_or p.owners.items j e within),
    )
    (rise i j c less inside)

-- ---- the owners are all cells

pub some_is : {X : Type 0} (o : Option X) (x : X) → o ≡ Some x → IsSome o
some_is o x e = ap is_some e

pub one_some : {X : Type 0} (o : Option X) → IsSome o → (x : X) × (o ≡ Some x)
one_some None e = absurd (cc)
one_some (Some x) e = (x, refl)

one_is : {X Y : Type 0} (f : X → Y) (o : Option X) → IsSome (option_map f o) → (x : X) × (o ≡ Some x)
one_is f None e = absurd (cc)
one_is f (Some x) e = (x, refl)

module _ (p : TableParts) (table : Cells) (indexed : AreIndexed p) (view : table_of p ≡ table) where
  -- An owner has a record.
  slotted : (id : CellId) → Contains p.owners.items id → (s : CellRecord) × (record_at p.teams.items id ≡ Some s)
  slotted id (k, within, is) =
      let there : slice_get p.owners.items k ≡ Some id = slice_get-get_or p.owners.items k id within ∙ ap (λ (x : CellId). Some x) is in
      let has = owner_slot p id k ((indexed.index.owned id k).0 there) in
      (has.slot, has.there)

  -- A cell that has a record is an owner.
  owns : (id : CellId) (s : CellRecord) → record_at p.teams.items id ≡ Some s → Contains p.owners.items id
  owns id s there =
      let owner = owner_is p id s indexed there in
      (s.label, slice_get_within p.owners.items s.label id owner, get_or_from_slice_get p.owners.items s.label id id owner)

  cells_owned : (id : CellId) → Contains p.owners.items id ↔ IsSome (cell_at table id)
  cells_owned id =
      let is = cell_is p table id view in (
        λ own. let s = slotted id own in some_is (cell_at table id) (cell_with_name p.names s.0) (is ∙ ap (option_map (cell_with_name p.names)) s.1),
        λ some. let s = one_is (cell_with_name p.names) (record_at p.teams.items id) (sym (ap is_some is) ∙ some) in owns id s.0 s.1,
      )

  entries_owned : (id : CellId) → Contains p.owners.items id ↔ IsSome (component_at table id)
  entries_owned id =
      let is = component_is p table id view in (
        λ own. let s = slotted id own in some_is (component_at table id) s.0.component (is ∙ ap (option_map (λ (x : CellRecord). x.component)) s.1),
        λ some. let s = one_is (λ (x : CellRecord). x.component) (record_at p.teams.items id) (sym (ap is_some is) ∙ some) in owns id s.0 s.1,
      )

  -- The owners are the ids of all cells.
  pub owners_are_all : AreAllIds table p.owners.items
  owners_are_all = record { rise = rw (← view) indexed.rise; cells = cells_owned; entries = entries_owned }
