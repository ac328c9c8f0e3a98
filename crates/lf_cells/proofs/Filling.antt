-- A table that is filled cell by cell.
use Rattle.std.proofs.Common.{◌≡◌, ◌≢◌, ℕ, zero, suc, ◌+◌, ◌<◌, ◌≤◌, Bool, true, false, cond, eqb, List, [], ◌∷◌, ◌++◌}
use Rattle.std.proofs.Common.{length, map, take, get_or, set, replicate, Some, None, refl, ap, ap₂, sym, ◌∙◌, add-zero, zero-add, arith}
use Rattle.std.specs.List.{range_with_len}
use Rattle.std.specs.Prelude.{slice_get}
use Rattle.std.proofs.lemmas.Grind.{common_steps}
use Rattle.std.proofs.lemmas.Bool.{false≢true, eqb-true, eq-eqb}
use Rattle.std.proofs.lemmas.List.{length-append, length-set, length-map, length-replicate, append-nil}
use Rattle.std.proofs.lemmas.List.{get_or-set_same, get_or-set_other, map-set, map-append}
use Rattle.std.proofs.lemmas.List.FromFn.{map-range_with_len_more}
use Rattle.std.proofs.lemmas.Option.{none-some}
use Rattle.lf_floorplan.specs.declared.cells.UnnamedCell.{UnnamedCell}
use Rattle.lf_cells.specs.declared.cell.CellId.{CellId}
use Rattle.lf_cells.specs.declared.records.CellRecord.{CellRecord}
use Rattle.lf_cells.specs.declared.table_parts.TableParts.{TableParts}
use Rattle.lf_cells.specs.Cells.{id_of}
use Rattle.lf_cells.specs.Records.{initial_record, own_records, labels, labels_in, label_at, IsIndex, AreListed, AddsCell, AreAdded}
use Rattle.lf_cells.proofs.Lists.{map_at, get_kept, get_last, IsOneOf, Earlier, Last, one_of}

-- ---- one more position of a name, after the others of its team

with_label : List (List ℕ) → ℕ → ℕ → List (List ℕ)
with_label all team n = set all team (get_or all team [] ++ n ∷ [])

label_kept : (all : List (List ℕ)) (team n other own label : ℕ) → slice_get (get_or all other []) own ≡ Some label
    → slice_get (get_or (with_label all team n) other []) own ≡ Some label
unfolding with_label
label_kept [] team n other own label e = e
label_kept (l ∷ ls) zero n zero own label e = get_kept l n own label e
label_kept (l ∷ ls) zero n (suc other) own label e = e
label_kept (l ∷ ls) (suc team) n zero own label e = e
label_kept (l ∷ ls) (suc team) n (suc other) own label e = label_kept ls team n other own label e

label_new : (all : List (List ℕ)) (team n : ℕ) → team < length all → slice_get (get_or (with_label all team n) team []) (length (get_or all team [])) ≡ Some n
unfolding with_label
label_new [] team n within = absurd (omega (arith, within))
label_new (l ∷ ls) zero n within = get_last l n
label_new (l ∷ ls) (suc team) n within = label_new ls team n (omega (arith, within))

-- The position is an earlier one, or the new one.
data IsOldOrNew (all : List (List ℕ)) (team n other own label : ℕ) : Type 0 where
  Old : slice_get (get_or all other []) own ≡ Some label → IsOldOrNew all team n other own label
  New : other ≡ team → own ≡ length (get_or all team []) → label ≡ n → IsOldOrNew all team n other own label

old_or_new : (all : List (List ℕ)) (team n other own label : ℕ) → slice_get (get_or (with_label all team n) other []) own ≡ Some label
    → IsOldOrNew all team n other own label
unfolding with_label
old_or_new [] team n other own label e = Old e
old_or_new (l ∷ ls) zero n zero own label e = by (one_of l n own label e) where
  by : IsOneOf l n own label → IsOldOrNew (l ∷ ls) zero n zero own label
  by (Earlier before) = Old before
  by (Last at same) = New refl at (sym same)
old_or_new (l ∷ ls) zero n (suc other) own label e = Old e
old_or_new (l ∷ ls) (suc team) n zero own label e = Old e
old_or_new (l ∷ ls) (suc team) n (suc other) own label e = by (old_or_new ls team n other own label e) where
  by : IsOldOrNew ls team n other own label → IsOldOrNew (l ∷ ls) (suc team) n (suc other) own label
  by (Old before) = Old before
  by (New here at is) = New (ap suc here) at is

index_more : (owners : List CellId) (all : List (List ℕ)) (team : ℕ) → team < length all → IsIndex owners all
    → IsIndex (owners ++ id_of team (length (get_or all team [])) ∷ []) (with_label all team (length owners))
index_more owners all team within index =
    record {
      owned = λ id label.
          (λ e. there id label (one_of owners last label id e), λ e. back id label (old_or_new all team (length owners) id.team id.own label e));
    }
  where
    last : CellId
    last = id_of team (length (get_or all team []))

    there : (id : CellId) (label : ℕ) → IsOneOf owners (id_of team (length (get_or all team []))) label id
        → label_at (with_label all team (length owners)) id ≡ Some label
    there id label (Earlier e) = label_kept all team (length owners) id.team id.own label ((index.owned id label).0 e)
    there id label (Last at same) = rw (at, ← same) (label_new all team (length owners) within)

    back : (id : CellId) (label : ℕ) → IsOldOrNew all team (length owners) id.team id.own label
        → slice_get (owners ++ id_of team (length (get_or all team [])) ∷ []) label ≡ Some id
    back id label (Old e) = get_kept owners (id_of team (length (get_or all team []))) label id ((index.owned id label).1 e)
    back id label (New here at is) =
        let whole : id_of team (length (get_or all team [])) ≡ id = ap₂ id_of (sym here) (sym at) in
        rw is (get_last owners (id_of team (length (get_or all team []))) ∙ ap (λ (i : CellId). Some i) whole)

-- ---- one more id, after the others of its team

listed_more : (ids : List (List CellId)) (all : List (List ℕ)) (team n : ℕ) → team < length all → team < length ids → AreListed ids all
    → AreListed (set ids team (get_or ids team [] ++ id_of team (length (get_or all team [])) ∷ [])) (with_label all team n)
unfolding with_label
listed_more ids all team n within inside before = record { listed = λ number. each number (eqb team number) refl }
  where
    many : length (get_or (set all team (get_or all team [] ++ n ∷ [])) team []) ≡ length (get_or all team []) + 1
    many = rw (get_or-set_same all team (get_or all team [] ++ n ∷ []) [] within, length-append) refl

    each : (number : ℕ) (b : Bool) → eqb team number ≡ b
        → get_or (set ids team (get_or ids team [] ++ id_of team (length (get_or all team [])) ∷ [])) number []
        ≡ map (λ own. id_of number own) (range_with_len 0 (length (get_or (set all team (get_or all team [] ++ n ∷ [])) number [])))
    each number true e =
        let same : number ≡ team = sym (eqb-true team number e) in
        rw same
        (get_or-set_same ids team (get_or ids team [] ++ id_of team (length (get_or all team [])) ∷ []) [] inside
        ∙ ap (λ (l : List CellId). l ++ id_of team (length (get_or all team [])) ∷ []) (before.listed team)
        ∙ sym (map-range_with_len_more (λ (own : ℕ). id_of team own) 0 (length (get_or all team [])) (length (get_or all team []))
        (zero-add (length (get_or all team []))))
        ∙ ap (λ (k : ℕ). map (λ (own : ℕ). id_of team own) (range_with_len 0 k)) (sym many))
    each number false e =
        let apart : number ≢ team = λ same. false≢true (sym e ∙ eq-eqb team number (sym same)) in
        get_or-set_other ids team number (get_or ids team [] ++ id_of team (length (get_or all team [])) ∷ []) [] apart
        ∙ before.listed number
        ∙ ap (λ (l : List ℕ). map (λ (own : ℕ). id_of number own) (range_with_len 0 (length l)))
        (sym (get_or-set_other all team number (get_or all team [] ++ n ∷ []) [] apart))

-- ---- a team's own cells

own_last : ℕ → ℕ → UnnamedCell → List CellRecord
own_last number label c = cond (eqb c.team number) (initial_record label c ∷ []) []

own_append : (number label : ℕ) (cells : List UnnamedCell) (c : UnnamedCell)
    → own_records number label (cells ++ c ∷ []) ≡ own_records number label cells ++ own_last number (label + length cells) c
unfolding own_last
own_append number label [] c = rw add-zero refl
own_append number label (x ∷ xs) c =
    let shift : label + 1 + length xs ≡ label + suc (length xs) = omega arith in
    go (eqb x.team number) (own_append number (label + 1) xs c ∙ ap (λ (k : ℕ). own_records number (label + 1) xs ++ own_last number k c) shift)
  where
    go : (b : Bool) → own_records number (label + 1) (xs ++ c ∷ []) ≡ own_records number (label + 1) xs ++ own_last number (label + suc (length xs)) c
        → cond b (initial_record label x ∷ own_records number (label + 1) (xs ++ c ∷ [])) (own_records number (label + 1) (xs ++ c ∷ []))
        ≡ cond b (initial_record label x ∷ own_records number (label + 1) xs) (own_records number (label + 1) xs) ++ own_last number (label + suc (length xs)) c
    go true e = ap (λ (r : List CellRecord). initial_record label x ∷ r) e
    go false e = e

pub own_few : (number label : ℕ) (cells : List UnnamedCell) → length (own_records number label cells) ≤ length cells
own_few number label [] = omega arith
own_few number label (c ∷ cs) = go (eqb c.team number) (own_few number (label + 1) cs) where
  go : (b : Bool) → length (own_records number (label + 1) cs) ≤ length cs
      → length (cond b (initial_record label c ∷ own_records number (label + 1) cs) (own_records number (label + 1) cs)) ≤ suc (length cs)
  go true e = omega (arith, e)
  go false e = omega (arith, e)

-- ---- one more cell

pub one_more : (names : List (List ℕ)) (cells : List UnnamedCell) (k count : ℕ) (c : UnnamedCell) (old new : TableParts) → k < length cells → c ≡ get_or cells k c
    → c.team < length old.teams.items → AreAdded names (take k cells) count old → AddsCell c old new
    → AreAdded names (take (k + 1) cells) count new
unfolding with_label own_last
one_more names cells k count c old new within is inside before one =
    let front : take (k + 1) cells ≡ take k cells ++ c ∷ [] = grind (arith, common_steps) in
    rw front (record {
      names_are = one.names ∙ before.names_are;
      many = rw (one.owners, length-append, length-append) (ap (λ (n : ℕ). n + 1) before.many);
      index = indexed;
      ids = listed;
      ids_count = rw (one.ids, length-set) before.ids_count;
      count_is = rw (one.teams, length-set) before.count_is;
      each = λ number. own_each number (eqb c.team number) refl;
    })
  where
    team_labels : get_or (labels_in old.teams.items) c.team [] ≡ labels (get_or old.teams.items c.team [])
    team_labels = map_at labels old.teams.items c.team []

    labels_after : labels_in new.teams.items ≡ with_label (labels_in old.teams.items) c.team (length old.owners.items)
    labels_after =
        ap labels_in one.teams ∙ map-set labels old.teams.items c.team (get_or old.teams.items c.team [] ++ initial_record (length old.owners.items) c ∷ [])
        ∙ ap (λ (l : List ℕ). set (labels_in old.teams.items) c.team l)
        (map-append (λ (s : CellRecord). s.label) (get_or old.teams.items c.team []) (initial_record (length old.owners.items) c ∷ [])
        ∙ ap (λ (l : List ℕ). l ++ length old.owners.items ∷ []) (sym team_labels))

    own_many : length (get_or old.teams.items c.team []) ≡ length (get_or (labels_in old.teams.items) c.team [])
    own_many = sym (ap (λ (l : List ℕ). length l) team_labels ∙ length-map (get_or old.teams.items c.team []) (λ (s : CellRecord). s.label))

    owners_after : new.owners.items ≡ old.owners.items ++ id_of c.team (length (get_or (labels_in old.teams.items) c.team [])) ∷ []
    owners_after =
        one.owners ∙ ap (λ (n : ℕ). old.owners.items ++ id_of c.team n ∷ []) own_many

    ids_after : new.ids.items
        ≡ set old.ids.items c.team (get_or old.ids.items c.team [] ++ id_of c.team (length (get_or (labels_in old.teams.items) c.team [])) ∷ [])
    ids_after =
        one.ids ∙ ap (λ (n : ℕ). set old.ids.items c.team (get_or old.ids.items c.team [] ++ id_of c.team n ∷ [])) own_many

    indexed : IsIndex new.owners.items (labels_in new.teams.items)
    indexed =
        let many : length (labels_in old.teams.items) ≡ length old.teams.items = length-map old.teams.items labels in
        rw (labels_after, owners_after) (index_more old.owners.items (labels_in old.teams.items) c.team (omega (arith, inside, many)) before.index)

    listed : AreListed new.ids.items (labels_in new.teams.items)
    listed =
        let many : length (labels_in old.teams.items) ≡ length old.teams.items = length-map old.teams.items labels in
        rw (labels_after, ids_after)
        (listed_more old.ids.items (labels_in old.teams.items) c.team (length old.owners.items) (omega (arith, inside, many))
        (omega (arith, inside, before.count_is, before.ids_count)) before.ids)

    last_own : (number : ℕ) → own_records number 0 (take k cells ++ c ∷ []) ≡ own_records number 0 (take k cells) ++ own_last number (length old.owners.items) c
    last_own number =
        let label : 0 + length (take k cells) ≡ length old.owners.items = omega (arith, before.many) in
        own_append number 0 (take k cells) c ∙ ap (λ (n : ℕ). own_records number 0 (take k cells) ++ own_last number n c) label

    last_yes : (number : ℕ) → eqb c.team number ≡ true → own_last number (length old.owners.items) c ≡ initial_record (length old.owners.items) c ∷ []
    last_yes number e = rw e refl

    last_no : (number : ℕ) → eqb c.team number ≡ false → own_last number (length old.owners.items) c ≡ []
    last_no number e = rw e refl

    own_each : (number : ℕ) (b : Bool) → eqb c.team number ≡ b → get_or new.teams.items number [] ≡ own_records number 0 (take k cells ++ c ∷ [])
    own_each number true e =
        let same : number ≡ c.team = sym (eqb-true c.team number e) in
        let after : get_or new.teams.items c.team [] ≡ get_or old.teams.items c.team [] ++ initial_record (length old.owners.items) c ∷ [] =
        ap (λ (teams : List (List CellRecord)). get_or teams c.team []) one.teams
        ∙ get_or-set_same old.teams.items c.team (get_or old.teams.items c.team [] ++ initial_record (length old.owners.items) c ∷ []) [] inside in
        let after_it : own_last number (length old.owners.items) c ≡ initial_record (length old.owners.items) c ∷ [] = last_yes number e in
        rw same (after ∙ ap (λ (slots : List CellRecord). slots ++ initial_record (length old.owners.items) c ∷ []) (before.each c.team))
        ∙ ap (λ (slots : List CellRecord). own_records number 0 (take k cells) ++ slots) (sym after_it) ∙ sym (last_own number)
    own_each number false e =
        let apart : number ≢ c.team = λ same. false≢true (sym e ∙ eq-eqb c.team number (sym same)) in
        ap (λ (teams : List (List CellRecord)). get_or teams number []) one.teams
        ∙ get_or-set_other old.teams.items c.team number (get_or old.teams.items c.team [] ++ initial_record (length old.owners.items) c ∷ []) [] apart
        ∙ before.each number ∙ sym (append-nil (own_records number 0 (take k cells)))
        ∙ ap (λ (slots : List CellRecord). own_records number 0 (take k cells) ++ slots) (sym (last_no number e)) ∙ sym (last_own number)

pub all_taken : (names : List (List ℕ)) (cells : List UnnamedCell) (k count : ℕ) (p : TableParts) → length cells ≤ k → AreAdded names (take k cells) count p →
    AreAdded names cells count p
all_taken names cells k count p past taken =
    let whole : take k cells ≡ cells = grind (arith, common_steps) in
    rw whole at taken

-- ---- no cell

labels_empty : (count team : ℕ) → get_or (labels_in (replicate count [])) team [] ≡ []
labels_empty zero team = refl
labels_empty (suc count) zero = refl
labels_empty (suc count) (suc team) = labels_empty count team

none_owned : (count : ℕ) (id : CellId) → label_at (labels_in (replicate count [])) id ≡ None
none_owned count id = ap (λ (l : List ℕ). slice_get l id.own) (labels_empty count id.team)

none_listed : (count : ℕ) → AreListed (replicate count []) (labels_in (replicate count []))
none_listed count =
    record {
      listed = λ team.
          empty_at count team ∙ ap (λ (l : List ℕ). map (λ (own : ℕ). id_of team own) (range_with_len 0 (length l))) (sym (labels_empty count team));
    }
  where
    empty_at : (count team : ℕ) → get_or (replicate {A = List CellId} count []) team [] ≡ []
    empty_at zero team = refl
    empty_at (suc count) zero = refl
    empty_at (suc count) (suc team) = empty_at count team

pub none_yet : (count : ℕ) (p : TableParts) → p.owners.items ≡ [] → p.teams.items ≡ replicate count [] → p.ids.items ≡ replicate count []
    → AreAdded p.names [] count p
none_yet count p owners teams ids = record {
  names_are = refl;
  many = ap (λ (ids : List CellId). length ids) owners;
  index = rw (owners, teams) (record { owned = λ id label. (λ e. absurd (none-some id e), λ e. absurd (none-some label (sym (none_owned count id) ∙ e))) });
  ids = rw (ids, teams) (none_listed count);
  ids_count = ap (λ (all : List (List CellId)). length all) ids ∙ length-replicate {A = List CellId} count [];
  count_is = ap (λ (slots : List (List CellRecord)). length slots) teams ∙ length-replicate {A = List CellRecord} count [];
  each = λ number. ap (λ (slots : List (List CellRecord)). get_or slots number []) teams ∙ empty_at count number;
}
  where
    empty_at : (count team : ℕ) → get_or (replicate {A = List CellRecord} count []) team [] ≡ []
    empty_at zero team = refl
    empty_at (suc count) zero = refl
    empty_at (suc count) (suc team) = empty_at count team
