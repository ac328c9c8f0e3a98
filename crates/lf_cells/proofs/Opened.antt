-- The table of all cells of a loaded design.
use Rattle.std.proofs.Common.{◌≡◌, ◌≢◌, ℕ, suc, ◌+◌, ◌<◌, Bool, true, false, cond, eqb, List, []}
use Rattle.std.proofs.Common.{◌∷◌, length, map, filter, get_or, refl, ap, sym, ◌∙◌, subst, zero, add-zero, zero-add, arith}
use Rattle.std.specs.Prelude.{All, AllPairs}
use Rattle.std.specs.List.{range_with_len}
use Rattle.std.proofs.lemmas.List.{same_lists, length-map}
use Rattle.std.proofs.lemmas.List.FromFn.{length-range_with_len, get_or-map-range_with_len}
use Rattle.lf_floorplan.specs.declared.loaded.LoadedCell.{LoadedCell}
use Rattle.lf_floorplan.specs.declared.cells.UnnamedCell.{UnnamedCell}
use Rattle.lf_floorplan.specs.Design.{CellsNamed, ComponentsRise}
use Rattle.lf_floorplan.specs.LoadedCells.{with_name, with_names}
use Rattle.lf_cells.specs.declared.cell.Cell.{Cell}
use Rattle.lf_cells.specs.declared.records.CellRecord.{CellRecord}
use Rattle.lf_cells.specs.declared.table_parts.TableParts.{TableParts}
use Rattle.lf_cells.specs.Initial.{initial_cell, own_cells, own_components}
use Rattle.lf_cells.specs.Records.{initial_record, cell_with_name, cells_in, components_in, own_records, AreIndexed, AreAdded}
use Rattle.lf_cells.proofs.Lists.{map_within}
use Rattle.lf_floorplan.proofs.NamedCells.{many_seen}
use Rattle.lf_cells.proofs.Owners.{owners_rise}

seen_own : (number n : ℕ) (all names : List (List ℕ)) (cells : List UnnamedCell) → length names ≡ length cells
    → ((k : ℕ) → k < length names → get_or all (n + k) [] ≡ get_or names k [])
    → map (cell_with_name all) (own_records number n cells) ≡ own_cells number (with_names names cells)
seen_own number n all [] [] same at = refl
seen_own number n all [] (c ∷ cs) same at = absurd (omega (arith, same))
seen_own number n all (name ∷ names) [] same at = refl
seen_own number n all (name ∷ names) (c ∷ cs) same at =
    go (eqb c.team number) (seen_own number (n + 1) all names cs (omega (arith, same)) (λ k within.
    let shift : n + 1 + k ≡ n + suc k = omega arith in
    rw shift (at (suc k) (omega (arith, within)))))
  where
    first : cell_with_name all (initial_record n c) ≡ initial_cell (with_name name c)
    first =
        let is : get_or all n [] ≡ name = ap (λ (k : ℕ). get_or all k []) (sym (add-zero n)) ∙ at 0 (omega arith) in
        rw is refl

    go : (b : Bool) → map (cell_with_name all) (own_records number (n + 1) cs) ≡ own_cells number (with_names names cs)
        → map (cell_with_name all) (cond b (initial_record n c ∷ own_records number (n + 1) cs) (own_records number (n + 1) cs))
        ≡ map initial_cell
        (cond b (with_name name c ∷ filter (λ (x : LoadedCell). eqb x.team number) (with_names names cs))
        (filter (λ (x : LoadedCell). eqb x.team number) (with_names names cs)))
    go true e = ap (λ (x : Cell). x ∷ map (cell_with_name all) (own_records number (n + 1) cs)) first ∙ ap (λ (r : List Cell). initial_cell (with_name name c) ∷ r) e
    go false e = e

seen_components : (number n : ℕ) (names : List (List ℕ)) (cells : List UnnamedCell) → length names ≡ length cells
    → map (λ s. s.component) (own_records number n cells) ≡ own_components number (with_names names cells)
seen_components number n [] [] same = refl
seen_components number n [] (c ∷ cs) same = absurd (omega (arith, same))
seen_components number n (name ∷ names) [] same = refl
seen_components number n (name ∷ names) (c ∷ cs) same = go (eqb c.team number) (seen_components number (n + 1) names cs (omega (arith, same))) where
  go : (b : Bool) → map (λ (s : CellRecord). s.component) (own_records number (n + 1) cs) ≡ own_components number (with_names names cs)
      → map (λ (s : CellRecord). s.component) (cond b (initial_record n c ∷ own_records number (n + 1) cs) (own_records number (n + 1) cs))
      ≡ map (λ (x : LoadedCell). x.component)
      (cond b (with_name name c ∷ filter (λ (x : LoadedCell). eqb x.team number) (with_names names cs))
      (filter (λ (x : LoadedCell). eqb x.team number) (with_names names cs)))
  go true e = ap (λ (r : List ℕ). c.component ∷ r) e
  go false e = e

-- The value that contracts see of each team is the one that its number gives.
by_numbers : {Y : Type 0} (f : List CellRecord → Y) (g : ℕ → Y) (teams : List (List CellRecord)) (count : ℕ) → length teams ≡ count
    → ((number : ℕ) → f (get_or teams number []) ≡ g number)
    → map f teams ≡ map g (range_with_len 0 count)
by_numbers {Y} f g teams count many each =
    let left : length (map f teams) ≡ length teams = length-map teams f in
    let right : length (map g (range_with_len 0 count)) ≡ count = length-map (range_with_len 0 count) g ∙ length-range_with_len 0 count in
    same_lists (map f teams) (map g (range_with_len 0 count)) (left ∙ many ∙ sym right) (λ k d within.
    let inside : k < length teams = omega (arith, within, left) in
    map_within f teams k d [] inside ∙ each k ∙ sym (get_or-map-range_with_len g 0 count k k d (omega (arith, inside, many)) (zero-add k)))

pub opened_cells : (names : List (List ℕ)) (cells : List UnnamedCell) (count : ℕ) (p : TableParts) → length names ≡ length cells → AreAdded names cells count p
    → cells_in p.names p.teams.items ≡ map (λ number. own_cells number (with_names names cells)) (range_with_len 0 count)
opened_cells names cells count p same taken =
    by_numbers (λ (slots : List CellRecord). map (cell_with_name p.names) slots) (λ (number : ℕ). own_cells number (with_names names cells)) p.teams.items count
    taken.count_is (λ number.
    ap (λ (slots : List CellRecord). map (cell_with_name p.names) slots) (taken.each number)
    ∙ seen_own number 0 p.names names cells same (λ k within. rw (zero-add k, taken.names_are) refl))

pub opened_components : (names : List (List ℕ)) (cells : List UnnamedCell) (count : ℕ) (p : TableParts) → length names ≡ length cells → AreAdded names cells count p
    → components_in p.teams.items ≡ map (λ number. own_components number (with_names names cells)) (range_with_len 0 count)
opened_components names cells count p same taken =
    by_numbers (λ (slots : List CellRecord). map (λ (s : CellRecord). s.component) slots) (λ (number : ℕ). own_components number (with_names names cells)) p.teams.items
    count taken.count_is
    (λ number.
    ap (λ (slots : List CellRecord). map (λ (s : CellRecord). s.component) slots) (taken.each number) ∙ seen_components number 0 names cells same)

-- A cell of the list is that of its name.
pub named_at : (names : List (List ℕ)) (cells : List UnnamedCell) (k : ℕ) (d : LoadedCell) (name : List ℕ) (e : UnnamedCell) → length names ≡ length cells
    → k < length cells → get_or (with_names names cells) k d ≡ with_name (get_or names k name) (get_or cells k e)
named_at names [] k d name e same within = absurd (omega (arith, within))
named_at [] (c ∷ cs) k d name e same within = absurd (omega (arith, same))
named_at (n ∷ names) (c ∷ cs) zero d name e same within = refl
named_at (n ∷ names) (c ∷ cs) (suc k) d name e same within = named_at names cs k d name e (omega (arith, same)) (omega (arith, within))

a_cell : (cells : List UnnamedCell) (j : ℕ) → j < length cells → UnnamedCell
a_cell [] j within = absurd (omega (arith, within))
a_cell (c ∷ cs) j within = c

plain_rise : (names : List (List ℕ)) (cells : List UnnamedCell) → length names ≡ length cells → ComponentsRise (with_names names cells)
    → AllPairs (λ a b. a.component < b.component) cells
plain_rise names cells same rise i j d less within =
    let whole : LoadedCell = with_name [] d in
    let first = named_at names cells i whole [] d same (omega (arith, less, within)) in
    let second = named_at names cells j whole [] d same within in
    rw (ap (λ (c : LoadedCell). c.component) first, ap (λ (c : LoadedCell). c.component) second) at
    (rise i j whole less (omega (arith, within, many_seen names cells same)))

names_apart : (names : List (List ℕ)) (cells : List UnnamedCell) → length names ≡ length cells → CellsNamed (with_names names cells)
    → AllPairs (λ name later. name ≢ later) names
names_apart names cells same named i j d less within alike =
    let inside : j < length cells = omega (arith, within, same) in
    let c = a_cell cells j inside in
    let whole : LoadedCell = with_name d c in
    let first = named_at names cells i whole d c same (omega (arith, less, inside)) in
    let second = named_at names cells j whole d c same inside in
    named i j whole less (omega (arith, inside, many_seen names cells same))
    (ap (λ (x : LoadedCell). x.name) first ∙ alike ∙ sym (ap (λ (x : LoadedCell). x.name) second))

pub opened_index : (names : List (List ℕ)) (cells : List UnnamedCell) (count : ℕ) (p : TableParts) → length names ≡ length cells
    → CellsNamed (with_names names cells) → ComponentsRise (with_names names cells) → AreAdded names cells count p → AreIndexed p
opened_index names cells count p same named rise taken =
    record {
      differ = rw taken.names_are (names_apart names cells same named);
      many = ap (λ (ns : List (List ℕ)). length ns) taken.names_are ∙ same ∙ sym taken.many;
      index = taken.index;
      rise = owners_rise names cells count p (plain_rise names cells same rise) taken;
      ids = taken.ids;
    }

-- A property of all cells holds for them without their names.
pub all_plain : (P : ℕ → Type 0) (names : List (List ℕ)) (cells : List UnnamedCell) → length names ≡ length cells → All (λ c. P c.team) (with_names names cells)
    → All (λ c. P c.team) cells
all_plain P names cells same all k d within =
    let whole : LoadedCell = with_name [] d in
    let is : (get_or (with_names names cells) k whole).team ≡ (get_or cells k d).team =
    ap (λ (c : LoadedCell). c.team) (named_at names cells k whole [] d same within) in
    subst P is (all k whole (omega (arith, within, many_seen names cells same)))
