-- Areas in bins, box by box.
use Rattle.std.proofs.Common.{zero, suc, ◌≡◌, ◌≢◌, ◌∙◌, ℕ, ◌+◌, ◌*◌, ◌/◌, ◌%◌, ◌<◌, ◌≤◌, List, [], ◌∷◌, length, set, get_or, refl, ap, sym, subst, arith, ⊎_elim}
use Rattle.std.proofs.lemmas.Bool.{cases_eq, cases_lt}
use Rattle.std.proofs.lemmas.List.{get_or-set_same, get_or-set_other}
use Rattle.std.proofs.lemmas.List.FromFn.{fill_by_all}
use Rattle.std.proofs.Math.Nat.{mul-zero, zero-mul}
use Rattle.std.proofs.lemmas.Nat.{div-add-mod', mod_below, mul-add-lt, row_fits, row-Below, same_from_place}
use Rattle.lf_units.specs.declared.geometry.Rect.{Rect}
use Rattle.lf_density.specs.declared.grid.BinGrid.{BinGrid}
use Rattle.lf_density.specs.Bins.{area_in, bin_area, bin_areas, capped, past, shared_with}

-- ---- parts that a range does not reach

-- the range begins past the part
pub none_before : (part a b number : ℕ) → number < a / part → shared_with part a b number ≡ 0
none_before part a b number less =
    let fits : number * part + part ≤ a / part * part = row_fits number part (a / part) part less (omega arith) in
    let whole : a / part * part + a % part ≡ a = div-add-mod' a part in
    omega arith

-- the range ends before the part
pub none_after : (part a b number : ℕ) → 0 < part → b / part < number → shared_with part a b number ≡ 0
none_after part a b number some less =
    let fits : b / part * part + part ≤ number * part = row_fits (b / part) part number part less (omega arith) in
    let whole : b / part * part + b % part ≡ b = div-add-mod' b part in
    let rest : b % part < part = mod_below b part some in
    omega arith

pub no_area : (wide high : ℕ) → wide ≡ 0 → wide * high ≡ 0
no_area wide high none = ap (λ (n : ℕ). n * high) none ∙ zero-mul high

pub no_area_up : (wide high : ℕ) → high ≡ 0 → wide * high ≡ 0
no_area_up wide high none = ap (λ (n : ℕ). wide * n) none ∙ mul-zero wide

-- the area in a bin, by parts
pub area_by : (g : BinGrid) (column row : ℕ) (box : Rect) (x1 x2 y1 y2 high : ℕ) → x1 ≡ past g.left box.x1 → x2 ≡ past g.left box.x2 → y1 ≡ past g.bottom box.y1 → y2 ≡ past g.bottom box.y2
    → high ≡ shared_with g.side y1 y2 row → shared_with g.side x1 x2 column * high ≡ area_in g column row box
area_by g column row box x1 x2 y1 y2 high x1_is x2_is y1_is y2_is high_is =
    ap (λ (n : ℕ). shared_with g.side n x2 column * high) x1_is ∙ ap (λ (n : ℕ). shared_with g.side (past g.left box.x1) n column * high) x2_is
    ∙ ap (λ (n : ℕ). shared_with g.side (past g.left box.x1) (past g.left box.x2) column * n)
    (high_is ∙ ap (λ (n : ℕ). shared_with g.side n y2 row) y1_is ∙ ap (λ (n : ℕ). shared_with g.side (past g.bottom box.y1) n row) y2_is)

past_end : (xs : List ℕ) (k : ℕ) → length xs ≤ k → get_or xs k 0 ≡ 0
past_end [] k at = refl
past_end (x ∷ xs) zero at = absurd (omega (arith, at))
past_end (x ∷ xs) (suc k) at = past_end xs k (omega (arith, at))

-- each number of a list of numbers of 64 bits is small
pub each_is_small : (xs : List ℕ) → ((k : ℕ) → k < length xs → get_or xs k 0 < 18446744073709551616) → (k : ℕ) → get_or xs k 0 < 18446744073709551616
each_is_small xs small k =
    ⊎_elim (λ (within : k < length xs). small k within) (λ (past : length xs ≤ k). let none = past_end xs k past in omega (arith, none)) (cases_lt k (length xs))

-- ---- bins of one row

-- the bins of the row before column i have more area, and all others are the same
pub record RowSoFar (columns row : ℕ) (more : ℕ → ℕ) (begin now : List ℕ) (i : ℕ) : Type 0 where
  pub small : (k : ℕ) → get_or begin k 0 < 18446744073709551616
  pub below : (column : ℕ) → column < i → column < columns
      → get_or now (row * columns + column) 0 ≡ capped (get_or begin (row * columns + column) 0 + more column)
  pub above : (column : ℕ) → i ≤ column → column < columns
      → get_or now (row * columns + column) 0 ≡ get_or begin (row * columns + column) 0
  pub others : (column other : ℕ) → column < columns → other ≢ row
      → get_or now (other * columns + column) 0 ≡ get_or begin (other * columns + column) 0

nothing_more : (x more : ℕ) → x < 18446744073709551616 → more ≡ 0 → x ≡ capped (x + more)
nothing_more x more small none = omega arith

pub row_begins : (columns row : ℕ) (more : ℕ → ℕ) (begin : List ℕ) (i : ℕ) → ((k : ℕ) → get_or begin k 0 < 18446744073709551616)
    → ((column : ℕ) → column < i → more column ≡ 0) → RowSoFar columns row more begin begin i
row_begins columns row more begin i small none = record {
  small = small;
  below = λ column less within. nothing_more (get_or begin (row * columns + column) 0) (more column) (small (row * columns + column)) (none column less);
  above = λ column least within. refl;
  others = λ column other within differ. refl;
}

module _ (columns rows row : ℕ) (more : ℕ → ℕ) (begin now new : List ℕ) (i : ℕ) (in_row : row < rows) (in_columns : i < columns) (many : length now ≡ columns * rows)
    (so_far : RowSoFar columns row more begin now i) (is : new ≡ set now (row * columns + i) (capped (get_or now (row * columns + i) 0 + more i))) where
  abbrev value : ℕ
  value = capped (get_or now (row * columns + i) 0 + more i)

  other_place : (k : ℕ) → k ≢ row * columns + i → get_or new k 0 ≡ get_or now k 0
  other_place k differ = ap (λ (xs : List ℕ). get_or xs k 0) is ∙ get_or-set_other now (row * columns + i) k value 0 differ

  this_place : get_or new (row * columns + i) 0 ≡ capped (get_or begin (row * columns + i) 0 + more i)
  this_place =
      let inside : row * columns + i < columns * rows = mul-add-lt row columns i rows in_row in_columns in
      let within : row * columns + i < length now = omega arith in
      ap (λ (xs : List ℕ). get_or xs (row * columns + i) 0) is ∙ get_or-set_same now (row * columns + i) value 0 within
      ∙ ap (λ (n : ℕ). capped (n + more i)) (so_far.above i (omega arith) in_columns)

  pub row_goes_on : RowSoFar columns row more begin new (i + 1)
  row_goes_on = record {
    small = so_far.small;
    below = λ column less within.
        ⊎_elim (λ (same : column ≡ i). subst (λ (k : ℕ). get_or new (row * columns + k) 0 ≡ capped (get_or begin (row * columns + k) 0 + more k)) (sym same) this_place)
        (λ (differ : column ≢ i). other_place (row * columns + column) (λ same. differ (omega (arith, same))) ∙ so_far.below column (omega (arith, less, differ)) within) (cases_eq column i);
    above = λ column least within. other_place (row * columns + column) (λ same. absurd (omega (arith, same, least))) ∙ so_far.above column (omega (arith, least)) within;
    others = λ column other within differ.
        other_place (other * columns + column) (λ same. differ (same_from_place other column row i columns within in_columns same).0) ∙ so_far.others column other within differ;
  }

pub row_ends : (columns row : ℕ) (more : ℕ → ℕ) (begin now : List ℕ) (i : ℕ) → RowSoFar columns row more begin now i
    → ((column : ℕ) → i ≤ column → column < columns → more column ≡ 0)
    → (column : ℕ) → column < columns → get_or now (row * columns + column) 0 ≡ capped (get_or begin (row * columns + column) 0 + more column)
row_ends columns row more begin now i so_far none column within =
    ⊎_elim (λ (less : column < i). so_far.below column less within)
    (λ (least : i ≤ column). so_far.above column least within
    ∙ nothing_more (get_or begin (row * columns + column) 0) (more column) (so_far.small (row * columns + column)) (none column least within)) (cases_lt column i)

-- ---- bins of all rows

-- the bins of the rows before row i have more area, and all others are the same
pub record RowsSoFar (columns rows : ℕ) (more : ℕ → ℕ → ℕ) (begin now : List ℕ) (i : ℕ) : Type 0 where
  pub small : (k : ℕ) → get_or begin k 0 < 18446744073709551616
  pub below : (column row : ℕ) → column < columns → row < i → row < rows
      → get_or now (row * columns + column) 0 ≡ capped (get_or begin (row * columns + column) 0 + more column row)
  pub above : (column row : ℕ) → column < columns → i ≤ row → row < rows
      → get_or now (row * columns + column) 0 ≡ get_or begin (row * columns + column) 0

pub rows_begin : (columns rows : ℕ) (more : ℕ → ℕ → ℕ) (begin : List ℕ) (i : ℕ) → ((k : ℕ) → get_or begin k 0 < 18446744073709551616)
    → ((column row : ℕ) → row < i → more column row ≡ 0) → RowsSoFar columns rows more begin begin i
rows_begin columns rows more begin i small none = record {
  small = small;
  below = λ column row within less below. nothing_more (get_or begin (row * columns + column) 0) (more column row) (small (row * columns + column)) (none column row less);
  above = λ column row within least below. refl;
}

pub rows_go_on : (columns rows : ℕ) (more : ℕ → ℕ → ℕ) (begin now new : List ℕ) (i : ℕ) → RowsSoFar columns rows more begin now i → i < rows
    → ((column : ℕ) → column < columns → get_or new (i * columns + column) 0 ≡ capped (get_or now (i * columns + column) 0 + more column i))
    → ((column other : ℕ) → column < columns → other ≢ i → get_or new (other * columns + column) 0 ≡ get_or now (other * columns + column) 0)
    → RowsSoFar columns rows more begin new (i + 1)
rows_go_on columns rows more begin now new i so_far inside here others = record {
  small = so_far.small;
  below = λ column row within less below.
      ⊎_elim (λ (same : row ≡ i). subst (λ (r : ℕ). get_or new (r * columns + column) 0 ≡ capped (get_or begin (r * columns + column) 0 + more column r)) (sym same)
      (here column within ∙ ap (λ (n : ℕ). capped (n + more column i)) (so_far.above column i within (omega arith) inside)))
      (λ (differ : row ≢ i). others column row within differ ∙ so_far.below column row within (omega (arith, less, differ)) below) (cases_eq row i);
  above = λ column row within least below. others column row within (λ same. absurd (omega (arith, same, least))) ∙ so_far.above column row within (omega (arith, least)) below;
}

pub rows_end : (columns rows : ℕ) (more : ℕ → ℕ → ℕ) (begin now : List ℕ) (i : ℕ) → RowsSoFar columns rows more begin now i
    → ((column row : ℕ) → i ≤ row → row < rows → more column row ≡ 0)
    → (column row : ℕ) → column < columns → row < rows → get_or now (row * columns + column) 0 ≡ capped (get_or begin (row * columns + column) 0 + more column row)
rows_end columns rows more begin now i so_far none column row within below =
    ⊎_elim (λ (less : row < i). so_far.below column row within less below)
    (λ (least : i ≤ row). so_far.above column row within least below
    ∙ nothing_more (get_or begin (row * columns + column) 0) (more column row) (so_far.small (row * columns + column)) (none column row least below)) (cases_lt row i)

-- ---- boxes

-- the bins have the areas of the boxes
pub record AreAreas (g : BinGrid) (boxes : List Rect) (areas : List ℕ) : Type 0 where
  pub many : length areas ≡ g.columns * g.rows
  pub each : (column row : ℕ) → column < g.columns → row < g.rows → get_or areas (row * g.columns + column) 0 ≡ bin_area g boxes column row

pub areas_are : (g : BinGrid) (boxes : List Rect) (areas : List ℕ) → AreAreas g boxes areas → areas ≡ bin_areas g boxes
areas_are g boxes areas are =
    fill_by_all (λ k. bin_area g boxes (k % g.columns) (k / g.columns)) areas (g.columns * g.rows) 0 are.many (λ k less. at k less)
  where
    some : (columns rows k : ℕ) → k < columns * rows → 0 < columns
    some zero rows k less = absurd (omega (arith, less))
    some (suc columns) rows k less = omega arith

    at : (k : ℕ) → k < g.columns * g.rows → get_or areas k 0 ≡ bin_area g boxes (k % g.columns) (k / g.columns)
    at k less =
        let positive : 0 < g.columns = some g.columns g.rows k less in
        let below : k / g.columns < g.rows = (row-Below k g.columns g.columns g.rows less (omega arith)).1 in
        let within : k % g.columns < g.columns = mod_below k g.columns positive in
        let place : k / g.columns * g.columns + k % g.columns ≡ k = div-add-mod' k g.columns in
        ap (λ (j : ℕ). get_or areas j 0) (sym place) ∙ are.each (k % g.columns) (k / g.columns) within below
