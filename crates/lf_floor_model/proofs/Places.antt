-- The committed places of all movable components, and the loaded design of a floor.
use Rattle.std.proofs.Common.{◌≡◌, ℕ, zero, suc, ◌+◌, ◌<◌, ◌≤◌, Bool, true, false, cond, eqb, List, [], ◌∷◌, length, map, filter, get_or}
use Rattle.std.proofs.Common.{Option, Some, None, ◌⊎◌, inl, inr, refl, ap, sym, ◌∙◌, subst, arith, zero-add}
use Rattle.std.specs.Prelude.{AllPairs, Contains, option_and_then, option_map, slice_get}
use Rattle.std.proofs.lemmas.Bool.{eqb-true, eq-eqb}
use Rattle.std.proofs.lemmas.List.{get_or_past, length-map}
use Rattle.std.proofs.lemmas.List.Elements.{All-contains, All-contains_itself, All-filter, filter_passes}
use Rattle.std.proofs.lemmas.List.FromFn.{length-map-range_with_len, get_or-map-range_with_len}
use Rattle.std.proofs.lemmas.Option.{slice_get-map, slice_get_within, get_or_from_slice_get}
use Rattle.lf_floorplan.specs.declared.loaded.LoadedCell.{LoadedCell}
use Rattle.lf_floorplan.specs.declared.loaded.Loaded.{Loaded}
use Rattle.lf_floorplan.specs.declared.place.Place.{Place}
use Rattle.lf_cells.specs.declared.cell.Cell.{Cell}
use Rattle.lf_cells.specs.Initial.{initial_cell, initial_components, own_cells, own_components}
use Rattle.lf_floor_model.specs.States.{TeamState}
use Rattle.lf_floor_model.specs.Designs.{initial_floor}
use Rattle.lf_floor_model.specs.Places.{IsCommittedAt, PlacesBeginAsLoaded, PlacesFollowDesign, cell_in}
use Rattle.lf_floor_model.proofs.Openings.{map_at, pairs_map, team_of}
use Rattle.lf_floor_model.proofs.LegalPlaces.{some_one}

-- ---- ascending lists

-- two lists that ascend by a key and have the same elements are equal
module _ {X : Type 0} (key : X → ℕ) where
  abbrev Rises : List X → Type 0
  Rises xs = AllPairs (λ x later. key x < key later) xs

  head_below : (x : X) (xs : List X) → Rises (x ∷ xs) → (z : X) → Contains xs z → key x < key z
  head_below x xs rise z (k, within, is) =
      subst (λ (y : X). key x < key y) is (rise 0 (suc k) z (omega arith) (omega (arith, within)))

  tail_rises : (x : X) (xs : List X) → Rises (x ∷ xs) → Rises xs
  tail_rises x xs rise i j d less within = rise (suc i) (suc j) d (omega (arith, less)) (omega (arith, within))

  in_tail : (x : X) (xs : List X) (z : X) → Contains (x ∷ xs) z → (x ≡ z) ⊎ Contains xs z
  in_tail x xs z (zero, within, is) = inl is
  in_tail x xs z (suc k, within, is) = inr (k, omega (arith, within), is)

  in_longer : (x : X) (xs : List X) (z : X) → Contains xs z → Contains (x ∷ xs) z
  in_longer x xs z (k, within, is) = (suc k, omega (arith, within), is)

  in_none : (z : X) → Contains [] z → ⊥
  in_none z (k, within, is) = omega (arith, within)

  at_head : (x : X) (xs : List X) → Contains (x ∷ xs) x
  at_head x xs = (0, omega arith, refl)

  rest_there : (x y : X) (xs ys : List X) → x ≡ y → Rises (x ∷ xs) → ((z : X) → Contains (x ∷ xs) z → Contains (y ∷ ys) z)
      → (z : X) → Contains xs z → Contains ys z
  rest_there x y xs ys same rise there z inside = by (in_tail y ys z (there z (in_longer x xs z inside))) where
    by : (y ≡ z) ⊎ Contains ys z → Contains ys z
    by (inl is) = absurd (omega (arith, head_below x xs rise z inside, ap key (same ∙ is)))
    by (inr found) = found

  pub same_rising : (xs ys : List X) → Rises xs → Rises ys → ((z : X) → Contains xs z → Contains ys z) → ((z : X) → Contains ys z → Contains xs z) → xs ≡ ys
  same_rising [] [] rise rise' there back = refl
  same_rising [] (y ∷ ys) rise rise' there back = absurd (in_none y (back y (at_head y ys)))
  same_rising (x ∷ xs) [] rise rise' there back = absurd (in_none x (there x (at_head x xs)))
  same_rising (x ∷ xs) (y ∷ ys) rise rise' there back =
      ap (λ (z : X). z ∷ xs) same
      ∙ ap (λ (zs : List X). y ∷ zs) (same_rising xs ys (tail_rises x xs rise) (tail_rises y ys rise')
      (rest_there x y xs ys same rise there) (rest_there y x ys xs (sym same) rise' back))
    where
      first : (y ≡ x) ⊎ Contains ys x → (x ≡ y) ⊎ Contains xs y → x ≡ y
      first (inl is) found = sym is
      first (inr after_it) (inl is) = is
      first (inr after_it) (inr after) = absurd (omega (arith, head_below y ys rise' x after_it, head_below x xs rise y after))

      same : x ≡ y
      same = first (in_tail y ys x (there x (at_head x xs))) (in_tail x xs y (back y (at_head y ys)))

-- ---- elements of mapped and of filtered lists

contains_mapped : {X Y : Type 0} (f : X → Y) (xs : List X) (x : X) → Contains xs x → Contains (map f xs) (f x)
contains_mapped f xs x (k, within, is) = (k, rw (length-map xs f) within, map_at f xs k (f x) x within ∙ ap f is)

-- an element of a mapped list is the image of an element
comes_from : {X Y : Type 0} (f : X → Y) (xs : List X) (y : Y) → Contains (map f xs) y → (x : X) × Contains xs x × (f x ≡ y)
comes_from f [] y (k, within, is) = absurd (omega (arith, within))
comes_from f (x ∷ xs) y (zero, within, is) = (x, (0, omega arith, refl), is)
comes_from f (x ∷ xs) y (suc k, within, is) =
    let found = comes_from f xs y (k, omega (arith, within), is) in
    (found.0, (suc found.1.0, omega (arith, found.1.1), found.1.2), found.2)

-- an element that passes the test is in the filtered list
kept_at : {X : Type 0} (p : X → Bool) (xs : List X) (x : X) → Contains xs x → p x ≡ true → (own : ℕ) × (slice_get (filter p xs) own ≡ Some x)
kept_at p [] x (k, within, is) passes = absurd (omega (arith, within))
kept_at {X} p (y ∷ ys) x (zero, within, is) passes =
    (0, ap (λ (b : Bool). slice_get (cond b (y ∷ filter p ys) (filter p ys)) 0) (ap p is ∙ passes) ∙ ap (λ (z : X). Some z) is)
kept_at p (y ∷ ys) x (suc k, within, is) passes = go (p y) (kept_at p ys x (k, omega (arith, within), is) passes) where
  go : (b : Bool) → (own : ℕ) × (slice_get (filter p ys) own ≡ Some x) → (own : ℕ) × (slice_get (cond b (y ∷ filter p ys) (filter p ys)) own ≡ Some x)
  go true (own, at) = (suc own, at)
  go false found = found

contains_at : {X : Type 0} (xs : List X) (k : ℕ) (x : X) → slice_get xs k ≡ Some x → Contains xs x
contains_at xs k x there = (k, slice_get_within xs k x there, get_or_from_slice_get xs k x x there)

-- ---- the entries of a loaded design

abbrev is_own : ℕ → LoadedCell → Bool
is_own number c = eqb c.team number

-- the cell is at that position among the cells of the team of that number
record IsOwn (design : Loaded) (number own : ℕ) (c : LoadedCell) : Type 0 where
  held : Contains design.cells c
  there : slice_get (filter (is_own number) design.cells) own ≡ Some c

some_from : {X Y : Type 0} (f : X → Y) (o : Option X) (y : Y) → option_map f o ≡ Some y → (x : X) × (o ≡ Some x) × (f x ≡ y)
some_from f None y e = absurd (cc)
some_from f (Some x) y e = (x, refl, cc)

own_held : (design : Loaded) (number own : ℕ) (c : LoadedCell) → slice_get (filter (is_own number) design.cells) own ≡ Some c → IsOwn design number own c
own_held design number own c there = record {
  held =
      All-contains (Contains design.cells) (filter (is_own number) design.cells) c
      (All-filter (is_own number) (Contains design.cells) design.cells (All-contains_itself design.cells)) (contains_at _ own c there);
  there = there;
}

within_or_past : (a b : ℕ) → (a < b) ⊎ (b ≤ a)
within_or_past a b = grind arith

row_is : (design : Loaded) (number : ℕ) → number < length design.frame.teams + 1
    → get_or (initial_components design) number [] ≡ own_components number design.cells
row_is design number within =
    get_or-map-range_with_len (λ (n : ℕ). own_components n design.cells) 0 (length design.frame.teams + 1) number number [] within (zero-add number)

-- an entry is that of a cell of the team
entry_from : (design : Loaded) (number own position : ℕ) → slice_get (get_or (initial_components design) number []) own ≡ Some position
    → (c : LoadedCell) × IsOwn design number own c × (c.component ≡ position)
entry_from design number own position e = by (within_or_past number (length design.frame.teams + 1)) where
  by : (number < length design.frame.teams + 1) ⊎ (length design.frame.teams + 1 ≤ number)
      → (c : LoadedCell) × IsOwn design number own c × (c.component ≡ position)
  by (inl within) =
      let seen : option_map (λ (c : LoadedCell). c.component) (slice_get (filter (is_own number) design.cells) own) ≡ Some position =
      sym (slice_get-map (λ (c : LoadedCell). c.component) (filter (is_own number) design.cells) own)
      ∙ ap (λ (row : List ℕ). slice_get row own) (sym (row_is design number within)) ∙ e in
      let found = some_from (λ (c : LoadedCell). c.component) (slice_get (filter (is_own number) design.cells) own) position seen in
      (found.0, own_held design number own found.0 found.1, found.2)
  by (inr past) =
      let long : length (initial_components design) ≡ length design.frame.teams + 1 =
      length-map-range_with_len (λ (n : ℕ). own_components n design.cells) 0 (length design.frame.teams + 1) in
      let none : slice_get [] own ≡ Some position =
      ap (λ (row : List ℕ). slice_get row own) (sym (get_or_past (initial_components design) number [] (rw long past))) ∙ e in
      absurd (cc)

-- each cell is in its team, and has its entry there
entry_to : (design : Loaded) (c : LoadedCell) → Contains design.cells c
    → (own : ℕ) × IsOwn design c.team own c × (slice_get (get_or (initial_components design) c.team []) own ≡ Some c.component)
entry_to design c held =
    let known : c.team ≤ length design.frame.teams =
    All-contains (λ (d : LoadedCell). d.team ≤ length design.frame.teams) design.cells c (λ i d within. (design.cells_known i d within).team_known) held in
    let found = kept_at (is_own c.team) design.cells c held (eq-eqb c.team c.team refl) in (
      found.0,
      record { held = held; there = found.1 },
      ap (λ (row : List ℕ). slice_get row found.0) (row_is design c.team (omega (arith, known)))
          ∙ slice_get-map (λ (d : LoadedCell). d.component) (filter (is_own c.team) design.cells) found.0
          ∙ ap (option_map (λ (d : LoadedCell). d.component)) found.1,
    )

-- ---- the laws

pub places_follow : PlacesFollowDesign
places_follow design floor places same are =
    same_rising (λ (n : ℕ). n) (map (λ (e : ℕ × Option Place). e.0) places) (map (λ (c : LoadedCell). c.component) design.cells)
    (pairs_map (λ (e : ℕ × Option Place). e.0) (λ (a : ℕ) (b : ℕ). a < b) places are.rise)
    (pairs_map (λ (c : LoadedCell). c.component) (λ (a : ℕ) (b : ℕ). a < b) design.cells design.components_rise)
    there back
  where
    there : (n : ℕ) → Contains (map (λ (e : ℕ × Option Place). e.0) places) n → Contains (map (λ (c : LoadedCell). c.component) design.cells) n
    there n held =
        let listed = comes_from (λ (e : ℕ × Option Place). e.0) places n held in
        let cell = All-contains (λ (e : ℕ × Option Place). (number : ℕ) × (own : ℕ) × IsCommittedAt floor number own e) places listed.0 are.theirs listed.1 in
        let entry = entry_from design cell.0 cell.1 listed.0.0
        (ap (λ (rows : List (List ℕ)). slice_get (get_or rows cell.0 []) cell.1) (sym same) ∙ cell.2.position) in
        subst (λ (k : ℕ). Contains (map (λ (c : LoadedCell). c.component) design.cells) k) (entry.2 ∙ listed.2)
        (contains_mapped (λ (c : LoadedCell). c.component) design.cells entry.0 entry.1.held)

    back : (n : ℕ) → Contains (map (λ (c : LoadedCell). c.component) design.cells) n → Contains (map (λ (e : ℕ × Option Place). e.0) places) n
    back n held =
        let cell = comes_from (λ (c : LoadedCell). c.component) design.cells n held in
        let entry = entry_to design cell.0 cell.1 in
        let found = are.entries cell.0.team entry.0 cell.0.component
        (ap (λ (rows : List (List ℕ)). slice_get (get_or rows cell.0.team []) entry.0) same ∙ entry.2) in
        subst (λ (k : ℕ). Contains (map (λ (e : ℕ × Option Place). e.0) places) k) cell.2
        (contains_mapped (λ (e : ℕ × Option Place). e.0) places (cell.0.component, found.0.committed) found.2)

-- the cell of a team of the first floor
opening_at : (design : Loaded) (number own : ℕ) (c : LoadedCell) → number < length design.frame.teams + 1 → IsOwn design number own c
    → cell_in (initial_floor design) number own ≡ Some (initial_cell c)
opening_at design number own c within is =
    ap (λ (o : Option TeamState). option_and_then (λ (s : TeamState). slice_get s.cells own) o)
    (team_of design 0 (length design.frame.teams + 1) number within)
    ∙ ap (λ (n : ℕ). slice_get (own_cells n design.cells) own) (zero-add number)
    ∙ slice_get-map initial_cell (filter (is_own number) design.cells) own
    ∙ ap (option_map initial_cell) is.there

own_team_is : (design : Loaded) (number own : ℕ) (c : LoadedCell) → IsOwn design number own c → c.team ≡ number
own_team_is design number own c is =
    eqb-true c.team number (All-contains (λ (d : LoadedCell). is_own number d ≡ true) (filter (is_own number) design.cells) c
    (filter_passes (is_own number) design.cells) (contains_at _ own c is.there))

team_within : (design : Loaded) (c : LoadedCell) → Contains design.cells c → c.team < length design.frame.teams + 1
team_within design c held =
    let known : c.team ≤ length design.frame.teams =
    All-contains (λ (d : LoadedCell). d.team ≤ length design.frame.teams) design.cells c (λ i d within. (design.cells_known i d within).team_known) held in
    omega (arith, known)

abbrev loaded_entry : LoadedCell → ℕ × Option Place
loaded_entry c = (c.component, c.place)

pub places_begin : PlacesBeginAsLoaded
places_begin design places are =
    same_rising (λ (e : ℕ × Option Place). e.0) places (map loaded_entry design.cells) are.rise
    (pairs_map loaded_entry (λ (a : ℕ × Option Place) (b : ℕ × Option Place). a.0 < b.0) design.cells design.components_rise)
    there back
  where
    there : (e : ℕ × Option Place) → Contains places e → Contains (map loaded_entry design.cells) e
    there e held =
        let cell = All-contains (λ (x : ℕ × Option Place). (number : ℕ) × (own : ℕ) × IsCommittedAt (initial_floor design) number own x) places e are.theirs held in
        let entry = entry_from design cell.0 cell.1 e.0 cell.2.position in
        let c = entry.0 in
        let within : cell.0 < length design.frame.teams + 1 = rw (← own_team_is design cell.0 cell.1 c entry.1) (team_within design c entry.1.held) in
        let is_in_place : Some c.place ≡ Some e.1 =
        ap (option_map (λ (d : Cell). d.committed)) (sym (opening_at design cell.0 cell.1 c within entry.1)) ∙ cell.2.place in
        let is : loaded_entry c ≡ e = ap (λ (k : ℕ). (k, c.place)) entry.2 ∙ ap (λ (p : Option Place). (e.0, p)) (some_one is_in_place) in
        subst (λ (x : ℕ × Option Place). Contains (map loaded_entry design.cells) x) is (contains_mapped loaded_entry design.cells c entry.1.held)

    back : (e : ℕ × Option Place) → Contains (map loaded_entry design.cells) e → Contains places e
    back e held =
        let cell = comes_from loaded_entry design.cells e held in
        let c = cell.0 in
        let entry = entry_to design c cell.1 in
        let found = are.cells c.team entry.0 (initial_cell c) (opening_at design c.team entry.0 c (team_within design c cell.1) entry.1) in
        let position : found.0 ≡ c.component = some_one (sym found.1 ∙ entry.2) in
        subst (λ (x : ℕ × Option Place). Contains places x) (ap (λ (k : ℕ). (k, c.place)) position ∙ cell.2) found.2
