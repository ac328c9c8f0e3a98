-- The nets of a team decide by how much the wire length changes if only the team changes.
use Rattle.std.proofs.Common.{◌≡◌, ◌≢◌, ◌⊎◌, ⊎_elim, ℕ, zero, suc, ◌+◌, ◌-◌, ◌^◌, ◌<◌, ◌≤◌, Bool, true, false, cond, eqb, List, [], ◌∷◌, length, map, filter, get_or, min, Option, Some, None, inl, inr, refl, ap, sym, ◌∙◌, subst, arith, zero-add}
use Rattle.std.specs.Prelude.{AllPairs, Contains, option_and_then, option_map, slice_get}
use Rattle.std.proofs.lemmas.Bool.{cases_lt, eq-eqb}
use Rattle.std.proofs.lemmas.List.{get_or_past}
use Rattle.std.proofs.lemmas.List.Elements.{All-contains}
use Rattle.std.proofs.lemmas.List.FromFn.{get_or-map-range_with_len}
use Rattle.std.proofs.lemmas.Option.{slice_get-map, slice_get_within, get_or_from_slice_get}
use Rattle.lf_floorplan.specs.declared.loaded.Loaded.{Loaded}
use Rattle.lf_floorplan.specs.declared.loaded.LoadedCell.{LoadedCell}
use Rattle.lf_floorplan.specs.declared.place.Place.{Place}
use Rattle.lf_cells.specs.declared.cell.Cell.{Cell}
use Rattle.lf_cells.specs.Initial.{initial_components, own_components}
use Rattle.lf_wire_length.specs.declared.pins.NetPin.{NetPin}
use Rattle.lf_wire_length.specs.Length.{length_of_nets}
use Rattle.lf_wire_length.specs.TeamNets.{KeepsOtherCells, length_of_listed, nets_of_team}
use Rattle.lf_wire_length.proofs.TeamNetLemmas.{difference, part}
use Rattle.lf_floor_model.specs.Places.{cell_in}
use Rattle.lf_floor_model.specs.States.{FloorState, TeamState}
use Rattle.lf_floor_model.specs.Teams.{team_number}
use Rattle.lf_floor_model.proofs.LegalPlaces.{none_some, some_one}
use Rattle.lf_floor_model.proofs.Places.{places_follow}
use Rattle.lf_floor.specs.Working.{ListsWorkingPlaces, with_working, with_working_team}
use Rattle.lf_repair_team.specs.TeamRepairs.{ChangesOnly}
use Rattle.lf_improve_team.specs.FloorLengths.{AreNetsOfFloor, DecidesAfter, IsLengthOfNetsOn, IsWireLengthOn, listed_place}
use Rattle.lf_improve_team.proofs.Lengths.{places_are_one}

-- ---- an ascending list of entries

abbrev Entry : Type 0
Entry = ℕ × Option Place

abbrev Rises : List Entry → Type 0
Rises places = AllPairs (λ (entry : Entry) (later : Entry). entry.0 < later.0) places

tail_rises : (e : Entry) (places : List Entry) → Rises (e ∷ places) → Rises places
tail_rises e places rise i j d less within = rise (suc i) (suc j) d (omega (arith, less)) (omega (arith, within))

head_below : (e : Entry) (places : List Entry) → Rises (e ∷ places) → (z : Entry) → Contains places z → e.0 < z.0
head_below e places rise z (k, within, is) = subst (λ (y : Entry). e.0 < y.0) is (rise 0 (suc k) z (omega arith) (omega (arith, within)))

in_tail : (e : Entry) (places : List Entry) (z : Entry) → Contains (e ∷ places) z → (e ≡ z) ⊎ Contains places z
in_tail e places z (zero, within, is) = inl is
in_tail e places z (suc k, within, is) = inr (k, omega (arith, within), is)

contains_at : {X : Type 0} (xs : List X) (k : ℕ) (x : X) → slice_get xs k ≡ Some x → Contains xs x
contains_at xs k x there = (k, slice_get_within xs k x there, get_or_from_slice_get xs k x x there)

-- an entry is where its position is
at_position : (places : List Entry) (k : ℕ) (z other : Entry) → Rises places → slice_get places k ≡ Some other → other.0 ≡ z.0 → Contains places z
    → slice_get places k ≡ Some z
at_position [] k z other rise there same held = absurd (none_some there)
at_position (e ∷ places) zero z other rise there same held = ap (λ (y : Entry). Some y) (by (in_tail e places z held)) where
  by : (e ≡ z) ⊎ Contains places z → e ≡ z
  by (inl is) = is
  by (inr later) = absurd (omega (arith, head_below e places rise z later, ap (λ (y : Entry). y.0) (some_one there), same))
at_position (e ∷ places) (suc k) z other rise there same held =
    by (at_position places k z other (tail_rises e places rise) there same) (in_tail e places z held)
  where
    by : (Contains places z → slice_get places k ≡ Some z) → (e ≡ z) ⊎ Contains places z → slice_get places k ≡ Some z
    by rest (inr later) = rest later
    by rest (inl is) =
        absurd (omega (arith, head_below e places rise other (contains_at places k other there), ap (λ (y : Entry). y.0) is, same))

-- ---- the entry of a loaded cell

kept_at : {X : Type 0} (p : X → Bool) (xs : List X) (x : X) → Contains xs x → p x ≡ true → (own : ℕ) × (slice_get (filter p xs) own ≡ Some x)
kept_at p [] x (k, within, is) passes = absurd (omega (arith, within))
kept_at {X} p (y ∷ ys) x (zero, within, is) passes =
    (0, ap (λ (b : Bool). slice_get (cond b (y ∷ filter p ys) (filter p ys)) 0) (ap p is ∙ passes) ∙ ap (λ (z : X). Some z) is)
kept_at p (y ∷ ys) x (suc k, within, is) passes = go (p y) (kept_at p ys x (k, omega (arith, within), is) passes) where
  go : (b : Bool) → (own : ℕ) × (slice_get (filter p ys) own ≡ Some x) → (own : ℕ) × (slice_get (cond b (y ∷ filter p ys) (filter p ys)) own ≡ Some x)
  go true (own, at) = (suc own, at)
  go false found = found

abbrev component_of : LoadedCell → ℕ
component_of c = c.component

has_entry : (design : Loaded) (c : LoadedCell) → Contains design.cells c
    → (own : ℕ) × (slice_get (get_or (initial_components design) c.team []) own ≡ Some c.component)
has_entry design c held =
    let known : c.team ≤ length design.frame.teams =
    All-contains (λ (d : LoadedCell). d.team ≤ length design.frame.teams) design.cells c (λ i d within. (design.cells_known i d within).team_known) held in
    let found = kept_at (λ (d : LoadedCell). eqb d.team c.team) design.cells c held (eq-eqb c.team c.team refl) in (
      found.0,
      ap (λ (row : List ℕ). slice_get row found.0)
          (get_or-map-range_with_len (λ (n : ℕ). own_components n design.cells) 0 (length design.frame.teams + 1) c.team c.team [] (omega (arith, known)) (zero-add c.team))
          ∙ slice_get-map component_of (filter (λ (d : LoadedCell). eqb d.team c.team) design.cells) found.0
          ∙ ap (option_map component_of) found.1,
    )

-- ---- two floors

abbrev position_of : Entry → ℕ
position_of e = e.0

module _ (design : Loaded) (old new : FloorState) (entries : old.components ≡ initial_components design) (again : new.components ≡ initial_components design)
    (places others : List Entry) (listed : ListsWorkingPlaces old places) (relisted : ListsWorkingPlaces new others) where
  teams_in : (floor : FloorState) (number own : ℕ)
      → cell_in (with_working floor) number own ≡ option_and_then (λ (s : TeamState). slice_get s.cells own) (option_map with_working_team (slice_get floor.teams number))
  teams_in floor number own =
      ap (λ (o : Option TeamState). option_and_then (λ (s : TeamState). slice_get s.cells own) o) (slice_get-map with_working_team floor.teams number)

  -- a cell of a team that is unchanged has the same entry in both lists
  same_entry : (c : LoadedCell) → Contains design.cells c → slice_get new.teams c.team ≡ slice_get old.teams c.team
      → (w : Option Place) × Contains places (c.component, w) × Contains others (c.component, w)
  same_entry c held same =
      let entry = has_entry design c held in
      let before = listed.entries c.team entry.0 c.component (ap (λ (rows : List (List ℕ)). slice_get (get_or rows c.team []) entry.0) entries ∙ entry.1) in
      let after = relisted.entries c.team entry.0 c.component (ap (λ (rows : List (List ℕ)). slice_get (get_or rows c.team []) entry.0) again ∙ entry.1) in
      let cells : cell_in (with_working new) c.team entry.0 ≡ cell_in (with_working old) c.team entry.0 =
      teams_in new c.team entry.0
      ∙ ap (λ (o : Option TeamState). option_and_then (λ (s : TeamState). slice_get s.cells entry.0) (option_map with_working_team o)) same
      ∙ sym (teams_in old c.team entry.0) in
      let one : after.0 ≡ before.0 = some_one (sym after.1 ∙ cells ∙ before.1) in (
        before.0.committed,
        before.2,
        subst (λ (d : Cell). Contains others (c.component, d.committed)) one after.2,
      )

  keys : (floor : FloorState) (list : List Entry) → floor.components ≡ initial_components design → ListsWorkingPlaces floor list
      → (cell : ℕ) → option_map position_of (slice_get list cell) ≡ option_map component_of (slice_get design.cells cell)
  keys floor list has is cell =
      sym (slice_get-map position_of list cell)
      ∙ ap (λ (ns : List ℕ). slice_get ns cell) (places_follow design (with_working floor) list has is)
      ∙ slice_get-map component_of design.cells cell

  -- the place of the cell is that of the entry with its position
  place_at : (list : List Entry) (cell : ℕ) (c : LoadedCell) (w : Option Place) → Rises list
      → option_map position_of (slice_get list cell) ≡ Some c.component → Contains list (c.component, w) → listed_place list cell ≡ w
  place_at list cell c w rise key held = go (slice_get list cell) refl key where
    go : (o : Option Entry) → slice_get list cell ≡ o → option_map position_of o ≡ Some c.component → option_and_then (λ (e : Entry). e.1) (slice_get list cell) ≡ w
    go None there key = absurd (none_some key)
    go (Some e) there key =
        ap (λ (o : Option Entry). option_and_then (λ (e : Entry). e.1) o) (at_position list cell (c.component, w) e rise there (some_one key) held)

  no_place : (list : List Entry) (cell : ℕ) → option_map position_of (slice_get list cell) ≡ None → listed_place list cell ≡ None
  no_place list cell none = go (slice_get list cell) none where
    go : (o : Option Entry) → option_map position_of o ≡ None → option_and_then (λ (e : Entry). e.1) o ≡ None
    go None none = refl
    go (Some e) none = absurd (none_some (sym none))

  others_kept : (team : List ℕ) (number : ℕ) → team_number old.frame team ≡ Some number → ChangesOnly team old new
      → KeepsOtherCells (map (λ (c : LoadedCell). c.team) design.cells) number (listed_place places) (listed_place others)
  others_kept team number named only cell differ = go (slice_get design.cells cell) refl where
    go : (o : Option LoadedCell) → slice_get design.cells cell ≡ o → listed_place others cell ≡ listed_place places cell
    go None none =
        no_place others cell (keys new others again relisted cell ∙ ap (option_map component_of) none)
        ∙ sym (no_place places cell (keys old places entries listed cell ∙ ap (option_map component_of) none))
    go (Some c) there =
        let owner : slice_get (map (λ (d : LoadedCell). d.team) design.cells) cell ≡ Some c.team =
        slice_get-map (λ (d : LoadedCell). d.team) design.cells cell ∙ ap (option_map (λ (d : LoadedCell). d.team)) there in
        let is_other : c.team ≢ number = λ e. differ (owner ∙ ap (λ (n : ℕ). Some n) e) in
        let same = only.numbers c.team (λ e. is_other (sym (some_one (sym named ∙ e)))) in
        let entry = same_entry c (contains_at design.cells cell c there) same in
        place_at others cell c entry.0 relisted.rise (keys new others again relisted cell ∙ ap (option_map component_of) there) entry.2
        ∙ sym (place_at places cell c entry.0 listed.rise (keys old places entries listed cell ∙ ap (option_map component_of) there) entry.1)

-- ---- the team's nets decide

-- numbers: the whole before and after, the part before and after, and both parts as they are measured
in_numbers : (whole after before_part after_part part length : ℕ) → after + before_part ≡ whole + after_part → before_part ≤ whole → whole ≤ 2 ^ 64 - 1
    → part ≡ min before_part (2 ^ 64 - 1) → length ≡ min after_part (2 ^ 64 - 1) → length < part
    → (whole - (part - length) ≡ after) × (whole - (part - length) < whole)
in_numbers whole after before_part after_part part length sums least fits is_part is_length shorter = (omega arith, omega arith)

pub decides : (team : List ℕ) (number : ℕ) (lists : List (List ℕ)) (nets : List (List NetPin)) (whole before : ℕ) (start : FloorState)
    → AreNetsOfFloor lists nets start → team_number start.frame team ≡ Some number → whole ≤ 2 ^ 64 - 1 → IsWireLengthOn nets start whole
    → IsLengthOfNetsOn nets (get_or lists number []) start before → DecidesAfter team nets (get_or lists number []) whole before start
decides team number lists nets whole before start are named fits is had later only now has shorter = ⊎_elim inside past (cases_lt number (length lists)) where
  inside : number < length lists → IsWireLengthOn nets later (whole - (before - now)) × (whole - (before - now) < whole)
  inside within =
      let numbers : get_or lists number [] ≡ nets_of_team (map (λ (c : LoadedCell). c.team) are.design.cells) nets number = are.listed number within in
      let one : had.places ≡ is.places = places_are_one start had.places is.places had.listed is.listed in
      let keep = others_kept are.design start later are.entries (only.components ∙ are.entries) is.places has.places is.listed has.listed team number named only in
      let sums = difference (map (λ (c : LoadedCell). c.team) are.design.cells) nets number (listed_place is.places) (listed_place has.places) keep in
      let least = part (map (λ (c : LoadedCell). c.team) are.design.cells) nets number (listed_place is.places) in
      let is_before : before ≡ min (length_of_listed (listed_place is.places) nets (nets_of_team (map (λ (c : LoadedCell). c.team) are.design.cells) nets number)) (2 ^ 64 - 1) =
      had.length_is ∙ ap (λ (ps : List Entry). min (length_of_listed (listed_place ps) nets (get_or lists number [])) (2 ^ 64 - 1)) one
      ∙ ap (λ (ns : List ℕ). min (length_of_listed (listed_place is.places) nets ns) (2 ^ 64 - 1)) numbers in
      let is_now : now ≡ min (length_of_listed (listed_place has.places) nets (nets_of_team (map (λ (c : LoadedCell). c.team) are.design.cells) nets number)) (2 ^ 64 - 1) =
      has.length_is ∙ ap (λ (ns : List ℕ). min (length_of_listed (listed_place has.places) nets ns) (2 ^ 64 - 1)) numbers in
      let result = in_numbers whole (length_of_nets (listed_place has.places) nets)
      (length_of_listed (listed_place is.places) nets (nets_of_team (map (λ (c : LoadedCell). c.team) are.design.cells) nets number))
      (length_of_listed (listed_place has.places) nets (nets_of_team (map (λ (c : LoadedCell). c.team) are.design.cells) nets number))
      before now (sums ∙ ap (λ (n : ℕ). n + length_of_listed (listed_place has.places) nets (nets_of_team (map (λ (c : LoadedCell). c.team) are.design.cells) nets number)) (sym is.length_is))
      (omega (arith, least, is.length_is)) fits is_before is_now shorter in
      (record { places = has.places; listed = has.listed; length_is = result.0 }, result.1)

  past : length lists ≤ number → IsWireLengthOn nets later (whole - (before - now)) × (whole - (before - now) < whole)
  past beyond =
      let none : before ≡ min 0 (2 ^ 64 - 1) =
      had.length_is ∙ ap (λ (ns : List ℕ). min (length_of_listed (listed_place had.places) nets ns) (2 ^ 64 - 1)) (get_or_past lists number [] beyond) in
      absurd (omega (arith, none, shorter))
