-- A floor has one list of working places, and a team that keeps its places keeps the list.
use Rattle.std.proofs.Common.{◌≡◌, ◌≢◌, ⊎_elim, ℕ, List, [], map, Option, Some, None, refl, ap, sym, ◌∙◌, subst}
use Rattle.std.specs.Prelude.{Contains, option_and_then, option_map, slice_get, slice_index_or}
use Rattle.std.proofs.lemmas.Bool.{cases_eq}
use Rattle.std.proofs.lemmas.List.Elements.{All-contains, All-weaker}
use Rattle.std.proofs.lemmas.Option.{slice_get-map}
use Rattle.lf_floorplan.specs.declared.frame.Frame.{Frame}
use Rattle.lf_floorplan.specs.declared.place.Place.{Place}
use Rattle.lf_wire_length.specs.declared.pins.NetPin.{NetPin}
use Rattle.lf_wire_length.specs.Length.{length_of_nets}
use Rattle.lf_cells.specs.declared.cell.Cell.{Cell}
use Rattle.lf_cells.specs.Cells.{as_committed, working_at}
use Rattle.lf_floor_model.specs.States.{FloorState, TeamState}
use Rattle.lf_floor_model.specs.Places.{AreCommittedPlaces, IsCommittedAt, cell_in, component_entry}
use Rattle.lf_floor_model.specs.Teams.{state_of, team_number}
use Rattle.lf_floor_model.proofs.Forms.{state_at}
use Rattle.lf_floor_model.proofs.LegalPlaces.{none_some, some_one}
use Rattle.lf_floor_model.proofs.Places.{same_rising}
use Rattle.lf_floor.specs.Working.{ListsWorkingPlaces, with_working, with_working_team}
use Rattle.lf_repair_team.specs.CellEdits.{KeepsPlaces}
use Rattle.lf_repair_team.specs.TeamRepairs.{ChangesOnly}
use Rattle.lf_improve_team.specs.FloorLengths.{IsWireLengthOn, WireLengthIsOne, WorkingPlacesAreOne, listed_place}

some_from : {X Y : Type 0} (f : X → Y) (o : Option X) (y : Y) → option_map f o ≡ Some y → (x : X) × (o ≡ Some x) × (f x ≡ y)
some_from f None y e = absurd cc
some_from f (Some x) y e = (x, refl, some_one e)

-- ---- floors with the same committed places

abbrev committed_of : Cell → Option Place
committed_of c = c.committed

-- both floors have the same entries, at the same committed places
record HaveSamePlaces (floor other : FloorState) : Type 0 where
  components : other.components ≡ floor.components
  places : (number own : ℕ) → option_map committed_of (cell_in other number own) ≡ option_map committed_of (cell_in floor number own)

same_back : (floor other : FloorState) → HaveSamePlaces floor other → HaveSamePlaces other floor
same_back floor other same = record { components = sym same.components; places = λ number own. sym (same.places number own) }

entry_same : (floor other : FloorState) → HaveSamePlaces floor other → (number own : ℕ) → component_entry other number own ≡ component_entry floor number own
entry_same floor other same number own = ap (λ (rows : List (List ℕ)). slice_get (slice_index_or rows number []) own) same.components

abbrev EntryOf : FloorState → ℕ × Option Place → Type 0
EntryOf floor entry = (number : ℕ) × (own : ℕ) × IsCommittedAt floor number own entry

listed_too : (floor other : FloorState) (places others : List (ℕ × Option Place)) → HaveSamePlaces floor other → AreCommittedPlaces floor places
    → AreCommittedPlaces other others → (e : ℕ × Option Place) → Contains places e → Contains others e
listed_too floor other places others same are too e held =
    let at = All-contains (EntryOf floor) places e are.theirs held in
    let cell = some_from committed_of (cell_in other at.0 at.1) e.1 (same.places at.0 at.1 ∙ at.2.place) in
    let found = too.cells at.0 at.1 cell.0 cell.1 in
    let position : found.0 ≡ e.0 = some_one (sym found.1 ∙ entry_same floor other same at.0 at.1 ∙ at.2.position) in
    subst (λ (x : ℕ × Option Place). Contains others x) (ap (λ (k : ℕ). (k, cell.0.committed)) position ∙ ap (λ (p : Option Place). (e.0, p)) cell.2) found.2

one_list : (floor other : FloorState) (places others : List (ℕ × Option Place)) → HaveSamePlaces floor other → AreCommittedPlaces floor places
    → AreCommittedPlaces other others → places ≡ others
one_list floor other places others same are too =
    same_rising (λ (e : ℕ × Option Place). e.0) places others are.rise too.rise (listed_too floor other places others same are too)
    (listed_too other floor others places (same_back floor other same) too are)

entry_too : (floor other : FloorState) → HaveSamePlaces floor other → (e : ℕ × Option Place) → EntryOf floor e → EntryOf other e
entry_too floor other same e at = (
  at.0,
  at.1,
  record { position = entry_same floor other same at.0 at.1 ∙ at.2.position; place = same.places at.0 at.1 ∙ at.2.place },
)

list_too : (floor other : FloorState) (places : List (ℕ × Option Place)) → HaveSamePlaces floor other → AreCommittedPlaces floor places → AreCommittedPlaces other places
list_too floor other places same are = record {
  rise = are.rise;
  theirs = All-weaker (EntryOf floor) (EntryOf other) (λ e at. entry_too floor other same e at) places are.theirs;
  cells = cells;
  entries = entries;
} where
  cells : (number own : ℕ) (c : Cell) → cell_in other number own ≡ Some c
      → (position : ℕ) × (component_entry other number own ≡ Some position) × Contains places (position, c.committed)
  cells number own c there =
      let cell = some_from committed_of (cell_in floor number own) c.committed (sym (same.places number own) ∙ ap (option_map committed_of) there) in
      let found = are.cells number own cell.0 cell.1 in (
        found.0,
        entry_same floor other same number own ∙ found.1,
        subst (λ (p : Option Place). Contains places (found.0, p)) cell.2 found.2,
      )

  entries : (number own position : ℕ) → component_entry other number own ≡ Some position
      → (c : Cell) × (cell_in other number own ≡ Some c) × Contains places (position, c.committed)
  entries number own position there =
      let found = are.entries number own position (sym (entry_same floor other same number own) ∙ there) in
      let cell = some_from committed_of (cell_in other number own) found.0.committed (same.places number own ∙ ap (option_map committed_of) found.1) in (
        cell.0,
        cell.1,
        subst (λ (p : Option Place). Contains places (position, p)) (sym cell.2) found.2,
      )

-- ---- one list, one length

pub places_are_one : WorkingPlacesAreOne
places_are_one floor places others are too =
    one_list (with_working floor) (with_working floor) places others (record { components = refl; places = λ number own. refl }) are too

pub length_is_one : WireLengthIsOne
length_is_one nets floor length other one two =
    one.length_is ∙ ap (λ (places : List (ℕ × Option Place)). length_of_nets (listed_place places) nets) (places_are_one floor one.places two.places one.listed two.listed)
    ∙ sym two.length_is

-- ---- through commands that move no cell

abbrev working_of : Cell → Option Place
working_of c = c.working

-- the working place, as the committed one of the floor in which it is committed
working_in : (floor : FloorState) (number own : ℕ) → option_map committed_of (cell_in (with_working floor) number own) ≡ option_map working_of (cell_in floor number own)
working_in floor number own =
    ap (λ (o : Option TeamState). option_map committed_of (option_and_then (λ (s : TeamState). slice_get s.cells own) o)) (slice_get-map with_working_team floor.teams number)
    ∙ team (slice_get floor.teams number)
  where
    cell : (o : Option Cell) → option_map committed_of (option_map as_committed o) ≡ option_map working_of o
    cell None = refl
    cell (Some c) = refl

    team : (o : Option TeamState) → option_map committed_of (option_and_then (λ (s : TeamState). slice_get s.cells own) (option_map with_working_team o))
        ≡ option_map working_of (option_and_then (λ (s : TeamState). slice_get s.cells own) o)
    team None = refl
    team (Some s) = ap (option_map committed_of) (slice_get-map as_committed s.cells own) ∙ cell (slice_get s.cells own)

-- lists of cells with the same names and places
same_working : (cells others : List Cell) → map (λ c. c.name) cells ≡ map (λ c. c.name) others → (own : ℕ) → working_at cells own ≡ working_at others own
    → option_map working_of (slice_get cells own) ≡ option_map working_of (slice_get others own)
same_working cells others names own at = go (slice_get cells own) (slice_get others own) name at where
  name : option_map (λ (c : Cell). c.name) (slice_get cells own) ≡ option_map (λ (c : Cell). c.name) (slice_get others own)
  name =
      sym (slice_get-map (λ (c : Cell). c.name) cells own) ∙ ap (λ (ns : List (List ℕ)). slice_get ns own) names
      ∙ slice_get-map (λ (c : Cell). c.name) others own

  go : (o p : Option Cell) → option_map (λ (c : Cell). c.name) o ≡ option_map (λ (c : Cell). c.name) p
      → option_and_then (λ (c : Cell). c.working) o ≡ option_and_then (λ (c : Cell). c.working) p → option_map working_of o ≡ option_map working_of p
  go None None e w = refl
  go None (Some c) e w = absurd (none_some e)
  go (Some c) None e w = absurd (none_some (sym e))
  go (Some c) (Some d) e w = ap (λ (p : Option Place). Some p) w

module _ (team : List ℕ) (old new : FloorState) (only : ChangesOnly team old new) (stay : KeepsPlaces team old new) where
  abbrev names_of : Option TeamState → Option (List (List ℕ))
  names_of o = option_map (λ (s : TeamState). map (λ (c : Cell). c.name) s.cells) o

  abbrev place_of : ℕ → Option TeamState → Option Place
  place_of own o = option_and_then (λ (s : TeamState). working_at s.cells own) o

  abbrev cell_of : ℕ → Option TeamState → Option Cell
  cell_of own o = option_and_then (λ (s : TeamState). slice_get s.cells own) o

  of_team : (own : ℕ) (o p : Option TeamState) → names_of o ≡ names_of p → place_of own o ≡ place_of own p
      → option_map working_of (cell_of own o) ≡ option_map working_of (cell_of own p)
  of_team own None None names at = refl
  of_team own None (Some s) names at = absurd (none_some names)
  of_team own (Some s) None names at = absurd (none_some (sym names))
  of_team own (Some s) (Some t) names at = same_working s.cells t.cells (some_one names) own at

  team_places : (number own : ℕ) → option_map working_of (cell_in new number own) ≡ option_map working_of (cell_in old number own)
  team_places number own = go (team_number old.frame team) refl where
    other : team_number old.frame team ≢ Some number → option_map working_of (cell_in new number own) ≡ option_map working_of (cell_in old number own)
    other differ = ap (λ (o : Option TeamState). option_map working_of (cell_of own o)) (only.numbers number differ)

    this : team_number old.frame team ≡ Some number → option_map working_of (cell_in new number own) ≡ option_map working_of (cell_in old number own)
    this named =
        let before : state_of old team ≡ slice_get old.teams number = ap (state_at old.teams) named in
        let after : state_of new team ≡ slice_get new.teams number =
        ap (state_at new.teams) (ap (λ (f : Frame). team_number f team) only.frame ∙ named) in
        of_team own (slice_get new.teams number) (slice_get old.teams number) (sym (ap names_of after) ∙ only.names ∙ ap names_of before)
        (sym (ap (place_of own) after) ∙ stay own ∙ ap (place_of own) before)

    go : (o : Option ℕ) → team_number old.frame team ≡ o → option_map working_of (cell_in new number own) ≡ option_map working_of (cell_in old number own)
    go None named = other (λ e. none_some (sym named ∙ e))
    go (Some n) named = ⊎_elim (λ (same : n ≡ number). this (named ∙ ap (λ (k : ℕ). Some k) same))
        (λ (differ : n ≢ number). other (λ e. differ (some_one (sym named ∙ e)))) (cases_eq n number)

  places_kept : (places : List (ℕ × Option Place)) → ListsWorkingPlaces old places → ListsWorkingPlaces new places
  places_kept places are =
      list_too (with_working old) (with_working new) places
      (record { components = only.components; places = λ number own. working_in new number own ∙ team_places number own ∙ sym (working_in old number own) }) are

  -- the wire length is the same
  pub length_kept : (nets : List (List NetPin)) (length : ℕ) → IsWireLengthOn nets old length → IsWireLengthOn nets new length
  length_kept nets length is = record { places = is.places; listed = places_kept is.places is.listed; length_is = is.length_is }
