-- The wire length of a floor: of its cells at their working places.
use Rattle.std.specs.Prelude.{◌≡◌, ◌<◌, ◌-◌, ◌^◌, ℕ, List, [], Option, length, map, min, option_and_then, slice_get, slice_index_or}
use Rattle.lf_floorplan.specs.declared.loaded.Loaded.{Loaded}
use Rattle.lf_floorplan.specs.declared.place.Place.{Place}
use Rattle.lf_cells.specs.Initial.{initial_components}
use Rattle.lf_wire_length.specs.declared.pins.NetPin.{NetPin}
use Rattle.lf_wire_length.specs.Length.{length_of_nets}
use Rattle.lf_wire_length.specs.TeamNets.{length_of_listed, nets_of_team}
use Rattle.lf_floor_model.specs.States.{FloorState}
use Rattle.lf_floor.specs.Working.{ListsWorkingPlaces}
use Rattle.lf_repair_team.specs.TeamRepairs.{ChangesOnly}

-- the working place of the cell of this number, given the list of all working places
abbrev pub listed_place : List (ℕ × Option Place) → ℕ → Option Place
listed_place places cell = option_and_then (λ entry. entry.1) (slice_get places cell)

-- the wire length of these nets with the cells of the floor at their working places, in half
-- database units
pub record IsWireLengthOn (nets : List (List NetPin)) (floor : FloorState) (length : ℕ) : Type 0 where
  pub places : List (ℕ × Option Place)
  pub listed : ListsWorkingPlaces floor places
  pub length_is : length ≡ length_of_nets (listed_place places) nets

-- ---- laws

-- a floor has one list of working places
abbrev pub WorkingPlacesAreOne : Type 0
WorkingPlacesAreOne =
    (floor : FloorState) (places others : List (ℕ × Option Place))
    → ListsWorkingPlaces floor places → ListsWorkingPlaces floor others → places ≡ others

-- a floor has one wire length
abbrev pub WireLengthIsOne : Type 0
WireLengthIsOne =
    (nets : List (List NetPin)) (floor : FloorState) (length other : ℕ)
    → IsWireLengthOn nets floor length → IsWireLengthOn nets floor other → length ≡ other

-- ---- the nets of a team

-- the lists are the nets of the teams on the floor of a loaded design, whatever commands it has run.
-- Its cells have their numbers in loading order
pub record AreNetsOfFloor (lists : List (List ℕ)) (nets : List (List NetPin)) (floor : FloorState) : Type 0 where
  pub design : Loaded
  pub entries : floor.components ≡ initial_components design
  pub listed : (number : ℕ) → number < length lists
      → slice_index_or lists number [] ≡ nets_of_team (map (λ c. c.team) design.cells) nets number

-- the nets of these numbers have this length with the cells of the floor at their working places;
-- the greatest number of 64 bits stands for all that are greater
pub record IsLengthOfNetsOn (nets : List (List NetPin)) (numbers : List ℕ) (floor : FloorState) (length : ℕ) : Type 0 where
  pub places : List (ℕ × Option Place)
  pub listed : ListsWorkingPlaces floor places
  pub length_is : length ≡ min (length_of_listed (listed_place places) nets numbers) (2 ^ 64 - 1)

-- if the nets of these numbers are shorter on the floor than `part`, then the wire length is by as
-- much less than `whole`
abbrev pub DecidesOn : List (List NetPin) → List ℕ → ℕ → ℕ → FloorState → Type 0
DecidesOn nets numbers whole part floor =
    (length : ℕ) → IsLengthOfNetsOn nets numbers floor length → length < part
    → IsWireLengthOn nets floor (whole - (part - length)) × (whole - (part - length) < whole)

-- the same on each floor on which only the team has changed
abbrev pub DecidesAfter : List ℕ → List (List NetPin) → List ℕ → ℕ → ℕ → FloorState → Type 0
DecidesAfter team nets numbers whole part floor =
    (later : FloorState) → ChangesOnly team floor later → DecidesOn nets numbers whole part later
