-- The nets of each team: those that have a pin of one of its cells, whether or not the cell is
-- placed.
use Rattle.std.specs.Prelude.{◌≡◌, ◌≢◌, ℕ, ◌+◌, ◌-◌, ◌==◌, ◌≤◌, Bool, List, [], ◌∷◌, ◌++◌, map, length, Option, Some, None, slice_get, slice_index_or, if◌then◌else◌}
use Rattle.std.specs.List.{filter, list_any, range_with_len, sum_by}
use Rattle.lf_floorplan.specs.declared.place.Place.{Place}
use Rattle.lf_wire_length.specs.declared.pins.NetPin.{NetPin}
use Rattle.lf_wire_length.specs.declared.pins.NetPin.TheVariants.{Fixed, OfCell, Unknown, Unplaced}
use Rattle.lf_wire_length.specs.declared.pins.PackedPin.{PackedPin}
use Rattle.lf_wire_length.specs.declared.points.PinOffset.{PinOffset}
use Rattle.lf_wire_length.specs.Length.{length_of_net, length_of_nets}
use Rattle.lf_wire_length.specs.Stored.{pin_stored}
use Rattle.lf_wire_length.specs.Teams.{is_team}

-- The team of the pin's cell, given the team of each cell. None if the pin is of no cell, or of one
-- that the list does not have.
abbrev pub owner_of_pin : List ℕ → NetPin → Option ℕ
owner_of_pin owners (OfCell cell pin) = slice_get owners cell
owner_of_pin owners (Fixed point) = None
owner_of_pin owners Unknown = None
owner_of_pin owners Unplaced = None

-- True if the pin is of one of the team's cells.
abbrev pub is_pin_of : List ℕ → ℕ → NetPin → Bool
is_pin_of owners own pin = is_team own (owner_of_pin owners pin)

-- True if one of the pins is of one of the team's cells.
abbrev pub has_pin_of : List ℕ → ℕ → List NetPin → Bool
has_pin_of owners own pins = list_any (is_pin_of owners own) pins

-- True if the net of this number has a pin of one of the team's cells.
abbrev pub is_net_of : List ℕ → List (List NetPin) → ℕ → ℕ → Bool
is_net_of owners nets own net = has_pin_of owners own (slice_index_or nets net [])

-- The numbers of the nets that have a pin of one of the team's cells, in rising order.
abbrev pub nets_of_team : List ℕ → List (List NetPin) → ℕ → List ℕ
nets_of_team owners nets own = filter (is_net_of owners nets own) (range_with_len 0 (length nets))

-- The same for each of this number of teams.
abbrev pub nets_of_teams : List ℕ → List (List NetPin) → ℕ → List (List ℕ)
nets_of_teams owners nets teams = map (nets_of_team owners nets) (range_with_len 0 teams)

-- The sum of the lengths of the nets of these numbers.
abbrev pub length_of_listed : (ℕ → Option Place) → List (List NetPin) → List ℕ → ℕ
length_of_listed place nets numbers = sum_by (λ net. length_of_net place (slice_index_or nets net [])) numbers

-- ---- a law

-- The cells of other teams are at the same places.
abbrev pub KeepsOtherCells : List ℕ → ℕ → (ℕ → Option Place) → (ℕ → Option Place) → Type 0
KeepsOtherCells owners own place later = (cell : ℕ) → slice_get owners cell ≢ Some own → later cell ≡ place cell

-- If only cells of a team have other places, the whole length changes by as much as that of the
-- team's nets, which are a part of it.
pub record TeamNetsDecide : Type 0 where
  pub difference : (owners : List ℕ) (nets : List (List NetPin)) (own : ℕ) (place later : ℕ → Option Place)
      → KeepsOtherCells owners own place later
      → length_of_nets later nets + length_of_listed place nets (nets_of_team owners nets own)
      ≡ length_of_nets place nets + length_of_listed later nets (nets_of_team owners nets own)
  pub part : (owners : List ℕ) (nets : List (List NetPin)) (own : ℕ) (place : ℕ → Option Place)
      → length_of_listed place nets (nets_of_team owners nets own) ≤ length_of_nets place nets

-- ---- lists that grow

-- The list with this net, unless it is the last one there.
abbrev pub with_net : ℕ → List ℕ → List ℕ
with_net net numbers =
    if slice_index_or numbers (length numbers - 1) (net + 1) == net then numbers else numbers ++ net ∷ []

-- The list of the team `own` with a net of this team, if there is one.
abbrev pub with_owner : ℕ → ℕ → List ℕ → Option ℕ → List ℕ
with_owner own net numbers None = numbers
with_owner own net numbers (Some team) = if team == own then with_net net numbers else numbers

-- The list of the team `own` with a net that has the pin that is stored so.
abbrev pub with_owner_of : List PinOffset → List ℕ → ℕ → ℕ → List ℕ → PackedPin → List ℕ
with_owner_of rows owners own net numbers p = with_owner own net numbers (owner_of_pin owners (pin_stored rows p))
