-- Counts of a design's nets and of their pins.
use Rattle.std.specs.Prelude.{ℕ, ◌+◌, ◌*◌, ◌≤◌, nat_lt, Bool, true, false, List, Option, Some, None, count_by, filter, if◌then◌else◌, is_none, is_some, sum_by}
use Rattle.lf_floorplan.specs.declared.place.Place.{Place}
use Rattle.lf_wire_length.specs.declared.pins.NetPin.{NetPin}
use Rattle.lf_wire_length.specs.declared.pins.NetPin.TheVariants.{Fixed, OfCell, Unknown, Unplaced}
use Rattle.lf_wire_length.specs.declared.pins.PackedPin.{PackedPin}
use Rattle.lf_wire_length.specs.declared.points.PinOffset.{PinOffset}
use Rattle.lf_wire_length.specs.declared.joined.JoinedTeams.{JoinedTeams}
use Rattle.lf_wire_length.specs.declared.joined.JoinedTeams.TheVariants.{NoTeam, OneTeam, SeveralTeams}
use Rattle.lf_wire_length.specs.declared.counts.PinCounts.{PinCounts}
use Rattle.lf_wire_length.specs.declared.counts.NetCounts.{NetCounts}
use Rattle.lf_wire_length.specs.Length.{length_of_net, point_of_pin}
use Rattle.lf_wire_length.specs.Stored.{pin_stored}
use Rattle.lf_wire_length.specs.Teams.{are_several_teams, joined_teams}

-- ---- the pins of a net

abbrev pub no_pins : PinCounts
no_pins = record { counted = 0; unknown = 0; unplaced = 0 }

abbrev pub with_counted : PinCounts → PinCounts
with_counted c = record { counted = c.counted + 1; unknown = c.unknown; unplaced = c.unplaced }

abbrev pub with_unknown : PinCounts → PinCounts
with_unknown c = record { counted = c.counted; unknown = c.unknown + 1; unplaced = c.unplaced }

abbrev pub with_unplaced : PinCounts → PinCounts
with_unplaced c = record { counted = c.counted; unknown = c.unknown; unplaced = c.unplaced + 1 }

-- One pin more of a cell at this place.
abbrev pub with_cell_pin : Option Place → PinCounts → PinCounts
with_cell_pin None c = with_unplaced c
with_cell_pin (Some at) c = with_counted c

-- One pin more: it counts, is unknown, or is unplaced.
abbrev pub with_pin_counted : (ℕ → Option Place) → PinCounts → NetPin → PinCounts
with_pin_counted place c (Fixed point) = with_counted c
with_pin_counted place c (OfCell cell pin) = with_cell_pin (place cell) c
with_pin_counted place c Unknown = with_unknown c
with_pin_counted place c Unplaced = with_unplaced c

-- True if the pin has a point, so that it counts.
abbrev pub is_counted : (ℕ → Option Place) → NetPin → Bool
is_counted place pin = is_some (point_of_pin place pin)

-- True if the pin is in no text.
abbrev pub is_unknown : NetPin → Bool
is_unknown Unknown = true
is_unknown _ = false

-- True if the pin has no place, and would have one if it or its cell were placed.
abbrev pub is_unplaced : (ℕ → Option Place) → NetPin → Bool
is_unplaced place (OfCell cell pin) = is_none (place cell)
is_unplaced place Unplaced = true
is_unplaced place _ = false

-- The numbers of pins of a net that count, are unknown, and are unplaced.
abbrev pub pin_counts : (ℕ → Option Place) → List NetPin → PinCounts
pin_counts place pins = record {
  counted = count_by (is_counted place) pins;
  unknown = count_by is_unknown pins;
  unplaced = count_by (is_unplaced place) pins;
}

-- ---- the nets

abbrev pub no_counts : NetCounts
no_counts = record { pins = 0; one_pin = 0; unknown = 0; unplaced = 0; fixed_nets = 0; crossing_nets = 0; crossing = 0 }

-- 1 if fewer than two pins count.
abbrev pub one_if_short : ℕ → ℕ
one_if_short counted = if nat_lt counted 2 then 1 else 0

abbrev pub one_if_fixed : JoinedTeams → ℕ
one_if_fixed NoTeam = 1
one_if_fixed (OneTeam team) = 0
one_if_fixed SeveralTeams = 0

abbrev pub one_if_crossing : JoinedTeams → ℕ
one_if_crossing NoTeam = 0
one_if_crossing (OneTeam team) = 0
one_if_crossing SeveralTeams = 1

abbrev pub length_if_crossing : ℕ → JoinedTeams → ℕ
length_if_crossing length NoTeam = 0
length_if_crossing length (OneTeam team) = 0
length_if_crossing length SeveralTeams = length

-- One net more, with its length, teams and pins.
abbrev pub with_net_counted : NetCounts → ℕ → JoinedTeams → PinCounts → NetCounts
with_net_counted s length teams c = record {
  pins = s.pins + c.counted;
  one_pin = s.one_pin + one_if_short c.counted;
  unknown = s.unknown + c.unknown;
  unplaced = s.unplaced + c.unplaced;
  fixed_nets = s.fixed_nets + one_if_fixed teams;
  crossing_nets = s.crossing_nets + one_if_crossing teams;
  crossing = s.crossing + length_if_crossing length teams;
}

-- The counts with the pins of one net more.
abbrev pub with_pins_of_net : (ℕ → Option Place) → (ℕ → ℕ) → NetCounts → List NetPin → NetCounts
with_pins_of_net place team s pins =
    with_net_counted s (length_of_net place pins) (joined_teams place team pins) (pin_counts place pins)

-- True if fewer than two pins of the net count.
abbrev pub is_short : (ℕ → Option Place) → List NetPin → Bool
is_short place pins = nat_lt (pin_counts place pins).counted 2

abbrev pub is_no_team : JoinedTeams → Bool
is_no_team NoTeam = true
is_no_team _ = false

-- True if the net joins several teams.
abbrev pub is_crossing : (ℕ → Option Place) → (ℕ → ℕ) → List NetPin → Bool
is_crossing place team pins = are_several_teams (joined_teams place team pins)

-- The counts of nets: pins that count, nets of fewer than two, pins that are unknown or unplaced,
-- nets that join no team, and nets that join several, with the sum of their lengths.
abbrev pub net_counts : (ℕ → Option Place) → (ℕ → ℕ) → List (List NetPin) → NetCounts
net_counts place team nets = record {
  pins = sum_by (λ pins. (pin_counts place pins).counted) nets;
  one_pin = count_by (is_short place) nets;
  unknown = sum_by (λ pins. (pin_counts place pins).unknown) nets;
  unplaced = sum_by (λ pins. (pin_counts place pins).unplaced) nets;
  fixed_nets = count_by (λ pins. is_no_team (joined_teams place team pins)) nets;
  crossing_nets = count_by (is_crossing place team) nets;
  crossing = sum_by (length_of_net place) (filter (is_crossing place team) nets);
}

-- ---- ranges

-- Holds for the counts of this number of pins.
pub record ArePinCountsOf (pins : ℕ) (c : PinCounts) : Type 0 where
  pub counted_within : c.counted ≤ pins
  pub unknown_within : c.unknown ≤ pins
  pub unplaced_within : c.unplaced ≤ pins

-- Holds for the counts of this number of nets.
pub record AreNetCountsOf (nets : ℕ) (s : NetCounts) : Type 0 where
  pub pins_within : s.pins ≤ nets * 4294967295
  pub one_pin_within : s.one_pin ≤ nets
  pub unknown_within : s.unknown ≤ nets * 4294967295
  pub unplaced_within : s.unplaced ≤ nets * 4294967295
  pub fixed_within : s.fixed_nets ≤ nets
  pub crossing_nets_within : s.crossing_nets ≤ nets
  pub crossing_within : s.crossing ≤ nets * 800000000000

-- ---- stored pins

-- The counts with one pin more that is stored so.
abbrev pub counts_after : (ℕ → Option Place) → List PinOffset → PinCounts → PackedPin → PinCounts
counts_after place rows c p = with_pin_counted place c (pin_stored rows p)
