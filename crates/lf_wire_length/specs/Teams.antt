-- The lengths of nets by team. A net joins the teams of those of its pins that count and are of
-- movable cells.
use Rattle.std.specs.Prelude.{ℕ, ◌+◌, ◌*◌, ◌==◌, ◌≤◌, ◌&&◌, Bool, true, false, List, map, option_map, Option, Some, None, count_by, filter, fold, if◌then◌else◌, sum_by}
use Rattle.std.specs.List.{list_any, range_with_len}
use Rattle.lf_floorplan.specs.declared.place.Place.{Place}
use Rattle.lf_wire_length.specs.declared.pins.NetPin.{NetPin}
use Rattle.lf_wire_length.specs.declared.pins.NetPin.TheVariants.{Fixed, OfCell, Unknown, Unplaced}
use Rattle.lf_wire_length.specs.declared.joined.JoinedTeams.{JoinedTeams}
use Rattle.lf_wire_length.specs.declared.joined.JoinedTeams.TheVariants.{NoTeam, OneTeam, SeveralTeams}
use Rattle.lf_wire_length.specs.declared.joined.NetSummary.{NetSummary}
use Rattle.lf_wire_length.specs.declared.team_lengths.TeamLengths.{TeamLengths}
use Rattle.lf_wire_length.specs.declared.pins.PackedPin.{PackedPin}
use Rattle.lf_wire_length.specs.declared.points.PinOffset.{PinOffset}
use Rattle.lf_wire_length.specs.Length.{length_of_net}
use Rattle.lf_wire_length.specs.Stored.{pin_stored}

-- The team of the pin's cell, if the pin is of a movable cell and counts.
abbrev pub team_of_pin : (ℕ → Option Place) → (ℕ → ℕ) → NetPin → Option ℕ
team_of_pin place team (OfCell cell pin) = option_map (λ at. team cell) (place cell)
team_of_pin place team (Fixed point) = None
team_of_pin place team Unknown = None
team_of_pin place team Unplaced = None

-- The teams, and the team of one pin more.
abbrev pub joined_with : JoinedTeams → Option ℕ → JoinedTeams
joined_with teams None = teams
joined_with NoTeam (Some team) = OneTeam team
joined_with (OneTeam first) (Some team) = if first == team then OneTeam first else SeveralTeams
joined_with SeveralTeams (Some team) = SeveralTeams

-- The teams that a net with these pins joins: none, one or several.
abbrev pub joined_teams : (ℕ → Option Place) → (ℕ → ℕ) → List NetPin → JoinedTeams
joined_teams place team pins = fold (λ teams pin. joined_with teams (team_of_pin place team pin)) NoTeam pins

abbrev pub is_team : ℕ → Option ℕ → Bool
is_team own None = false
is_team own (Some team) = team == own

-- True if a net with these pins joins the team `own`.
abbrev pub joins_team : (ℕ → Option Place) → (ℕ → ℕ) → ℕ → List NetPin → Bool
joins_team place team own pins = list_any (λ pin. is_team own (team_of_pin place team pin)) pins

-- The length of a net with these pins, and the teams that it joins.
abbrev pub net_summary : (ℕ → Option Place) → (ℕ → ℕ) → List NetPin → NetSummary
net_summary place team pins =
    record { length = length_of_net place pins; teams = joined_teams place team pins }

-- ---- the lengths of a team

abbrev pub no_team_lengths : TeamLengths
no_team_lengths = record { nets = 0; own = 0; crossing_nets = 0; crossing = 0 }

-- One net more, which joins no other team.
abbrev pub with_own_net : ℕ → TeamLengths → TeamLengths
with_own_net length s =
    record { nets = s.nets + 1; own = s.own + length; crossing_nets = s.crossing_nets; crossing = s.crossing }

-- One net more, which joins other teams too.
abbrev pub with_crossing_net : ℕ → TeamLengths → TeamLengths
with_crossing_net length s =
    record { nets = s.nets; own = s.own; crossing_nets = s.crossing_nets + 1; crossing = s.crossing + length }

-- One net more of this length, which joins these teams; `joins` says whether `own` is one of them.
abbrev pub with_net_of_team : ℕ → Bool → ℕ → JoinedTeams → TeamLengths → TeamLengths
with_net_of_team own joins length NoTeam s = s
with_net_of_team own joins length (OneTeam team) s = if team == own then with_own_net length s else s
with_net_of_team own joins length SeveralTeams s = if joins then with_crossing_net length s else s

-- The lengths of the team with the pins of one net more.
abbrev pub with_pins_of_team : (ℕ → Option Place) → (ℕ → ℕ) → ℕ → TeamLengths → List NetPin → TeamLengths
with_pins_of_team place team own s pins =
    with_net_of_team own (joins_team place team own pins) (length_of_net place pins) (joined_teams place team pins) s

-- True if `own` is the only team.
abbrev pub is_only_team : ℕ → JoinedTeams → Bool
is_only_team own NoTeam = false
is_only_team own (OneTeam team) = team == own
is_only_team own SeveralTeams = false

abbrev pub are_several_teams : JoinedTeams → Bool
are_several_teams SeveralTeams = true
are_several_teams _ = false

-- True if a net with these pins joins the team `own` and no other.
abbrev pub joins_only : (ℕ → Option Place) → (ℕ → ℕ) → ℕ → List NetPin → Bool
joins_only place team own pins = is_only_team own (joined_teams place team pins)

-- True if a net with these pins joins the team `own` and others.
abbrev pub joins_with_others : (ℕ → Option Place) → (ℕ → ℕ) → ℕ → List NetPin → Bool
joins_with_others place team own pins =
    are_several_teams (joined_teams place team pins) && joins_team place team own pins

-- The numbers and lengths of the nets that join the team: those that join no other team, and those
-- that join others too.
abbrev pub team_lengths : (ℕ → Option Place) → (ℕ → ℕ) → List (List NetPin) → ℕ → TeamLengths
team_lengths place team nets own = record {
  nets = count_by (joins_only place team own) nets;
  own = sum_by (length_of_net place) (filter (joins_only place team own) nets);
  crossing_nets = count_by (joins_with_others place team own) nets;
  crossing = sum_by (length_of_net place) (filter (joins_with_others place team own) nets);
}

-- The lengths of the teams of these numbers: 0 and those after it.
abbrev pub lengths_of_teams : (ℕ → Option Place) → (ℕ → ℕ) → List (List NetPin) → ℕ → List TeamLengths
lengths_of_teams place team nets teams = map (team_lengths place team nets) (range_with_len 0 teams)

-- ---- ranges

-- Holds for the lengths of this number of nets.
pub record AreLengthsOf (nets : ℕ) (s : TeamLengths) : Type 0 where
  pub nets_within : s.nets ≤ nets
  pub own_within : s.own ≤ nets * 800000000000
  pub crossing_nets_within : s.crossing_nets ≤ nets
  pub crossing_within : s.crossing ≤ nets * 800000000000

-- The length of a net is in the range of nets.
abbrev pub IsSummaryInRange : NetSummary → Type 0
IsSummaryInRange net = net.length ≤ 800000000000

-- ---- stored pins

-- The teams, and the team of one pin more that is stored so.
abbrev pub joined_after : (ℕ → Option Place) → (ℕ → ℕ) → List PinOffset → JoinedTeams → PackedPin → JoinedTeams
joined_after place team rows teams p = joined_with teams (team_of_pin place team (pin_stored rows p))

-- True if the pin that is stored so is of the team.
abbrev pub is_of_team : (ℕ → Option Place) → (ℕ → ℕ) → List PinOffset → ℕ → PackedPin → Bool
is_of_team place team rows own p = is_team own (team_of_pin place team (pin_stored rows p))
