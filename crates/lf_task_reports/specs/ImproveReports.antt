-- The report of an improvement: a line of JSON for each selected team, and one for all. Lengths are
-- in database units, rounded down, except that `doubled` is in half database units.
use Rattle.std.specs.Prelude.{ℕ, ◌+◌, ◌/◌, Bool, if◌then◌else◌, List, ◌++◌, codes, flat_map, fold, length, max, slice_index_or}
use Rattle.serde_json.specs.Data.{Data, Members, boolean, member, no_members, object, put}
use Rattle.lf_floorplan.specs.declared.frame.Frame.{Frame}
use Rattle.lf_wire_length.specs.declared.netlist.WireLengths.{WireLengths}
use Rattle.lf_wire_length.specs.declared.team_lengths.TeamLengths.{TeamLengths}
use Rattle.lf_wire_length.specs.Teams.{no_team_lengths}
use Rattle.lf_describe.specs.Description.{count_data, described_team_name, line_text, text_data}
use Rattle.lf_task_reports.specs.declared.density.DensityChange.{DensityChange}
use Rattle.lf_task_reports.specs.Densities.{with_change, with_density}
use Rattle.lf_task_reports.specs.RepairReports.{mean_displacement, saturating_sum}
use Rattle.lf_task_reports.specs.declared.improved.ImprovedTeam.{ImprovedTeam}
use Rattle.lf_task_reports.specs.declared.improved.ImprovementTotals.{ImprovementTotals}
use Rattle.lf_task_reports.specs.declared.improvement_report.PinChange.{PinChange}

-- ---- a team

-- The lengths of the team of this number.
abbrev pub lengths_at : WireLengths → ℕ → TeamLengths
lengths_at w number = slice_index_or w.teams.items number no_team_lengths

-- The line of a team with this name, given its lengths at the beginning and at the end.
abbrev pub improved_team_data : Data → TeamLengths → TeamLengths → ImprovedTeam → Data
improved_team_data name before after t =
    object (member (codes "cells") (count_data t.cells)
    (member (codes "crossing") (count_data (after.crossing / 2))
    (member (codes "crossing_before") (count_data (before.crossing / 2))
    (member (codes "largest") (count_data t.stats.max_displacement)
    (member (codes "mean") (count_data (mean_displacement t.stats.total_displacement t.stats.moved))
    (member (codes "moved") (count_data t.stats.moved)
    (member (codes "own") (count_data (after.own / 2))
    (member (codes "own_before") (count_data (before.own / 2))
    (member (codes "skipped") (boolean t.is_skipped)
    (member (codes "team") name
    (member (codes "total") (count_data t.stats.total_displacement)
    (member (codes "turned") (count_data t.stats.turned) no_members))))))))))))

-- The name of the team of a result.
abbrev pub improved_team_name : Frame → ImprovedTeam → List ℕ
improved_team_name f t = described_team_name f t.number

abbrev pub improved_team_line : Frame → WireLengths → WireLengths → ImprovedTeam → List ℕ
improved_team_line f before after t =
    line_text (improved_team_data (text_data (improved_team_name f t)) (lengths_at before t.number)
    (lengths_at after t.number) t)

-- ---- all teams

-- The sums of no team.
abbrev pub no_improvement : ImprovementTotals
no_improvement = record {
  teams = 0;
  skipped = 0;
  cells = 0;
  moved = 0;
  turned = 0;
  total_displacement = 0;
  max_displacement = 0;
}

-- The sums with one more team.
abbrev pub with_improved_team : ImprovementTotals → ImprovedTeam → ImprovementTotals
with_improved_team s t = record {
  teams = saturating_sum s.teams 1;
  skipped = saturating_sum s.skipped (if t.is_skipped then 1 else 0);
  cells = saturating_sum s.cells t.cells;
  moved = saturating_sum s.moved t.stats.moved;
  turned = saturating_sum s.turned t.stats.turned;
  total_displacement = saturating_sum s.total_displacement t.stats.total_displacement;
  max_displacement = max s.max_displacement t.stats.max_displacement;
}

-- The members of the line of all teams, given the lengths at the beginning and at the end.
abbrev pub improvement_members : ImprovementTotals → WireLengths → WireLengths → Members
improvement_members s before after =
    member (codes "cells") (count_data s.cells)
    (member (codes "doubled") (count_data after.length)
    (member (codes "doubled_before") (count_data before.length)
    (member (codes "largest") (count_data s.max_displacement)
    (member (codes "length") (count_data (after.length / 2))
    (member (codes "length_before") (count_data (before.length / 2))
    (member (codes "mean") (count_data (mean_displacement s.total_displacement s.moved))
    (member (codes "moved") (count_data s.moved)
    (member (codes "skipped") (count_data s.skipped)
    (member (codes "teams") (count_data s.teams)
    (member (codes "total") (count_data s.total_displacement)
    (member (codes "turned") (count_data s.turned) no_members)))))))))))

-- The members with the mean number of pins of the fullest 2, 5, 10 and 20 % of the bins, at the end and
-- at the beginning.
abbrev pub with_pins : PinChange → Members → Members
with_pins pins ms =
    with_change (codes "pins_5") (codes "pins_5_before") pins.before.fullest_5 pins.after.fullest_5
    (with_change (codes "pins_20") (codes "pins_20_before") pins.before.fullest_20 pins.after.fullest_20
    (with_change (codes "pins_2") (codes "pins_2_before") pins.before.fullest_2 pins.after.fullest_2
    (with_change (codes "pins_10") (codes "pins_10_before") pins.before.fullest_10 pins.after.fullest_10 ms)))

-- The line of all teams: these members, the densities of cells and of pins, and whether the committed
-- design is then fully legal.
abbrev pub improvement_data : ImprovementTotals → WireLengths → WireLengths → DensityChange → PinChange → Bool → Data
improvement_data s before after density pins legal =
    object (with_density density (with_pins pins (put (codes "legal") (boolean legal) (improvement_members s before after))))

-- The sums of these teams.
abbrev pub improvement_totals : List ImprovedTeam → ImprovementTotals
improvement_totals teams = fold with_improved_team no_improvement teams

-- ---- the report

-- The whole report of an improvement of these teams, given the lengths and the densities of cells and
-- of pins at the beginning and at the end, and whether the committed design is then fully legal.
abbrev pub improve_report : Frame → List ImprovedTeam → WireLengths → WireLengths → DensityChange → PinChange → Bool
    → List ℕ
improve_report f teams before after density pins legal =
    flat_map (improved_team_line f before after) teams
    ++ line_text (improvement_data (improvement_totals teams) before after density pins legal)
