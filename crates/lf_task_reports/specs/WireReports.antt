-- The report of wire lengths: a line of JSON for each team, and one for all. Lengths are in database
-- units, rounded down, except that `doubled` is in half database units.
use Rattle.std.specs.Prelude.{ℕ, ◌+◌, ◌/◌, List, [], ◌∷◌, ◌++◌, codes, length}
use Rattle.serde_json.specs.Data.{Data, member, no_members, object}
use Rattle.lf_describe.specs.Description.{count_data, described_team_name, line_text, text_data}
use Rattle.lf_floorplan.specs.declared.frame.Frame.{Frame}
use Rattle.lf_wire_length.specs.declared.netlist.WireLengths.{WireLengths}
use Rattle.lf_wire_length.specs.declared.team_lengths.TeamLengths.{TeamLengths}

-- The line of a team with this name.
abbrev pub team_wires_data : Data → TeamLengths → Data
team_wires_data name t =
    object (member (codes "crossing") (count_data (t.crossing / 2))
    (member (codes "crossing_nets") (count_data t.crossing_nets)
    (member (codes "nets") (count_data t.nets)
    (member (codes "own") (count_data (t.own / 2))
    (member (codes "team") name no_members)))))

-- The line of all teams, given the number of supplies.
abbrev pub wires_data : WireLengths → ℕ → Data
wires_data w supplies =
    object (member (codes "crossing") (count_data (w.counts.crossing / 2))
    (member (codes "crossing_nets") (count_data w.counts.crossing_nets)
    (member (codes "doubled") (count_data w.length)
    (member (codes "fixed_nets") (count_data w.counts.fixed_nets)
    (member (codes "length") (count_data (w.length / 2))
    (member (codes "nets") (count_data w.nets)
    (member (codes "one_pin") (count_data w.counts.one_pin)
    (member (codes "pins") (count_data w.counts.pins)
    (member (codes "supplies") (count_data supplies)
    (member (codes "teams") (count_data (length w.teams.items))
    (member (codes "unknown") (count_data w.counts.unknown)
    (member (codes "unplaced") (count_data w.counts.unplaced) no_members))))))))))))

-- The line of the team of this number.
abbrev pub team_wires_line : Frame → ℕ → TeamLengths → List ℕ
team_wires_line f team t = line_text (team_wires_data (text_data (described_team_name f team)) t)

-- The lines of teams. The first one has this number.
abbrev pub team_wires_lines : Frame → ℕ → List TeamLengths → List ℕ
team_wires_lines f team [] = []
team_wires_lines f team (t ∷ ts) = team_wires_line f team t ++ team_wires_lines f (team + 1) ts

abbrev pub wires_line : WireLengths → ℕ → List ℕ
wires_line w supplies = line_text (wires_data w supplies)

-- The whole report.
abbrev pub wire_report : Frame → WireLengths → ℕ → List ℕ
wire_report f w supplies = team_wires_lines f 0 w.teams.items ++ wires_line w supplies
