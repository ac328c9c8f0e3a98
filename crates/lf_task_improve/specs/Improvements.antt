-- Improved teams of a design, and the report of an improvement.
use Rattle.std.specs.Prelude.{◌≡◌, ◌⊎◌, ◌↔◌, ◌≤◌, ◌+◌, ◌-◌, ◌*◌, ◌^◌, ℕ, Bool, IsTrue, false, List, [], ◌++◌, All, Option, Some, length, map, min, option_map, slice_index_or}
use Rattle.std.specs.Int.RustNames.{unsigned_abs}
use Rattle.lf_floorplan.specs.declared.frame.Frame.{Frame}
use Rattle.lf_floorplan.specs.declared.place.Place.{Place}
use Rattle.lf_rules.specs.Legalizer.{Legalizer}
use Rattle.lf_wire_length.specs.declared.pins.NetPin.{NetPin}
use Rattle.lf_wire_length.specs.declared.netlist.WireLengths.{WireLengths}
use Rattle.lf_wire_length.specs.Length.{length_of_nets}
use Rattle.lf_wire_length.specs.Teams.{lengths_of_teams}
use Rattle.lf_density.specs.declared.pins.PinDensity.{PinDensity}
use Rattle.lf_wire_density.specs.PinPoints.{IsPinDensityOfNets}
use Rattle.lf_floor_model.specs.States.{FloorState, TeamState}
use Rattle.lf_floor_model.specs.Steps.{AllCommittedIn}
use Rattle.lf_floor_model.specs.Teams.{state_of}
use Rattle.lf_floor_model.specs.Committed.{IsCommittedLegal}
use Rattle.lf_floor.specs.Working.{ListsWorkingPlaces}
use Rattle.lf_repair_team.specs.Stats.{AreTeamStats}
use Rattle.lf_repair_team.specs.TeamRepairs.{AreMovedOffSoft, settings_in}
use Rattle.lf_repair_strategy.specs.declared.stats.RepairStats.{RepairStats}
use Rattle.lf_improve_team.specs.FloorLengths.{listed_place}
use Rattle.lf_improve_team.specs.TeamImprovements.{IsImprovable, KeepsTeamPlaces, StaysWithin}
use Rattle.lf_task_reports.specs.declared.density.DensityChange.{DensityChange}
use Rattle.lf_task_reports.specs.Densities.{IsDensityOn}
use Rattle.lf_task_reports.specs.declared.improved.ImprovedTeam.{ImprovedTeam}
use Rattle.lf_task_reports.specs.declared.improvement_report.PinChange.{PinChange}
use Rattle.lf_task_reports.specs.ImproveReports.{improve_report, improved_team_name}
use Rattle.lf_task_run.specs.Teams.{selected_names}

-- ---- a team

-- the greatest distance of a cell from its place in the DEF text, in database units, if one is
-- given as a number of rows. It saturates at the greatest number of 64 bits
abbrev pub distance_of_rows : Frame → Option ℕ → Option ℕ
distance_of_rows f rows = option_map (λ n. min (unsigned_abs f.pitch.y * n) (2 ^ 64 - 1)) rows

-- the result of a team's improvement that began on one floor, on the other: it is skipped unless all
-- its cells are legal and committed, and is then unchanged; its cells are all legal and committed, or
-- are where they were; none is too far from where it was; its cells are counted, and the statistics
-- are theirs from one floor to the other; its padding and session slots are as they were; each placed
-- cell that is elsewhere is off soft blockages
pub record IsImprovementOf (within : Option ℕ) (team : List ℕ) (begin floor : FloorState) (is_skipped : Bool)
    (cells : ℕ) (stats : RepairStats) : Type 0 where
  pub skipped : (s : TeamState) → state_of begin team ≡ Some s → is_skipped ≡ false ↔ IsImprovable team begin
  pub untouched : IsTrue is_skipped → state_of floor team ≡ state_of begin team
  pub settled : ((l : Legalizer) → AllCommittedIn l floor team) ⊎ KeepsTeamPlaces team begin floor
  pub near : StaysWithin within team begin floor
  pub counted : (s : TeamState) → state_of begin team ≡ Some s → cells ≡ length s.cells
  pub measured : AreTeamStats team begin floor stats
  pub settings : settings_in floor team ≡ settings_in begin team
  pub off_soft : AreMovedOffSoft team begin floor

-- the team of this result, by its number, is improved so
abbrev pub IsTeamResult : Option ℕ → FloorState → FloorState → ImprovedTeam → Type 0
IsTeamResult within begin floor t = IsImprovementOf within (improved_team_name begin.frame t) begin floor
    t.is_skipped t.cells t.stats

-- results are appended: those of the teams with these names, from one floor to the other
pub record AddsResults (names : List (List ℕ)) (within : Option ℕ) (begin floor : FloorState)
    (old new : List ImprovedTeam) : Type 0 where
  pub added : List ImprovedTeam
  pub named : map (improved_team_name begin.frame) added ≡ names
  pub each : All (IsTeamResult within begin floor) added
  pub list : new ≡ old ++ added

-- ---- lengths

-- the lengths of these nets with the cells of the floor at their working places: of all nets, and of
-- each team of the frame. The list has the number of each cell's team
pub record AreLengthsOnFloor (teams : List ℕ) (nets : List (List NetPin)) (floor : FloorState) (lengths : WireLengths)
    : Type 0 where
  pub places : List (ℕ × Option Place)
  pub listed : ListsWorkingPlaces floor places
  pub length_is : lengths.length ≡ length_of_nets (listed_place places) nets
  pub teams_are : lengths.teams.items
      ≡ lengths_of_teams (listed_place places) (λ cell. slice_index_or teams cell 0) nets (length floor.frame.teams + 1)

-- the pin density of these nets with the cells of the floor at their working places
pub record IsPinDensityOn (nets : List (List NetPin)) (floor : FloorState) (density : PinDensity) : Type 0 where
  pub places : List (ℕ × Option Place)
  pub listed : ListsWorkingPlaces floor places
  pub is : IsPinDensityOfNets floor.frame (listed_place places) nets density

-- ---- the whole design

-- the text is the report of an improvement from the first floor to the last one: it has the line of
-- each selected team, with its result, and the line of all teams, with the wire lengths and the
-- densities of cells and of pins on both floors and whether the committed design is fully legal. The
-- wire length has not grown
pub record IsImproveReport (teams : List (List ℕ)) (within : Option ℕ) (owners : List ℕ) (nets : List (List NetPin))
    (begin floor : FloorState) (text : List ℕ) : Type 0 where
  pub results : List ImprovedTeam
  pub are : AddsResults (selected_names begin.frame teams) within begin floor [] results
  pub before : WireLengths
  pub before_are : AreLengthsOnFloor owners nets begin before
  pub after : WireLengths
  pub after_are : AreLengthsOnFloor owners nets floor after
  pub no_longer : after.length ≤ before.length
  pub density : DensityChange
  pub density_before : IsDensityOn begin density.before
  pub density_after : IsDensityOn floor density.after
  pub pins : PinChange
  pub pins_before : IsPinDensityOn nets begin pins.before
  pub pins_after : IsPinDensityOn nets floor pins.after
  pub legal : Bool
  pub right : IsTrue legal ↔ IsCommittedLegal floor
  pub text_is : text ≡ improve_report floor.frame results before after density pins legal
