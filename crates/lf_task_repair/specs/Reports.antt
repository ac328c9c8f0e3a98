-- The report of a repair: the lines of its teams, and the line of all teams.
use Rattle.std.specs.Prelude.{◌≡◌, ◌≢◌, ◌↔◌, ◌<◌, ◌++◌, ◌*◌, ◌^◌, ◌-◌, ℕ, ℤ, pos, Bool, IsTrue, List, [], ◌∷◌, All, AllPairs, Option, flat_map, map, min, option_map}
use Rattle.std.specs.Int.RustNames.{unsigned_abs}
use Rattle.lf_floorplan.specs.declared.frame.Frame.{Frame}
use Rattle.lf_rules.specs.Legalizer.{Legalizer}
use Rattle.lf_floor_model.specs.States.{FloorState}
use Rattle.lf_floor_model.specs.Steps.{AllCommittedIn}
use Rattle.lf_floor_model.specs.Teams.{team_number}
use Rattle.lf_floor_model.specs.Committed.{IsCommittedLegal}
use Rattle.lf_cli.specs.declared.parse.LegalCells.{LegalCells}
use Rattle.lf_cli.specs.declared.parse.LegalCells.TheVariants.{KeepLegal, MoveAsNeeded, MoveAll}
use Rattle.lf_repair_strategy.specs.declared.pass.MovePolicy.{MovePolicy}
use Rattle.lf_repair_strategy.specs.declared.pass.MovePolicy.TheVariants.{KeepLegal as Keep, MoveAsNeeded as AsNeeded, MoveAll as AllCells}
use Rattle.lf_task_run.specs.Teams.{selected_names}
use Rattle.lf_repair_team.specs.Stats.{AreTeamMeans, AreTeamStats}
use Rattle.lf_repair_team.specs.TeamRepairs.{KeepsLegalPlaces, AreLegalExcept, AreMovedOffSoft, HasNoPlaceOrIsListed, IsIllegalIn, KeepsListedPlaces, StaysWithin, WasIllegal, committed_in, place_of_cell_in, settings_in}
use Rattle.lf_repair_strategy.specs.declared.stats.RepairStats.{RepairStats}
use Rattle.lf_density.specs.declared.density.Density.{Density}
use Rattle.lf_task_reports.specs.declared.density.DensityChange.{DensityChange}
use Rattle.lf_task_reports.specs.Densities.{IsDensityOn}
use Rattle.lf_task_reports.specs.declared.repair_report.RepairReport.{RepairReport}
use Rattle.lf_task_reports.specs.declared.totals.Totals.{Totals}
use Rattle.lf_task_reports.specs.RepairReports.{AreGapsIn, UnrepairedCells, all_line, least_for, no_sums, team_line, totals_with_team, unrepaired_with}
use Rattle.lf_repair_bounds.specs.declared.reasons.ImpossibleMacro.{ImpossibleMacro}
use Rattle.lf_task_files.specs.declared.measured.RepairLimits.{RepairLimits}

-- ---- the cells that may move

-- which of a team's cells may move
abbrev pub policy_of : LegalCells → MovePolicy
policy_of KeepLegal = Keep
policy_of MoveAsNeeded = AsNeeded
policy_of MoveAll = AllCells

-- the legal cells of all teams are at the same places
abbrev pub KeepsAllLegalPlaces : FloorState → FloorState → Type 0
KeepsAllLegalPlaces old new = (team : List ℕ) → KeepsLegalPlaces team old new

-- ---- the report

-- the report of a team: its name, its unrepaired cells, the largest of the least displacements of
-- its cells, and the statistics of its repair
pub record TeamReport : Type 0 where
  pub name : List ℕ
  pub left : UnrepairedCells
  pub least : ℕ
  pub became : RepairStats

abbrev pub line_of_team : TeamReport → List ℕ
line_of_team t = team_line t.name t.left t.least t.became

-- the sums with those of the teams
abbrev pub sums_with : Totals → List TeamReport → Totals
sums_with s [] = s
sums_with s (t ∷ ts) = sums_with (totals_with_team s t.became t.least) ts

-- how far a cell may go, in database units, if this is given as a number of rows. It saturates at the
-- greatest number of 63 bits
abbrev pub reach_of_rows : Frame → Option ℕ → Option ℤ
reach_of_rows f rows = option_map (λ n. pos (min (min (unsigned_abs f.pitch.y * n) (2 ^ 64 - 1)) (2 ^ 63 - 1))) rows

-- the result of a team's repair that began on one floor, on the other, if no place can hold the
-- listed macros: the unrepaired cells are listed in loading order, are exactly those that are not
-- legal, were not legal when it began, and have no place within reach or are of a listed macro; the
-- cells of listed macros are where they were; no cell is farther than the reach from where it was; the
-- statistics and the means are those of the team's cells from one floor to the other; the team is
-- committed if and only if no cell is unrepaired, and otherwise its committed places are as they were;
-- its padding and session slots are as they were; each placed cell that is elsewhere is off soft
-- blockages
pub record IsRepairOf (reach : Option ℤ) (list : List ImpossibleMacro) (team : List ℕ) (begin floor : FloorState)
    (became : RepairStats) : Type 0 where
  pub legal : AreLegalExcept team floor became.unrepaired.items
  pub illegal : All (IsIllegalIn floor team) became.unrepaired.items
  pub were_illegal : All (WasIllegal begin team) became.unrepaired.items
  pub complete : All (HasNoPlaceOrIsListed reach list begin floor team) became.unrepaired.items
  pub within : StaysWithin reach team begin floor
  pub unmoved : KeepsListedPlaces list team begin floor
  pub rise : AllPairs (λ own later. own < later) became.unrepaired.items
  pub stats : AreTeamStats team begin floor became
  pub means : AreTeamMeans team begin floor became.means
  pub committed : (l : Legalizer) → became.unrepaired.items ≡ [] ↔ AllCommittedIn l floor team
  pub uncommitted : became.unrepaired.items ≢ [] → committed_in floor team ≡ committed_in begin team
  pub settings : settings_in floor team ≡ settings_in begin team
  pub off_soft : AreMovedOffSoft team begin floor

-- the team is reported with its own bound, its unrepaired cells and their gaps on the last floor near
-- the places that they had on the first one, and the result of its repair from one to the other
pub record IsTeamReport (reach : Option ℤ) (bounds : List ℕ) (list : List ImpossibleMacro) (begin floor : FloorState)
    (t : TeamReport) : Type 0 where
  pub least : t.least ≡ least_for bounds (team_number floor.frame t.name)
  pub left : t.left ≡ unrepaired_with list floor t.name t.became.unrepaired.items t.left.gaps
  pub gaps : AreGapsIn floor t.name (place_of_cell_in begin t.name) t.became.unrepaired.items t.left.gaps
  pub repaired : IsRepairOf reach list t.name begin floor t.became

-- the lines of the teams with these names are appended, each with the result of its repair from one
-- floor to the other
pub record AddsTeamLines (reach : Option ℤ) (names : List (List ℕ)) (begin floor : FloorState)
    (old new : RepairReport) : Type 0 where
  pub reported : List TeamReport
  pub named : map (λ t. t.name) reported ≡ names
  pub each : All (IsTeamReport reach old.least.items old.impossible.items begin floor) reported
  pub text : new.text.items ≡ old.text.items ++ flat_map line_of_team reported
  pub sums : new.sums ≡ sums_with old.sums reported
  pub least : new.least ≡ old.least
  pub impossible : new.impossible ≡ old.impossible

-- the line of all teams is appended last. It has the density before the repair and that of the floor,
-- and says whether the committed design is fully legal
pub record AddsTotalLine (before : Density) (floor : FloorState) (old new : RepairReport) : Type 0 where
  pub density : DensityChange
  pub density_before : density.before ≡ before
  pub density_after : IsDensityOn floor density.after
  pub legal : Bool
  pub right : IsTrue legal ↔ IsCommittedLegal floor
  pub text : new.text.items ≡ old.text.items ++ all_line density old.sums legal

-- the text has the line of each selected team, with its own bound and the result of its repair from
-- the first floor to the last one, and then the line of all teams, which has the densities of both
-- floors and says whether the committed design is fully legal
pub record IsReport (reach : Option ℤ) (teams : List (List ℕ)) (limits : RepairLimits) (begin floor : FloorState)
    (text : List ℕ) : Type 0 where
  pub reported : List TeamReport
  pub named : map (λ t. t.name) reported ≡ selected_names floor.frame teams
  pub each : All (IsTeamReport reach limits.least.items limits.impossible.items begin floor) reported
  pub density : DensityChange
  pub density_before : IsDensityOn begin density.before
  pub density_after : IsDensityOn floor density.after
  pub legal : Bool
  pub right : IsTrue legal ↔ IsCommittedLegal floor
  pub is : text ≡ flat_map line_of_team reported ++ all_line density (sums_with no_sums reported) legal
