-- The report of a repair: a line of JSON for each team, and one for all. Lengths are in database
-- units, except that `average` and `mean_by_height` are in thousandths of the height of a row.
use Rattle.std.specs.Prelude.{◌≡◌, ◌==◌, ◌+◌, ◌-◌, ◌/◌, ◌^◌, ℕ, Bool, if◌then◌else◌, List, [], ◌∷◌, ◌++◌, Option, Some, None, codes, find, flat_map, length, map, max, min, slice_get, option_and_then, option_map}
use Rattle.std.specs.Option.{option_map_or}
use Rattle.serde_json.specs.Data.{Data, Members, array, boolean, member, no_members, null, object, put, string}
use Rattle.serde_json.specs.View.{items_of}
use Rattle.lf_describe.specs.Description.{count_data as whole_number, line_text as text_of_line, text_data as name_data}
use Rattle.lf_floorplan.specs.declared.place.Place.{Place}
use Rattle.lf_floor_model.specs.States.{FloorState, TeamState}
use Rattle.lf_floor_model.specs.Teams.{state_of, team_number}
use Rattle.lf_floor_model.specs.Outcomes.{name_at}
use Rattle.lf_repair_bounds.specs.declared.reasons.ImpossibleMacro.{ImpossibleMacro}
use Rattle.lf_repair_bounds.specs.declared.reasons.ImpossibleReason.{ImpossibleReason}
use Rattle.lf_repair_bounds.specs.declared.reasons.ImpossibleReason.TheVariants.{Ground, Height, Orientation, Width}
use Rattle.lf_repair_bounds.specs.Gaps.{AreGaps, placed_team}
use Rattle.lf_repair_bounds.specs.ImpossibleMacros.{is_of_macro}
use Rattle.lf_repair_strategy.specs.declared.stats.DisplacementMeans.{DisplacementMeans}
use Rattle.lf_repair_strategy.specs.declared.stats.RepairStats.{RepairStats}
use Rattle.lf_task_reports.specs.declared.density.DensityChange.{DensityChange}
use Rattle.lf_task_reports.specs.declared.totals.Totals.{Totals}
use Rattle.lf_task_reports.specs.Densities.{with_density}
use Rattle.lf_task_reports.specs.declared.repair_report.RepairReport.{RepairReport}

-- ---- values

-- a name as a text; null if its bytes are not UTF-8
abbrev pub report_text_value : List ℕ → Data
report_text_value = name_data

abbrev pub report_number : ℕ → Data
report_number = whole_number

-- a line: JSON without spaces, and a line feed
abbrev pub report_line_text : Data → List ℕ
report_line_text = text_of_line

-- the name of the team's cell at this position, if there is one
abbrev pub name_of_cell : FloorState → List ℕ → ℕ → List (List ℕ)
name_of_cell floor team own =
    option_map_or (λ name. name ∷ []) (option_and_then (λ s. name_at s.cells own) (state_of floor team)) []

-- the names of the team's cells at these positions
abbrev pub cell_names : FloorState → List ℕ → List ℕ → List (List ℕ)
cell_names floor team owns = flat_map (λ own. name_of_cell floor team own) owns

-- the mean displacement of `moved` cells with this total, rounded down; 0 for no cells
abbrev pub mean_displacement : ℕ → ℕ → ℕ
mean_displacement total moved = if moved == 0 then 0 else total / moved

-- ---- reasons

-- why no place can hold a cell, in words
abbrev pub impossible_words : ImpossibleReason → List ℕ
impossible_words Height = codes "not 1 to 8 rows high"
impossible_words Orientation = codes "no row allows its orientations and rail"
impossible_words Width = codes "wider than every segment"
impossible_words Ground = codes "no ground of its team holds it"

-- the reason in words; null without one
abbrev pub reason_data : Option ImpossibleReason → Data
reason_data None = null
reason_data (Some reason) = string (impossible_words reason)

-- the reason of the first entry of the macro in the team, if the list has one
abbrev pub listed_reason : List ImpossibleMacro → ℕ → ℕ → Option ImpossibleReason
listed_reason list number mac = option_map (λ m. m.reason) (find (is_of_macro number mac) list)

-- why no place can hold the team's cell at this position; none if its macro is not listed
abbrev pub reason_of_cell : List ImpossibleMacro → FloorState → List ℕ → ℕ → Option ImpossibleReason
reason_of_cell list floor team own = option_and_then (λ number.
    option_and_then (λ s. option_and_then (λ c. listed_reason list number c.mac) (slice_get s.cells own))
    (state_of floor team)) (team_number floor.frame team)

-- the same of the team's cells at these positions
abbrev pub cell_reasons : List ImpossibleMacro → FloorState → List ℕ → List ℕ → List (Option ImpossibleReason)
cell_reasons list floor team owns = map (reason_of_cell list floor team) owns

-- ---- a team

-- the members of a team: its name, the names of the unrepaired cells, the width of the widest gap
-- near each, the largest of the least displacements of its cells, and the counts of its repair
abbrev pub counted_members : Data → Data → Data → ℕ → RepairStats → Members
counted_members name left gaps least r =
    member (codes "cells") (report_number r.cells)
    (member (codes "gaps") gaps
    (member (codes "kept") (report_number r.kept)
    (member (codes "largest") (report_number r.max_displacement)
    (member (codes "least_largest") (report_number least)
    (member (codes "left") left
    (member (codes "mean") (report_number (mean_displacement r.total_displacement r.moved))
    (member (codes "moved") (report_number r.moved)
    (member (codes "placed") (report_number r.placed)
    (member (codes "pushed") (report_number r.displaced_legal)
    (member (codes "team") name
    (member (codes "total") (report_number r.total_displacement)
    (member (codes "turned") (report_number r.turned) no_members))))))))))))

-- the members with the means of the displacements
abbrev pub with_means : DisplacementMeans → Members → Members
with_means means ms = put (codes "mean_by_height") (report_number means.by_height)
    (put (codes "average") (report_number means.all) ms)

-- the members of a team: these, and the means of the displacements
abbrev pub team_members : Data → Data → Data → ℕ → RepairStats → Members
team_members name left gaps least r = with_means r.means (counted_members name left gaps least r)

-- the JSON of a team: these members, and why no place can hold each of the unrepaired cells
abbrev pub team_data : Data → Data → Data → Data → ℕ → RepairStats → Data
team_data name left gaps impossible least r =
    object (put (codes "impossible") impossible (team_members name left gaps least r))

-- the names, and the numbers, in their order
abbrev pub names_data : List (List ℕ) → Data
names_data names = array (items_of (map report_text_value names))

abbrev pub counts_data : List ℕ → Data
counts_data counts = array (items_of (map report_number counts))

abbrev pub reasons_data : List (Option ImpossibleReason) → Data
reasons_data reasons = array (items_of (map reason_data reasons))

-- the unrepaired cells of a team: their names, the gaps near them, and why no place can hold them
pub record UnrepairedCells : Type 0 where
  pub names : List (List ℕ)
  pub gaps : List ℕ
  pub reasons : List (Option ImpossibleReason)

-- the line of a team with these unrepaired cells
abbrev pub team_line : List ℕ → UnrepairedCells → ℕ → RepairStats → List ℕ
team_line name left least r = report_line_text (team_data (report_text_value name) (names_data left.names)
    (counts_data left.gaps) (reasons_data left.reasons) least r)

-- the number for this team; 0 if there is no number for it
abbrev pub least_for : List ℕ → Option ℕ → ℕ
least_for least number = option_map_or (λ n. option_map_or (λ way. way) (slice_get least n) 0) number 0

-- these are the gaps of the team's cells at these positions on this floor, near the places from which
-- the cells were to move
abbrev pub AreGapsIn : FloorState → List ℕ → (ℕ → Option Place) → List ℕ → List ℕ → Type 0
AreGapsIn floor team old_place owns gaps = (number : ℕ) (s : TeamState) → team_number floor.frame team ≡ Some number
    → state_of floor team ≡ Some s → AreGaps (placed_team floor.frame number s.padding s.cells) old_place owns gaps

-- the members of the team on this floor, without the reasons
abbrev pub HasTeamMembers : FloorState → List ℕ → (ℕ → Option Place) → RepairStats → ℕ → Data → Type 0
HasTeamMembers floor team old_place r least line =
    (gaps : List ℕ) × AreGapsIn floor team old_place r.unrepaired.items gaps
    × (line ≡ object (team_members (report_text_value team)
    (names_data (cell_names floor team r.unrepaired.items)) (counts_data gaps) least r))

-- the JSON of the team on this floor
abbrev pub IsTeamData : FloorState → List ℕ → (ℕ → Option Place) → List ImpossibleMacro → RepairStats → ℕ → Data
    → Type 0
IsTeamData floor team old_place list r least line =
    (gaps : List ℕ) × AreGapsIn floor team old_place r.unrepaired.items gaps
    × (line ≡ team_data (report_text_value team) (names_data (cell_names floor team r.unrepaired.items))
    (counts_data gaps) (reasons_data (cell_reasons list floor team r.unrepaired.items)) least r)

-- ---- all teams

-- a sum that saturates at the greatest number of 64 bits
abbrev pub saturating_sum : ℕ → ℕ → ℕ
saturating_sum a b = min (a + b) (2 ^ 64 - 1)

-- the sums of no team
abbrev pub no_sums : Totals
no_sums = record {
  teams = 0;
  cells = 0;
  kept = 0;
  moved = 0;
  placed = 0;
  displaced_legal = 0;
  turned = 0;
  unrepaired = 0;
  total_displacement = 0;
  max_displacement = 0;
  least_largest = 0;
}

-- the sums with one more team
abbrev pub totals_with_team : Totals → RepairStats → ℕ → Totals
totals_with_team s r least = record {
  teams = saturating_sum s.teams 1;
  cells = saturating_sum s.cells r.cells;
  kept = saturating_sum s.kept r.kept;
  moved = saturating_sum s.moved r.moved;
  placed = saturating_sum s.placed r.placed;
  displaced_legal = saturating_sum s.displaced_legal r.displaced_legal;
  turned = saturating_sum s.turned r.turned;
  unrepaired = saturating_sum s.unrepaired (length r.unrepaired.items);
  total_displacement = saturating_sum s.total_displacement r.total_displacement;
  max_displacement = max s.max_displacement r.max_displacement;
  least_largest = max s.least_largest least;
}

-- the members of all teams, without the densities
abbrev pub all_members : Totals → Bool → Members
all_members s legal =
    member (codes "cells") (report_number s.cells)
    (member (codes "kept") (report_number s.kept)
    (member (codes "largest") (report_number s.max_displacement)
    (member (codes "least_largest") (report_number s.least_largest)
    (member (codes "left_cells") (report_number s.unrepaired)
    (member (codes "legal") (boolean legal)
    (member (codes "mean") (report_number (mean_displacement s.total_displacement s.moved))
    (member (codes "moved") (report_number s.moved)
    (member (codes "placed") (report_number s.placed)
    (member (codes "pushed") (report_number s.displaced_legal)
    (member (codes "teams") (report_number s.teams)
    (member (codes "total") (report_number s.total_displacement)
    (member (codes "turned") (report_number s.turned) no_members))))))))))))

abbrev pub all_data : DensityChange → Totals → Bool → Data
all_data density s legal = object (with_density density (all_members s legal))

-- the line of all teams
abbrev pub all_line : DensityChange → Totals → Bool → List ℕ
all_line density s legal = report_line_text (all_data density s legal)

-- ---- the lines

-- these are the team's unrepaired cells on this floor, with these gaps
abbrev pub unrepaired_with : List ImpossibleMacro → FloorState → List ℕ → List ℕ → List ℕ → UnrepairedCells
unrepaired_with list floor team owns gaps = record {
  names = cell_names floor team owns;
  gaps = gaps;
  reasons = cell_reasons list floor team owns;
}

-- the line of one more team is appended, given the result of its repair on this floor, and the places
-- from which its cells were to move
pub record IsOneMore (floor : FloorState) (team : List ℕ) (old_place : ℕ → Option Place) (r : RepairStats)
    (old new : RepairReport) : Type 0 where
  pub gaps : List ℕ
  pub near : AreGapsIn floor team old_place r.unrepaired.items gaps
  pub text : new.text.items ≡ old.text.items
      ++ team_line team (unrepaired_with old.impossible.items floor team r.unrepaired.items gaps)
      (least_for old.least.items (team_number floor.frame team)) r
  pub sums : new.sums ≡ totals_with_team old.sums r (least_for old.least.items (team_number floor.frame team))
  pub least : new.least ≡ old.least
  pub impossible : new.impossible ≡ old.impossible
