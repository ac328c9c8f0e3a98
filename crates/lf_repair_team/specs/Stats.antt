-- The statistics of a team's repair.
use Rattle.std.specs.Prelude.{◌≡◌, ◌≢◌, ◌↔◌, ◌==◌, ℕ, ◌<◌, ◌+◌, ◌*◌, ◌/◌, ◌-◌, ◌^◌, ◌-ℤ◌, if◌then◌else◌, List, AllPairs, Contains, IsSome, None, Option, Some, fold, length, map, max, min, slice_get, sum}
use Rattle.std.specs.Int.RustNames.{unsigned_abs}
use Rattle.std.specs.List.{range_with_len}
use Rattle.std.specs.Option.{option_map_or}
use Rattle.lf_floorplan.specs.declared.frame.Frame.{Frame}
use Rattle.lf_floorplan.specs.declared.place.Place.{Place}
use Rattle.lf_floorplan.specs.Boxes.{macro_of, size_of}
use Rattle.lf_cells.specs.declared.cell.Cell.{Cell}
use Rattle.lf_floor_model.specs.States.{FloorState, TeamState}
use Rattle.lf_floor_model.specs.Teams.{state_of}
use Rattle.lf_repair_strategy.specs.declared.stats.DisplacementMeans.{DisplacementMeans}
use Rattle.lf_repair_strategy.specs.declared.stats.RepairStats.{RepairStats}
use Rattle.lf_repair_team.specs.TeamRepairs.{IsLegalIn, place_of_cell_in}

-- |dx| + |dy| between two places; 0 if one of them is None
abbrev pub displacement : Option Place → Option Place → ℕ
displacement (Some a) (Some b) = unsigned_abs (a.x -ℤ b.x) + unsigned_abs (a.y -ℤ b.y)
displacement (Some a) None = 0
displacement None b = 0

-- both are places, with different orientations
abbrev pub AreTurned : Option Place → Option Place → Type 0
AreTurned (Some a) (Some b) = a.orient ≢ b.orient
AreTurned (Some a) None = ⊥
AreTurned None b = ⊥

-- it is so for exactly `count` of the first `all` positions
pub record HowMany (all : ℕ) (So : ℕ → Type 0) (count : ℕ) : Type 0 where
  pub which : List ℕ
  pub rise : AllPairs (λ own later. own < later) which
  pub are : (own : ℕ) → Contains which own ↔ ((own < all) × So own)
  pub many : length which ≡ count

-- the displacements of the first `all` cells
abbrev pub all_displacements : (ℕ → Option Place) → (ℕ → Option Place) → ℕ → List ℕ
all_displacements wanted_place now all = map (λ own. displacement (wanted_place own) (now own)) (range_with_len 0 all)

-- the statistics of `all` cells, given the original and the present place of each and which of them
-- were legal: how many were not legal, are at the same place, were legal and moved, have another
-- corner, have a place now, and have another orientation; the total displacement, and the longest
pub record AreStatsOf (wanted_place now : ℕ → Option Place) (WasLegal : ℕ → Type 0) (all : ℕ)
    (reported : RepairStats) : Type 0 where
  pub cells : HowMany all (λ own. WasLegal own → ⊥) reported.cells
  pub kept : HowMany all (λ own. WasLegal own × (now own ≡ wanted_place own)) reported.kept
  pub displaced_legal : HowMany all (λ own. WasLegal own × (now own ≢ wanted_place own)) reported.displaced_legal
  pub moved : HowMany all (λ own. 0 < displacement (wanted_place own) (now own)) reported.moved
  pub placed : HowMany all (λ own. (wanted_place own ≡ None) × IsSome (now own)) reported.placed
  pub turned : HowMany all (λ own. AreTurned (wanted_place own) (now own)) reported.turned
  pub total_displacement : reported.total_displacement ≡ sum (all_displacements wanted_place now all)
  pub max_displacement : reported.max_displacement ≡ fold max 0 (all_displacements wanted_place now all)

-- the statistics of the team's cells, from one floor to the other
abbrev pub AreTeamStats : List ℕ → FloorState → FloorState → RepairStats → Type 0
AreTeamStats team old new reported =
    (s : TeamState) → state_of old team ≡ Some s
    → AreStatsOf (place_of_cell_in old team) (place_of_cell_in new team) (IsLegalIn old team) (length s.cells) reported

-- ---- means

-- the first number divided by the second, rounded down; 0 if the second is 0
abbrev pub quotient : ℕ → ℕ → ℕ
quotient a b = if b == 0 then 0 else a / b

-- the mean of `count` displacements with this total, in thousandths of the height of a row, rounded
-- down; 0 for no displacements. The thousandths of a total are at most 2^64 - 1
abbrev pub mean_in_rows : ℕ → ℕ → ℕ → ℕ
mean_in_rows row total count = quotient (quotient (min (total * 1000) (2 ^ 64 - 1)) row) count

-- the height of a row
abbrev pub row_height : Frame → ℕ
row_height f = unsigned_abs f.pitch.y

-- how many rows high the cell at this position is, rounded down; 0 if there is no such cell
abbrev pub rows_at : Frame → List Cell → ℕ → ℕ
rows_at f cells own = option_map_or
    (λ c. quotient (unsigned_abs (size_of f (macro_of f c.mac)).y) (row_height f)) (slice_get cells own) 0

-- how many of the first `all` cells are so many rows high
abbrev pub count_of_height : (ℕ → ℕ) → ℕ → ℕ → ℕ
count_of_height rows all height = sum (map (λ own. if rows own == height then 1 else 0) (range_with_len 0 all))

-- the total displacement of those
abbrev pub total_of_height : (ℕ → ℕ) → (ℕ → ℕ) → ℕ → ℕ → ℕ
total_of_height rows way all height =
    sum (map (λ own. if rows own == height then way own else 0) (range_with_len 0 all))

-- the mean over the heights from 1 to 8 rows that occur, of the means over the cells of each height
abbrev pub mean_by_height : ℕ → (ℕ → ℕ) → (ℕ → ℕ) → ℕ → ℕ
mean_by_height row rows way all = quotient
    (sum (map (λ height. mean_in_rows row (total_of_height rows way all height) (count_of_height rows all height))
    (range_with_len 1 8)))
    (sum (map (λ height. min (count_of_height rows all height) 1) (range_with_len 1 8)))

-- the means of cells with these original and present places
abbrev pub means_of : Frame → List Cell → (ℕ → Option Place) → (ℕ → Option Place) → DisplacementMeans
means_of f cells wanted_place now = record {
  all = mean_in_rows (row_height f) (sum (all_displacements wanted_place now (length cells))) (length cells);
  by_height = mean_by_height (row_height f) (rows_at f cells) (λ own. displacement (wanted_place own) (now own))
      (length cells);
}

-- the means of the team's cells, from one floor to the other
abbrev pub AreTeamMeans : List ℕ → FloorState → FloorState → DisplacementMeans → Type 0
AreTeamMeans team old new means = (s : TeamState) → state_of new team ≡ Some s
    → means ≡ means_of new.frame s.cells (place_of_cell_in old team) (place_of_cell_in new team)
