-- The content of a report: the number of cells, the number of unplaced cells, and the cells that
-- break a rule at their places.
use Rattle.std.specs.Prelude.{◌≡◌, ◌↔◌, ℕ, ◌<◌, ◌≤◌, List, [], ◌∷◌, Option, None, All, IsPermutation, is_none, is_some, count_by, map, filter_map, length, set, slice_get, slice_index_or, ◌⊎◌, Some, option_map, option_and_then}
use Rattle.std.specs.List.{range_with_len}
use Rattle.std.specs.Borrow.{Bor}
use Rattle.lf_floorplan.specs.declared.frame.Frame.{Frame}
use Rattle.lf_floorplan.specs.declared.loaded.LoadedCell.{LoadedCell}
use Rattle.lf_floorplan.specs.declared.place.Place.{Place}
use Rattle.lf_floorplan.specs.Bounds.{IsDesignName}
use Rattle.lf_floorplan.specs.Boxes.{IsSized, macro_of}
use Rattle.lf_units.specs.declared.placed.Placed.{Placed}
use Rattle.lf_rules.specs.declared.rule.Broken.{Broken}
use Rattle.lf_rules.specs.declared.report_types.Listed.{Listed}
use Rattle.lf_rules.specs.declared.report_types.Violation.{Violation}
use Rattle.lf_rules.specs.declared.report_types.Report.{Report}
use Rattle.lf_rules.specs.Legality.{Candidate, candidate_of}
use Rattle.lf_rules.specs.Legalizer.{Legalizer}
use Rattle.lf_rules.specs.Choice.{spot_of}
use Rattle.lf_rules.specs.Team.{Member, boxes_beside, boxes_from}
use Rattle.lf_rules.specs.FullyLegal.{DesignCell, IsFullyLegal}
use Rattle.lf_rules.specs.Reports.{IsClean}

-- The cell with its name as a list of bytes.
abbrev pub with_byte_name : Listed (Bor (List ℕ)) → Listed (List ℕ)
with_byte_name c = record { name = c.name.now; team = c.team; mac = c.mac; place = c.place }

-- The cell as the rules see it among others.
abbrev pub listed_member : Listed (List ℕ) → Member
listed_member c = record { mac = c.mac; place = option_map spot_of c.place }

-- The cell as a fully legal design has it.
abbrev pub design_cell_of : Listed (List ℕ) → DesignCell
design_cell_of c = record { team = c.team; mac = c.mac; place = option_map spot_of c.place }

-- The cell with this number, as a candidate at its place, with a padding, among the other placed
-- cells that are listed.
abbrev pub candidate_among : Frame → ℕ → List (Listed (List ℕ)) → ℕ → Listed (List ℕ) → Place → Candidate
candidate_among f padding cells own c p =
    candidate_of f c.team padding (macro_of f c.mac) p (boxes_beside f (map listed_member cells) own)

-- The first rule that the cell breaks at its place; an unplaced cell breaks no rule.
abbrev pub broken_among : Legalizer → Frame → ℕ → List (Listed (List ℕ)) → ℕ → Listed (List ℕ) → Option Broken
broken_among l f padding cells own c =
    option_and_then (λ p. l.first_broken (candidate_among f padding cells own c p)) c.place

-- The verdict with this number: the first broken rule, or `None`.
abbrev pub verdict_at : List (Option Broken) → ℕ → Option Broken
verdict_at verdicts own = slice_index_or verdicts own None

-- Each cell's verdict is the first rule that it breaks at its place.
pub record AreVerdicts (l : Legalizer) (f : Frame) (padding : ℕ) (cells : List (Listed (List ℕ)))
    (verdicts : List (Option Broken)) : Type 0 where
  pub count : length verdicts ≡ length cells
  pub each : (own : ℕ) (c : Listed (List ℕ)) → slice_get cells own ≡ Some c
      → verdict_at verdicts own ≡ broken_among l f padding cells own c

-- No cell is unplaced, and every verdict is `None`.
pub record IsFaultless (places : List (Option Place)) (verdicts : List (Option Broken)) : Type 0 where
  pub all_placed : count_by is_none places ≡ 0
  pub none_broken : count_by is_some verdicts ≡ 0

-- Some cells have their verdict; that of each other cell is still `None`.
pub record AreSomeVerdicts (l : Legalizer) (f : Frame) (padding : ℕ) (cells : List (Listed (List ℕ)))
    (verdicts : List (Option Broken)) : Type 0 where
  pub count : length verdicts ≡ length cells
  pub each : (own : ℕ) (c : Listed (List ℕ)) → slice_get cells own ≡ Some c →
      (verdict_at verdicts own ≡ None) ⊎ (verdict_at verdicts own ≡ broken_among l f padding cells own c)

-- The verdict is set at its number, unless it is `None`; then nothing changes.
abbrev pub IsVerdictSet : ℕ → Option Broken → List (Option Broken) → List (Option Broken) → Type 0
IsVerdictSet own verdict old new = ((verdict ≡ None) × (new ≡ old)) ⊎ (new ≡ set old own verdict)

-- The cell with this number has its verdict, and so does each cell that already had it.
pub record SetsVerdict (l : Legalizer) (f : Frame) (padding : ℕ) (cells : List (Listed (List ℕ))) (own : ℕ)
    (old new : List (Option Broken)) : Type 0 where
  pub some : AreSomeVerdicts l f padding cells new
  pub put : (c : Listed (List ℕ)) → slice_get cells own ≡ Some c
      → verdict_at new own ≡ broken_among l f padding cells own c
  pub kept : (other : ℕ) (c : Listed (List ℕ)) → slice_get cells other ≡ Some c
      → verdict_at old other ≡ broken_among l f padding cells other c →
      verdict_at new other ≡ broken_among l f padding cells other c

-- The cells of the given boxes have their verdict. Each other cell has its verdict or still `None`.
pub record HaveVerdicts (l : Legalizer) (f : Frame) (padding : ℕ) (cells : List (Listed (List ℕ))) (boxes : List Placed)
    (verdicts : List (Option Broken)) : Type 0 where
  pub some : AreSomeVerdicts l f padding cells verdicts
  pub done : All (λ p. (c : Listed (List ℕ)) → slice_get cells p.own ≡ Some c
      → verdict_at verdicts p.own ≡ broken_among l f padding cells p.own c) boxes

-- The name of the cell with this number.
abbrev pub name_among : List (Listed (List ℕ)) → ℕ → Option (List ℕ)
name_among cells own = option_map (λ c. c.name) (slice_get cells own)

-- The cell breaks this rule first, and for Overlap the named cell is the first that overlaps.
abbrev pub violation_of : List (Listed (List ℕ)) → Listed (List ℕ) → Broken → Violation
violation_of cells c b = record { cell = c.name; rule = b.rule; other = option_and_then (name_among cells) b.other }

-- The violation of this cell, if it is placed and breaks a rule.
abbrev pub violation_by : Legalizer → Frame → ℕ → List (Listed (List ℕ)) → ℕ → Listed (List ℕ) → Option Violation
violation_by l f padding cells own c = option_map (violation_of cells c) (broken_among l f padding cells own c)

-- The violation of the cell with this number.
abbrev pub violation_at : Legalizer → Frame → ℕ → List (Listed (List ℕ)) → ℕ → Option Violation
violation_at l f padding cells own = option_and_then (violation_by l f padding cells own) (slice_get cells own)

-- The violations of the listed cells, in their order.
abbrev pub violations_in : Legalizer → Frame → ℕ → List (Listed (List ℕ)) → List Violation
violations_in l f padding cells = filter_map (violation_at l f padding cells) (range_with_len 0 (length cells))

-- The report of a list of cells, in which overlap is between any two of them. A team's report has
-- the team's cells and its padding; a design's report has the cells of all teams and no padding.
abbrev pub report_of : Legalizer → Frame → ℕ → List (Listed (List ℕ)) → Report
report_of l f padding cells = record {
  cells = length cells;
  unplaced = count_by (λ c. is_none c.place) cells;
  violations = violations_in l f padding cells;
}

-- The cell's macro is one of the frame's, of whole size, and its name is a name.
pub record IsListed (f : Frame) (c : Listed (List ℕ)) : Type 0 where
  pub known : c.mac < length f.macros
  pub sized : IsSized f (macro_of f c.mac)
  pub printed : IsDesignName c.name

-- Listed cells of the frame, at most 4,000,000.
pub record AreListedCells (f : Frame) (cells : List (Listed (Bor (List ℕ)))) : Type 0 where
  pub listed : All (λ c. IsListed f (with_byte_name c)) cells
  pub few : length cells ≤ 4000000

-- Listed cells of the frame, at most 4,000,000, and the boxes of those that are placed.
pub record AreListedBoxes (f : Frame) (cells : List (Listed (Bor (List ℕ)))) (boxes : List Placed) : Type 0 where
  pub listed : All (λ c. IsListed f (with_byte_name c)) cells
  pub few : length cells ≤ 4000000
  pub tree : IsPermutation (boxes_from f 0 (map listed_member (map with_byte_name cells))) boxes

-- The cell with this number, and it is a listed cell of the frame.
pub record IsCellAt (f : Frame) (all : List (Listed (Bor (List ℕ)))) (n : ℕ) (c : Listed (Bor (List ℕ))) : Type 0 where
  pub this : IsListed f (with_byte_name c)
  pub there : slice_get (map with_byte_name all) n ≡ Some (with_byte_name c)
  pub within : n < length all

-- A report with no padding is clean if and only if its cells make a fully legal design.
abbrev pub CleanIsLegal : Type 0
CleanIsLegal =
    (l : Legalizer) (f : Frame) (cells : List (Listed (List ℕ))) → All (IsListed f) cells →
    IsClean (report_of l f 0 cells) ↔ IsFullyLegal f (map design_cell_of cells)

-- The cells of a loaded design at these places, one for each cell in its order.
abbrev pub listed_at : List LoadedCell → List (Option Place) → List (Listed (List ℕ))
listed_at [] places = []
listed_at (c ∷ cells) [] = record { name = c.name; team = c.team; mac = c.mac; place = None } ∷ listed_at cells []
listed_at (c ∷ cells) (p ∷ places) = record {
  name = c.name;
  team = c.team;
  mac = c.mac;
  place = p;
} ∷ listed_at cells places
