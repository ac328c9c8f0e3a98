-- The cells of a team of a loaded design, at any places, and the law that the team's text reads
-- back.
use Rattle.std.specs.Prelude.{◌≡◌, ◌≢◌, ℕ, ◌≤◌, List, All, Contains, IfSome, IsSome, Ok, codes, length, map, slice_get}
use Rattle.lf_def.specs.Document.{document_of}
use Rattle.lf_def.specs.PrintedTexts.{ReadsApartFromOffsets}
use Rattle.lf_def.specs.Ranges.{IsLocation}
use Rattle.lf_floorplan.specs.declared.loaded.LoadedCell.{LoadedCell}
use Rattle.lf_floorplan.specs.declared.loaded.Loaded.{Loaded}
use Rattle.lf_cells.specs.declared.cell.Cell.{Cell}
use Rattle.lf_cells.specs.Initial.{own_cells}
use Rattle.lf_frame.specs.Findings.{LoadInputs}
use Rattle.lf_frame.specs.Loads.{as_location, IsLoadedFrom}
use Rattle.lf_team_def.specs.TeamText.{team_text}
use Rattle.lf_laws_roundtrip.specs.TeamDocument.{team_document}

-- Holds if this is a cell of the team with this number, unplaced or at any working place that a
-- text can hold.
pub record IsCellOfTeam (l : Loaded) (number : ℕ) (c : Cell) : Type 0 where
  pub loaded : LoadedCell
  pub there : Contains l.cells loaded
  pub own : loaded.team ≡ number
  pub name : c.name ≡ loaded.name
  pub mac : c.mac ≡ loaded.mac
  pub place : IfSome c.working (λ p. IsLocation (as_location p))

-- Holds if these are cells of the team with this number. If the team has a fence, no cell is named
-- `+`, which is no pattern of a group.
pub record AreTeamCells (l : Loaded) (number : ℕ) (cells : List Cell) : Type 0 where
  pub few : length cells ≤ 4000000
  pub own : All (IsCellOfTeam l number) cells
  pub no_plus : IsSome (slice_get l.frame.teams number) → All (λ c. c.name ≢ codes "+") cells

-- The name and the macro of a cell, which no command changes.
abbrev pub lasting_part : Cell → List ℕ × ℕ
lasting_part c = (c.name, c.mac)

-- Holds if these are the cells of the team with this number, in loading order, at any places.
pub record AreOwnCells (l : Loaded) (number : ℕ) (cells : List Cell) : Type 0 where
  pub same : map lasting_part cells ≡ map lasting_part (own_cells number l.cells)
  pub places : All (λ c. IfSome c.working (λ p. IsLocation (as_location p))) cells
  pub no_plus : IsSome (slice_get l.frame.teams number) → All (λ c. c.name ≢ codes "+") cells

-- All cells of a team are cells of the team.
abbrev pub OwnCellsAreTeamCells : Type 0
OwnCellsAreTeamCells = (l : Loaded) (number : ℕ) (cells : List Cell) → AreOwnCells l number cells
    → AreTeamCells l number cells

-- If a design is loaded from a text that was read, the text of a team reads back.
abbrev pub LoadedTeamsReadBack : Type 0
LoadedTeamsReadBack = (text : List ℕ) (i : LoadInputs) → document_of text ≡ Ok i.document
    → (l : Loaded) → IsLoadedFrom i l → (number : ℕ) (cells : List Cell)
    → AreTeamCells l number cells
    → ReadsApartFromOffsets (team_text l.frame number cells) (team_document l.frame number cells)
