-- Marks of cells that were found legal; no public clause cites it.
use Rattle.std.specs.Prelude.{◌≡◌, ℕ, List, Bool, true, Some, map, slice_get}
use Rattle.lf_floorplan.specs.declared.frame.Frame.{Frame}
use Rattle.lf_rules.specs.Team.{IsLegalCell}
use Rattle.lf_cells.specs.declared.cell.Cell.{Cell}
use Rattle.lf_legalize.specs.Members.{member_of}

-- each cell of the team with a mark is placed and team-legal
abbrev pub AreMarked : Frame → ℕ → ℕ → List Cell → List Bool → Type 0
AreMarked f number padding cells marks = (own : ℕ) → slice_get marks own ≡ Some true
    → IsLegalCell f number padding (map member_of cells) own
