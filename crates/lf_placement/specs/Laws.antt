-- Laws on what stays true through changes.
use Rattle.std.specs.Prelude.{◌≡◌, ℕ, List, map, Option}
use Rattle.lf_floorplan.specs.declared.place.Place.{Place}
use Rattle.lf_rules.specs.declared.rule.Rule.{Rule}
use Rattle.lf_cells.specs.declared.cell.Cell.{Cell}
use Rattle.lf_cells.specs.declared.cell.CellId.{CellId}
use Rattle.lf_cells.specs.Cells.{as_committed, cells_of}
use Rattle.lf_occupancy.specs.Views.{KeepsCapacities}
use Rattle.lf_undo.specs.Entries.{Places}
use Rattle.lf_placement.specs.Placements.{Fits, IsBrokenFrameRule, Placing, SameButPlaces}

-- the cells have the same macros
abbrev pub SameMacros : List Cell → List Cell → Type 0
SameMacros old new = map (λ c. c.mac) new ≡ map (λ c. c.mac) old

-- places that fit the team still fit if the frame and the strips are unchanged, no strip has less
-- room, and its cells keep their macros
abbrev pub FittingIsStable : Type 0
FittingIsStable =
    (old new : Placing) (team : ℕ) (places : Places) → new.frame ≡ old.frame → new.held.index ≡ old.held.index →
    new.held.site ≡ old.held.site → KeepsCapacities old.held.rooms new.held.rooms →
    SameMacros (cells_of old.cells team) (cells_of new.cells team) → Fits old team places → Fits new team places

-- the first rule except overlap that a cell breaks at a place is unchanged if the frame is
-- unchanged and its team's cells keep their macros
abbrev pub FrameRuleIsStable : Type 0
FrameRuleIsStable =
    (old new : Placing) (id : CellId) (place : Place) (broken : Option Rule) → new.frame ≡ old.frame →
    SameMacros (cells_of old.cells id.team) (cells_of new.cells id.team) → IsBrokenFrameRule old id place broken
    → IsBrokenFrameRule new id place broken

-- cells keep their macros if only their places differ, or if their places are committed
pub record KeepsMacros : Type 0 where
  pub moved : (old new : List Cell) → SameButPlaces old new → SameMacros old new
  pub committed : (cells : List Cell) → SameMacros cells (map as_committed cells)
