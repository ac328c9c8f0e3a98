-- Slices: loaded designs with one team's cells alone. They exist, so the laws on alike designs are
-- not empty.
use Rattle.std.specs.Prelude.{◌≡◌, ℕ, List, ◌++◌, All, Some}
use Rattle.lf_units.specs.declared.geometry.Rect.{Rect}
use Rattle.lf_floorplan.specs.declared.loaded.Loaded.{Loaded}
use Rattle.lf_floorplan.specs.declared.macros.Macro.{Macro}
use Rattle.lf_floorplan.specs.Bounds.{IsLefSize}
use Rattle.lf_floor_model.specs.Teams.{team_number}
use Rattle.lf_laws_slices.specs.Alike.{AreSameRects, AreDesignsAlike}

-- the lengths of a macro are in the range of LEF
abbrev pub IsInLef : Macro → Type 0
IsInLef m = IsLefSize m.size × IsLefSize m.origin

-- a slice of a design: its cells are those of the team of that number alone; its macros are these,
-- followed by the design's, so that each of the design's has another number; its obstacles and soft
-- blockages are in this order
pub record IsSlice (number : ℕ) (more : List Macro) (obstacles soft : List Rect) (whole slice : Loaded) : Type 0 where
  pub own : All (λ c. c.team ≡ number) slice.cells
  pub macros_are : slice.frame.macros ≡ more ++ whole.frame.macros
  pub obstacles_are : slice.frame.obstacles ≡ obstacles
  pub soft_are : slice.frame.soft ≡ soft

-- each loaded design has a slice for each team, whatever the macros in front and the order, and the
-- slice is alike to it for that team
abbrev pub SlicesExist : Type 0
SlicesExist =
    (whole : Loaded) (team : List ℕ) (number : ℕ) (more : List Macro) (obstacles soft : List Rect)
    → team_number whole.frame team ≡ Some number
    → All IsInLef more → AreSameRects whole.frame.obstacles obstacles → AreSameRects whole.frame.soft soft
    → (slice : Loaded) × IsSlice number more obstacles soft whole slice × AreDesignsAlike team whole slice
