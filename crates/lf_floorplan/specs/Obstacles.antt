-- The facts that a frame keeps about its obstacles (DEF BLOCKAGES, COMPONENTS).
use Rattle.std.specs.Prelude.{◌≡◌, ℕ, ◌⊎◌, List, Contains}
use Rattle.lf_units.specs.declared.geometry.Rect.{Rect}
use Rattle.lf_orient.specs.declared.Orient.{Orient}
use Rattle.lf_floorplan.specs.declared.macros.Macro.{Macro}
use Rattle.lf_floorplan.specs.Bounds.{IsDefNumber, IsDefRect}
use Rattle.lf_floorplan.specs.Rows.{IsPitch}
use Rattle.lf_floorplan.specs.Sizes.{size_in_dbu, turned, box_at}

-- The box of one of the macros that are whole in database units, with its lower left corner in the
-- range of DEF coordinates.
pub record IsMacroBox (units : ℕ) (macros : List Macro) (r : Rect) : Type 0 where
  pub mac : Macro
  pub known : Contains macros mac
  pub whole : IsPitch units mac.size (size_in_dbu units mac.size)
  pub orient : Orient
  pub x_in_def : IsDefNumber r.x1
  pub y_in_def : IsDefNumber r.y1
  pub box : r ≡ box_at (turned (size_in_dbu units mac.size) orient) r.x1 r.y1

-- An obstacle: a rectangle of a blockage, within the range of DEF coordinates, or the box of a
-- FIXED component.
abbrev pub IsObstacle : ℕ → List Macro → Rect → Type 0
IsObstacle units macros r = ∥ IsDefRect r ⊎ IsMacroBox units macros r ∥₁
