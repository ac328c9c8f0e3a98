-- The boxes of pins, in millionths of a micron.
use Rattle.std.specs.Prelude.{◌≤ℤ◌, Option, Some, None, IfSome}
use Rattle.std.specs.Int.{int_min, int_max}
use Rattle.lf_units.specs.declared.geometry.Point.{Point}
use Rattle.lf_lef.specs.Lengths.{IsLengthInRange}
use Rattle.lf_units.specs.declared.geometry.Rect.{Rect}

-- The box with this point alone.
abbrev pub point_box : Point → Rect
point_box p = record { x1 = p.x; y1 = p.y; x2 = p.x; y2 = p.y }

-- The least box around two boxes.
abbrev pub box_around : Rect → Rect → Rect
box_around a b = record {
  x1 = int_min a.x1 b.x1;
  y1 = int_min a.y1 b.y1;
  x2 = int_max a.x2 b.x2;
  y2 = int_max a.y2 b.y2;
}

-- The least box around a further one and those so far.
abbrev pub joined_box : Option Rect → Rect → Rect
joined_box None b = b
joined_box (Some a) b = box_around a b

-- Holds if the coordinates are in the range of LEF, and the lower left corner comes first.
pub record IsShapeBox (b : Rect) : Type 0 where
  pub x1 : IsLengthInRange b.x1
  pub y1 : IsLengthInRange b.y1
  pub x2 : IsLengthInRange b.x2
  pub y2 : IsLengthInRange b.y2
  pub across : b.x1 ≤ℤ b.x2
  pub up : b.y1 ≤ℤ b.y2

abbrev pub IsShapeBoxIfAny : Option Rect → Type 0
IsShapeBoxIfAny box = IfSome box (λ b. IsShapeBox b)
