-- The least box around points, as it is widened from point to point.
use Rattle.std.specs.Prelude.{ℕ, ◌+◌, ◌-ℤ◌, Option, Some, None, List, unsigned_abs}
use Rattle.std.specs.Int.{int_max, int_min}
use Rattle.lf_floorplan.specs.declared.place.Place.{Place}
use Rattle.lf_wire_length.specs.Length.{point_of_pin}
use Rattle.lf_wire_length.specs.Stored.{pin_stored}
use Rattle.lf_wire_length.specs.declared.points.PinOffset.{PinOffset}
use Rattle.lf_wire_length.specs.declared.pins.PackedPin.{PackedPin}
use Rattle.lf_wire_length.specs.Bounds.{IsDesignPoint}
use Rattle.lf_wire_length.specs.declared.points.HalfPoint.{HalfPoint}
use Rattle.lf_wire_length.specs.declared.boxes.PointBox.{PointBox}

abbrev pub low_corner : HalfPoint → HalfPoint → HalfPoint
low_corner a b = record { x = int_min a.x b.x; y = int_min a.y b.y }

abbrev pub high_corner : HalfPoint → HalfPoint → HalfPoint
high_corner a b = record { x = int_max a.x b.x; y = int_max a.y b.y }

-- The least box around the box, if there is one, and the point.
abbrev pub widened_box : Option PointBox → HalfPoint → PointBox
widened_box None p = record { low = p; high = p }
widened_box (Some b) p = record { low = low_corner b.low p; high = high_corner b.high p }

-- The least box around the box and the point, if there are such.
abbrev pub box_with : Option PointBox → Option HalfPoint → Option PointBox
box_with b None = b
box_with b (Some p) = Some (widened_box b p)

abbrev pub half_perimeter : Option PointBox → ℕ
half_perimeter None = 0
half_perimeter (Some b) = unsigned_abs (b.high.x -ℤ b.low.x) + unsigned_abs (b.high.y -ℤ b.low.y)

-- Both corners are points of a design.
pub record IsDesignBox (b : PointBox) : Type 0 where
  pub low : IsDesignPoint b.low
  pub high : IsDesignPoint b.high

-- The box with the pin that is stored so.
abbrev pub box_after : (ℕ → Option Place) → List PinOffset → Option PointBox → PackedPin → Option PointBox
box_after place rows b p = box_with b (point_of_pin place (pin_stored rows p))
