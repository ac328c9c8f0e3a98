-- The box that is widened from point to point is the least box around them.
use Rattle.std.proofs.Common.{◌≡◌, ℕ, List, [], ◌∷◌, map, Option, Some, None, refl, ap, ◌∙◌}
use Rattle.std.specs.Int.{int_max, int_min}
use Rattle.std.specs.List.{fold, filter_map, cons_option}
use Rattle.lf_floorplan.specs.declared.place.Place.{Place}
use Rattle.lf_wire_length.specs.declared.points.HalfPoint.{HalfPoint}
use Rattle.lf_wire_length.specs.declared.points.PinOffset.{PinOffset}
use Rattle.lf_wire_length.specs.declared.pins.PackedPin.{PackedPin}
use Rattle.lf_wire_length.specs.declared.boxes.PointBox.{PointBox}
use Rattle.lf_wire_length.specs.Boxes.{box_after, box_with, half_perimeter, widened_box}
use Rattle.lf_wire_length.specs.Length.{around, length_of_net, point_of_pin}
use Rattle.lf_wire_length.specs.Stored.{pin_stored}

-- The box around further points.
abbrev box_of : PointBox → List HalfPoint → PointBox
box_of b points = record {
  low = record { x = fold int_min b.low.x (map (λ p. p.x) points); y = fold int_min b.low.y (map (λ p. p.y) points) };
  high = record { x = fold int_max b.high.x (map (λ p. p.x) points); y = fold int_max b.high.y (map (λ p. p.y) points) };
}

-- The box with the points of these pins.
abbrev widened_by : Option PointBox → List HalfPoint → Option PointBox
widened_by b points = fold (λ b p. Some (widened_box b p)) b points

all_points : (b : PointBox) (points : List HalfPoint) → widened_by (Some b) points ≡ Some (box_of b points)
all_points b [] = refl
all_points b (p ∷ points) = all_points (widened_box (Some b) p) points

half_around : (points : List HalfPoint) → half_perimeter (widened_by None points) ≡ around points
half_around [] = refl
half_around (p ∷ points) = ap half_perimeter (all_points (widened_box None p) points)

one_step : (o : Option HalfPoint) (b : Option PointBox) (rest : List HalfPoint) → widened_by (box_with b o) rest ≡ widened_by b (cons_option o rest)
one_step None b rest = refl
one_step (Some p) b rest = refl

all_pins : (place : ℕ → Option Place) (rows : List PinOffset) (b : Option PointBox) (pins : List PackedPin) → fold (box_after place rows) b pins ≡ widened_by b (filter_map (point_of_pin place) (map (pin_stored rows) pins))
all_pins place rows b [] = refl
all_pins place rows b (p ∷ pins) =
    all_pins place rows (box_after place rows b p) pins
    ∙ one_step (point_of_pin place (pin_stored rows p)) b (filter_map (point_of_pin place) (map (pin_stored rows) pins))

-- The box of a net's pins has the net's length.
pub box_measured : (place : ℕ → Option Place) (rows : List PinOffset) (pins : List PackedPin) → half_perimeter (fold (box_after place rows) None pins) ≡ length_of_net place (map (pin_stored rows) pins)
box_measured place rows pins =
    ap half_perimeter (all_pins place rows None pins) ∙ half_around (filter_map (point_of_pin place) (map (pin_stored rows) pins))
