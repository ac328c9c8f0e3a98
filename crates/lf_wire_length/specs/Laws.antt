-- Laws of the wire length.
use Rattle.std.specs.Prelude.{◌≡◌, ℕ, ℤ, pos, ◌≤ℤ◌, ◌≤◌, List, [], ◌∷◌, map, Option}
use Rattle.std.specs.List.Sorted.{IsPermutation}
use Rattle.lf_units.specs.declared.geometry.Point.{Point}
use Rattle.lf_units.specs.declared.geometry.Rect.{Rect}
use Rattle.lf_orient.specs.declared.Orient.{Orient}
use Rattle.lf_orient.specs.declared.Orient.TheVariants.{N, W, S, E, FN, FW, FS, FE}
use Rattle.lf_floorplan.specs.Sizes.{turned, box_at}
use Rattle.lf_floorplan.specs.declared.place.Place.{Place}
use Rattle.lf_wire_length.specs.declared.points.HalfPoint.{HalfPoint}
use Rattle.lf_wire_length.specs.declared.points.PinOffset.{PinOffset}
use Rattle.lf_wire_length.specs.declared.pins.NetPin.{NetPin}
use Rattle.lf_wire_length.specs.Length.{around, length_of_net, point_at, shifted_point, turned_point, twice}

-- The length does not change if all points are moved alike.
abbrev pub MovingAllKeepsLength : Type 0
MovingAllKeepsLength =
    (dx dy : ℤ) (points : List HalfPoint) → around (map (shifted_point dx dy) points) ≡ around points

-- The length does not depend on the order of the pins.
abbrev pub OrderKeepsLength : Type 0
OrderKeepsLength =
    (place : ℕ → Option Place) (pins others : List NetPin) → IsPermutation pins others
    → length_of_net place pins ≡ length_of_net place others

-- A net of one pin has no length.
abbrev pub OnePinHasNoLength : Type 0
OnePinHasNoLength = (place : ℕ → Option Place) (pin : NetPin) → length_of_net place (pin ∷ []) ≡ 0

-- One pin more never makes a net shorter.
abbrev pub PinNeverShortens : Type 0
PinNeverShortens =
    (place : ℕ → Option Place) (pin : NetPin) (pins : List NetPin)
    → length_of_net place pins ≤ length_of_net place (pin ∷ pins)

-- The point lies in the box or on its edge. The box is in database units.
pub record IsInBox (box : Rect) (p : HalfPoint) : Type 0 where
  pub left : twice box.x1 ≤ℤ p.x
  pub right : p.x ≤ℤ twice box.x2
  pub bottom : twice box.y1 ≤ℤ p.y
  pub top : p.y ≤ℤ twice box.y2

-- A pin within its macro lies in the box of each cell of the macro.
abbrev pub PointsStayInBox : Type 0
PointsStayInBox =
    (place : Place) (pin : PinOffset) → IsInBox (box_at pin.size (pos 0) (pos 0)) pin.middle
    → IsInBox (box_at (turned pin.size place.orient) place.x place.y) (point_at place pin)

-- The point turned by the first orientation, and then by the second one.
abbrev pub turned_again : Orient → Orient → Point → HalfPoint → HalfPoint
turned_again first second size p = turned_point second (turned size first) (turned_point first size p)

-- South is two quarter turns to the west, and east is three. FN, FW, FS and FE are N, W, S and E,
-- flipped over the y axis.
pub record TurnsCompose : Type 0 where
  pub south : (size : Point) (p : HalfPoint) → turned_point S size p ≡ turned_again W W size p
  pub east : (size : Point) (p : HalfPoint) → turned_point E size p ≡ turned_again S W size p
  pub north : (size : Point) (p : HalfPoint) → turned_point N size p ≡ turned_again E W size p
  pub west_flipped : (size : Point) (p : HalfPoint) → turned_point FW size p ≡ turned_again W FN size p
  pub south_flipped : (size : Point) (p : HalfPoint) → turned_point FS size p ≡ turned_again S FN size p
  pub east_flipped : (size : Point) (p : HalfPoint) → turned_point FE size p ≡ turned_again E FN size p
