-- Turned points.
use Rattle.std.proofs.Common.{◌≡◌, ℤ, pos, negsuc, ◌+ℤ◌, ◌≤ℤ◌, arith}
use Rattle.std.proofs.lemmas.Int.{ints}
use Rattle.lf_units.specs.declared.geometry.Point.{Point}
use Rattle.lf_orient.specs.declared.Orient.{Orient}
use Rattle.lf_orient.specs.declared.Orient.TheVariants.{N, W, S, E, FN, FW, FS, FE}
use Rattle.lf_floorplan.specs.Sizes.{turned, box_at}
use Rattle.lf_floorplan.specs.declared.place.Place.{Place}
use Rattle.lf_wire_length.specs.declared.points.HalfPoint.{HalfPoint}
use Rattle.lf_wire_length.specs.declared.points.PinOffset.{PinOffset}
use Rattle.lf_wire_length.specs.Length.{point_at, turned_point, shifted_point, twice}
use Rattle.lf_wire_length.specs.Laws.{IsInBox}
use Rattle.lf_wire_length.specs.Bounds.{IsPinInMacro}

half_point : ℤ → ℤ → HalfPoint
half_point a b = record { x = a; y = b }

-- Two points with the same coordinates are the same.
pub same_half_point : (a b : HalfPoint) → a.x ≡ b.x → a.y ≡ b.y → a ≡ b
unfolding half_point
same_half_point a b p q = let e : half_point a.x a.y ≡ half_point b.x b.y = cc in e

-- The coordinates of a point within a box whose corner is (0, 0).
pub record IsInSize (size : Point) (p : HalfPoint) : Type 0 where
  pub left : pos 0 ≤ℤ p.x
  pub right : p.x ≤ℤ twice size.x
  pub bottom : pos 0 ≤ℤ p.y
  pub top : p.y ≤ℤ twice size.y

pub in_size : (size : Point) (p : HalfPoint) → IsInBox (box_at size (pos 0) (pos 0)) p → IsInSize size p
in_size size p h =
    let left : twice (pos 0) ≤ℤ p.x = h.left in
    let right : p.x ≤ℤ twice (pos 0 +ℤ size.x) = h.right in
    let bottom : twice (pos 0) ≤ℤ p.y = h.bottom in
    let top : p.y ≤ℤ twice (pos 0 +ℤ size.y) = h.top in
    record { left = omega (arith, ints); right = omega (arith, ints); bottom = omega (arith, ints); top = omega (arith, ints) }

pub turned_in_size : (o : Orient) (size : Point) (p : HalfPoint) → IsInSize size p → IsInSize (turned size o) (turned_point o size p)
turned_in_size N size p h = h
turned_in_size S size p h = record { left = omega (arith, ints); right = omega (arith, ints); bottom = omega (arith, ints); top = omega (arith, ints) }
turned_in_size FN size p h = record { left = omega (arith, ints); right = omega (arith, ints); bottom = omega (arith, ints); top = omega (arith, ints) }
turned_in_size FS size p h = record { left = omega (arith, ints); right = omega (arith, ints); bottom = omega (arith, ints); top = omega (arith, ints) }
turned_in_size W size p h = record { left = omega (arith, ints); right = omega (arith, ints); bottom = omega (arith, ints); top = omega (arith, ints) }
turned_in_size E size p h = record { left = omega (arith, ints); right = omega (arith, ints); bottom = omega (arith, ints); top = omega (arith, ints) }
turned_in_size FW size p h = record { left = h.bottom; right = h.top; bottom = h.left; top = h.right }
turned_in_size FE size p h = record { left = omega (arith, ints); right = omega (arith, ints); bottom = omega (arith, ints); top = omega (arith, ints) }

pub shifted_in_box : (x y : ℤ) (size : Point) (p : HalfPoint) → IsInSize size p → IsInBox (box_at size x y) (shifted_point (twice x) (twice y) p)
shifted_in_box x y size p h =
    let left : pos 0 ≤ℤ p.x = h.left in
    let right : p.x ≤ℤ twice size.x = h.right in
    let bottom : pos 0 ≤ℤ p.y = h.bottom in
    let top : p.y ≤ℤ twice size.y = h.top in
    record { left = omega (arith, ints); right = omega (arith, ints); bottom = omega (arith, ints); top = omega (arith, ints) }

pub placed_in_box : (place : Place) (pin : PinOffset) → IsInBox (box_at pin.size (pos 0) (pos 0)) pin.middle → IsInBox (box_at (turned pin.size place.orient) place.x place.y) (point_at place pin)
placed_in_box place pin h =
    shifted_in_box place.x place.y (turned pin.size place.orient) (turned_point place.orient pin.size pin.middle)
    (turned_in_size place.orient pin.size pin.middle (in_size pin.size pin.middle h))

-- Coordinates of a macro's pin, turned.
pub record IsNear (p : HalfPoint) : Type 0 where
  pub left : negsuc 119999999999 ≤ℤ p.x
  pub right : p.x ≤ℤ pos 120000000000
  pub bottom : negsuc 119999999999 ≤ℤ p.y
  pub top : p.y ≤ℤ pos 120000000000

pub turned_near : (o : Orient) (pin : PinOffset) → IsPinInMacro pin → IsNear (turned_point o pin.size pin.middle)
turned_near N pin h = record { left = omega (arith, ints); right = omega (arith, ints); bottom = omega (arith, ints); top = omega (arith, ints) }
turned_near S pin h = record { left = omega (arith, ints); right = omega (arith, ints); bottom = omega (arith, ints); top = omega (arith, ints) }
turned_near FN pin h = record { left = omega (arith, ints); right = omega (arith, ints); bottom = omega (arith, ints); top = omega (arith, ints) }
turned_near FS pin h = record { left = omega (arith, ints); right = omega (arith, ints); bottom = omega (arith, ints); top = omega (arith, ints) }
turned_near W pin h = record { left = omega (arith, ints); right = omega (arith, ints); bottom = omega (arith, ints); top = omega (arith, ints) }
turned_near E pin h = record { left = omega (arith, ints); right = omega (arith, ints); bottom = omega (arith, ints); top = omega (arith, ints) }
turned_near FW pin h = record { left = omega (arith, ints); right = omega (arith, ints); bottom = omega (arith, ints); top = omega (arith, ints) }
turned_near FE pin h = record { left = omega (arith, ints); right = omega (arith, ints); bottom = omega (arith, ints); top = omega (arith, ints) }
