-- The ranges in which sums of lengths fit 64 bits.
use Rattle.std.specs.Prelude.{ℤ, pos, negsuc, ◌≤ℤ◌, ⊤}
use Rattle.lf_units.specs.declared.geometry.Rect.{Rect}
use Rattle.lf_floorplan.specs.Bounds.{IsLefLength}
use Rattle.lf_wire_length.specs.declared.points.HalfPoint.{HalfPoint}
use Rattle.lf_wire_length.specs.declared.points.PinOffset.{PinOffset}
use Rattle.lf_wire_length.specs.declared.pins.NetPin.{NetPin}
use Rattle.lf_wire_length.specs.declared.pins.NetPin.TheVariants.{Fixed, OfCell}

-- Each edge of a pin's box is a length of LEF.
pub record IsPinBox (box : Rect) : Type 0 where
  pub left : IsLefLength box.x1
  pub bottom : IsLefLength box.y1
  pub right : IsLefLength box.x2
  pub top : IsLefLength box.y2

-- A length of a macro in database units. A COVER component's macro may have a negative one.
pub record IsMacroLength (z : ℤ) : Type 0 where
  pub least : negsuc 19999999999 ≤ℤ z
  pub most : z ≤ℤ pos 20000000000

-- A coordinate of a pin that no command moves, or of one in its macro.
pub record IsOffsetNumber (z : ℤ) : Type 0 where
  pub least : negsuc 124999999999 ≤ℤ z
  pub most : z ≤ℤ pos 125000000000

-- A coordinate of a pin of a design.
pub record IsPointNumber (z : ℤ) : Type 0 where
  pub least : negsuc 199999999999 ≤ℤ z
  pub most : z ≤ℤ pos 200000000000

pub record IsOffsetPoint (p : HalfPoint) : Type 0 where
  pub across : IsOffsetNumber p.x
  pub up : IsOffsetNumber p.y

-- A coordinate of a pin in its macro, turned.
pub record IsTurnedNumber (z : ℤ) : Type 0 where
  pub least : negsuc 164999999999 ≤ℤ z
  pub most : z ≤ℤ pos 165000000000

pub record IsTurnedPoint (p : HalfPoint) : Type 0 where
  pub across : IsTurnedNumber p.x
  pub up : IsTurnedNumber p.y

-- A coordinate of the middle of a box of LEF coordinates.
pub record IsMiddleNumber (z : ℤ) : Type 0 where
  pub least : negsuc 79999999999 ≤ℤ z
  pub most : z ≤ℤ pos 80000000000

pub record IsMiddlePoint (p : HalfPoint) : Type 0 where
  pub across : IsMiddleNumber p.x
  pub up : IsMiddleNumber p.y

pub record IsDesignPoint (p : HalfPoint) : Type 0 where
  pub across : IsPointNumber p.x
  pub up : IsPointNumber p.y

-- A pin in its macro: the largest macro and a pin of any box of LEF coordinates.
pub record IsPinOffset (pin : PinOffset) : Type 0 where
  pub wide : IsMacroLength pin.size.x
  pub high : IsMacroLength pin.size.y
  pub middle : IsOffsetPoint pin.middle

-- A pin in its macro, whose box has LEF coordinates.
pub record IsPinInMacro (pin : PinOffset) : Type 0 where
  pub wide : IsMacroLength pin.size.x
  pub high : IsMacroLength pin.size.y
  pub middle : IsMiddlePoint pin.middle

-- What the pin has of a point or an offset is in its range.
abbrev pub IsPinInRange : NetPin → Type 0
IsPinInRange (Fixed p) = IsDesignPoint p
IsPinInRange (OfCell cell pin) = IsPinOffset pin
IsPinInRange _ = ⊤
