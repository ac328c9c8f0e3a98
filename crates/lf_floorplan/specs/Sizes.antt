-- Sizes in database units, and boxes of a size (LEF SIZE, DEF COMPONENTS).
use Rattle.std.specs.Prelude.{◌≡◌, ℕ, ℤ, pos, ◌+ℤ◌, ◌≤ℤ◌, ◌<ℤ◌}
use Rattle.lf_units.specs.declared.geometry.Point.{Point}
use Rattle.lf_units.specs.declared.geometry.Rect.{Rect}
use Rattle.lf_units.specs.Length.{IsLength, in_dbu}
use Rattle.lf_orient.specs.declared.Orient.{Orient}
use Rattle.lf_orient.specs.declared.Orient.TheVariants.{W, E, FW, FE}

-- A size in database units.
abbrev pub size_in_dbu : ℕ → Point → Point
size_in_dbu units size = record { x = in_dbu units size.x; y = in_dbu units size.y }

-- The length is whole in database units, above 0, and within the largest length of LEF.
pub record IsWholeLength (units : ℕ) (micros : ℤ) : Type 0 where
  pub whole : IsLength units micros (in_dbu units micros)
  pub positive : pos 0 <ℤ in_dbu units micros
  pub small : in_dbu units micros ≤ℤ pos 20000000000

-- The size in an orientation: width and height are exchanged for E, W, FE and FW.
abbrev pub turned : Point → Orient → Point
turned size E = record { x = size.y; y = size.x }
turned size W = record { x = size.y; y = size.x }
turned size FE = record { x = size.y; y = size.x }
turned size FW = record { x = size.y; y = size.x }
turned size _ = size

-- The box of this size with its lower left corner at (x, y).
abbrev pub box_at : Point → ℤ → ℤ → Rect
box_at size x y = record { x1 = x; y1 = y; x2 = x +ℤ size.x; y2 = y +ℤ size.y }

-- Turning a size twice by the same orientation gives the original size.
abbrev pub TurningTwiceIsIdentity : Type 0
TurningTwiceIsIdentity = (size : Point) (o : Orient) → turned (turned size o) o ≡ size
