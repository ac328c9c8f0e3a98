-- The size of a box is small.
use Rattle.std.proofs.Common.{pos, ◌≤ℤ◌, ◌<ℤ◌, ℕ}
use Rattle.lf_units.specs.declared.geometry.Point.{Point}
use Rattle.lf_orient.specs.declared.Orient.{Orient}
use Rattle.lf_orient.specs.declared.Orient.TheVariants.{N, W, S, E, FN, FW, FS, FE}
use Rattle.lf_floorplan.specs.declared.frame.Frame.{Frame}
use Rattle.lf_floorplan.specs.declared.macros.Macro.{Macro}
use Rattle.lf_floorplan.specs.Boxes.{IsSized, size_of}
use Rattle.lf_floorplan.specs.Rows.{IsPitch}
use Rattle.lf_floorplan.specs.Sizes.{turned}
use Rattle.lf_floorplan.proofs.LengthLemmas.{small_length}

-- A size that is above 0 in x and in y, and small.
pub record IsSmall (size : Point) : Type 0 where
  pub wide : pos 0 <ℤ size.x
  pub high : pos 0 <ℤ size.y
  pub x_small : size.x ≤ℤ pos 20000000000
  pub y_small : size.y ≤ℤ pos 20000000000

pub small_pitch : (units : ℕ) (size pitch : Point) → IsPitch units size pitch → IsSmall pitch
small_pitch units size pitch p = record { wide = p.wide; high = p.high; x_small = p.x_small; y_small = p.y_small }

swapped : (size : Point) → IsSmall size → IsSmall record { x = size.y; y = size.x }
swapped size m = record { wide = m.high; high = m.wide; x_small = m.y_small; y_small = m.x_small }

pub turned_small : (size : Point) (o : Orient) → IsSmall size → IsSmall (turned size o)
turned_small size E m = swapped size m
turned_small size W m = swapped size m
turned_small size FE m = swapped size m
turned_small size FW m = swapped size m
turned_small size N m = m
turned_small size S m = m
turned_small size FN m = m
turned_small size FS m = m

-- The size of a macro that a cell may have.
pub sized_pitch : (f : Frame) (m : Macro) → IsSized f m → IsPitch f.header.units m.size (size_of f m)
sized_pitch f m s = record {
  across = s.across;
  up = s.up;
  wide = s.wide;
  high = s.high;
  x_small = small_length f.header.units m.size.x (size_of f m).x f.units_in_range.most s.in_lef.across.most s.across;
  y_small = small_length f.header.units m.size.y (size_of f m).y f.units_in_range.most s.in_lef.up.most s.up;
}
