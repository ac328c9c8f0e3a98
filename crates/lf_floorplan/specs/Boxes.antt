-- The macros of a frame by their numbers, and their sizes (LEF MACRO SIZE).
use Rattle.std.specs.Prelude.{ℕ, pos, ◌<ℤ◌, [], false, slice_get, unwrap_or}
use Rattle.lf_units.specs.declared.geometry.Point.{Point}
use Rattle.lf_units.specs.Length.{IsLength}
use Rattle.lf_orient.specs.declared.Rail.TheVariants.{Ground}
use Rattle.lf_floorplan.specs.Sizes.{size_in_dbu}
use Rattle.lf_floorplan.specs.Bounds.{IsLefSize}
use Rattle.lf_floorplan.specs.declared.frame.Frame.{Frame}
use Rattle.lf_floorplan.specs.declared.macros.Macro.{Macro}

-- The size of an upright macro, in database units.
abbrev pub size_of : Frame → Macro → Point
size_of f m = size_in_dbu f.header.units m.size

-- The macro's size is one that LEF can hold, whole in database units, and above 0 in x and in y.
pub record IsSized (f : Frame) (m : Macro) : Type 0 where
  pub in_lef : IsLefSize m.size
  pub across : IsLength f.header.units m.size.x (size_of f m).x
  pub up : IsLength f.header.units m.size.y (size_of f m).y
  pub wide : pos 0 <ℤ (size_of f m).x
  pub high : pos 0 <ℤ (size_of f m).y

-- A macro without name and size.
abbrev pub no_macro : Macro
no_macro = record {
  name = [];
  size = record { x = pos 0; y = pos 0 };
  origin = record { x = pos 0; y = pos 0 };
  symmetry = record { x = false; y = false };
  rail = Ground;
}

-- The macro of this number. Cells of a loaded design have only numbers of the frame's macros.
abbrev pub macro_of : Frame → ℕ → Macro
macro_of f number = unwrap_or (slice_get f.macros number) no_macro
