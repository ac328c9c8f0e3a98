-- The range of the lengths of a macro.
use Rattle.std.specs.Prelude.{Option, IfSome}
use Rattle.lf_units.specs.declared.geometry.Point.{Point}
use Rattle.lf_lef.specs.Lengths.{HasRange}

-- Holds if SIZE and ORIGIN, where present, have lengths in the range of LEF.
pub record HasRanges (size origin : Option Point) : Type 0 where
  pub size_range : IfSome size (λ p. HasRange p)
  pub origin_range : IfSome origin (λ p. HasRange p)
