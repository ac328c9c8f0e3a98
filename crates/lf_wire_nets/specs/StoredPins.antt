-- What contracts see of pins and macros whose names are borrowed from a text.
use Rattle.std.specs.Prelude.{ℕ, List, Option}
use Rattle.lf_units.specs.declared.geometry.Rect.{Rect}

-- A pin (LEF MACRO PIN): its name, and the least box around the shapes of its ports. `None` without
-- a shape.
pub record PinFacts : Type 0 where
  pub name : List ℕ
  pub box : Option Rect

-- A macro (LEF MACRO): its name, and its pins in the order of the text.
pub record MacroPinFacts : Type 0 where
  pub name : List ℕ
  pub pins : List PinFacts
