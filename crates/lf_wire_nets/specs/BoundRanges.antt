-- The ranges in which pins are bound.
use Rattle.lf_floorplan.specs.Bounds.{IsLefSize}
use Rattle.lf_floorplan.specs.declared.macros.Macro.{Macro}

-- The macro's size and origin are ones that LEF can hold.
pub record IsLefMacro (m : Macro) : Type 0 where
  pub size : IsLefSize m.size
  pub origin : IsLefSize m.origin
