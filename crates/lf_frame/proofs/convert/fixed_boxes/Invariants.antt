use Rattle.std.proofs.Common.{◌≡◌, ◌++◌, drop}
use Rattle.std.specs.Prelude.{filter_map}
use Rattle.lf_frame.specs.Loads.{fixed_box}
use Rattle.lf_frame.proofs.convert.fixed_boxes.Given as goal

-- The boxes so far, followed by those of the remaining components, are all of them.
abbrev pub invariant-loop-component : goal.invariant-loop-component
invariant-loop-component l = l.boxes ++ filter_map (fixed_box l.library l.units) (drop l.component-index l.components) ≡ filter_map (fixed_box l.library l.units) l.components
