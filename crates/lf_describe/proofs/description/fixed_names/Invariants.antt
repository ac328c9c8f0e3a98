use Rattle.std.proofs.Common.{◌≡◌, ◌++◌, drop, map}
use Rattle.lf_describe.specs.Description.{fixed_names}
use Rattle.lf_describe.proofs.description.fixed_names.Given as goal

-- The names so far, followed by those of the remaining components, are all names.
abbrev pub invariant-loop-component : goal.invariant-loop-component
invariant-loop-component l = map (λ n. n.now) l.names.items ++ fixed_names (drop l.component-index l.components) ≡ fixed_names l.components
