-- The names of components, in the order of the text.
use Rattle.std.specs.Prelude.{ℕ, List, map}
use Rattle.std.specs.List.{enumerate_from}
use Rattle.lf_def.specs.declared.components.Component.{Component}
use Rattle.lf_names.specs.Labels.{Labelled}

-- The names of components.
abbrev pub component_names : List Component → List (List ℕ)
component_names components = map (λ c. c.name) components

-- The names of components, each labelled with the component's number, from this number on.
abbrev pub numbered_from : ℕ → List Component → List Labelled
numbered_from first components = map (λ e. record { label = e.0; name = e.1.name }) (enumerate_from first components)

-- The names of components, each labelled with the component's number.
abbrev pub numbered_names : List Component → List Labelled
numbered_names components = numbered_from 0 components
