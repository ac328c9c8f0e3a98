-- The macro of each component (LEF MACRO; DEF COMPONENTS).
use Rattle.std.specs.Prelude.{ℕ, List, map, Option, None, slice_get, unwrap_or}
use Rattle.lf_names.specs.Names.{position_of}
use Rattle.lf_lef.specs.Contents.{Contents, macro_names}
use Rattle.lf_def.specs.declared.components.Component.{Component}

-- The number of a component's macro in the library, if a LEF text has it.
abbrev pub macro_number_of : Contents → Component → Option ℕ
macro_number_of library c = position_of (macro_names library.macros) c.mac

-- The macro of each component.
abbrev pub macros_of : Contents → List Component → List (Option ℕ)
macros_of library components = map (macro_number_of library) components

-- The macro of the component with this number.
abbrev pub macro_at : List (Option ℕ) → ℕ → Option ℕ
macro_at macros number = unwrap_or (slice_get macros number) None
