-- Entries by their names.
use Rattle.std.specs.Prelude.{ℕ, Bool, not, ◌&&◌, List}
use Rattle.std.specs.Str.{bytes_eq}
use Rattle.lf_floorplan.specs.declared.loaded.LoadedCell.{LoadedCell}
use Rattle.lf_def.specs.declared.components.Component.{Component}
use Rattle.lf_def.specs.Kinds.{is_movable}
use Rattle.lf_wire_nets.specs.declared.macros.MacroPins.{MacroPins}
use Rattle.lf_wire_nets.specs.declared.design_pins.DesignPin.{DesignPin}
use Rattle.lf_wire_nets.specs.Texts.{DesignFacts}
use Rattle.lf_wire_nets.specs.declared.names.NameTables.{NameTables}
use Rattle.lf_wire_nets.specs.FirstNames.{FindsFirst}

abbrev pub is_cell_named : List ℕ → LoadedCell → Bool
is_cell_named name c = bytes_eq name c.name

-- True if the component is FIXED or COVER, and has this name.
abbrev pub is_fixed_named : List ℕ → Component → Bool
is_fixed_named name c = not (is_movable c) && bytes_eq name c.name

abbrev pub is_macro_named : List ℕ → MacroPins → Bool
is_macro_named name m = bytes_eq name m.name

abbrev pub is_design_pin_named : List ℕ → DesignPin → Bool
is_design_pin_named name p = bytes_eq name p.name

-- Holds if these tables find the first entries with each name in the texts of a design.
pub record AreNamesOf (d : DesignFacts) (t : NameTables) : Type 0 where
  pub cells : FindsFirst is_cell_named d.loaded.cells t.cells
  pub fixed : FindsFirst is_fixed_named d.components t.fixed
  pub macros : FindsFirst is_macro_named d.macros t.macros
  pub pins : FindsFirst is_design_pin_named d.pins t.pins
