-- What the texts of a design say, as far as nets are bound by it.
use Rattle.std.specs.Prelude.{List}
use Rattle.lf_floorplan.specs.declared.loaded.Loaded.{Loaded}
use Rattle.lf_def.specs.declared.components.Component.{Component}
use Rattle.lf_wire_nets.specs.declared.macros.MacroPins.{MacroPins}
use Rattle.lf_wire_nets.specs.declared.design_pins.DesignPin.{DesignPin}
use Rattle.lf_wire_nets.specs.declared.texts.DesignTexts.{DesignTexts}

-- The loaded design, the macros of the LEF texts with their pins, and of the DEF text all components
-- and the pins of the design.
pub record DesignFacts : Type 0 where
  pub loaded : Loaded
  pub macros : List MacroPins
  pub components : List Component
  pub pins : List DesignPin

abbrev pub facts_of : DesignTexts → DesignFacts
facts_of t = record {
  loaded = t.loaded.now;
  macros = t.macros.now;
  components = t.document.now.components;
  pins = t.nets.now.pins;
}
