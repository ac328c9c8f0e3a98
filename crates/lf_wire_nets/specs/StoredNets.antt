-- What contracts see of pins and terms whose names are borrowed from a text.
use Rattle.std.specs.Prelude.{ℕ, List, Option}
use Rattle.lf_wire_nets.specs.declared.design_pins.DesignPort.{DesignPort}

-- A pin of the design (DEF PINS): its name, and its ports that are placed, in the order of the text.
pub record DesignPinFacts : Type 0 where
  pub name : List ℕ
  pub ports : List DesignPort

-- A term of a net (DEF NETS): the name of a component, or `None` for a pin of the design, and the
-- name of the pin.
pub record NetTermFacts : Type 0 where
  pub component : Option (List ℕ)
  pub pin : List ℕ
