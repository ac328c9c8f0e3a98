-- The ranges of the pins and nets of a DEF text.
use Rattle.std.specs.Prelude.{ℕ, ◌≤◌, length, All, IfSome}
use Rattle.lf_lex.specs.Reading.{IsName}
use Rattle.lf_def.specs.Ranges.{IsLocation, IsRect}
use Rattle.lf_wire_nets.specs.declared.design_pins.DesignPin.{DesignPin}
use Rattle.lf_wire_nets.specs.declared.design_pins.DesignPort.{DesignPort}
use Rattle.lf_wire_nets.specs.declared.design_pins.PinParts.{PinParts}
use Rattle.lf_wire_nets.specs.declared.net_terms.NetTerm.{NetTerm}
use Rattle.lf_wire_nets.specs.declared.nets.DesignNet.{DesignNet}
use Rattle.lf_wire_nets.specs.declared.nets.NetParts.{NetParts}
use Rattle.lf_wire_nets.specs.declared.design_nets.DesignNets.{DesignNets}

pub record IsDesignPort (p : DesignPort) : Type 0 where
  pub at : IsLocation p.at
  pub shape : IfSome p.shape IsRect

pub record IsDesignPin (p : DesignPin) : Type 0 where
  pub name : IsName p.name
  pub ports : All IsDesignPort p.ports

-- Holds for the parts of a pin that were read so far.
pub record ArePinParts (p : PinParts) : Type 0 where
  pub ports : All IsDesignPort p.ports
  pub at : IfSome p.at IsLocation
  pub shape : IfSome p.shape IsRect

pub record IsNetTerm (t : NetTerm) : Type 0 where
  pub component : IfSome t.component (λ n. IsName n)
  pub pin : IsName t.pin

pub record IsDesignNet (n : DesignNet) : Type 0 where
  pub terms : All IsNetTerm n.terms

-- Holds if the parts of a net that were read so far have at most this many terms.
pub record AreNetParts (most : ℕ) (p : NetParts) : Type 0 where
  pub terms : All IsNetTerm p.terms
  pub few : length p.terms ≤ most

-- Holds for the pins and nets of a text: at most 16,777,216 nets, with at most 4,294,967,295 terms.
pub record AreDesignNets (n : DesignNets) : Type 0 where
  pub pins : All IsDesignPin n.pins
  pub nets : All IsDesignNet n.nets
  pub few_nets : length n.nets ≤ 16777216
  pub few_terms : n.terms ≤ 4294967295
