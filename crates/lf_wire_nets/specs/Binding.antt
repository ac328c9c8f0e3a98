-- The nets of a design, each pin bound to what its names denote: to a pin of a cell, or to a point
-- that no command moves.
use Rattle.std.specs.Prelude.{ℕ, ◌<◌, pos, ◌+ℤ◌, ⊤, Bool, not, List, [], ◌∷◌, find, filter, map, option_map, position, Option, Some, None, slice_get}
use Rattle.std.specs.List.{flat_map}
use Rattle.std.specs.Option.{option_and_then}
use Rattle.std.specs.Str.{bytes_eq}
use Rattle.lf_units.specs.declared.geometry.Rect.{Rect}
use Rattle.lf_floorplan.specs.declared.macros.Macro.{Macro}
use Rattle.lf_floorplan.specs.declared.loaded.Loaded.{Loaded}
use Rattle.lf_floorplan.specs.declared.loaded.LoadedCell.{LoadedCell}
use Rattle.lf_floorplan.specs.Boxes.{macro_of, no_macro}
use Rattle.lf_floorplan.specs.Sizes.{size_in_dbu}
use Rattle.lf_def.specs.declared.components.Component.{Component}
use Rattle.lf_def.specs.declared.components.Location.{Location}
use Rattle.lf_wire_nets.specs.declared.macros.MacroPins.{MacroPins}
use Rattle.lf_wire_nets.specs.declared.pins.MacroPin.{MacroPin}
use Rattle.lf_wire_nets.specs.declared.design_pins.DesignPin.{DesignPin}
use Rattle.lf_wire_nets.specs.declared.design_pins.DesignPort.{DesignPort}
use Rattle.lf_wire_nets.specs.declared.nets.DesignNet.{DesignNet}
use Rattle.lf_wire_nets.specs.declared.net_terms.NetTerm.{NetTerm}
use Rattle.lf_wire_length.specs.declared.points.HalfPoint.{HalfPoint}
use Rattle.lf_wire_length.specs.declared.points.PinOffset.{PinOffset}
use Rattle.lf_wire_length.specs.declared.pins.NetPin.{NetPin}
use Rattle.lf_wire_length.specs.declared.pins.NetPin.TheVariants.{Fixed, OfCell, Unknown, Unplaced}
use Rattle.lf_wire_length.specs.Bounds.{IsOffsetPoint, IsPinOffset}
use Rattle.lf_wire_length.specs.Length.{middle_of, shifted_point, turned_point, twice}
use Rattle.lf_wire_length.specs.Stored.{pin_of_cell}
use Rattle.lf_wire_nets.specs.Texts.{DesignFacts}
use Rattle.lf_wire_nets.specs.Names.{is_cell_named, is_design_pin_named, is_fixed_named, is_macro_named}

-- ---- pins of macros

abbrev pub is_pin_named : List ℕ → MacroPin → Bool
is_pin_named name p = bytes_eq p.name name

-- The box of the first pin of this name.
abbrev pub pin_box_in : List MacroPin → List ℕ → Option Rect
pin_box_in pins name = option_and_then (λ p. p.box) (find (is_pin_named name) pins)

-- The box of the pin of the macro with these names.
abbrev pub box_of_pin : List MacroPins → List ℕ → List ℕ → Option Rect
box_of_pin macros mac pin = option_and_then (λ m. pin_box_in m.pins pin) (find (is_macro_named mac) macros)

-- Where a pin with this box is in its macro.
abbrev pub offset_of_box : ℕ → Macro → Rect → PinOffset
offset_of_box units m box = record { size = size_in_dbu units m.size; middle = middle_of units m.origin box }

-- Where the pin of this name is in the macro. `None` if the texts have no rectangle of such a pin.
abbrev pub offset_in_macro : DesignFacts → List ℕ → Macro → Option PinOffset
offset_in_macro d pin m =
    option_map (offset_of_box d.loaded.frame.header.units m) (box_of_pin d.macros m.name pin)

-- ---- pins of components

-- The macro of a cell.
abbrev pub macro_of_cell : Loaded → Option LoadedCell → Macro
macro_of_cell l None = no_macro
macro_of_cell l (Some c) = macro_of l.frame c.mac

-- The point of a pin of a component that no command moves.
abbrev pub fixed_point : Location → PinOffset → HalfPoint
fixed_point at pin = shifted_point (twice at.x) (twice at.y) (turned_point at.orient pin.size pin.middle)

abbrev pub pin_at_place : Option Location → PinOffset → NetPin
pin_at_place None pin = Unplaced
pin_at_place (Some at) pin = Fixed (fixed_point at pin)

abbrev pub location_of : Component → Option Location
location_of c = option_and_then (λ p. p.place) c.placement

abbrev pub pin_at_offset : Option Location → Option PinOffset → NetPin
pin_at_offset at None = Unknown
pin_at_offset at (Some pin) = pin_at_place at pin

abbrev pub is_frame_macro_named : List ℕ → Macro → Bool
is_frame_macro_named name m = bytes_eq m.name name

-- Where the pin of this name is in the macro of a component, which names it.
abbrev pub offset_in_component : DesignFacts → List ℕ → Component → Option PinOffset
offset_in_component d pin c =
    option_and_then (offset_in_macro d pin) (find (is_frame_macro_named c.mac) d.loaded.frame.macros)

-- The pin of this name of a FIXED or COVER component: it is at the component's place.
abbrev pub pin_of_fixed : DesignFacts → List ℕ → Option Component → NetPin
pin_of_fixed d pin None = Unknown
pin_of_fixed d pin (Some c) = pin_at_offset (location_of c) (offset_in_component d pin c)

-- The pin of a component: of the cell of that number, or else of the first FIXED or COVER component
-- with that name.
abbrev pub pin_of_component : DesignFacts → List ℕ → List ℕ → Option ℕ → NetPin
pin_of_component d name pin (Some number) =
    pin_of_cell number (offset_in_macro d pin (macro_of_cell d.loaded (slice_get d.loaded.cells number)))
pin_of_component d name pin None = pin_of_fixed d pin (find (is_fixed_named name) d.components)

-- ---- pins of the design

-- The middle of a port's shapes in half database units, before the port is turned and placed.
-- Without a shape it is the point that is placed.
abbrev pub middle_of_shape : Option Rect → HalfPoint
middle_of_shape None = record { x = pos 0; y = pos 0 }
middle_of_shape (Some b) = record { x = b.x1 +ℤ b.x2; y = b.y1 +ℤ b.y2 }

-- The offset of a port from where it is placed: it is turned as a macro without extent.
abbrev pub offset_of_port : DesignPort → PinOffset
offset_of_port p = record { size = record { x = pos 0; y = pos 0 }; middle = middle_of_shape p.shape }

-- The pin of the design at a port: the middle of its shapes is turned and placed.
abbrev pub pin_of_port : DesignPort → NetPin
pin_of_port p = Fixed (fixed_point p.at (offset_of_port p))

-- The pins of a pin of the design: one at each port that is placed. It is unplaced if there is none.
abbrev pub pins_of_ports : List DesignPort → List NetPin
pins_of_ports [] = Unplaced ∷ []
pins_of_ports (port ∷ ports) = map pin_of_port (port ∷ ports)

abbrev pub pins_of_design : Option DesignPin → List NetPin
pins_of_design None = Unknown ∷ []
pins_of_design (Some p) = pins_of_ports p.ports

-- ---- nets

-- The pin of a component, or else those of the design, with these names.
abbrev pub bound_names : DesignFacts → Option (List ℕ) → List ℕ → List NetPin
bound_names d None pin = pins_of_design (find (is_design_pin_named pin) d.pins)
bound_names d (Some name) pin = pin_of_component d name pin (position (is_cell_named name) d.loaded.cells) ∷ []

-- The pins that a term of a net denotes.
abbrev pub bound_pins : DesignFacts → NetTerm → List NetPin
bound_pins d t = bound_names d t.component t.pin

-- The pins of a net.
abbrev pub bound_net : DesignFacts → DesignNet → List NetPin
bound_net d n = flat_map (bound_pins d) n.terms

abbrev pub is_supply : DesignNet → Bool
is_supply n = n.supply

abbrev pub is_signal : DesignNet → Bool
is_signal n = not n.supply

-- The nets that are no supplies, each with its pins.
abbrev pub bound_nets : DesignFacts → List DesignNet → List (List NetPin)
bound_nets d nets = map (bound_net d) (filter is_signal nets)

-- ---- ranges

-- Holds if a netlist can have the pin.
abbrev pub IsBoundPin : NetPin → Type 0
IsBoundPin (Fixed p) = IsOffsetPoint p
IsBoundPin (OfCell cell pin) = (cell < 4000000) × IsPinOffset pin
IsBoundPin Unknown = ⊤
IsBoundPin Unplaced = ⊤
