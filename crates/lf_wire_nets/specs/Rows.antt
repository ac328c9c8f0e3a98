-- The rows of a netlist's table.
use Rattle.std.specs.Prelude.{◌≡◌, List, [], ◌∷◌}
use Rattle.lf_wire_length.specs.declared.pins.NetPin.{NetPin}
use Rattle.lf_wire_length.specs.Stored.{with_pin}
use Rattle.lf_wire_nets.specs.declared.rows.NetRows.{NetRows}

-- Holds if the rows of the netlist's table are known.
abbrev pub AreRowsKnown : NetRows → Type 0
AreRowsKnown r = r.netlist.rows ≡ r.offsets.items

-- The last net with these pins more.
abbrev pub with_pins : List NetPin → List (List NetPin) → List (List NetPin)
with_pins [] nets = nets
with_pins (pin ∷ pins) nets = with_pins pins (with_pin pin nets)
