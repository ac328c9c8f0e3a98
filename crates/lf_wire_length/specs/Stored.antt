-- How nets are stored: where the pins of each begin, and for each pin a cell and a row of a table.
use Rattle.std.specs.Prelude.{◌≡◌, false, ℕ, ◌-◌, ◌==◌, ◌<◌, ◌≤◌, List, [], ◌∷◌, ◌++◌, map, take, drop, length, Option, Some, None, slice_get, slice_index_or, if◌then◌else◌, All, ⊤, ◌+◌}
use Rattle.lf_wire_length.specs.Bounds.{IsPinOffset}
use Rattle.lf_wire_length.specs.declared.points.PinOffset.{PinOffset}
use Rattle.lf_wire_length.specs.declared.pins.NetPin.{NetPin}
use Rattle.lf_wire_length.specs.declared.pins.NetPin.TheVariants.{Fixed, OfCell, Unknown, Unplaced}
use Rattle.lf_wire_length.specs.declared.pins.PinRow.{PinRow}
use Rattle.lf_wire_length.specs.declared.pins.PinRow.TheVariants as row
use Rattle.lf_wire_length.specs.declared.pins.PackedPin.{PackedPin}
use Rattle.lf_wire_length.specs.declared.stored.StoredNets.{StoredNets}

-- The pin of a cell by its row of the table. A pin without a row is unknown.
abbrev pub pin_of_cell : ℕ → Option PinOffset → NetPin
pin_of_cell cell None = Unknown
pin_of_cell cell (Some pin) = OfCell cell pin

-- The pin at a fixed point, which the middle of its row is.
abbrev pub fixed_pin : Option PinOffset → NetPin
fixed_pin None = Unknown
fixed_pin (Some pin) = Fixed pin.middle

-- The pin that is given by its row.
abbrev pub pin_by_row : List PinOffset → PinRow → NetPin
pin_by_row rows (row.OfCell cell number) = pin_of_cell cell (slice_get rows number)
pin_by_row rows (row.Fixed number) = fixed_pin (slice_get rows number)
pin_by_row rows row.Unknown = Unknown
pin_by_row rows row.Unplaced = Unplaced

-- The pin has a row of a table of this length if it needs one, and its cell is no mark.
abbrev pub HasRow : ℕ → PinRow → Type 0
HasRow rows (row.OfCell cell number) = (number < rows) × (cell < 4294967293)
HasRow rows (row.Fixed number) = number < rows
HasRow rows _ = ⊤

-- The pin that is stored so: three numbers that no cell has mark pins without a cell.
abbrev pub pin_stored : List PinOffset → PackedPin → NetPin
pin_stored rows p =
    if p.cell == 4294967294 then Unplaced
    else if p.cell == 4294967293 then Unknown
    else if p.cell == 4294967295 then fixed_pin (slice_get rows p.row)
    else pin_of_cell p.cell (slice_get rows p.row)

-- The pins of the nets, which begin at these positions.
abbrev pub nets_from : {X : Type 0} → List ℕ → List X → List (List X)
nets_from [] pins = []
nets_from (start ∷ []) pins = drop start pins ∷ []
nets_from (start ∷ next ∷ starts) pins = take (next - start) (drop start pins) ∷ nets_from (next ∷ starts) pins

-- The nets that are stored so, each with its pins.
abbrev pub stored_nets : StoredNets → List (List NetPin)
stored_nets s = nets_from s.starts.now (map (pin_stored s.rows.now) s.pins.now)

-- The last net with one pin more.
abbrev pub with_pin : {X : Type 0} → X → List (List X) → List (List X)
with_pin pin [] = []
with_pin pin (net ∷ []) = (net ++ pin ∷ []) ∷ []
with_pin pin (net ∷ next ∷ nets) = net ∷ with_pin pin (next ∷ nets)

-- Nets as contracts see them: the table of rows, the pins of each net, and the number of all pins.
pub record NetlistView : Type 0 where
  pub rows : List PinOffset
  pub nets : List (List NetPin)
  pub pins : ℕ

abbrev pub net_view : List PinOffset → List ℕ → List PackedPin → NetlistView
net_view rows starts pins =
    record { rows = rows; nets = nets_from starts (map (pin_stored rows) pins); pins = length pins }

abbrev pub with_table_row : PinOffset → NetlistView → NetlistView
with_table_row pin l = record { rows = l.rows ++ pin ∷ []; nets = l.nets; pins = l.pins }

-- One net more, without pins.
abbrev pub with_empty_net : NetlistView → NetlistView
with_empty_net l = record { rows = l.rows; nets = l.nets ++ [] ∷ []; pins = l.pins }

-- The last net has one pin more.
abbrev pub with_pin_row : PinRow → NetlistView → NetlistView
with_pin_row pin l =
    record { rows = l.rows; nets = with_pin (pin_by_row l.rows pin) l.nets; pins = l.pins + 1 }

-- The pin needs no row, or has one of a table of this length.
abbrev pub IsRowKnown : ℕ → PackedPin → Type 0
IsRowKnown rows p = (p.cell == 4294967294) ≡ false → (p.cell == 4294967293) ≡ false → p.row < rows

-- What the lists of a netlist keep.
pub record IsNetlist (rows : List PinOffset) (starts : List ℕ) (pins : List PackedPin) : Type 0 where
  pub rows_in_range : All IsPinOffset rows
  pub rows_known : All (IsRowKnown (length rows)) pins
  pub starts_within : All (λ start. start ≤ length pins) starts
  pub few_nets : length starts ≤ 16777216
  pub few_pins : length pins ≤ 4294967295
  pub few_rows : length rows ≤ 4294967295

-- Where the net after this one begins: for the last one, the number of all pins.
abbrev pub start_after : List ℕ → ℕ → ℕ → ℕ
start_after starts net pins = slice_index_or starts (net + 1) pins
