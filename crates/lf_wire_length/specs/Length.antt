-- The wire length of a design (LEF PIN, DEF NETS): for each net half the perimeter of the least box
-- around its pins, in half database units.
use Rattle.std.specs.Prelude.{ℕ, ◌+◌, ℤ, pos, ◌+ℤ◌, ◌-ℤ◌, ◌*ℤ◌, List, [], ◌∷◌, map, Option, Some, None, unsigned_abs}
use Rattle.std.specs.Int.{int_div_euclid, int_max, int_min}
use Rattle.std.specs.List.{filter_map, fold, sum_by}
use Rattle.std.specs.Option.{option_map}
use Rattle.lf_units.specs.declared.geometry.Point.{Point}
use Rattle.lf_units.specs.declared.geometry.Rect.{Rect}
use Rattle.lf_orient.specs.declared.Orient.{Orient}
use Rattle.lf_orient.specs.declared.Orient.TheVariants.{N, W, S, E, FN, FW, FS, FE}
use Rattle.lf_floorplan.specs.declared.place.Place.{Place}
use Rattle.lf_wire_length.specs.declared.points.HalfPoint.{HalfPoint}
use Rattle.lf_wire_length.specs.declared.points.PinOffset.{PinOffset}
use Rattle.lf_wire_length.specs.declared.pins.NetPin.{NetPin}
use Rattle.lf_wire_length.specs.declared.pins.NetPin.TheVariants.{Fixed, OfCell, Unknown, Unplaced}

abbrev pub twice : ℤ → ℤ
twice z = z +ℤ z

-- The middle of a range of LEF coordinates after ORIGIN is added, in half database units. It is
-- rounded down.
abbrev pub middle_in : ℕ → ℤ → ℤ → ℤ → ℤ
middle_in units origin low high = int_div_euclid ((low +ℤ high +ℤ twice origin) *ℤ pos units) (pos 1000000)

-- The middle of a pin's box, from the lower left corner of its macro that faces north.
abbrev pub middle_of : ℕ → Point → Rect → HalfPoint
middle_of units origin box =
    record { x = middle_in units origin.x box.x1 box.x2; y = middle_in units origin.y box.y1 box.y2 }

-- The point after a macro of this size, which faces north, is turned and flipped.
abbrev pub turned_point : Orient → Point → HalfPoint → HalfPoint
turned_point N size p = p
turned_point S size p = record { x = twice size.x -ℤ p.x; y = twice size.y -ℤ p.y }
turned_point FN size p = record { x = twice size.x -ℤ p.x; y = p.y }
turned_point FS size p = record { x = p.x; y = twice size.y -ℤ p.y }
turned_point W size p = record { x = twice size.y -ℤ p.y; y = p.x }
turned_point E size p = record { x = p.y; y = twice size.x -ℤ p.x }
turned_point FW size p = record { x = p.y; y = p.x }
turned_point FE size p = record { x = twice size.y -ℤ p.y; y = twice size.x -ℤ p.x }

abbrev pub shifted_point : ℤ → ℤ → HalfPoint → HalfPoint
shifted_point dx dy p = record { x = dx +ℤ p.x; y = dy +ℤ p.y }

-- The point of a pin of a cell at this place.
abbrev pub point_at : Place → PinOffset → HalfPoint
point_at place pin = shifted_point (twice place.x) (twice place.y) (turned_point place.orient pin.size pin.middle)

-- The point of a pin, given the places of the cells. A pin without a point does not count.
abbrev pub point_of_pin : (ℕ → Option Place) → NetPin → Option HalfPoint
point_of_pin place (Fixed point) = Some point
point_of_pin place (OfCell cell pin) = option_map (λ at. point_at at pin) (place cell)
point_of_pin place Unknown = None
point_of_pin place Unplaced = None

-- The greatest number less the least one. 0 if there is no number.
abbrev pub spread : List ℤ → ℕ
spread [] = 0
spread (z ∷ zs) = unsigned_abs (fold int_max z zs -ℤ fold int_min z zs)

-- The width plus the height of the least box around the points.
abbrev pub around : List HalfPoint → ℕ
around points = spread (map (λ p. p.x) points) + spread (map (λ p. p.y) points)

-- The length of a net with these pins.
abbrev pub length_of_net : (ℕ → Option Place) → List NetPin → ℕ
length_of_net place pins = around (filter_map (point_of_pin place) pins)

-- The wire length: the sum over the nets.
abbrev pub length_of_nets : (ℕ → Option Place) → List (List NetPin) → ℕ
length_of_nets place nets = sum_by (length_of_net place) nets
