-- How many pins of nets the fullest bins of a design have.
use Rattle.std.specs.Prelude.{ℕ, pos, List, Option, None, flat_map}
use Rattle.std.specs.Int.{int_div_euclid}
use Rattle.std.specs.List.{filter_map}
use Rattle.std.specs.Option.{option_map}
use Rattle.lf_units.specs.declared.geometry.Point.{Point}
use Rattle.lf_floorplan.specs.declared.frame.Frame.{Frame}
use Rattle.lf_floorplan.specs.declared.place.Place.{Place}
use Rattle.lf_wire_length.specs.declared.points.HalfPoint.{HalfPoint}
use Rattle.lf_wire_length.specs.declared.pins.NetPin.{NetPin}
use Rattle.lf_wire_length.specs.declared.pins.NetPin.TheVariants.{OfCell}
use Rattle.lf_wire_length.specs.Length.{point_at}
use Rattle.lf_density.specs.declared.pins.PinDensity.{PinDensity}
use Rattle.lf_density.specs.Pins.{IsPinDensityOf}

-- The point in database units, rounded down. The same bin contains it, since the edges of bins are
-- whole.
abbrev pub whole_point : HalfPoint → Point
whole_point p = record { x = int_div_euclid p.x (pos 2); y = int_div_euclid p.y (pos 2) }

-- The point of a pin of a movable cell, given the places of the cells. None if the pin is of no
-- movable cell, or its cell is unplaced.
abbrev pub cell_pin_point : (ℕ → Option Place) → NetPin → Option Point
cell_pin_point place (OfCell cell pin) = option_map (λ at. whole_point (point_at at pin)) (place cell)
cell_pin_point place _ = None

-- The points of the pins of placed cells, net by net.
abbrev pub cell_pin_points : (ℕ → Option Place) → List (List NetPin) → List Point
cell_pin_points place nets = flat_map (λ net. filter_map (cell_pin_point place) net) nets

-- The pin density of these nets on the frame, given the places of the cells.
abbrev pub IsPinDensityOfNets : Frame → (ℕ → Option Place) → List (List NetPin) → PinDensity → Type 0
IsPinDensityOfNets f place nets d = IsPinDensityOf f (cell_pin_points place nets) d
