-- The places of the cells of a team.
use Rattle.std.specs.Prelude.{◌≡◌, ℕ, List, Option, slice_get, option_and_then}
use Rattle.lf_floorplan.specs.declared.place.Place.{Place}
use Rattle.lf_cells.specs.declared.cell.Cell.{Cell}
use Rattle.lf_cells.specs.Cells.{working_at}

-- the place at this position in a list of places; None also past its end
abbrev pub target_at : List (Option Place) → ℕ → Option Place
target_at targets own = option_and_then (λ wanted_place. wanted_place) (slice_get targets own)

-- these are the working places of the cells
abbrev pub AreWorkingPlaces : List Cell → List (Option Place) → Type 0
AreWorkingPlaces cells targets = (own : ℕ) → target_at targets own ≡ working_at cells own
