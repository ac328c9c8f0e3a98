-- The cells of a design as loaded.
use Rattle.std.specs.Prelude.{ℕ, List, Option, Some, None, slice_get}
use Rattle.lf_floorplan.specs.declared.loaded.LoadedCell.{LoadedCell}
use Rattle.lf_floorplan.specs.declared.place.Place.{Place}

-- The place of a cell, if there is one.
abbrev pub place_of_cell : Option LoadedCell → Option Place
place_of_cell None = None
place_of_cell (Some cell) = cell.place

abbrev pub team_of_cell : Option LoadedCell → ℕ
team_of_cell None = 0
team_of_cell (Some cell) = cell.team

-- The place as loaded of the cell of this number.
abbrev pub loaded_place : List LoadedCell → ℕ → Option Place
loaded_place cells cell = place_of_cell (slice_get cells cell)

-- Its team; 0 if there is no such cell.
abbrev pub loaded_team : List LoadedCell → ℕ → ℕ
loaded_team cells cell = team_of_cell (slice_get cells cell)
