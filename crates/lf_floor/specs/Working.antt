-- The working places of a floor, as the committed places of the floor in which they are committed.
use Rattle.std.specs.Prelude.{ℕ, List, map, Option}
use Rattle.lf_floorplan.specs.declared.place.Place.{Place}
use Rattle.lf_cells.specs.Cells.{as_committed}
use Rattle.lf_floor_model.specs.Places.{AreCommittedPlaces}
use Rattle.lf_floor_model.specs.States.{FloorState, TeamState}

-- the team with its working places committed
abbrev pub with_working_team : TeamState → TeamState
with_working_team s = record s { cells = map as_committed s.cells }

-- the floor with the working places of all teams committed, whether or not they are legal
abbrev pub with_working : FloorState → FloorState
with_working floor = record floor { teams = map with_working_team floor.teams }

-- the list is that of the committed places if all teams' working places were committed
abbrev pub ListsWorkingPlaces : FloorState → List (ℕ × Option Place) → Type 0
ListsWorkingPlaces floor places = AreCommittedPlaces (with_working floor) places
