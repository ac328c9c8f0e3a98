-- The table of a design as it is loaded.
use Rattle.std.specs.Prelude.{ℕ, ◌+◌, List, ◌==◌, filter, map, length}
use Rattle.std.specs.List.{range_with_len}
use Rattle.lf_floorplan.specs.declared.loaded.LoadedCell.{LoadedCell}
use Rattle.lf_floorplan.specs.declared.loaded.Loaded.{Loaded}
use Rattle.lf_cells.specs.declared.cell.Cell.{Cell}

-- A cell as it is loaded: its place in the DEF text is its working place and its committed place.
abbrev pub initial_cell : LoadedCell → Cell
initial_cell c = record { name = c.name; mac = c.mac; working = c.place; committed = c.place }

-- The cells of the team with this number, in loading order.
abbrev pub own_cells : ℕ → List LoadedCell → List Cell
own_cells number cells = map initial_cell (filter (λ c. c.team == number) cells)

-- The positions of their entries among all COMPONENTS.
abbrev pub own_components : ℕ → List LoadedCell → List ℕ
own_components number cells = map (λ c. c.component) (filter (λ c. c.team == number) cells)

-- The numbers of all teams: the fence teams in the frame's order, then the ground team.
abbrev pub team_numbers : Loaded → List ℕ
team_numbers design = range_with_len 0 (length design.frame.teams + 1)

-- The cells of each team.
abbrev pub initial_cells : Loaded → List (List Cell)
initial_cells design = map (λ number. own_cells number design.cells) (team_numbers design)

-- The positions of the entries of each team.
abbrev pub initial_components : Loaded → List (List ℕ)
initial_components design = map (λ number. own_components number design.cells) (team_numbers design)
