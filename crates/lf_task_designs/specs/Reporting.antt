-- What is reported of a design's cells, one by one; no public clause cites it.
use Rattle.std.specs.Prelude.{ℕ, List, map}
use Rattle.lf_floorplan.specs.declared.loaded.LoadedCell.{LoadedCell}
use Rattle.lf_rules.specs.declared.report_types.Listed.{Listed}

-- The cell as the report lists it, at its place in the DEF text.
abbrev pub listed_as_loaded : LoadedCell → Listed (List ℕ)
listed_as_loaded c = record { name = c.name; team = c.team; mac = c.mac; place = c.place }

-- The names of a design's cells.
abbrev pub cell_names_of : List LoadedCell → List (List ℕ)
cell_names_of cells = map (λ c. c.name) cells
