-- Cells whose names are stored separately.
use Rattle.std.specs.Prelude.{ℕ, List, [], ◌∷◌}
use Rattle.lf_floorplan.specs.declared.loaded.LoadedCell.{LoadedCell}
use Rattle.lf_floorplan.specs.declared.cells.UnnamedCell.{UnnamedCell}
use Rattle.lf_floorplan.specs.declared.cells.CellRef.{CellRef}

-- The cell with this name.
abbrev pub with_name : List ℕ → UnnamedCell → LoadedCell
with_name name c = record { name = name; team = c.team; mac = c.mac; place = c.place; component = c.component }

-- The cells with these names, in their order.
abbrev pub with_names : List (List ℕ) → List UnnamedCell → List LoadedCell
with_names [] cells = []
with_names (name ∷ names) [] = []
with_names (name ∷ names) (c ∷ cells) = with_name name c ∷ with_names names cells

-- The cell that a reference with a borrowed name denotes.
abbrev pub borrowed_cell : CellRef → LoadedCell
borrowed_cell c = record { name = c.name.now; team = c.team; mac = c.mac; place = c.place; component = c.component }
