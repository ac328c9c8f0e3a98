-- The tables of a design without placed cells.
use Rattle.std.specs.Prelude.{◌≡◌, ℕ, ◌+◌, [], None, length, map, replicate}
use Rattle.lf_floorplan.specs.declared.loaded.Loaded.{Loaded}
use Rattle.lf_cells.specs.Cells.{Cells, cells_of}
use Rattle.lf_cells.specs.Initial.{initial_cells, initial_components}
use Rattle.lf_floor.specs.Saved.{fixed_part}
use Rattle.lf_floor_verbs.specs.declared.tables.Tables.{Tables}
use Rattle.lf_floor_verbs.specs.Tables.{frame_of, sites_in}

-- the cells of each team are the same, wherever they are placed
pub record HaveSameCells (old new : Cells) : Type 0 where
  pub cells : (team : ℕ) → map fixed_part (cells_of new team) ≡ map fixed_part (cells_of old team)
  pub components : new.components ≡ old.components

-- the cells of a design as loaded
abbrev pub loaded_cells : Loaded → Cells
loaded_cells design = record { cells = initial_cells design; components = initial_components design }

-- the tables are those of the design as loaded, wherever its cells are placed
pub record AreOfDesign (design : Loaded) (tables : Tables) : Type 0 where
  pub frame : frame_of tables ≡ design.frame
  pub cells : HaveSameCells (loaded_cells design) tables.placement.cells
  pub undo : tables.undo.lists ≡ replicate (length design.frame.teams + 1) []
  pub limit : tables.undo.limit ≡ design.frame.limits.undo
  pub sessions : tables.sessions
      ≡ replicate (length design.frame.teams + 1) (replicate design.frame.limits.sessions None)
  pub revisions : tables.revisions.items ≡ replicate (length design.frame.teams + 1) 0
  pub paddings : sites_in tables ≡ replicate (length design.frame.teams + 1) 0
