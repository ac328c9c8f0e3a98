-- The facts that a loaded design keeps about its cells (DEF COMPONENTS).
use Rattle.std.specs.Prelude.{◌≢◌, ◌<◌, ◌≤◌, List, All, AllPairs, length, slice_get}
use Rattle.std.specs.Option.{ForSome}
use Rattle.lf_floorplan.specs.declared.frame.Frame.{Frame}
use Rattle.lf_floorplan.specs.declared.loaded.LoadedCell.{LoadedCell}
use Rattle.lf_floorplan.specs.Bounds.{IsDesignName}
use Rattle.lf_floorplan.specs.Boxes.{IsSized, macro_of}
use Rattle.lf_floorplan.specs.Ground.{IsTeam}

-- The cell's team and macro exist, the macro's size is whole and above 0, and the name is one of a
-- text.
pub record IsCell (f : Frame) (c : LoadedCell) : Type 0 where
  pub team_known : IsTeam f c.team
  pub mac_known : c.mac < length f.macros
  pub mac_sized : ForSome (slice_get f.macros c.mac) (λ m. IsSized f m)
  pub name_printed : IsDesignName c.name

-- The macro of a cell has a size that is whole in database units and above 0.
abbrev pub CellIsSized : Type 0
CellIsSized = (f : Frame) (c : LoadedCell) → IsCell f c → IsSized f (macro_of f c.mac)

-- No two cells have the same name.
abbrev pub CellsNamed : List LoadedCell → Type 0
CellsNamed cells = AllPairs (λ a b. a.name ≢ b.name) cells

-- The cells are in the order of their components.
abbrev pub ComponentsRise : List LoadedCell → Type 0
ComponentsRise cells = AllPairs (λ a b. a.component < b.component) cells

-- The cells make a design on this frame.
pub record MakeDesign (f : Frame) (cells : List LoadedCell) : Type 0 where
  pub few_cells : length cells ≤ 4000000
  pub cells_known : All (IsCell f) cells
  pub names_differ : CellsNamed cells
  pub components_rise : ComponentsRise cells
