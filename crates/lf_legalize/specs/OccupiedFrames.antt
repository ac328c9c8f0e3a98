-- A frame, the cells of a table, and an occupancy. No public clause cites this module.
use Rattle.lf_floorplan.specs.declared.frame.Frame.{Frame}
use Rattle.lf_cells.specs.Cells.{Cells}
use Rattle.lf_occupancy.specs.Views.{Occupied}

-- a frame, the cells of all teams, and the strips of a frame with their boxes
pub record OccupiedFrameView : Type 0 where
  pub frame : Frame
  pub cells : Cells
  pub occupancy : Occupied

-- the three of them
abbrev pub occupied_frame : Frame → Cells → Occupied → OccupiedFrameView
occupied_frame f cells o = record { frame = f; cells = cells; occupancy = o }
