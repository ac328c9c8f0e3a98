-- What contracts see of a team and of a floor.
use Rattle.std.specs.Prelude.{ℕ, List, Option}
use Rattle.lf_floorplan.specs.declared.frame.Frame.{Frame}
use Rattle.lf_floorplan.specs.declared.place.Place.{Place}
use Rattle.lf_cells.specs.declared.cell.Cell.{Cell}

-- a team. cells: in loading order. revision: the count of its changes. entries: the working places
-- before each change that can be undone, the newest first. slots: for each session slot the
-- revision that its session has seen, None if the slot is free. padding: the least distance of its
-- own cells along x, in core sites
pub record TeamState : Type 0 where
  pub cells : List Cell
  pub revision : ℕ
  pub entries : List (List (Option Place))
  pub slots : List (Option ℕ)
  pub padding : ℕ

-- a floor. frame: its frame. teams: the fence teams in the frame's order, then the ground team
-- outside all fences. components: for each team the positions of its cells' entries among all
-- COMPONENTS of the DEF text, which no command changes. The positions are not in a team's state,
-- because they depend on other teams' components
pub record FloorState : Type 0 where
  pub frame : Frame
  pub teams : List TeamState
  pub components : List (List ℕ)
