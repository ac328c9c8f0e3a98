-- The floor of a loaded design when it begins.
use Rattle.std.specs.Prelude.{◌≡◌, ℕ, zero, suc, ◌+◌, List, [], ◌∷◌, Some, None, length, replicate}
use Rattle.lf_floorplan.specs.declared.loaded.Loaded.{Loaded}
use Rattle.lf_cells.specs.Initial.{own_cells, initial_components}
use Rattle.lf_floor_model.specs.States.{TeamState, FloorState}
use Rattle.lf_floor_model.specs.Teams.{team_number}

-- a team after loading: no change, no undo entry, every slot free, and no padding
abbrev pub initial_team : Loaded → ℕ → TeamState
initial_team design number = record {
  cells = own_cells number design.cells;
  revision = 0;
  entries = [];
  slots = replicate design.frame.limits.sessions None;
  padding = 0;
}

-- the teams of this many numbers, from that number on
abbrev pub initial_teams : Loaded → ℕ → ℕ → List TeamState
initial_teams design number zero = []
initial_teams design number (suc more) = initial_team design number ∷ initial_teams design (number + 1) more

-- the floor after loading: the fence teams in the frame's order, then the ground team
abbrev pub initial_floor : Loaded → FloorState
initial_floor design =
    record {
      frame = design.frame;
      teams = initial_teams design 0 (length design.frame.teams + 1);
      components = initial_components design;
    }

-- two designs agree for a team: they have one frame with a team of that name, and the team has the
-- same cells in both
pub record AgreeFor (team : List ℕ) (a b : Loaded) : Type 0 where
  pub frames : a.frame ≡ b.frame
  pub number : ℕ
  pub named : team_number a.frame team ≡ Some number
  pub cells : own_cells number a.cells ≡ own_cells number b.cells
