-- Frames, teams and floors that are alike for a team: all that its replies depend on is the same. A
-- slice is a DEF text with the frame and one team's cells alone. It is alike to the whole design,
-- even if it is read with other LEF texts that have that team's macros.
use Rattle.std.specs.Prelude.{◌≡◌, ◌↔◌, ℕ, List, All, Contains, Some}
use Rattle.std.specs.List.{AllZip}
use Rattle.lf_units.specs.declared.geometry.Rect.{Rect}
use Rattle.lf_floorplan.specs.declared.frame.Frame.{Frame}
use Rattle.lf_floorplan.specs.declared.loaded.Loaded.{Loaded}
use Rattle.lf_floorplan.specs.Boxes.{macro_of}
use Rattle.lf_cells.specs.declared.cell.Cell.{Cell}
use Rattle.lf_cells.specs.Initial.{own_cells}
use Rattle.lf_legalize.specs.Members.{IsSizedCell}
use Rattle.lf_floor_model.specs.States.{TeamState, FloorState}
use Rattle.lf_floor_model.specs.Teams.{team_number, state_of}
use Rattle.lf_floor_model.specs.Outcomes.{Outcome}

-- ---- frames

-- a rectangle is in the first list if and only if it is in the second; the order does not matter
abbrev pub AreSameRects : List Rect → List Rect → Type 0
AreSameRects these those = (r : Rect) → Contains these r ↔ Contains those r

-- two frames have the same header, core site, rows, fences and limits, and the same obstacles and
-- soft blockages in any order; their macros may differ
pub record AreFramesAlike (f g : Frame) : Type 0 where
  pub header : f.header ≡ g.header
  pub site : f.site ≡ g.site
  pub pitch : f.pitch ≡ g.pitch
  pub rows : f.rows ≡ g.rows
  pub fences : f.teams ≡ g.teams
  pub limits : f.limits ≡ g.limits
  pub obstacles : AreSameRects f.obstacles g.obstacles
  pub soft : AreSameRects f.soft g.soft

-- ---- cells and teams

-- two cells have the same name and places, and the same macro, whatever its number in each frame
pub record AreCellsAlike (f g : Frame) (c d : Cell) : Type 0 where
  pub name : c.name ≡ d.name
  pub working : c.working ≡ d.working
  pub committed : c.committed ≡ d.committed
  pub same_macro : macro_of f c.mac ≡ macro_of g d.mac

-- two states of a team are the same except for the numbers of the cells' macros, which are in the
-- frames and have whole sizes
pub record AreTeamsAlike (f g : Frame) (s t : TeamState) : Type 0 where
  pub cells : AllZip (AreCellsAlike f g) s.cells t.cells
  pub sized : All (λ c. IsSizedCell f c) s.cells
  pub revision : s.revision ≡ t.revision
  pub entries : s.entries ≡ t.entries
  pub slots : s.slots ≡ t.slots
  pub padding : s.padding ≡ t.padding

-- two outcomes have the same reply and teams that are alike
pub record AreOutcomesAlike (f g : Frame) (o p : Outcome) : Type 0 where
  pub reply : o.reply ≡ p.reply
  pub teams : AreTeamsAlike f g o.team p.team

-- ---- floors and designs

-- two floors with alike frames have a team of that name, whose states are alike; their other teams
-- may differ
pub record AreFloorsAlike (team : List ℕ) (a b : FloorState) : Type 0 where
  pub frames : AreFramesAlike a.frame b.frame
  pub here : TeamState
  pub there : TeamState
  pub is_here : state_of a team ≡ Some here
  pub is_there : state_of b team ≡ Some there
  pub teams : AreTeamsAlike a.frame b.frame here there

-- two loaded designs have alike frames with a team of that name, which has the same cells in both,
-- with the same macros; the cells of their other teams may differ
pub record AreDesignsAlike (team : List ℕ) (a b : Loaded) : Type 0 where
  pub frames : AreFramesAlike a.frame b.frame
  pub number : ℕ
  pub named : team_number a.frame team ≡ Some number
  pub cells : AllZip (AreCellsAlike a.frame b.frame) (own_cells number a.cells) (own_cells number b.cells)
