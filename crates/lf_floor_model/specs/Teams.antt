-- Teams and cells by their names, and the other cells of a cell's team (LEF/DEF 5.8, DEF REGIONS,
-- GROUPS and COMPONENTS).
use Rattle.std.specs.Prelude.{◌≡◌, ◌≢◌, ℕ, ◌≤◌, List, [], ◌∷◌, ◌++◌, length, map, position, bytes_eq, All, AllPairs, IfSome, Option, option_and_then, slice_get}
use Rattle.lf_floorplan.specs.declared.frame.Frame.{Frame}
use Rattle.lf_floorplan.specs.declared.place.Place.{Place}
use Rattle.lf_rules.specs.declared.rule.Broken.{Broken}
use Rattle.lf_floorplan.specs.Bounds.{IsDesignName}
use Rattle.lf_floorplan.specs.Fences.{ground_name}
use Rattle.lf_rules.specs.Choice.{PlacementQuery, candidate_at, spot_of}
use Rattle.lf_rules.specs.Legalizer.{Legalizer}
use Rattle.lf_rules.specs.declared.report_types.Listed.{Listed}
use Rattle.lf_rules.specs.Team.{query_from}
use Rattle.lf_proto.specs.Numbers.{◌>>=◌}
use Rattle.lf_cells.specs.declared.cell.Cell.{Cell}
use Rattle.lf_legalize.specs.Members.{IsSizedCell, member_of}
use Rattle.lf_floor_model.specs.States.{FloorState, TeamState}

-- the names of all teams: those of the fences, in the frame's order, then '-'
abbrev pub team_names : Frame → List (List ℕ)
team_names f = map (λ t. t.name) f.teams ++ ground_name ∷ []

-- the number of the team of that name: its position among all teams; None if no team has the name
abbrev pub team_number : Frame → List ℕ → Option ℕ
team_number f name = position (λ n. bytes_eq n name) (team_names f)

-- the state of the team of that name; None if no team has the name
abbrev pub state_of : FloorState → List ℕ → Option TeamState
state_of floor name = option_and_then (slice_get floor.teams) (team_number floor.frame name)

-- the cell as an element of its team's report
abbrev pub listed_of : ℕ → Cell → Listed (List ℕ)
listed_of number c = record { name = c.name; team = number; mac = c.mac; place = c.working }

-- a team of the frame: the macros of its cells are the frame's, with whole sizes; their names can
-- be written in a text and differ; the numbers of cells, undo entries and revisions are within the
-- limits; the slots are as many as the limits say, an undo entry has a place for each cell, and no
-- session has seen a revision above the team's
pub record IsTeamOf (f : Frame) (s : TeamState) : Type 0 where
  pub sized : All (λ c. IsSizedCell f c) s.cells
  pub printed : All (λ c. IsDesignName c.name) s.cells
  pub names_differ : AllPairs (λ a b. a ≢ b) (map (λ c. c.name) s.cells)
  pub few_cells : length s.cells ≤ 4000000
  pub all_slots : length s.slots ≡ f.limits.sessions
  pub whole_entries : All (λ places. length places ≡ length s.cells) s.entries
  pub few_entries : length s.entries ≤ f.limits.undo
  pub few_revisions : s.revision ≤ f.limits.revisions
  pub seen_past : All (λ slot. IfSome slot (λ seen. seen ≤ s.revision)) s.slots

-- what the rules use besides the team's cells: the frame, the team's number in it, its padding, and
-- the legalizer that finds its places
pub record TeamRules : Type 0 where
  pub legalizer : Legalizer
  pub frame : Frame
  pub number : ℕ
  pub padding : ℕ

-- the rules of the team of that number, with that padding
abbrev pub team_rules : Legalizer → Frame → ℕ → ℕ → TeamRules
team_rules l f number padding = record { legalizer = l; frame = f; number = number; padding = padding }

-- the search for a place of the cell at that position, with the cell removed from its own place
abbrev pub query_of_cell : TeamRules → List Cell → ℕ → Cell → PlacementQuery
query_of_cell t cells own c = query_from t.frame t.number t.padding (map member_of cells) own c.mac

-- the first rule that the cell at that position breaks at a place, among the working places of its
-- own team alone
abbrev pub broken_at : TeamRules → List Cell → ℕ → Place → Option Broken
broken_at t cells own place = do
  c ← slice_get cells own
  t.legalizer.first_broken (candidate_at (query_of_cell t cells own c) (spot_of place))
