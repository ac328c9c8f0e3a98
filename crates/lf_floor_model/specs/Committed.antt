-- The committed design of a floor, and when it is fully legal (LEF/DEF 5.8, DEF COMPONENTS).
use Rattle.std.specs.Prelude.{◌≡◌, ◌↔◌, ℕ, ◌==◌, List, true, map, filter, Option, Some, slice_get, option_map}
use Rattle.lf_floorplan.specs.declared.frame.Frame.{Frame}
use Rattle.lf_floorplan.specs.declared.loaded.Loaded.{Loaded}
use Rattle.lf_floorplan.specs.declared.place.Place.{Place}
use Rattle.lf_rules.specs.Choice.{spot_of}
use Rattle.lf_rules.specs.FullyLegal.{DesignCell, IsFullyLegal, design_cells_at, design_cells_from}
use Rattle.lf_rules.specs.Team.{Member, IsLegalCell}
use Rattle.lf_proto.specs.declared.request.TeamCommand.{TeamCommand}
use Rattle.lf_proto.specs.declared.verb.Change.TheVariants.{Commit}
use Rattle.lf_cells.specs.declared.cell.Cell.{Cell}
use Rattle.lf_floor_model.specs.States.{TeamState, FloorState}
use Rattle.lf_floor_model.specs.Teams.{TeamRules, IsTeamOf, team_number, state_of}
use Rattle.lf_floor_model.specs.Outcomes.{places_of}
use Rattle.lf_floor_model.specs.Verbs.{outcome_of}
use Rattle.lf_floor_model.specs.VerbLaws.{outcome_of_asking, is_accepted, committed_places}
use Rattle.lf_floor_model.specs.Designs.{initial_floor}

-- the macro and the committed place of a cell, as the rules use them
abbrev pub committed_member : Cell → Member
committed_member c = record { mac = c.mac; place = option_map spot_of c.committed }

-- a team's cells at their committed places
abbrev pub committed_members : TeamState → List Member
committed_members s = map committed_member s.cells

-- the committed design is fully legal: the cells of all teams at their committed places
abbrev pub IsCommittedLegal : FloorState → Type 0
IsCommittedLegal floor = IsFullyLegal floor.frame (design_cells_from 0 (map committed_members floor.teams))

-- a fully legal committed design stays fully legal
abbrev pub KeepsCommittedLegal : FloorState → FloorState → Type 0
KeepsCommittedLegal old new = IsCommittedLegal old → IsCommittedLegal new

-- every cell of the team has a committed place that is team-legal among the team's other committed
-- places; padding is ignored
abbrev pub AreCommittedLegal : Frame → ℕ → TeamState → Type 0
AreCommittedLegal f team s = (own : ℕ) → IsLegalCell f team 0 (committed_members s) own

-- in a fully legal design the cells of each team are placed and, with no padding, team-legal
abbrev pub LegalMakesTeams : Type 0
LegalMakesTeams =
    (f : Frame) (teams : List (List Member)) → IsFullyLegal f (design_cells_from 0 teams) →
    (team : ℕ) (cells : List Member) → slice_get teams team ≡ Some cells → (own : ℕ) → IsLegalCell f team 0 cells own

-- the committed design is fully legal if and only if each team's committed places are team-legal
abbrev pub CommittedByTeams : Type 0
CommittedByTeams =
    (floor : FloorState) → IsCommittedLegal floor ↔
    ((number : ℕ) (s : TeamState) → slice_get floor.teams number ≡ Some s → AreCommittedLegal floor.frame number s)

-- ---- at loading

-- the movable cells of a loaded design at their places in the DEF text
abbrev pub loaded_design : Loaded → List DesignCell
loaded_design design = design_cells_at design.cells (map (λ c. c.place) design.cells)

-- when a floor begins, its committed design is fully legal if and only if the loaded design is
abbrev pub LoadedIsCommitted : Type 0
LoadedIsCommitted = (design : Loaded) → IsCommittedLegal (initial_floor design)
    ↔ IsFullyLegal design.frame (loaded_design design)

-- these are both the team's working places and its committed places
pub record AreAtPlaces (s : TeamState) (places : List (Option Place)) : Type 0 where
  pub working : places_of s.cells ≡ places
  pub committed : committed_places s ≡ places

-- the cells of each team are at their places in the DEF text, in loading order, and these places
-- are committed
abbrev pub AreAtLoadedPlaces : Loaded → FloorState → Type 0
AreAtLoadedPlaces design floor =
    (team : List ℕ) (number : ℕ) (s : TeamState) → team_number design.frame team ≡ Some number
    → state_of floor team ≡ Some s →
    AreAtPlaces s (map (λ c. c.place) (filter (λ c. c.team == number) design.cells))

-- this holds when a floor begins
abbrev pub LoadedPlacesAreCommitted : Type 0
LoadedPlacesAreCommitted = (design : Loaded) → AreAtLoadedPlaces design (initial_floor design)

-- ---- commands of a team

-- no command makes a team's legal committed places illegal
abbrev pub CommandKeepsCommitted : Type 0
CommandKeepsCommitted =
    (t : TeamRules) (order : TeamCommand (List ℕ) Place) (s : TeamState) → IsTeamOf t.frame s
    → AreCommittedLegal t.frame t.number s → AreCommittedLegal t.frame t.number (outcome_of t order s).team

-- after an accepted commit the committed places are the working places, and are legal, whatever was
-- committed earlier
abbrev pub CommitMakesCommitted : Type 0
CommitMakesCommitted =
    (t : TeamRules) (session : ℕ) (s : TeamState) → IsTeamOf t.frame s →
    let after = outcome_of_asking t session Commit s in
    is_accepted after ≡ true →
    (committed_places after.team ≡ places_of after.team.cells) × AreCommittedLegal t.frame t.number after.team
