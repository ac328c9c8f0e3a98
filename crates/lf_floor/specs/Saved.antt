-- The saved state of a floor, and the floor that it restores.
use Rattle.std.specs.Prelude.{◌≡◌, ◌↔◌, ℕ, List, [], ◌∷◌, map, Ok, option_map}
use Rattle.lf_floorplan.specs.declared.limits.Limits.{Limits}
use Rattle.lf_floorplan.specs.declared.place.Place.{Place}
use Rattle.lf_rules.specs.Choice.{spot_of}
use Rattle.lf_rules.specs.FullyLegal.{IsFullyLegal, DesignCell, design_cells_from}
use Rattle.lf_rules.specs.Legalizer.{Legalizer}
use Rattle.lf_rules.specs.Team.{Member}
use Rattle.lf_proto.specs.declared.request.Command.{Command}
use Rattle.lf_proto.specs.declared.reply.Reply.{Reply}
use Rattle.lf_cells.specs.declared.cell.Cell.{Cell}
use Rattle.lf_undo.specs.Entries.{entries_of}
use Rattle.lf_floor_model.specs.Committed.{IsCommittedLegal}
use Rattle.lf_floor_model.specs.States.{FloorState, TeamState}
use Rattle.lf_floor_model.specs.Teams.{team_names}
use Rattle.lf_floor_model.specs.Outcomes.{places_of}
use Rattle.lf_floor_model.specs.Runs.{Run}
use Rattle.lf_floor_model.specs.Journals.{IsBackup, lasting, lasting_replies}
use Rattle.lf_state_text.specs.declared.saved_rows.SavedCell.{SavedCell}
use Rattle.lf_state_text.specs.Designs.{NamedDesign, NamedTeam}
use Rattle.lf_state_text.specs.Saved.{AreSaved, Both, IsSavedTeamOf, SavedTeam, state_text}
use Rattle.lf_state_text.specs.Reading.{saved_state_of}

-- a function applied to the pairs of elements of two lists, up to the end of the shorter one
abbrev pub map_two : {A B C : Type 0} → (A → B → C) → List A → List B → List C
map_two f [] others = []
map_two f (a ∷ firsts) [] = []
map_two f (a ∷ firsts) (b ∷ others) = f a b ∷ map_two f firsts others

-- ---- the saved state of a floor

-- the name of a team, and the names of its cells
abbrev pub named_team : List ℕ → TeamState → NamedTeam
named_team name s = record { name = name; cells = map (λ c. c.name) s.cells }

-- the design of a floor, by its names
abbrev pub design_names : FloorState → NamedDesign
design_names floor =
    record { teams = map_two named_team (team_names floor.frame) floor.teams; limits = floor.frame.limits }

-- the places of a cell
abbrev pub saved_cell : Cell → SavedCell
saved_cell c = record { working = c.working; committed = c.committed }

-- the saved team is the saved state of this team: its undo entries are moves, which a team's state
-- does not have
pub record IsSavedTeam (s : TeamState) (t : SavedTeam) : Type 0 where
  pub revision : t.revision ≡ s.revision
  pub padding : t.padding ≡ s.padding
  pub slots : t.slots ≡ s.slots
  pub cells : t.cells ≡ map saved_cell s.cells
  pub entries : entries_of (places_of s.cells) t.entries ≡ s.entries

-- the saved teams are the saved state of the floor, and have a text
pub record AreSavedTeams (floor : FloorState) (saved : List SavedTeam) : Type 0 where
  pub teams : Both IsSavedTeam floor.teams saved
  pub words : AreSaved (design_names floor) saved

-- a text of the floor's state
abbrev pub IsStateText : FloorState → List ℕ → Type 0
IsStateText floor text = (saved : List SavedTeam) × AreSavedTeams floor saved
    × (text ≡ state_text (design_names floor) saved)

-- ---- floors of one design

-- the parts of a cell that no command changes
abbrev pub fixed_part : Cell → List ℕ × ℕ
fixed_part c = (c.name, c.mac)

abbrev pub fixed_cells : TeamState → List (List ℕ × ℕ)
fixed_cells s = map fixed_part s.cells

-- the floors have one frame and the same cells, wherever these are placed
pub record ShareDesign (a b : FloorState) : Type 0 where
  pub frame : b.frame ≡ a.frame
  pub components : b.components ≡ a.components
  pub cells : map fixed_cells b.teams ≡ map fixed_cells a.teams

-- ---- the restored floor

abbrev pub restored_cell : Cell → SavedCell → Cell
restored_cell c saved = record c { working = saved.working; committed = saved.committed }

abbrev pub restored_team : TeamState → SavedTeam → TeamState
restored_team s t = record {
  cells = map_two restored_cell s.cells t.cells;
  revision = t.revision;
  entries = entries_of (map (λ c. c.working) t.cells) t.entries;
  slots = t.slots;
  padding = t.padding;
}

-- each saved team is a team like the one at the same position, except for its name
abbrev pub MatchDesign : Limits → List TeamState → List SavedTeam → Type 0
MatchDesign limits teams saved = Both (λ s t. IsSavedTeamOf limits (named_team [] s) t) teams saved

-- the floor of a design in the state of the saved teams
abbrev pub restored_floor : FloorState → List SavedTeam → FloorState
restored_floor begin saved = record begin { teams = map_two restored_team begin.teams saved }

-- the macro of a cell, and its saved committed place
abbrev pub saved_member : Cell → SavedCell → Member
saved_member c saved = record { mac = c.mac; place = option_map spot_of saved.committed }

-- the cells of all teams at their saved committed places, in the order of the teams
abbrev pub saved_design : FloorState → List SavedTeam → List DesignCell
saved_design begin saved = design_cells_from 0 (map_two (λ s t. map_two saved_member s.cells t.cells) begin.teams saved)

-- the floor is in the state of the text, and has the design of the first floor
abbrev pub IsRestoredFrom : FloorState → List ℕ → FloorState → Type 0
IsRestoredFrom begin text floor = (saved : List SavedTeam) × (saved_state_of (design_names begin) text ≡ Ok saved)
    × (floor ≡ restored_floor begin saved)

-- ---- laws

-- the saved state of a floor of the design is read back from its text, and restores that floor
abbrev pub SavedRestores : Type 0
SavedRestores =
    (begin floor : FloorState) (text : List ℕ) → ShareDesign begin floor → IsStateText floor text
    → (saved : List SavedTeam) × (saved_state_of (design_names begin) text ≡ Ok saved)
    × (restored_floor begin saved ≡ floor)

-- the committed design of a restored floor is fully legal if and only if the design with the saved
-- committed places is
abbrev pub RestoredIsCommitted : Type 0
RestoredIsCommitted = (begin : FloorState) (saved : List SavedTeam) → IsCommittedLegal (restored_floor begin saved)
    ↔ IsFullyLegal begin.frame (saved_design begin saved)

-- a state text with the journal written after it is a backup: the journal runs from the floor that
-- the text restores
abbrev pub StateAndTail : Type 0
StateAndTail =
    (l : Legalizer) (begin old new : FloorState) (text : List ℕ) (commands : List (Command (List ℕ) Place))
    (replies : List Reply)
    → ShareDesign begin old → IsStateText old text → Run l old commands replies new
    → (saved : List SavedTeam) × (saved_state_of (design_names begin) text ≡ Ok saved)
    × IsBackup l (restored_floor begin saved) (lasting commands replies) (lasting_replies commands replies) new

-- after a run the floor has the same design
abbrev pub RunKeepsDesign : Type 0
RunKeepsDesign =
    (l : Legalizer) (begin old new : FloorState) (commands : List (Command (List ℕ) Place)) (replies : List Reply)
    → ShareDesign begin old → Run l old commands replies new → ShareDesign begin new
