-- The contents of a state text of the teams of a design, and how it is written.
use Rattle.std.specs.Prelude.{◌≡◌, ℕ, ◌<◌, ◌≤◌, ◌^◌, ◌<ℤ◌, pos, List, [], ◌∷◌, ◌++◌, All, length, map, filter, nat_lt, Option, IfSome, codes, slice_index_or}
use Rattle.std.specs.List.{flat_map, AllByRecursion}
use Rattle.std.specs.Fmt.{decimal}
use Rattle.lf_floorplan.specs.declared.limits.Limits.{Limits}
use Rattle.lf_floorplan.specs.declared.place.Place.{Place}
use Rattle.lf_undo.specs.declared.moves.Move.{Move}
use Rattle.lf_proto.specs.ReplyText.{spaced_line}
use Rattle.lf_state_text.specs.declared.saved_rows.SavedCell.{SavedCell}
use Rattle.lf_state_text.specs.declared.saved_rows.SavedTeamRow.{SavedTeamRow}
use Rattle.lf_state_text.specs.Designs.{NamedDesign, NamedTeam}
use Rattle.lf_state_text.specs.Words.{place_text, slot_text}

-- a team. padding: in core sites. slots: for each session slot the revision that its session has
-- seen, None if the slot is free. cells: their places, in loading order. entries: its undo entries,
-- the newest first; each has the moves of a change, with the places of their cells before the
-- change
pub record SavedTeam : Type 0 where
  pub revision : ℕ
  pub padding : ℕ
  pub slots : List (Option ℕ)
  pub cells : List SavedCell
  pub entries : List (List Move)

abbrev pub team_view : SavedTeamRow → SavedTeam
team_view t = record {
  revision = t.revision;
  padding = t.padding.sites;
  slots = t.slots.items;
  cells = t.cells.items;
  entries = t.entries.items;
}

abbrev pub team_views : List SavedTeamRow → List SavedTeam
team_views teams = map team_view teams

-- the team of that number; empty if there is none
abbrev pub saved_at : List SavedTeam → ℕ → SavedTeam
saved_at teams team = slice_index_or teams team record {
  revision = 0;
  padding = 0;
  slots = [];
  cells = [];
  entries = [];
}

-- the moves of cells below this number: a move of no cell changes nothing, and is not written
abbrev pub moves_within : ℕ → List Move → List Move
moves_within cells moves = filter (λ m. nat_lt m.own cells) moves

-- ---- lines

-- the text of each pair of elements of the two lists, one after another
abbrev pub lines_by : {A B : Type 0} → (A → B → List ℕ) → List A → List B → List ℕ
lines_by line [] seconds = []
lines_by line (a ∷ firsts) [] = []
lines_by line (a ∷ firsts) (b ∷ seconds) = line a b ++ lines_by line firsts seconds

-- - or the revision that the session has seen
abbrev pub slot_line : Option ℕ → List ℕ
slot_line seen = spaced_line (slot_text seen ∷ [])

-- NAME WORKING COMMITTED
abbrev pub cell_line : List ℕ → SavedCell → List ℕ
cell_line name c = spaced_line (name ∷ place_text c.working ∷ place_text c.committed ∷ [])

-- CELL PLACE: the cell's position among the team's, and the place that it had
abbrev pub move_line : Move → List ℕ
move_line m = spaced_line (decimal m.own ∷ place_text m.place ∷ [])

-- undo MOVES, and a line for each move
abbrev pub entry_lines : List Move → List ℕ
entry_lines moves = spaced_line (codes "undo" ∷ decimal (length moves) ∷ []) ++ flat_map move_line moves

-- team NAME REVISION PADDING SLOTS CELLS ENTRIES
abbrev pub head_line : List ℕ → SavedTeam → List ℕ
head_line name t =
    spaced_line
    (codes "team" ∷ name ∷ decimal t.revision ∷ decimal t.padding ∷ decimal (length t.slots) ∷ decimal (length t.cells)
    ∷ decimal (length t.entries) ∷ [])

-- the first line, the slots, the cells and the undo entries
abbrev pub saved_team_lines : NamedTeam → SavedTeam → List ℕ
saved_team_lines named t =
    head_line named.name t
    ++ (flat_map slot_line t.slots ++ (lines_by cell_line named.cells t.cells ++ flat_map entry_lines t.entries))

-- lefence-state 1
abbrev pub title : List ℕ
title = spaced_line (codes "lefence-state" ∷ codes "1" ∷ [])

-- the title with the version, and the number of teams
abbrev pub opening_lines : ℕ → List ℕ
opening_lines count = title ++ spaced_line (codes "teams" ∷ decimal count ∷ [])

-- the opening lines, and the lines of each team
abbrev pub state_text : NamedDesign → List SavedTeam → List ℕ
state_text design teams = opening_lines (length design.teams) ++ lines_by saved_team_lines design.teams teams

-- ---- states that have a text

-- the lists have the same length, and the relation holds for each pair of elements
abbrev pub Both : {A B : Type 0} → (A → B → Type 0) → List A → List B → Type 0
Both Holds [] [] = Unit {0}
Both Holds (a ∷ firsts) (b ∷ seconds) = Holds a b × Both Holds firsts seconds
Both Holds _ _ = ⊥

-- a saved team is a team of the design, within its limits
pub record IsSavedTeamOf (limits : Limits) (named : NamedTeam) (t : SavedTeam) : Type 0 where
  pub revision : t.revision ≤ limits.revisions
  pub padding : t.padding ≤ 16
  pub slots : length t.slots ≡ limits.sessions
  pub seen : AllByRecursion (λ slot. IfSome slot (λ seen. seen ≤ t.revision)) t.slots
  pub cells : length t.cells ≡ length named.cells
  pub entries : length t.entries ≤ limits.undo
  pub own : AllByRecursion (λ moves. AllByRecursion (λ m. m.own < length named.cells) moves) t.entries

-- the saved teams are those of the design, in their order
abbrev pub AreOf : NamedDesign → List SavedTeam → Type 0
AreOf design teams = Both (IsSavedTeamOf design.limits) design.teams teams

-- both coordinates are below 2^31
abbrev pub IsSpot : Place → Type 0
IsSpot p = (p.x <ℤ pos (2 ^ 31)) × (p.y <ℤ pos (2 ^ 31))

-- the coordinates of both places are below 2^31
abbrev pub IsSpottedCell : SavedCell → Type 0
IsSpottedCell c = IfSome c.working IsSpot × IfSome c.committed IsSpot

abbrev pub IsSpottedEntry : List Move → Type 0
IsSpottedEntry moves = (length moves < 2 ^ 32) × AllByRecursion (λ m. IfSome m.place IsSpot) moves

-- the coordinates of the team's cells and undo entries are below 2^31, and its padding is at most
-- 16
pub record IsSavedInRange (t : SavedTeam) : Type 0 where
  pub padding : t.padding ≤ 16
  pub cells : All IsSpottedCell t.cells
  pub entries : All IsSpottedEntry t.entries

-- the numbers of the team have words
pub record HasWords (t : SavedTeam) : Type 0 where
  pub few : length t.cells < 2 ^ 32
  pub cells : AllByRecursion IsSpottedCell t.cells
  pub entries : AllByRecursion IsSpottedEntry t.entries

-- the saved teams are the design's, and have a text
pub record AreSaved (design : NamedDesign) (teams : List SavedTeam) : Type 0 where
  pub few : length design.teams < 2 ^ 32
  pub of_design : AreOf design teams
  pub words : AllByRecursion HasWords teams
