-- The places of the teams' cells, and the places of their undo entries.
use Rattle.std.specs.Prelude.{◌≡◌, ◌≢◌, ◌<◌, ◌≤◌, ℕ, All, List, [], length}
use Rattle.lf_cells.specs.Cells.{Cells, cells_of}
use Rattle.lf_occupancy.specs.Views.{KeepsCapacities}
use Rattle.lf_undo.specs.declared.moves.Move.{Move}
use Rattle.lf_undo.specs.Entries.{Places, entries_of}
use Rattle.lf_undo.specs.Stacks.{Stacks, stack_of}
use Rattle.lf_placement.specs.Placements.{Fits, Placing, working_places_of}
use Rattle.lf_state_text.specs.Saved.{SavedTeam, saved_at}
use Rattle.lf_floor.specs.Saved.{map_two, restored_cell}

-- each saved team has as many cells as the team of its number
abbrev pub AreAsMany : List SavedTeam → Cells → Type 0
AreAsMany saved cells = (team : ℕ) → team < length saved
    → length (saved_at saved team).cells ≡ length (cells_of cells team)

-- the cells of each saved team are at its places, and nothing else differs
pub record ArePlaced (saved : List SavedTeam) (old new : Cells) : Type 0 where
  pub cells : (team : ℕ) → team < length saved
      → cells_of new team ≡ map_two restored_cell (cells_of old team) (saved_at saved team).cells
  pub others : (team : ℕ) → length saved ≤ team → cells_of new team ≡ cells_of old team
  pub components : new.components ≡ old.components

-- the saved team without the places of its cells
abbrev pub without_cells : SavedTeam → SavedTeam
without_cells t = record t { cells = [] }

-- the places before each of the team's undo entries, the newest first
abbrev pub saved_entries : Placing → Stacks (List Move) → ℕ → List Places
saved_entries p undo team = entries_of (working_places_of (cells_of p.cells team)) (stack_of undo team)

-- the strips have room for these places
abbrev pub SavedEntriesFit : Placing → Stacks (List Move) → ℕ → Type 0
SavedEntriesFit p undo team = All (Fits p team) (saved_entries p undo team)

-- only the team's cells and its undo entries may differ, and no strip's room shrinks
pub record OthersStay (team : ℕ) (before after : Placing) (undo done : Stacks (List Move)) : Type 0 where
  pub frame : after.frame ≡ before.frame
  pub components : after.cells.components ≡ before.cells.components
  pub index : after.held.index ≡ before.held.index
  pub site : after.held.site ≡ before.held.site
  pub rooms : KeepsCapacities before.held.rooms after.held.rooms
  pub cells : (other : ℕ) → other ≢ team → cells_of after.cells other ≡ cells_of before.cells other
  pub stacks : (other : ℕ) → other ≢ team → stack_of done other ≡ stack_of undo other
