-- A floor that is restored depends on the design, not on where the cells were placed.
use Rattle.std.proofs.Common.{◌≡◌, ℕ, List, [], ◌∷◌, map, refl, ap, ◌∙◌}
use Rattle.lf_floorplan.specs.declared.frame.Frame.{Frame}
use Rattle.lf_cells.specs.declared.cell.Cell.{Cell}
use Rattle.lf_undo.specs.Entries.{entries_of}
use Rattle.lf_floor_model.specs.States.{FloorState, TeamState}
use Rattle.lf_floor_model.specs.Steps.{floor_of}
use Rattle.lf_state_text.specs.declared.saved_rows.SavedCell.{SavedCell}
use Rattle.lf_state_text.specs.Saved.{SavedTeam}
use Rattle.lf_floor.proofs.Restoring.{same_head, same_tail}
use Rattle.lf_floor.specs.Saved.{ShareDesign, fixed_cells, fixed_part, map_two, restored_floor, restored_cell, restored_team}

one_cell : (c d : Cell) (s : SavedCell) → fixed_part c ≡ fixed_part d → restored_cell c s ≡ restored_cell d s
one_cell c d s is = ap (λ (f : List ℕ × ℕ). record { name = f.0; mac = f.1; working = s.working; committed = s.committed }) is

cells_alike : (cells others : List Cell) (saved : List SavedCell) → map fixed_part cells ≡ map fixed_part others
    → map_two restored_cell cells saved ≡ map_two restored_cell others saved
cells_alike [] [] saved is = refl
cells_alike [] (d ∷ ds) saved is = absurd cc
cells_alike (c ∷ cs) [] saved is = absurd cc
cells_alike (c ∷ cs) (d ∷ ds) [] is = refl
cells_alike (c ∷ cs) (d ∷ ds) (s ∷ saved) is =
    ap (λ (x : Cell). x ∷ map_two restored_cell cs saved) (one_cell c d s (same_head is))
    ∙ ap (λ (xs : List Cell). restored_cell d s ∷ xs) (cells_alike cs ds saved (same_tail is))

one_team : (s u : TeamState) (t : SavedTeam) → fixed_cells s ≡ fixed_cells u → restored_team s t ≡ restored_team u t
one_team s u t is =
    ap (λ (cs : List Cell). record { cells = cs; revision = t.revision; entries = entries_of (map (λ c. c.working) t.cells) t.entries; slots = t.slots; padding = t.padding })
    (cells_alike s.cells u.cells t.cells is)

teams_alike : (teams others : List TeamState) (saved : List SavedTeam) → map fixed_cells teams ≡ map fixed_cells others
    → map_two restored_team teams saved ≡ map_two restored_team others saved
teams_alike [] [] saved is = refl
teams_alike [] (u ∷ us) saved is = absurd cc
teams_alike (s ∷ ss) [] saved is = absurd cc
teams_alike (s ∷ ss) (u ∷ us) [] is = refl
teams_alike (s ∷ ss) (u ∷ us) (t ∷ saved) is =
    ap (λ (x : TeamState). x ∷ map_two restored_team ss saved) (one_team s u t (same_head is))
    ∙ ap (λ (xs : List TeamState). restored_team u t ∷ xs) (teams_alike ss us saved (same_tail is))

-- floors of one design are restored to the same floor
pub restored_alike : (a b : FloorState) (saved : List SavedTeam) → ShareDesign a b → restored_floor b saved ≡ restored_floor a saved
restored_alike a b saved one =
    ap (λ (f : Frame). floor_of f b.components (map_two restored_team b.teams saved)) one.frame
    ∙ ap (λ (cs : List (List ℕ)). floor_of a.frame cs (map_two restored_team b.teams saved)) one.components
    ∙ ap (floor_of a.frame a.components) (teams_alike b.teams a.teams saved one.cells)
