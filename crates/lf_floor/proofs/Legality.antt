-- The committed design of a restored floor.
use Rattle.std.proofs.Common.{◌≡◌, List, [], ◌∷◌, map, refl, ap, sym, subst, ◌∙◌}
use Rattle.lf_rules.specs.FullyLegal.{IsFullyLegal, DesignCell, design_cells_from}
use Rattle.lf_rules.specs.Team.{Member}
use Rattle.lf_cells.specs.declared.cell.Cell.{Cell}
use Rattle.lf_floor_model.specs.Committed.{committed_member, committed_members}
use Rattle.lf_floor_model.specs.States.{FloorState, TeamState}
use Rattle.lf_floor_model.proofs.Forms.{committed_design}
use Rattle.lf_state_text.specs.declared.saved_rows.SavedCell.{SavedCell}
use Rattle.lf_state_text.specs.Saved.{SavedTeam}
use Rattle.lf_floor.specs.Saved.{RestoredIsCommitted, map_two, restored_floor, restored_cell, restored_team, saved_design, saved_member}

members_are : (cells : List Cell) (saved : List SavedCell) → map committed_member (map_two restored_cell cells saved) ≡ map_two saved_member cells saved
members_are [] saved = refl
members_are (c ∷ cells) [] = refl
members_are (c ∷ cells) (s ∷ saved) = ap (λ (ms : List Member). saved_member c s ∷ ms) (members_are cells saved)

teams_are : (teams : List TeamState) (saved : List SavedTeam)
    → map committed_members (map_two restored_team teams saved) ≡ map_two (λ s t. map_two saved_member s.cells t.cells) teams saved
teams_are [] saved = refl
teams_are (s ∷ teams) [] = refl
teams_are (s ∷ teams) (t ∷ saved) =
    ap (λ (ms : List Member). ms ∷ map committed_members (map_two restored_team teams saved)) (members_are s.cells t.cells)
    ∙ ap (λ (ts : List (List Member)). map_two saved_member s.cells t.cells ∷ ts) (teams_are teams saved)

same_design : (begin : FloorState) (saved : List SavedTeam) → committed_design (restored_floor begin saved) ≡ saved_design begin saved
same_design begin saved = ap (design_cells_from 0) (teams_are begin.teams saved)

pub restored_committed : RestoredIsCommitted
restored_committed begin saved =
    let is = same_design begin saved in (
      λ legal. subst (λ (d : List DesignCell). IsFullyLegal begin.frame d) is legal,
      λ legal. subst (λ (d : List DesignCell). IsFullyLegal begin.frame d) (sym is) legal,
    )
