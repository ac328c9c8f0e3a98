-- Teams whose cells are placed already, restored one after another, from the last to the first.
use Rattle.std.proofs.Common.{◌≡◌, ◌<◌, ◌≤◌, ℕ, suc, ◌+◌, List, [], ◌∷◌, ◌++◌, length, map, get_or, refl, ap, sym, subst, ◌∙◌, arith}
use Rattle.std.proofs.lemmas.List.{length-append}
use Rattle.lf_cells.specs.Cells.{Cells, cells_of}
use Rattle.lf_floor_model.specs.States.{TeamState}
use Rattle.lf_state_text.specs.Saved.{SavedTeam, IsSavedTeamOf}
use Rattle.lf_floor.specs.Saved.{map_two, named_team, restored_floor, restored_team, saved_cell}
use Rattle.lf_floor_verbs.specs.declared.tables.Tables.{Tables}
use Rattle.lf_floor_verbs.specs.Tables.{EntriesFit, HasTeamRow, KeepsOtherTeams, floor_in, frame_of, own_team, teams_in}
use Rattle.lf_floor.specs.SavedStates.{saved_teams_at, saved_team_at}
use Rattle.lf_floor.proofs.Rows.{count_teams, team_at}
use Rattle.lf_floor.proofs.Saving.{AreLeft, all_left, number_due, number_less, number_served}

saved_of_none : (teams : List TeamState) → map_two saved_team_at teams [] ≡ []
saved_of_none [] = refl
saved_of_none (s ∷ teams) = refl

saved_count : (teams : List TeamState) (saved : List SavedTeam) → length saved ≤ length teams → length (map_two saved_team_at teams saved) ≡ length saved
saved_count [] [] few = refl
saved_count [] (t ∷ saved) few = absurd (omega (arith, few))
saved_count (s ∷ teams) [] few = refl
saved_count (s ∷ teams) (t ∷ saved) few = ap suc (saved_count teams saved (omega (arith, few)))

saved_last : (teams : List TeamState) (rest : List SavedTeam) (t : SavedTeam) (d : TeamState) → length rest < length teams
    → map_two saved_team_at teams (rest ++ t ∷ []) ≡ map_two saved_team_at teams rest ++ saved_team_at (get_or teams (length rest) d) t ∷ []
saved_last [] rest t d less = absurd (omega (arith, less))
saved_last (s ∷ []) [] t d less = refl
saved_last (s ∷ u ∷ teams) [] t d less = refl
saved_last (s ∷ teams) (r ∷ rest) t d less =
    ap (λ (l : List SavedTeam). saved_team_at s r ∷ l) (saved_last teams rest t d (omega (arith, less)))

-- the last of the remaining teams
module _ (start now : Tables) (all left rest : List SavedTeam) (t : SavedTeam) (k : ℕ) (is : left ≡ rest ++ t ∷ []) (at : k ≡ length rest)
    (few : length left ≤ length (teams_in start)) (cells : now.placement.cells ≡ start.placement.cells) (so_far : AreLeft start now all (saved_teams_at start left)) where
  long : length left ≡ length rest + 1
  long = ap (λ (l : List SavedTeam). length l) is ∙ length-append rest (t ∷ [])

  -- the saved team with the cells of the start
  abbrev original_place : SavedTeam
  original_place = saved_team_at (own_team k start) t

  last_is : saved_teams_at start left ≡ saved_teams_at start rest ++ original_place ∷ []
  last_is =
      let d = own_team k start in
      ap (saved_teams_at start) is
      ∙ saved_last (teams_in start) rest t d (omega (arith, few, long))
      ∙ ap (λ (s : TeamState). saved_teams_at start rest ++ saved_team_at s t ∷ [])
      (ap (λ (n : ℕ). get_or (teams_in start) n d) (sym at) ∙ team_at start k d (omega (arith, few, long, at, count_teams start)))

  number_is : k ≡ length (saved_teams_at start rest)
  number_is = at ∙ sym (saved_count (teams_in start) rest (omega (arith, few, long)))

  -- its cells are unchanged
  same : saved_team_at (own_team k now) t ≡ original_place
  same = ap (λ (cs : Cells). record t { cells = map saved_cell (cells_of cs k) }) cells

  pub last_team_served : HasTeamRow k now
  last_team_served = number_served start now all (saved_teams_at start rest) (saved_teams_at start left) original_place so_far last_is k number_is

  pub last_is_saved : IsSavedTeamOf (frame_of now).limits (named_team [] (own_team k now)) (saved_team_at (own_team k now) t)
  last_is_saved =
      subst (λ (u : SavedTeam). IsSavedTeamOf (frame_of now).limits (named_team [] (own_team k now)) u) (sym same)
      (number_due start now all (saved_teams_at start rest) (saved_teams_at start left) original_place so_far last_is k number_is)

  pub last_keeps_others : (after : Tables) → own_team k after ≡ restored_team (own_team k now) (saved_team_at (own_team k now) t) → KeepsOtherTeams k now after
      → EntriesFit k after → AreLeft start after all (saved_teams_at start rest)
  last_keeps_others after team others fit =
      number_less start now all (saved_teams_at start rest) (saved_teams_at start left) original_place so_far last_is k number_is after
      (team ∙ ap (λ (u : SavedTeam). restored_team (own_team k now) u) same) others fit

pub all_were_placed : (start now : Tables) (all left : List SavedTeam) → AreLeft start now all (saved_teams_at start left) → left ≡ [] → floor_in now ≡ restored_floor (floor_in start) all
all_were_placed start now all left so_far none =
    all_left start now all (saved_teams_at start left) so_far (ap (saved_teams_at start) none ∙ saved_of_none (teams_in start))
