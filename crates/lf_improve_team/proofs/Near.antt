-- No cell is farther than the longest displacement.
use Rattle.std.proofs.Common.{◌≡◌, ⊎_elim, ℕ, zero, suc, ◌<◌, ◌≤◌, List, [], ◌∷◌, Bool, length, map, get_or, Option, Some, None, refl, ap, sym, ◌∙◌, subst, arith, zero-add}
use Rattle.std.specs.Prelude.{fold, max, option_and_then, slice_get}
use Rattle.std.specs.List.{range_with_len}
use Rattle.std.proofs.lemmas.Bool.{cases_lt}
use Rattle.std.proofs.lemmas.List.FromFn.{length-map-range_with_len, get_or-map-range_with_len}
use Rattle.std.proofs.lemmas.Option.{slice_get_past}
use Rattle.lf_floorplan.specs.declared.place.Place.{Place}
use Rattle.lf_cells.specs.declared.cell.Cell.{Cell}
use Rattle.lf_cells.specs.Cells.{working_at}
use Rattle.lf_floor_model.specs.States.{FloorState, TeamState}
use Rattle.lf_floor_model.specs.Teams.{state_of, team_number}
use Rattle.lf_floor_model.proofs.Forms.{state_at}
use Rattle.lf_floor_model.proofs.LegalPlaces.{some_one}
use Rattle.lf_repair_strategy.specs.Targets.{target_at}
use Rattle.lf_repair_strategy.specs.declared.stats.RepairStats.{RepairStats}
use Rattle.lf_repair_team.specs.CellEdits.{AreStatsOfFirst}
use Rattle.lf_repair_team.specs.Stats.{displacement}
use Rattle.lf_repair_team.specs.TeamRepairs.{place_of_cell_in}

least_of_all : (m : ℕ) (xs : List ℕ) → m ≤ fold max m xs
least_of_all m [] = omega arith
least_of_all m (x ∷ xs) = omega (arith, least_of_all (max m x) xs)

each_of_all : (m : ℕ) (xs : List ℕ) (k : ℕ) → k < length xs → get_or xs k 0 ≤ fold max m xs
each_of_all m [] k within = absurd (omega (arith, within))
each_of_all m (x ∷ xs) zero within = omega (arith, least_of_all (max m x) xs)
each_of_all m (x ∷ xs) (suc k) within = each_of_all (max m x) xs k (omega (arith, within))

unplaced_is_near : (o : Option Place) → displacement o None ≡ 0
unplaced_is_near None = refl
unplaced_is_near (Some p) = refl

module _ (targets : List (Option Place)) (marks : List Bool) (cells : List Cell) (reported : RepairStats)
    (stats : AreStatsOfFirst targets marks cells (length cells) reported) (own : ℕ) where
  abbrev far_of : ℕ → ℕ
  far_of k = displacement (target_at targets k) (working_at cells k)

  inside : own < length cells → far_of own ≤ reported.max_displacement
  inside within =
      let all = map far_of (range_with_len 0 (length cells)) in
      let at : get_or all own 0 ≡ far_of own = get_or-map-range_with_len far_of 0 (length cells) own own 0 within (zero-add own) in
      let long : length all ≡ length cells = length-map-range_with_len far_of 0 (length cells) in
      let least : get_or all own 0 ≤ fold max 0 all = each_of_all 0 all own (omega (arith, long, within)) in
      subst (λ (n : ℕ). n ≤ reported.max_displacement) at (subst (λ (n : ℕ). get_or all own 0 ≤ n) (sym stats.max_displacement) least)

  past : length cells ≤ own → far_of own ≤ reported.max_displacement
  past more =
      let none : working_at cells own ≡ None = ap (λ (o : Option Cell). option_and_then (λ (c : Cell). c.working) o) (slice_get_past cells own more) in
      let is : far_of own ≡ 0 = ap (λ (o : Option Place). displacement (target_at targets own) o) none ∙ unplaced_is_near (target_at targets own) in
      omega (arith, is)

  pub each_is_near : displacement (target_at targets own) (working_at cells own) ≤ reported.max_displacement
  each_is_near = ⊎_elim inside past (cases_lt own (length cells))

-- the same for the cells of a team
pub all_near : (targets : List (Option Place)) (marks : List Bool) (team : List ℕ) (floor : FloorState) (number far : ℕ) (reported : RepairStats) → team_number floor.frame team ≡ Some number
    → ((s : TeamState) → slice_get floor.teams number ≡ Some s → AreStatsOfFirst targets marks s.cells (length s.cells) reported) → reported.max_displacement ≤ far
    → (own limit : ℕ) → Some far ≡ Some limit → displacement (target_at targets own) (place_of_cell_in floor team own) ≤ limit
all_near targets marks team floor number far reported named tally least own limit is = go (state_of floor team) refl where
  same : far ≡ limit
  same = some_one is

  go : (o : Option TeamState) → state_of floor team ≡ o → displacement (target_at targets own) (option_and_then (λ (s : TeamState). working_at s.cells own) o) ≤ limit
  go None there = omega (arith, unplaced_is_near (target_at targets own))
  go (Some s) there =
      omega (arith, same, least, each_is_near targets marks s.cells reported (tally s (ap (state_at floor.teams) (sym named) ∙ there)) own)
