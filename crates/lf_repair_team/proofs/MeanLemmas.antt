-- Means of displacements.
use Rattle.std.proofs.Common.{◌≡◌, ℕ, ◌+◌, ◌-◌, ◌*◌, ◌/◌, ◌^◌, ◌≤◌, ◌==◌, Bool, true, false, cond, List, [], ◌∷◌, length, map, min, sum, Option, Some, refl, ap, ap₂, sym, ◌∙◌, arith}
use Rattle.std.specs.Prelude.{slice_get}
use Rattle.std.specs.List.{range_with_len}
use Rattle.std.proofs.Math.Nat.{div-le_self, div-le_of_le-mul}
use Rattle.std.proofs.lemmas.List.FromFn.{sum_by-map-range_with_len_more}
use Rattle.lf_floorplan.specs.declared.frame.Frame.{Frame}
use Rattle.lf_floorplan.specs.declared.place.Place.{Place}
use Rattle.lf_cells.specs.declared.cell.Cell.{Cell}
use Rattle.lf_cells.specs.Cells.{working_at}
use Rattle.lf_floor_model.specs.States.{FloorState, TeamState}
use Rattle.lf_floor_model.specs.Teams.{team_number}
use Rattle.lf_repair_strategy.specs.Targets.{AreWorkingPlaces, target_at}
use Rattle.lf_repair_strategy.specs.declared.stats.DisplacementMeans.{DisplacementMeans}
use Rattle.lf_repair_team.specs.Stats.{AreTeamMeans, count_of_height, displacement, mean_by_height, mean_in_rows, means_of, quotient, row_height, rows_at, total_of_height}
use Rattle.lf_repair_team.specs.TeamRepairs.{place_of_cell_in, team_cell_names}
use Rattle.lf_repair_team.proofs.Finding.{team_was}
use Rattle.lf_repair_team.proofs.Legal.{state_there}
use Rattle.lf_repair_team.proofs.OffSoft.{target_is_place}
use Rattle.lf_repair_team.proofs.Steps.{place_of_state}

quotient_least : (a b : ℕ) → quotient a b ≤ a
quotient_least a b = go (b == 0) where
  go : (none : Bool) → cond none 0 (a / b) ≤ a
  go true = omega arith
  go false = div-le_self a b

quotient_most : (a b most : ℕ) → a ≤ b * most → quotient a b ≤ most
quotient_most a b most short = go (b == 0) where
  go : (none : Bool) → cond none 0 (a / b) ≤ most
  go true = omega arith
  go false = div-le_of_le-mul b short

pub mean_short : (row total count : ℕ) → total ≤ count * 8589934590 → mean_in_rows row total count ≤ 8589934590000
mean_short row total count short =
    let thousandths = min (total * 1000) (2 ^ 64 - 1) in
    let less = quotient_least thousandths row in
    quotient_most (quotient thousandths row) count 8589934590000 (omega (arith, less, short))

pub one_at_most : (so : Bool) → cond so 1 0 ≤ 1
one_at_most true = omega arith
one_at_most false = omega arith

-- one more number
pub sum_more : (f : ℕ → ℕ) (start n j next new old : ℕ) → start + n ≡ j → new ≡ old + next → next ≡ f j → old ≡ sum (map f (range_with_len start n))
    → new ≡ sum (map f (range_with_len start (n + 1)))
sum_more f start n j next new old at more is so_far =
    let sum_is = sum_by-map-range_with_len_more (λ (m : ℕ). m) f start n j at in
    more ∙ ap (λ (m : ℕ). m + next) so_far ∙ ap (λ (m : ℕ). sum (map f (range_with_len start n)) + m) is ∙ sym sum_is

-- ---- the team between two floors

map_same : (f g : ℕ → ℕ) → ((own : ℕ) → f own ≡ g own) → (owns : List ℕ) → map f owns ≡ map g owns
map_same f g same [] = refl
map_same f g same (own ∷ owns) = ap (λ (n : ℕ). n ∷ map f owns) (same own) ∙ ap (λ (ns : List ℕ). g own ∷ ns) (map_same f g same owns)

-- the means of cells with equal displacements
same_by_height : (row : ℕ) (rows way also : ℕ → ℕ) (all : ℕ) → ((own : ℕ) → way own ≡ also own) → mean_by_height row rows way all ≡ mean_by_height row rows also all
same_by_height row rows way also all same =
    ap (λ (ns : List ℕ). quotient (sum ns) (sum (map (λ (h : ℕ). min (count_of_height rows all h) 1) (range_with_len 1 8))))
    (map_same (λ (h : ℕ). mean_in_rows row (total_of_height rows way all h) (count_of_height rows all h))
    (λ (h : ℕ). mean_in_rows row (total_of_height rows also all h) (count_of_height rows all h))
    (λ h. ap (λ (ns : List ℕ). mean_in_rows row (sum ns) (count_of_height rows all h))
    (map_same (λ (own : ℕ). cond (rows own == h) (way own) 0) (λ (own : ℕ). cond (rows own == h) (also own) 0)
    (λ own. ap (λ (n : ℕ). cond (rows own == h) n 0) (same own)) (range_with_len 0 all))) (range_with_len 1 8))

pub same_means : (f : Frame) (cells : List Cell) (wanted_place there now here : ℕ → Option Place) → ((own : ℕ) → wanted_place own ≡ there own) → ((own : ℕ) → now own ≡ here own)
    → means_of f cells wanted_place now ≡ means_of f cells there here
same_means f cells wanted_place there now here targets nows =
    ap₂ made
    (ap (λ (ns : List ℕ). mean_in_rows (row_height f) (sum ns) (length cells))
    (map_same (λ own. displacement (wanted_place own) (now own)) (λ own. displacement (there own) (here own)) same (range_with_len 0 (length cells))))
    (same_by_height (row_height f) (rows_at f cells) (λ own. displacement (wanted_place own) (now own)) (λ own. displacement (there own) (here own)) (length cells) same)
  where
    made : ℕ → ℕ → DisplacementMeans
    made a b = record { all = a; by_height = b }

    same : (own : ℕ) → displacement (wanted_place own) (now own) ≡ displacement (there own) (here own)
    same own = ap (λ (p : Option Place). displacement p (now own)) (targets own) ∙ ap (λ (p : Option Place). displacement (there own) p) (nows own)

-- the targets are the places at the start
pub team_means_of : (team : List ℕ) (old new : FloorState) (number : ℕ) (targets : List (Option Place)) (means : DisplacementMeans) → team_number old.frame team ≡ Some number
    → new.frame ≡ old.frame → team_cell_names new team ≡ team_cell_names old team
    → ((s : TeamState) → slice_get old.teams number ≡ Some s → AreWorkingPlaces s.cells targets)
    → ((s : TeamState) → slice_get new.teams number ≡ Some s → means ≡ means_of new.frame s.cells (target_at targets) (working_at s.cells)) → AreTeamMeans team old new means
team_means_of team old new number targets means named frame names are is s there =
    let still : team_number new.frame team ≡ Some number = ap (λ (f : Frame). team_number f team) frame ∙ named in
    let was = team_was team old new s names there in
    is s (state_there new team number s still there)
    ∙ same_means new.frame s.cells (target_at targets) (place_of_cell_in old team) (working_at s.cells) (place_of_cell_in new team)
    (λ own. sym (target_is_place team old number targets own named are was.0 was.1)) (λ own. sym (place_of_state new team own s there))
