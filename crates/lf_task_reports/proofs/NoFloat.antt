-- No line has a number with a fraction.
use Rattle.std.proofs.Common.{◌≡◌, ℕ, false, List, [], ◌∷◌, map, Option, None, Some, refl, subst, sym}
use Rattle.serde_json.specs.Data.{Data}
use Rattle.serde_json.specs.View.{items_of}
use Rattle.serde_json.specs.Written.{has_float, items_have_float}
use Rattle.lf_describe.proofs.NoFloat.{neither, text}
use Rattle.lf_floorplan.specs.declared.place.Place.{Place}
use Rattle.lf_floor_model.specs.States.{FloorState}
use Rattle.lf_repair_bounds.specs.declared.reasons.ImpossibleMacro.{ImpossibleMacro}
use Rattle.lf_repair_bounds.specs.declared.reasons.ImpossibleReason.{ImpossibleReason}
use Rattle.lf_repair_strategy.specs.declared.stats.RepairStats.{RepairStats}
use Rattle.lf_task_reports.specs.RepairReports.{IsTeamData, cell_names, cell_reasons, reason_data, report_number, report_text_value}

names : (list : List (List ℕ)) → items_have_float (items_of (map report_text_value list)) ≡ false
names [] = refl
names (n ∷ ns) = neither _ _ (text n) (names ns)

counts : (list : List ℕ) → items_have_float (items_of (map report_number list)) ≡ false
counts [] = refl
counts (n ∷ ns) = counts ns

reasons : (list : List (Option ImpossibleReason)) → items_have_float (items_of (map reason_data list)) ≡ false
reasons [] = refl
reasons (None ∷ rs) = reasons rs
reasons (Some r ∷ rs) = reasons rs

-- the line of a team has no such number
pub team_has_none : (floor : FloorState) (team : List ℕ) (old_place : ℕ → Option Place) (list : List ImpossibleMacro) (r : RepairStats) (least : ℕ) (line : Data)
    → IsTeamData floor team old_place list r least line → has_float line ≡ false
team_has_none floor team old_place list r least line is =
    subst (λ (d : Data). has_float d ≡ false) (sym is.2)
    (neither _ _ (counts is.0) (neither _ _ (reasons (cell_reasons list floor team r.unrepaired.items))
    (neither _ _ (names (cell_names floor team r.unrepaired.items)) (neither _ _ (text team) refl))))
