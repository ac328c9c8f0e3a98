-- The places from which the cells of a team were to move.
use Rattle.std.proofs.Common.{◌≡◌, ◌∙◌, ℕ, List, [], ◌∷◌, Option, None, Some, ap, subst, sym}
use Rattle.std.specs.Prelude.{MatchOption, slice_get}
use Rattle.lf_floorplan.specs.declared.place.Place.{Place}
use Rattle.lf_floor_model.specs.States.{FloorState, TeamState}
use Rattle.lf_floor_model.specs.Teams.{state_of, team_number}
use Rattle.lf_floor_model.proofs.Forms.{state_at}
use Rattle.lf_repair_bounds.specs.Gaps.{AreGaps, IsGapAt, PlacedTeam, gap_target, place_at, placed_team}
use Rattle.lf_repair_strategy.specs.Targets.{AreWorkingPlaces}
use Rattle.lf_repair_strategy.specs.declared.stats.RepairStats.{RepairStats}
use Rattle.lf_repair_team.specs.TeamRepairs.{place_of_cell_in, team_cell_names}
use Rattle.lf_repair_team.proofs.Finding.{team_was}
use Rattle.lf_repair_team.proofs.Steps.{place_of_state}
use Rattle.lf_task_reports.specs.declared.repair_report.RepairReport.{RepairReport}
use Rattle.lf_task_reports.specs.RepairReports.{IsOneMore}

-- a team without a number has no state
pub no_state : (floor : FloorState) (team : List ℕ) (s : TeamState) → team_number floor.frame team ≡ None → state_of floor team ≡ Some s → ⊥
no_state floor team s none there = clash (sym (ap (λ (o : Option ℕ). state_at floor.teams o) none) ∙ there) where
  clash : None ≡ Some s → ⊥
  clash e = cc

-- gaps near places are gaps near the same places
gaps_alike : (t : PlacedTeam) (a b : ℕ → Option Place) → ((own : ℕ) → a own ≡ b own) → (owns gaps : List ℕ) → AreGaps t a owns gaps → AreGaps t b owns gaps
gaps_alike t a b same [] [] are = tt
gaps_alike t a b same [] (gap ∷ gaps) are = are
gaps_alike t a b same (own ∷ owns) [] are = are
gaps_alike t a b same (own ∷ owns) (gap ∷ gaps) are = (
  subst (λ (place : Option Place). MatchOption (slice_get t.cells own) (gap ≡ 0) (λ c. IsGapAt t (gap_target t place) gap)) (same own) are.0,
  gaps_alike t a b same owns gaps are.1,
)

-- the places of the cells on the floor on which a repair began are those from which they were to move
pub one_more_from : (begin floor : FloorState) (team : List ℕ) (places given : List (Option Place)) (r : RepairStats) (old new : RepairReport)
    → ((s : TeamState) → state_of begin team ≡ Some s → AreWorkingPlaces s.cells places) → team_cell_names floor team ≡ team_cell_names begin team
    → given ≡ places → IsOneMore floor team (place_at given) r old new → IsOneMore floor team (place_of_cell_in begin team) r old new
one_more_from begin floor team places given r old new are same same_places more = record {
  gaps = more.gaps;
  near = λ number s named there.
      let was = team_was team begin floor s same there in
      gaps_alike (placed_team floor.frame number s.padding s.cells) (place_at given) (place_of_cell_in begin team)
      (λ own. ap (λ (list : List (Option Place)). place_at list own) same_places ∙ are was.0 was.1 own ∙ sym (place_of_state begin team own was.0 was.1))
      r.unrepaired.items more.gaps (more.near number s named there);
  text = more.text;
  sums = more.sums;
  least = more.least;
  impossible = more.impossible;
}
