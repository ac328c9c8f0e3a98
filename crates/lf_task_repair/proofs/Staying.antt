-- Legal cells that stay where they are.
use Rattle.std.proofs.Common.{◌≡◌, ◌≢◌, ◌⊎◌, inl, inr, ⊎_elim, ℕ, zero, suc, ◌+◌, ◌<◌, List, Option, Some, refl, ap, sym, ◌∙◌, subst, arith}
use Rattle.std.specs.Prelude.{◌≤◌, option_and_then}
use Rattle.std.proofs.lemmas.Bool.{cases_eq}
use Rattle.lf_cells.specs.Cells.{working_at}
use Rattle.lf_floor_model.specs.States.{FloorState, TeamState}
use Rattle.lf_floor_model.specs.Teams.{state_of, team_number}
use Rattle.lf_floor_model.proofs.Forms.{state_at}
use Rattle.lf_repair_team.specs.TeamRepairs.{IsLegalIn, KeepsLegalPlaces, place_of_cell_in}
use Rattle.lf_floorplan.specs.declared.frame.Frame.{Frame}
use Rattle.lf_task_run.proofs.Running.{legal_same, place_same}
use Rattle.lf_task_repair.specs.Reports.{KeepsAllLegalPlaces}

-- ---- legal cells

-- names with the same number name the same team
place_alike : (floor : FloorState) (a b : List ℕ) (own : ℕ) → team_number floor.frame a ≡ team_number floor.frame b → place_of_cell_in floor a own ≡ place_of_cell_in floor b own
place_alike floor a b own same = ap (λ (o : Option ℕ). option_and_then (λ (s : TeamState). working_at s.cells own) (state_at floor.teams o)) same

legal_alike : (floor : FloorState) (a b : List ℕ) (own : ℕ) → team_number floor.frame a ≡ team_number floor.frame b → IsLegalIn floor a own → IsLegalIn floor b own
legal_alike floor a b own same legal = record {
  number = legal.number;
  state = legal.state;
  named = sym same ∙ legal.named;
  there = ap (λ (o : Option ℕ). state_at floor.teams o) (sym same) ∙ legal.there;
  within = legal.within;
  legal = legal.legal;
}

-- if legal cells stay under one name, they stay under the other
pub stay_alike : (a b : List ℕ) (old new : FloorState) → new.frame ≡ old.frame → team_number old.frame a ≡ team_number old.frame b → KeepsLegalPlaces b old new
    → KeepsLegalPlaces a old new
stay_alike a b old new frame same stay own legal =
    place_alike new a b own (subst (λ (f : Frame). team_number f a ≡ team_number f b) (sym frame) same)
    ∙ stay own (legal_alike old a b own same legal) ∙ sym (place_alike old a b own same)

-- in the first `count` teams legal cells stay, and the other teams are unchanged
pub record HaveStayed (old new : FloorState) (count : ℕ) : Type 0 where
  pub done : (team : List ℕ) (n : ℕ) → team_number old.frame team ≡ Some n → n < count → KeepsLegalPlaces team old new
  pub rest : (team : List ℕ) (n : ℕ) → team_number old.frame team ≡ Some n → count ≤ n → state_of new team ≡ state_of old team

pub none_stayed : (floor : FloorState) → HaveStayed floor floor 0
none_stayed floor = record { done = λ team n named less. absurd (omega (arith, less)); rest = λ team n named more. refl }

-- one team more
pub one_more_stayed : (old mid new : FloorState) (number : ℕ) → mid.frame ≡ old.frame → HaveStayed old mid number
    → ((team : List ℕ) → team_number mid.frame team ≡ Some number → KeepsLegalPlaces team mid new)
    → ((team : List ℕ) → team_number mid.frame team ≢ Some number → state_of new team ≡ state_of mid team) → HaveStayed old new (number + 1)
one_more_stayed old mid new number frame stayed stay others = record {
  done = λ team n named less. ⊎_elim (λ (same : n ≡ number). here team n named same) (λ (differ : n ≢ number). before team n named differ (omega (arith, less, differ))) (cases_eq n number);
  rest = λ team n named more. apart team n named (λ (same : n ≡ number). absurd (omega (arith, more, same))) ∙ stayed.rest team n named (omega (arith, more));
} where
  named_in : (team : List ℕ) (n : ℕ) → team_number old.frame team ≡ Some n → team_number mid.frame team ≡ Some n
  named_in team n named = ap (λ (f : Frame). team_number f team) frame ∙ named

  some_one : (a b : ℕ) → Some a ≡ Some b → a ≡ b
  some_one a b same = cc

  apart : (team : List ℕ) (n : ℕ) → team_number old.frame team ≡ Some n → n ≢ number → state_of new team ≡ state_of mid team
  apart team n named differ = others team (λ (is : team_number mid.frame team ≡ Some number). differ (some_one n number (sym (named_in team n named) ∙ is)))

  here : (team : List ℕ) (n : ℕ) → team_number old.frame team ≡ Some n → n ≡ number → KeepsLegalPlaces team old new
  here team n named same own legal =
      let as_it_was = stayed.rest team n named (omega (arith, same)) in
      stay team (named_in team n named ∙ ap (λ (k : ℕ). Some k) same) own (legal_same old mid team own frame as_it_was legal) ∙ place_same old mid team own as_it_was

  before : (team : List ℕ) (n : ℕ) → team_number old.frame team ≡ Some n → n ≢ number → n < number → KeepsLegalPlaces team old new
  before team n named differ less own legal = place_same mid new team own (apart team n named differ) ∙ stayed.done team n named less own legal

-- if they stay in the first `count` teams, which are all, they stay in all
pub all_stayed : (old new : FloorState) (count : ℕ) → HaveStayed old new count → KeepsAllLegalPlaces old new
all_stayed old new count stayed team own legal = ⊎_elim (λ (less : legal.number < count). stayed.done team legal.number legal.named less own legal)
    (λ (more : count ≤ legal.number). place_same old new team own (stayed.rest team legal.number legal.named more)) (below legal.number count) where
      below : (a b : ℕ) → (a < b) ⊎ (b ≤ a)
      below a zero = inr (omega arith)
      below zero (suc b) = inl (omega arith)
      below (suc a) (suc b) = ⊎_elim (λ (less : a < b). inl (omega (arith, less))) (λ (more : b ≤ a). inr (omega (arith, more))) (below a b)
