-- Why no place can hold a cell, by its macro.
use Rattle.std.proofs.Common.{◌≡◌, ◌∙◌, ℕ, List, Option, None, Some, refl, ap, sym}
use Rattle.std.specs.Prelude.{option_and_then, option_map, slice_get}
use Rattle.lf_cells.specs.declared.cell.Cell.{Cell}
use Rattle.lf_floor_model.specs.Outcomes.{name_at}
use Rattle.lf_floor_model.specs.States.{FloorState, TeamState}
use Rattle.lf_floor_model.specs.Teams.{state_of, team_number}
use Rattle.lf_floor_model.proofs.LegalPlaces.{none_some, some_one}
use Rattle.lf_repair_bounds.specs.declared.reasons.ImpossibleMacro.{ImpossibleMacro}
use Rattle.lf_repair_bounds.specs.declared.reasons.ImpossibleReason.{ImpossibleReason}
use Rattle.lf_task_reports.specs.RepairReports.{listed_reason, reason_of_cell}

by_macro : (list : List ImpossibleMacro) (number mac : ℕ) (o : Option Cell) → option_map (λ (c : Cell). c.mac) o ≡ Some mac
    → option_and_then (λ (c : Cell). listed_reason list number c.mac) o ≡ listed_reason list number mac
by_macro list number mac None e = absurd (none_some e)
by_macro list number mac (Some c) e = ap (λ (m : ℕ). listed_reason list number m) (some_one e)

-- the reason of a cell with a name is that of its macro
pub reason_is : (list : List ImpossibleMacro) (floor : FloorState) (team : List ℕ) (number own mac : ℕ) (name : List ℕ)
    → team_number floor.frame team ≡ Some number
    → ((s : TeamState) → slice_get floor.teams number ≡ Some s → Some mac ≡ option_map (λ (c : Cell). c.mac) (slice_get s.cells own))
    → option_and_then (λ (s : TeamState). name_at s.cells own) (state_of floor team) ≡ Some name
    → listed_reason list number mac ≡ reason_of_cell list floor team own
reason_is list floor team number own mac name named its_macro has = go (state_of floor team) refl has where
  at_number : ℕ → Option TeamState → Option ImpossibleReason
  at_number n o = option_and_then (λ (s : TeamState). option_and_then (λ (c : Cell). listed_reason list n c.mac) (slice_get s.cells own)) o

  go : (o : Option TeamState) → state_of floor team ≡ o → option_and_then (λ (s : TeamState). name_at s.cells own) o ≡ Some name
      → listed_reason list number mac ≡ reason_of_cell list floor team own
  go None there e = absurd (none_some e)
  go (Some s) there e =
      let at : slice_get floor.teams number ≡ Some s = sym (ap (λ (n : Option ℕ). option_and_then (λ k. slice_get floor.teams k) n) named) ∙ there in
      sym (ap (λ (n : Option ℕ). option_and_then (λ k. at_number k (state_of floor team)) n) named ∙ ap (λ (o : Option TeamState). at_number number o) there
      ∙ by_macro list number mac (slice_get s.cells own) (sym (its_macro s at)))
