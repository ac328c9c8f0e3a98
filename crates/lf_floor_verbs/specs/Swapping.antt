-- The tests of two exchanged cells; no public clause cites it.
use Rattle.std.specs.Prelude.{◌≡◌, ℕ, List, [], ◌∷◌, Option, Some, None, option_map}
use Rattle.lf_rules.specs.declared.rule.Broken.{Broken}
use Rattle.lf_rules.specs.declared.rule.Rule.{Rule}
use Rattle.lf_proto.specs.declared.reply.Refusal.{Refusal}
use Rattle.lf_proto.specs.declared.reply.Refusal.TheVariants.{Illegal}
use Rattle.lf_cells.specs.declared.cell.Cell.{Cell}
use Rattle.lf_cells.specs.Cells.{cells_of, working_at}
use Rattle.lf_undo.specs.declared.moves.Move.{Move}
use Rattle.lf_placement.specs.Placements.{IsBrokenFrameRule, Placing}
use Rattle.lf_floor_model.specs.States.{TeamState}
use Rattle.lf_floor_model.specs.Teams.{TeamRules}
use Rattle.lf_floor_model.specs.Outcomes.{Outcome}
use Rattle.lf_floor_model.specs.Changes.{broken_where, exchanged, swapped_to}
use Rattle.lf_floor_verbs.specs.declared.swap.Exchange.{Exchange}

-- the cells are the team's, and at these places
pub record IsExchange (number : ℕ) (cells : List Cell) (x : Exchange) : Type 0 where
  pub first : x.first.team ≡ number
  pub second : x.second.team ≡ number
  pub from : working_at cells x.first.own ≡ Some x.from
  pub to : working_at cells x.second.own ≡ Some x.to

-- the moves of the exchange
abbrev pub exchange_moves : Exchange → List Move
exchange_moves x = record { own = x.first.own; place = Some x.to } ∷ record { own = x.second.own; place = Some x.from } ∷ []

-- the cells are exchanged; the first breaks no rule except overlap, and alone is the first rule
-- except overlap that the second breaks
pub record IsExchanged (p : Placing) (x : Exchange) (alone : Option Rule) : Type 0 where
  pub team : x.second.team ≡ x.first.team
  pub first : IsBrokenFrameRule p x.first x.to None
  pub second : IsBrokenFrameRule p x.second x.from alone
  pub to : working_at (cells_of p.cells x.first.team) x.first.own ≡ Some x.to
  pub from : working_at (cells_of p.cells x.first.team) x.second.own ≡ Some x.from

-- the refusal of a cell that breaks this rule
abbrev pub illegal_by : Option Broken → ℕ → Option Refusal
illegal_by broken own = option_map (λ b. Illegal b.rule own b.other) broken

-- this refusal, otherwise the other
abbrev pub first_refusal_of : Option Refusal → Option Refusal → Option Refusal
first_refusal_of None other = other
first_refusal_of (Some refusal) other = Some refusal

-- the refusal of two cells at their working places; the first is tested first
abbrev pub swap_refusal : TeamRules → List Cell → ℕ → ℕ → Option Refusal
swap_refusal t cells first second =
    first_refusal_of (illegal_by (broken_where t cells first) first) (illegal_by (broken_where t cells second) second)

-- the swap of two placed cells
abbrev pub swapped_here : TeamRules → ℕ → ℕ → ℕ → TeamState → Outcome
swapped_here t session first second s = swapped_to (exchanged s.cells first second) t session first second s
