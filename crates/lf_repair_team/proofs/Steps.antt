-- The effect of a step to a team on it.
use Rattle.std.proofs.Common.{◌≡◌, ◌≢◌, ◌⊎◌, inl, inr, ℕ, List, map, Bool, true, false, Option, Some, None, refl, ap, sym, ◌∙◌, subst}
use Rattle.std.specs.Prelude.{MatchBool, slice_get, option_and_then}
use Rattle.std.specs.Option.{option_map}
use Rattle.lf_floorplan.specs.declared.place.Place.{Place}
use Rattle.lf_rules.specs.Legalizer.{Legalizer}
use Rattle.lf_proto.specs.declared.request.Command.{Command}
use Rattle.lf_proto.specs.declared.request.Command.TheVariants.{Bye, To}
use Rattle.lf_proto.specs.declared.request.TeamCommand.{TeamCommand}
use Rattle.lf_proto.specs.declared.verb.Change.{Change}
use Rattle.lf_proto.specs.declared.reply.Reply.{Reply}
use Rattle.lf_cells.specs.declared.cell.Cell.{Cell}
use Rattle.lf_cells.specs.Cells.{working_at}
use Rattle.lf_floor_model.specs.States.{FloorState, TeamState}
use Rattle.lf_floor_model.specs.Teams.{TeamRules, team_rules, state_of, team_number}
use Rattle.lf_floor_model.specs.Outcomes.{Outcome, is_short}
use Rattle.lf_floor_model.specs.Steps.{IsAnswerOf, IsTo, MayRunOutOfMemory, Step, answer_at, answer_of, outcome_by_rules}
use Rattle.lf_floor_model.specs.Verbs.{outcome_of}
use Rattle.lf_floor_model.specs.VerbLaws.{QueryKeepsState, is_change}
use Rattle.lf_floor_model.proofs.Forms.{state_at, answer_by}
use Rattle.lf_floor_model.proofs.Answering.{get-set_other, own_answer}
use Rattle.lf_floor_model.proofs.Cases.{CellsAfter, Facts, macs_stay, names_stay, order_facts}
use Rattle.lf_repair_team.specs.CellEdits.{IsUnchangedOrStepped, SameCells}
use Rattle.lf_repair_team.specs.TeamRepairs.{team_cell_macros, team_cell_names, place_of_cell_in}

-- ---- the team on both floors

-- an order to no team changes nothing
none_there : (l : Legalizer) (floor : FloorState) (team : List ℕ) (order : TeamCommand (List ℕ) Place) → state_of floor team ≡ None
    → (answer_of l floor (To team order)).floor ≡ floor
unfolding answer_of
none_there l floor team order none = go (team_number floor.frame team) none where
  by : (o : Option TeamState) (number : ℕ) → o ≡ None → (answer_by o l floor number order).floor ≡ floor
  by None number e = refl
  by (Some s) number e = absurd cc

  go : (o : Option ℕ) → state_at floor.teams o ≡ None → (answer_at o l floor order).floor ≡ floor
  go None e = refl
  go (Some number) e = by (slice_get floor.teams number) number e

-- the floor is unchanged, or the team is as its rules say
pub record IsServed (l : Legalizer) (old new : FloorState) (team : List ℕ) (order : TeamCommand (List ℕ) Place) : Type 0 where
  pub number : ℕ
  pub state : TeamState
  pub named : team_number old.frame team ≡ Some number
  pub before : state_of old team ≡ Some state
  pub after : state_of new team ≡ Some (outcome_by_rules l old.frame number order state).team

pub team_step : (l : Legalizer) (old new : FloorState) (team : List ℕ) (order : TeamCommand (List ℕ) Place) (reply : Reply) → Step l old (To team order) reply new
    → (new ≡ old) ⊎ IsServed l old new team order
team_step l old new team order reply step = short (is_short reply) step where
  answered : IsAnswerOf l old (To team order) reply new → (o : Option ℕ) → team_number old.frame team ≡ o → (s : Option TeamState) → state_of old team ≡ s
      → (new ≡ old) ⊎ IsServed l old new team order
  answered answers o named None there = inl (answers.floor_is ∙ none_there l old team order there)
  answered answers None named (Some s) there = absurd (none_some (sym (ap (λ (o : Option ℕ). state_at old.teams o) named) ∙ there)) where
    none_some : None ≡ Some s → ⊥
    none_some e = cc
  answered answers (Some number) named (Some s) there = inr (record {
    number = number;
    state = s;
    named = named;
    before = there;
    after = ap (λ (f : FloorState). state_of f team) answers.floor_is ∙ (own_answer l old team number order s named there).1;
  })

  short : (b : Bool) → MatchBool b (MayRunOutOfMemory l old (To team order) new) (IsAnswerOf l old (To team order) reply new)
      → (new ≡ old) ⊎ IsServed l old new team order
  short true runs = inl runs.short.kept
  short false answers = answered answers (team_number old.frame team) refl (state_of old team) refl

-- the same if possibly no command was sent
pub requested_step : (l : Legalizer) (old new : FloorState) (team : List ℕ) (order : TeamCommand (List ℕ) Place) → IsUnchangedOrStepped l old (To team order) new
    → (new ≡ old) ⊎ IsServed l old new team order
requested_step l old new team order (inl same) = inl same
requested_step l old new team order (inr (reply, step)) = team_step l old new team order reply step

-- ---- the other teams

module _ (l : Legalizer) (floor : FloorState) (order : TeamCommand (List ℕ) Place) (number : ℕ) where
  numbers_by : (n : ℕ) (o : Option TeamState) → n ≢ number → slice_get (answer_by o l floor n order).floor.teams number ≡ slice_get floor.teams number
  numbers_by n None differ = refl
  numbers_by n (Some s) differ = get-set_other floor.teams n number (outcome_by_rules l floor.frame n order s).team differ

  numbers_at : (o : Option ℕ) → o ≢ Some number → slice_get (answer_at o l floor order).floor.teams number ≡ slice_get floor.teams number
  numbers_at None differ = refl
  numbers_at (Some n) differ = numbers_by n (slice_get floor.teams n) (λ e. differ (ap (λ (k : ℕ). Some k) e))

numbers_kept : (l : Legalizer) (floor : FloorState) (command : Command (List ℕ) Place) (team : List ℕ) (number : ℕ) → IsTo team command
    → team_number floor.frame team ≢ Some number → slice_get (answer_of l floor command).floor.teams number ≡ slice_get floor.teams number
unfolding answer_of
numbers_kept l floor Bye team number to differ = refl
numbers_kept l floor (To name order) team number to differ =
    numbers_at l floor order number (team_number floor.frame name) (λ e. differ (ap (team_number floor.frame) (sym to) ∙ e))

-- a step to a team changes no team of another number
pub step_numbers : (l : Legalizer) (team : List ℕ) (command : Command (List ℕ) Place) (old new : FloorState) (reply : Reply) → IsTo team command
    → Step l old command reply new
    → (number : ℕ) → team_number old.frame team ≢ Some number → slice_get new.teams number ≡ slice_get old.teams number
step_numbers l team command old new reply to step number differ = short (is_short reply) step where
  short : (b : Bool) → MatchBool b (MayRunOutOfMemory l old command new) (IsAnswerOf l old command reply new)
      → slice_get new.teams number ≡ slice_get old.teams number
  short true runs = ap (λ (f : FloorState). slice_get f.teams number) runs.short.kept
  short false answer = ap (λ (f : FloorState). slice_get f.teams number) answer.floor_is ∙ numbers_kept l old command team number to differ

-- ---- places

pub place_of_state : (floor : FloorState) (team : List ℕ) (own : ℕ) (s : TeamState) → state_of floor team ≡ Some s → place_of_cell_in floor team own ≡ working_at s.cells own
place_of_state floor team own s there = ap (λ (o : Option TeamState). option_and_then (λ (s : TeamState). working_at s.cells own) o) there

-- the place of a cell is unchanged if the rules leave it unchanged
pub place_stays : (l : Legalizer) (old new : FloorState) (team : List ℕ) (order : TeamCommand (List ℕ) Place) (own : ℕ)
    → IsUnchangedOrStepped l old (To team order) new
    → ((number : ℕ) (s : TeamState) → state_of old team ≡ Some s → working_at (outcome_by_rules l old.frame number order s).team.cells own ≡ working_at s.cells own)
    → place_of_cell_in new team own ≡ place_of_cell_in old team own
place_stays l old new team order own requested stays = elim (requested_step l old new team order requested) [
  | inl same ↦ ap (λ (f : FloorState). place_of_cell_in f team own) same
  | inr served ↦
      place_of_state new team own (outcome_by_rules l old.frame served.number order served.state).team served.after
      ∙ stays served.number served.state served.before
      ∙ sym (place_of_state old team own served.state served.before)
]

-- a query leaves each cell unchanged
pub look_same : (l : Legalizer) (old new : FloorState) (team : List ℕ) (order : TeamCommand (List ℕ) Place)
    → QueryKeepsState → is_change order ≡ false → IsUnchangedOrStepped l old (To team order) new → SameCells team old new
look_same l old new team order keeps look requested = elim (requested_step l old new team order requested) [
  | inl same ↦ inl (ap (λ (f : FloorState). state_of f team) same)
  | inr served ↦ inr (record {
    before = served.state;
    after = (outcome_by_rules l old.frame served.number order served.state).team;
    was = served.before;
    is = served.after;
    keeps = keeps (team_rules l old.frame served.number served.state.padding) order served.state look;
  })
]

-- ---- what no command changes of a cell

-- no change of a team changes this part of its cells
abbrev KeepsPart : {X : Type 0} → (Cell → X) → Type 0
KeepsPart part = (t : TeamRules) (s : TeamState) (change : Change (List ℕ) Place) (cells : List Cell) → CellsAfter t s change cells
    → map part cells ≡ map part s.cells

verb_part : {X : Type 0} (part : Cell → X) → KeepsPart part → (t : TeamRules) (order : TeamCommand (List ℕ) Place) (s : TeamState)
    → map part (outcome_of t order s).team.cells ≡ map part s.cells
verb_part part stays t order s = by (outcome_of t order s) (order_facts t order s) where
  by : (o : Outcome) → Facts t s order o → map part o.team.cells ≡ map part s.cells
  by o (inl refusal) = ap (λ (o : Outcome). map part o.team.cells) refusal.is
  by o (inr (inl look)) = elim look.team [ inl same ↦ ap (λ (s : TeamState). map part s.cells) same | inr slot ↦ ap (λ (s : TeamState). map part s.cells) slot.is ]
  by o (inr (inr done)) = stays t s done.change o.team.cells done.is.cells

order_part : {X : Type 0} (part : Cell → X) → KeepsPart part → (l : Legalizer) (old new : FloorState) (team : List ℕ) (order : TeamCommand (List ℕ) Place) (reply : Reply)
    → Step l old (To team order) reply new
    → option_map (λ (s : TeamState). map part s.cells) (state_of new team) ≡ option_map (λ (s : TeamState). map part s.cells) (state_of old team)
order_part {X} part stays l old new team order reply step = elim (team_step l old new team order reply step) [
  | inl same ↦ ap (λ (f : FloorState). option_map (λ (s : TeamState). map part s.cells) (state_of f team)) same
  | inr served ↦
      ap (λ (o : Option TeamState). option_map (λ (s : TeamState). map part s.cells) o) served.after
      ∙ ap (λ (parts : List X). Some parts) (verb_part part stays (team_rules l old.frame served.number served.state.padding) order served.state)
      ∙ sym (ap (λ (o : Option TeamState). option_map (λ (s : TeamState). map part s.cells) o) served.before)
]

step_part : {X : Type 0} (part : Cell → X) → KeepsPart part → (l : Legalizer) (team : List ℕ) (command : Command (List ℕ) Place) (old new : FloorState) (reply : Reply)
    → IsTo team command → Step l old command reply new
    → option_map (λ (s : TeamState). map part s.cells) (state_of new team) ≡ option_map (λ (s : TeamState). map part s.cells) (state_of old team)
step_part part stays l team Bye old new reply to step = absurd to
step_part {X} part stays l team (To name order) old new reply to step =
    let parts : FloorState → List ℕ → Option (List X) = λ floor team. option_map (λ (s : TeamState). map part s.cells) (state_of floor team) in
    subst (λ (n : List ℕ). parts new n ≡ parts old n) to (order_part part stays l old new name order reply step)

-- a team has cells of the same names after a command to it
pub step_names : (l : Legalizer) (team : List ℕ) (command : Command (List ℕ) Place) (old new : FloorState) (reply : Reply) → IsTo team command
    → Step l old command reply new → team_cell_names new team ≡ team_cell_names old team
step_names = step_part (λ (c : Cell). c.name) names_stay

-- and of the same macros
pub step_macros : (l : Legalizer) (team : List ℕ) (command : Command (List ℕ) Place) (old new : FloorState) (reply : Reply) → IsTo team command
    → Step l old command reply new → team_cell_macros new team ≡ team_cell_macros old team
step_macros = step_part (λ (c : Cell). c.mac) macs_stay
