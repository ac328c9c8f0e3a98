-- The line that closes a session.
use Rattle.std.proofs.Common.{◌≡◌, ◌⊎◌, inl, inr, ℕ, List, [], ◌∷◌, ◌++◌, Bool, true, false, cond, Option, Some, None, refl, ap, sym, ◌∙◌, append_assoc}
use Rattle.std.specs.Prelude.{codes}
use Rattle.std.specs.List.{join_with_byte}
use Rattle.std.proofs.lemmas.Bool.{eqb-true, false≢true}
use Rattle.std.proofs.lemmas.Option.{none-some}
use Rattle.lf_floorplan.specs.declared.place.Place.{Place}
use Rattle.lf_rules.specs.Legalizer.{Legalizer}
use Rattle.lf_proto.specs.declared.request.Command.{Command}
use Rattle.lf_proto.specs.declared.request.Command.TheVariants.{Bye, To}
use Rattle.lf_proto.specs.declared.request.TeamCommand.TheVariants.{Open, Within}
use Rattle.lf_proto.specs.declared.verb.Action.TheVariants.{Close, Sync, Check, Def, Where, Find, Change as Changing}
use Rattle.lf_proto.specs.declared.reply.Reply.{Reply}
use Rattle.lf_floor_model.specs.States.{FloorState}
use Rattle.lf_floor_model.specs.Journals.{is_lasting}
use Rattle.lf_hub_clients.specs.declared.floor.Outcome.{Outcome}
use Rattle.lf_hub_clients.specs.declared.floor.Outcome.TheVariants.{Unchanged, Closed}
use Rattle.lf_hub_clients.specs.Turns.{is_change}
use Rattle.lf_hub_floor.specs.Answers.{AnswersLine, closes_by, closes_session, is_query_line, outcome_of, request_on}
use Rattle.lf_hub_floor.proofs.LineCases.{line_cases}

-- The words of the line, one after the other.
pub close_line : (team number a b c d e : List ℕ) → a ≡ [] → b ≡ a ++ codes "close " → c ≡ b ++ team → d ≡ c ++ codes " " → e ≡ d ++ number
    → e ≡ join_with_byte 32 (codes "close" ∷ team ∷ number ∷ [])
close_line team number a b c d e a_is b_is c_is d_is e_is =
    e_is ∙ (ap (λ (x : List ℕ). x ++ number) (d_is ∙ ap (λ (x : List ℕ). x ++ codes " ") (c_is ∙ ap (λ (x : List ℕ). x ++ team)
    (b_is ∙ ap (λ (x : List ℕ). x ++ codes "close ") a_is))) ∙ simp append_assoc)

-- The line closes this session, or is empty.
abbrev pub ClosesOrEmpty : ℕ → List ℕ → Type 0
ClosesOrEmpty session line = (closes_session session (request_on line) ≡ true) ⊎ (line ≡ [])

if_closed : (session closed : ℕ) (outcome : Outcome) (b : Bool) → closed ≡ session → outcome ≡ cond b (Closed closed) Unchanged
    → (outcome ≡ Closed session) ⊎ (is_change outcome ≡ false)
if_closed session closed outcome true same is = inl (is ∙ ap (λ (n : ℕ). Closed n) same)
if_closed session closed outcome false same is = inr (ap is_change is)

by_command : (session : ℕ) (command : Command (List ℕ) Place) (reply : Reply) (outcome : Outcome) → closes_by session command ≡ true
    → outcome ≡ outcome_of command reply → (outcome ≡ Closed session) ⊎ (is_change outcome ≡ false)
by_command session Bye reply outcome closes is = absurd (false≢true closes)
by_command session (To team Open) reply outcome closes is = absurd (false≢true closes)
by_command session (To team (Within closed Close)) reply outcome closes is =
    if_closed session closed outcome (is_lasting (To team (Within closed Close)) reply) (eqb-true closed session closes) is
by_command session (To team (Within closed Sync)) reply outcome closes is = absurd (false≢true closes)
by_command session (To team (Within closed Check)) reply outcome closes is = absurd (false≢true closes)
by_command session (To team (Within closed Def)) reply outcome closes is = absurd (false≢true closes)
by_command session (To team (Within closed (Where name))) reply outcome closes is = absurd (false≢true closes)
by_command session (To team (Within closed (Find name target))) reply outcome closes is = absurd (false≢true closes)
by_command session (To team (Within closed (Changing change))) reply outcome closes is = absurd (false≢true closes)

requested_closes : (session : ℕ) (line : List ℕ) (command : Command (List ℕ) Place) → request_on line ≡ Some command → ClosesOrEmpty session line
    → closes_by session command ≡ true
requested_closes session line command requested (inl closes) = sym (ap (closes_session session) requested) ∙ closes
requested_closes session line command requested (inr empty) = absurd (none-some command (sym (ap request_on empty) ∙ requested))

-- The line closes the session, or changes nothing.
pub closes_outcome : (l : Legalizer) (team : ℕ) (line : List ℕ) (session : ℕ) (old : FloorState) (text : List ℕ) (outcome : Outcome) (new : FloorState)
    → AnswersLine l team line old text outcome new → ClosesOrEmpty session line → (outcome ≡ Closed session) ⊎ (is_change outcome ≡ false)
closes_outcome l team line session old text outcome new answers closes = elim (line_cases l team line old text outcome new answers) [
  | inl out ↦ inr out.unchanged
  | inr own ↦ by_command session own.command own.answers.reply outcome (requested_closes session line own.command own.requested closes) own.answers.outcome_is
]

no_query : (session : ℕ) (o : Option (Command (List ℕ) Place)) → closes_session session o ≡ true → (line : List ℕ) → request_on line ≡ o
    → is_query_line line ≡ false
no_query session None closes line is = absurd (false≢true closes)
no_query session (Some Bye) closes line is = absurd (false≢true closes)
no_query session (Some (To team Open)) closes line is = absurd (false≢true closes)
no_query session (Some (To team (Within closed Close))) closes line is = rw is refl
no_query session (Some (To team (Within closed Sync))) closes line is = absurd (false≢true closes)
no_query session (Some (To team (Within closed Check))) closes line is = absurd (false≢true closes)
no_query session (Some (To team (Within closed Def))) closes line is = absurd (false≢true closes)
no_query session (Some (To team (Within closed (Where name)))) closes line is = absurd (false≢true closes)
no_query session (Some (To team (Within closed (Find name target)))) closes line is = absurd (false≢true closes)
no_query session (Some (To team (Within closed (Changing change)))) closes line is = absurd (false≢true closes)

pub closes_no_query : (session : ℕ) (line : List ℕ) → ClosesOrEmpty session line → is_query_line line ≡ false
closes_no_query session line (inl closes) = no_query session (request_on line) closes line refl
closes_no_query session line (inr empty) = ap is_query_line empty
