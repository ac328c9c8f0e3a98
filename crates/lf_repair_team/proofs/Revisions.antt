-- Each accepted change of a team adds 1 to its revision.
use Rattle.std.proofs.Common.{◌≡◌, inl, inr, ℕ, ◌+◌, List, [], ◌∷◌, Bool, true, false, cond, Option, Some, None, refl, ap, sym, ◌∙◌, subst, arith}
use Rattle.std.specs.Prelude.{All}
use Rattle.std.specs.Option.{option_map}
use Rattle.std.proofs.lemmas.List.Elements.{All-head, All-tail}
use Rattle.std.proofs.lemmas.List.Sums.{sum_by-cons}
use Rattle.lf_floorplan.specs.declared.place.Place.{Place}
use Rattle.lf_rules.specs.Legalizer.{Legalizer}
use Rattle.lf_proto.specs.declared.request.Command.{Command}
use Rattle.lf_proto.specs.declared.request.Command.TheVariants.{Bye, To}
use Rattle.lf_proto.specs.declared.request.TeamCommand.{TeamCommand}
use Rattle.lf_proto.specs.declared.reply.Reply.{Reply}
use Rattle.lf_proto.specs.declared.reply.Reply.TheVariants.{Refused}
use Rattle.lf_proto.specs.declared.reply.Refusal.TheVariants.{NoTeam}
use Rattle.lf_floor_model.specs.States.{FloorState, TeamState}
use Rattle.lf_floor_model.specs.Teams.{TeamRules, state_of, team_rules}
use Rattle.lf_floor_model.specs.Outcomes.{Outcome, is_short}
use Rattle.lf_floor_model.specs.Runs.{Run}
use Rattle.lf_floor_model.specs.Steps.{Answer, IsAnswerOf, IsTo, Step}
use Rattle.lf_floor_model.specs.Verbs.{outcome_of}
use Rattle.lf_floor_model.specs.VerbLaws.{is_accepted, is_change, is_ok}
use Rattle.lf_floor_model.proofs.Answering.{own_answer}
use Rattle.lf_floor_model.proofs.Cases.{Facts, order_facts}
use Rattle.lf_floor_model.proofs.Kept.{granted_plain}
use Rattle.lf_floor_model.proofs.LegalPlaces.{none_some, some_one}
use Rattle.lf_floor_model.proofs.Running.{plain_answers}
use Rattle.lf_repair_team.specs.Runs.{IsRunBy, changes_among, is_team_change, revision_in}
use Rattle.lf_repair_team.proofs.Settings.{no_team_answers, number_of_state}

-- what a command adds
abbrev pub added : Bool → ℕ
added b = cond b 1 0

false_true : false ≡ true → ⊥
false_true e = cc

outcome_revision : (t : TeamRules) (order : TeamCommand (List ℕ) Place) (s : TeamState) → is_accepted (outcome_of t order s) ≡ true
    → (outcome_of t order s).team.revision ≡ s.revision + added (is_change order)
outcome_revision t order s accepted = by (outcome_of t order s) accepted (order_facts t order s) where
  none : s.revision ≡ s.revision + 0
  none = omega arith

  by : (o : Outcome) → is_accepted o ≡ true → Facts t s order o → o.team.revision ≡ s.revision + added (is_change order)
  by o granted (inl refusal) = absurd (false_true (sym (ap is_accepted refusal.is) ∙ granted))
  by o granted (inr (inl look)) =
      elim look.team [ inl same ↦ ap (λ (n : TeamState). n.revision) same | inr slot ↦ ap (λ (n : TeamState). n.revision) slot.is ]
      ∙ none ∙ ap (λ (b : Bool). s.revision + added b) (sym look.look)
  by o granted (inr (inr done)) =
      ap (λ (n : TeamState). n.revision) done.is.team ∙ ap (λ (order : TeamCommand (List ℕ) Place). s.revision + added (is_change order)) (sym done.order_is)

-- one accepted command of the team
step_revision : (l : Legalizer) (old new : FloorState) (team : List ℕ) (order : TeamCommand (List ℕ) Place) (reply : Reply) (revision : ℕ)
    → Step l old (To team order) reply new → is_ok reply ≡ true → revision_in old team ≡ Some revision
    → revision_in new team ≡ Some (revision + added (is_change order))
step_revision l old new team order reply revision step granted was = go (state_of old team) refl was where
  answer : IsAnswerOf l old (To team order) reply new
  answer = plain_answers l old new (To team order) reply (is_short reply) (granted_plain reply granted) step

  go : (o : Option TeamState) → state_of old team ≡ o → option_map (λ (s : TeamState). s.revision) o ≡ Some revision
      → revision_in new team ≡ Some (revision + added (is_change order))
  go None there is = absurd (none_some is)
  go (Some s) there is =
      let at = number_of_state old team s there in
      let t = team_rules l old.frame at.0 s.padding in
      let own = own_answer l old team at.0 order s at.1 there in
      let accepted : is_accepted (outcome_of t order s) ≡ true = ap is_ok (sym (answer.reply_is ∙ own.0)) ∙ granted in
      ap (λ (f : FloorState). revision_in f team) answer.floor_is ∙ ap (λ (o : Option TeamState). option_map (λ (u : TeamState). u.revision) o) own.1
      ∙ ap (λ (n : ℕ). Some n) (outcome_revision t order s accepted ∙ ap (λ (n : ℕ). n + added (is_change order)) (some_one is))

command_revision : (l : Legalizer) (old new : FloorState) (team : List ℕ) (command : Command (List ℕ) Place) (reply : Reply) (revision : ℕ) → IsTo team command
    → Step l old command reply new → is_ok reply ≡ true → revision_in old team ≡ Some revision → revision_in new team ≡ Some (revision + added (is_team_change command))
command_revision l old new team Bye reply revision to step granted was = absurd to
command_revision l old new team (To name order) reply revision to step granted was =
    subst (λ (n : List ℕ). revision_in new n ≡ Some (revision + added (is_change order))) to
    (step_revision l old new name order reply revision step granted (subst (λ (n : List ℕ). revision_in old n ≡ Some revision) (sym to) was))

counted : (d : Command (List ℕ) Place) (ds : List (Command (List ℕ) Place)) (revision : ℕ) → revision + added (is_team_change d) + changes_among ds ≡ revision + changes_among (d ∷ ds)
counted d ds revision =
    let one : changes_among (d ∷ ds) ≡ added (is_team_change d) + changes_among ds = sum_by-cons (λ (c : Command (List ℕ) Place). added (is_team_change c)) d ds in
    omega (arith, one)

-- all commands of a run
commands_revision : (commands : List (Command (List ℕ) Place)) (replies : List Reply) (l : Legalizer) (team : List ℕ) (old new : FloorState) (revision : ℕ) → Run l old commands replies new
    → All (λ reply. is_ok reply ≡ true) replies → All (IsTo team) commands → revision_in old team ≡ Some revision
    → revision_in new team ≡ Some (revision + changes_among commands)
commands_revision [] [] l team old new revision run granted own was =
    ap (λ (f : FloorState). revision_in f team) run ∙ was ∙ ap (λ (n : ℕ). Some n) (omega arith)
commands_revision (d ∷ ds) (r ∷ rs) l team old new revision run granted own was =
    let first = command_revision l old run.0 team d r revision (All-head (IsTo team) d ds own) run.1 (All-head (λ (reply : Reply). is_ok reply ≡ true) r rs granted) was in
    commands_revision ds rs l team run.0 new (revision + added (is_team_change d)) run.2 (All-tail (λ (reply : Reply). is_ok reply ≡ true) r rs granted) (All-tail (IsTo team) d ds own) first
    ∙ ap (λ (n : ℕ). Some n) (counted d ds revision)
commands_revision [] (r ∷ rs) l team old new revision run granted own was = absurd run
commands_revision (d ∷ ds) [] l team old new revision run granted own was = absurd run

pub run_revision : (commands : List (Command (List ℕ) Place)) (l : Legalizer) (team : List ℕ) (old new : FloorState) (revision : ℕ) → IsRunBy commands l team old new
    → revision_in old team ≡ Some revision → revision_in new team ≡ Some (revision + changes_among commands)
run_revision commands l team old new revision run was = commands_revision commands run.replies l team old new revision run.run run.granted run.own was
