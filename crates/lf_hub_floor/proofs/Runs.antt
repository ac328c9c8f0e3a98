-- What the lines of a hub do to the floor is a run, and changes no other team.
use Rattle.std.proofs.Common.{◌≡◌, inl, inr, ℕ, List, [], ◌∷◌, Bool, true, false, cond, Option, Some, refl, ap, sym, ◌∙◌, subst}
use Rattle.std.specs.Prelude.{MatchBool}
use Rattle.std.proofs.lemmas.Bool.{false≢true}
use Rattle.lf_floorplan.specs.declared.place.Place.{Place}
use Rattle.lf_rules.specs.Legalizer.{Legalizer}
use Rattle.lf_proto.specs.declared.request.Command.{Command}
use Rattle.lf_proto.specs.declared.reply.Reply.{Reply}
use Rattle.lf_floor_model.specs.States.{FloorState}
use Rattle.lf_floor_model.specs.Teams.{state_of}
use Rattle.lf_floor_model.specs.Outcomes.{is_short}
use Rattle.lf_floor_model.specs.Steps.{IsAnswerOf, IsTo, MayRunOutOfMemory}
use Rattle.lf_floor_model.specs.Runs.{Run}
use Rattle.lf_floor_model.specs.Journals.{is_lasting, marked, which_last}
use Rattle.lf_floor_model.proofs.Answering.{others_kept}
use Rattle.lf_floor_model.proofs.Isolation.{step_frame}
use Rattle.lf_server.specs.Laws.{with_command}
use Rattle.lf_hub_clients.specs.declared.client.Access.{Access}
use Rattle.lf_hub_clients.specs.declared.client.Access.TheVariants.{Changes, Queries}
use Rattle.lf_hub_clients.specs.declared.floor.Outcome.{Outcome}
use Rattle.lf_hub_clients.specs.Turns.{Turn, FloorAnswers, IsAnswered, is_change}
use Rattle.lf_hub_floor.specs.Answers.{Answers, name_of_team, request_on}
use Rattle.lf_hub_floor.specs.QueryAnswers.{Shows}
use Rattle.lf_hub_floor.specs.Laws.{ChangesCanBeRecorded, IsRunOf, KeepsOthers, OthersAreKept, TurnsRun, changes_in}
use Rattle.lf_hub_floor.proofs.LineCases.{IsOut, IsOwnLine, change_is_lasting, lasting_is_no_query, lasting_is_ok, line_cases, own_is_to}
use Rattle.lf_hub_floor.proofs.LongReplies.{others_are_short}
use Rattle.lf_hub_floor.proofs.Recording.{can_be_recorded, request_line}

-- ---- runs

mark_is : {X : Type 0} (b : Bool) (marks : List Bool) (x : X) (xs : List X) → marked (b ∷ marks) (x ∷ xs) ≡ cond b (x ∷ marked marks xs) (marked marks xs)
mark_is true marks x xs = refl
mark_is false marks x xs = refl

module _ (l : Legalizer) (t : Turn) (ts : List Turn) (old next new : FloorState) (run : IsRunOf l next ts new) where
  -- The accepted changes among this line and the later ones.
  abbrev counted : Option (Command (List ℕ) Place) → Bool → List (Command (List ℕ) Place)
  counted requested b = cond b (with_command requested (changes_in ts)) (changes_in ts)

  idle : next ≡ old → is_change t.outcome ≡ false → IsRunOf l old (t ∷ ts) new
  idle kept unchanged = record {
    commands = run.commands;
    replies = run.replies;
    run = subst (λ (f : FloorState). Run l f run.commands run.replies new) kept run.run;
    changes = run.changes ∙ sym (ap (counted (request_on t.line)) unchanged);
  }

  own_line : IsOwnLine l t.team t.line old t.reply t.outcome next → IsRunOf l old (t ∷ ts) new
  own_line own =
      let lasts = is_lasting own.command own.answers.reply in
      let is : is_change t.outcome ≡ lasts = ap is_change own.answers.outcome_is ∙ change_is_lasting own.command own.answers.reply in
      record {
        commands = own.command ∷ run.commands;
        replies = own.answers.reply ∷ run.replies;
        run = (next, own.answers.steps.step, run.run);
        changes =
            mark_is lasts (which_last run.commands run.replies) own.command run.commands
            ∙ (ap (λ (cs : List (Command (List ℕ) Place)). cond lasts (own.command ∷ cs) cs) run.changes
            ∙ (ap (counted (Some own.command)) (sym is)
            ∙ ap (λ (requested : Option (Command (List ℕ) Place)). counted requested (is_change t.outcome)) (sym own.requested)));
      }

  by_access : (access : Access) → FloorAnswers Answers Shows access old t next → IsRunOf l old (t ∷ ts) new
  by_access Changes (answers, kept) = elim (line_cases l t.team t.line old t.reply t.outcome next (answers l)) [
    | inl out ↦ idle out.kept out.unchanged
    | inr own ↦ own_line own
  ]
  by_access Queries (shows, outcome_is, kept) = idle kept (ap is_change outcome_is)

  turn_run : IsAnswered Answers Shows old t next → IsRunOf l old (t ∷ ts) new
  turn_run (inl answers) = by_access t.access answers
  turn_run (inr (text_is, outcome_is, kept)) = idle kept (ap is_change outcome_is)

pub run_turns : TurnsRun
run_turns l [] old new follows = record { commands = []; replies = []; run = follows; changes = refl }
run_turns l (t ∷ ts) old new (next, taken, rest) = turn_run l t ts old next new (run_turns l ts next new rest) taken

-- ---- the other teams

step_others : (l : Legalizer) (old new : FloorState) (command : Command (List ℕ) Place) (reply : Reply) (other : List ℕ) (short : Bool)
    → MatchBool short (MayRunOutOfMemory l old command new) (IsAnswerOf l old command reply new) → ¬ IsTo other command
    → state_of new other ≡ state_of old other
step_others l old new command reply other true step away = ap (λ (f : FloorState). state_of f other) step.short.kept
step_others l old new command reply other false step away =
    ap (λ (f : FloorState). state_of f other) step.floor_is ∙ others_kept l old command other away

out_others : (team : ℕ) (old : FloorState) (outcome : Outcome) (new : FloorState) → IsOut old outcome new → KeepsOthers team old new
out_others team old outcome new out = record {
  frame = ap (λ (f : FloorState). f.frame) out.kept;
  others = λ other differs. ap (λ (f : FloorState). state_of f other) out.kept;
}

own_others : (l : Legalizer) (team : ℕ) (line : List ℕ) (old : FloorState) (text : List ℕ) (outcome : Outcome) (new : FloorState)
    → IsOwnLine l team line old text outcome new → KeepsOthers team old new
own_others l team line old text outcome new own =
    let reply = own.answers.reply in
    let step = own.answers.steps.step in
    record {
      frame = step_frame l old new own.command reply (is_short reply) step;
      others = λ other differs. step_others l old new own.command reply other (is_short reply) step
          (own_is_to (name_of_team old.frame team) own.command other own.own differs);
    }

pub keeps_others : OthersAreKept
keeps_others l team line text outcome old new answers = elim (line_cases l team line old text outcome new answers) [
  | inl out ↦ out_others team old outcome new out
  | inr own ↦ own_others l team line old text outcome new own
]

-- ---- records

pub changes_are_lines : ChangesCanBeRecorded
changes_are_lines l team line text outcome old new answers changes = elim (line_cases l team line old text outcome new answers) [
  | inl out ↦ absurd (false≢true (sym out.unchanged ∙ changes))
  | inr own ↦
      let reply = own.answers.reply in
      let lasts : is_lasting own.command reply ≡ true =
      sym (change_is_lasting own.command reply) ∙ (sym (ap is_change own.answers.outcome_is) ∙ changes) in
      can_be_recorded line text reply _ _ (request_line line own.command own.requested) (lasting_is_ok own.command reply lasts)
      (others_are_short l old new own.command reply own.answers.steps.step (lasting_is_no_query own.command reply lasts))
      own.answers.steps.text_is
]
