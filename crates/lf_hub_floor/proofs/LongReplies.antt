-- What is known of a step: only a query has a report or a DEF text as its reply, and a command that
-- does not last leaves the floor unchanged.
use Rattle.std.proofs.Common.{◌≡◌, inl, inr, ℕ, ◌+◌, List, [], ◌∷◌, Bool, true, false, Option, Some, None, refl, ap, sym, ◌∙◌}
use Rattle.std.specs.Prelude.{MatchBool, slice_get, slice_set}
use Rattle.std.proofs.lemmas.Bool.{false≢true}
use Rattle.std.proofs.lemmas.List.{set-get_or}
use Rattle.std.proofs.lemmas.Option.{get_or_from_slice_get}
use Rattle.lf_floorplan.specs.declared.place.Place.{Place}
use Rattle.lf_rules.specs.Legalizer.{Legalizer}
use Rattle.lf_proto.specs.declared.request.Command.{Command}
use Rattle.lf_proto.specs.declared.request.Command.TheVariants.{Bye, To}
use Rattle.lf_proto.specs.declared.request.TeamCommand.{TeamCommand}
use Rattle.lf_proto.specs.declared.request.TeamCommand.TheVariants.{Open, Within}
use Rattle.lf_proto.specs.declared.verb.Action.TheVariants.{Close, Sync, Check, Def, Where, Find, Change as Changing}
use Rattle.lf_proto.specs.declared.reply.Reply.{Reply}
use Rattle.lf_proto.specs.declared.reply.Reply.TheVariants.{Report, Def as DefText, Refused}
use Rattle.lf_proto.specs.declared.reply.Refusal.TheVariants.{OutOfMemory}
use Rattle.lf_floor_model.specs.States.{TeamState, FloorState}
use Rattle.lf_floor_model.specs.Teams.{TeamRules, team_rules, team_number}
use Rattle.lf_floor_model.specs.Outcomes.{Outcome, is_short, may_be_short}
use Rattle.lf_floor_model.specs.Verbs.{outcome_of, takes_memory, is_tested}
use Rattle.lf_floor_model.specs.VerbLaws.{is_change, replied_revision}
use Rattle.lf_floor_model.specs.Steps.{answer_at, answer_of, AllocatesNothing, IsTested, IsAnswerOf, MayRunOutOfMemory, Step}
use Rattle.lf_floor_model.specs.Journals.{is_query, is_lasting}
use Rattle.lf_floor_model.proofs.Cases.{Facts, has_text, order_facts}
use Rattle.lf_floor_model.proofs.Forms.{answer_by}
use Rattle.lf_floor_model.proofs.Journals.{leave_out}
use Rattle.lf_server.specs.Exchanges.{is_long}

-- ---- what does not last

pub kept_unless_lasting : (l : Legalizer) (old new : FloorState) (command : Command (List ℕ) Place) (reply : Reply)
    → Step l old command reply new → is_lasting command reply ≡ false → new ≡ old
kept_unless_lasting l old new command reply step idle =
    leave_out l (false ∷ []) (command ∷ []) (reply ∷ []) old new (new, step, refl) ((λ lasts. sym idle ∙ lasts), tt)

-- ---- texts

text_of_long : (reply : Reply) → is_long reply ≡ true → has_text reply ≡ true
text_of_long (Report text) long = refl
text_of_long (DefText text) long = refl
text_of_long _ long = absurd (false≢true long)

long_is_short_of_memory : (reply : Reply) → is_long reply ≡ true → may_be_short reply ≡ true
long_is_short_of_memory (Report text) long = refl
long_is_short_of_memory (DefText text) long = refl
long_is_short_of_memory _ long = absurd (false≢true long)

long_is_not_short : (reply : Reply) → is_long reply ≡ true → is_short reply ≡ false
long_is_not_short (Report text) long = refl
long_is_not_short (DefText text) long = refl
long_is_not_short _ long = absurd (false≢true long)

revision_is_not_long : (reply : Reply) (n : ℕ) → replied_revision reply ≡ Some n → is_long reply ≡ false
revision_is_not_long (Report text) n is = cc
revision_is_not_long (DefText text) n is = cc
revision_is_not_long _ n is = refl

-- A command that may have a text as its reply.
record AsksText (order : TeamCommand (List ℕ) Place) : Type 0 where
  takes : takes_memory order ≡ true
  query : (name : List ℕ) → is_query (To name order) ≡ true
  untested : (reply : Reply) → is_tested order reply ≡ false

asks_text : (order : TeamCommand (List ℕ) Place) → takes_memory order ≡ true → is_change order ≡ false → AsksText order
asks_text Open takes look = absurd (false≢true takes)
asks_text (Within session Close) takes look = absurd (false≢true takes)
asks_text (Within session Sync) takes look = absurd (false≢true takes)
asks_text (Within session Check) takes look = record { takes = takes; query = λ name. refl; untested = λ reply. refl }
asks_text (Within session Def) takes look = record { takes = takes; query = λ name. refl; untested = λ reply. refl }
asks_text (Within session (Where name)) takes look = absurd (false≢true takes)
asks_text (Within session (Find name target)) takes look = record { takes = takes; query = λ name. refl; untested = λ reply. refl }
asks_text (Within session (Changing change)) takes look = absurd (false≢true (sym look))

-- A team's command whose reply is a text leaves the team unchanged.
record IsTextOutcome (s : TeamState) (order : TeamCommand (List ℕ) Place) (o : Outcome) : Type 0 where
  same : o.team ≡ s
  asks : AsksText order

text_outcome : (t : TeamRules) (order : TeamCommand (List ℕ) Place) (s : TeamState) → is_long (outcome_of t order s).reply ≡ true
    → IsTextOutcome s order (outcome_of t order s)
text_outcome t order s = by (outcome_of t order s) (order_facts t order s) where
  by : (o : Outcome) → Facts t s order o → is_long o.reply ≡ true → IsTextOutcome s order o
  by o (inl r) long = absurd (false≢true (sym (ap (λ (o : Outcome). is_long o.reply) r.is) ∙ long))
  by o (inr (inl look)) long =
      let text = look.text (text_of_long o.reply long) in
      record { same = text.0; asks = asks_text order text.1 look.look }
  by o (inr (inr done)) long = absurd (false≢true (sym (revision_is_not_long o.reply (s.revision + 1) done.is.reported) ∙ long))

-- The same on a floor.
record IsTextAnswer (floor : FloorState) (command : Command (List ℕ) Place) (new : FloorState) : Type 0 where
  kept : new ≡ floor
  takes : AllocatesNothing command → ⊥
  query : is_query command ≡ true
  untested : (reply : Reply) → IsTested command reply → ⊥

text_by : (l : Legalizer) (floor : FloorState) (name : List ℕ) (number : ℕ) (order : TeamCommand (List ℕ) Place) (o : Option TeamState)
    → slice_get floor.teams number ≡ o → is_long (answer_by o l floor number order).reply ≡ true
    → IsTextAnswer floor (To name order) (answer_by o l floor number order).floor
text_by l floor name number order None there long = absurd (false≢true long)
text_by l floor name number order (Some s) there long =
    let text = text_outcome (team_rules l floor.frame number s.padding) order s long in
    let read : slice_set floor.teams number s ≡ floor.teams =
    ap (slice_set floor.teams number) (sym (get_or_from_slice_get floor.teams number s s there)) ∙ set-get_or floor.teams number s in
    record {
      kept = ap (λ (teams : List TeamState). record floor { teams = teams }) (ap (slice_set floor.teams number) text.same ∙ read);
      takes = λ none. false≢true (sym none ∙ text.asks.takes);
      query = text.asks.query name;
      untested = λ reply tested. false≢true (sym (text.asks.untested reply) ∙ tested);
    }

text_at : (l : Legalizer) (floor : FloorState) (name : List ℕ) (order : TeamCommand (List ℕ) Place) (o : Option ℕ)
    → is_long (answer_at o l floor order).reply ≡ true → IsTextAnswer floor (To name order) (answer_at o l floor order).floor
text_at l floor name order None long = absurd (false≢true long)
text_at l floor name order (Some number) long = text_by l floor name number order (slice_get floor.teams number) refl long

text_answer : (l : Legalizer) (floor : FloorState) (command : Command (List ℕ) Place) → is_long (answer_of l floor command).reply ≡ true
    → IsTextAnswer floor command (answer_of l floor command).floor
unfolding answer_of
text_answer l floor Bye long = absurd (false≢true long)
text_answer l floor (To name order) long = text_at l floor name order (team_number floor.frame name) long

plain_step : (l : Legalizer) (old new : FloorState) (command : Command (List ℕ) Place) (reply : Reply) (short : Bool) → short ≡ false
    → MatchBool short (MayRunOutOfMemory l old command new) (IsAnswerOf l old command reply new) → IsAnswerOf l old command reply new
plain_step l old new command reply true is step = absurd (false≢true (sym is))
plain_step l old new command reply false is step = step

pub step_answers : (l : Legalizer) (old new : FloorState) (command : Command (List ℕ) Place) (reply : Reply) → Step l old command reply new
    → is_short reply ≡ false → IsAnswerOf l old command reply new
step_answers l old new command reply step plain = plain_step l old new command reply (is_short reply) plain step

text_step : (l : Legalizer) (old new : FloorState) (command : Command (List ℕ) Place) (reply : Reply) → Step l old command reply new
    → is_long reply ≡ true → IsTextAnswer old command (answer_of l old command).floor
text_step l old new command reply step long =
    let answers = step_answers l old new command reply step (long_is_not_short reply long) in
    text_answer l old command (sym (ap is_long answers.reply_is) ∙ long)

-- Only a query has a long reply.
pub long_is_query : (l : Legalizer) (old new : FloorState) (command : Command (List ℕ) Place) (reply : Reply) → Step l old command reply new
    → is_long reply ≡ true → is_query command ≡ true
long_is_query l old new command reply step long = (text_step l old new command reply step long).query

-- A long reply may be replaced by `OutOfMemory`.
pub long_runs_out : (l : Legalizer) (old new : FloorState) (command : Command (List ℕ) Place) (reply : Reply) → Step l old command reply new
    → is_long reply ≡ true → Step l old command (Refused OutOfMemory) new
long_runs_out l old new command reply step long =
    let answers = step_answers l old new command reply step (long_is_not_short reply long) in
    let text = text_step l old new command reply step long in
    record {
      short = record {
        kept = answers.floor_is ∙ text.kept;
        may = sym (ap may_be_short answers.reply_is) ∙ long_is_short_of_memory reply long;
      };
      takes = text.takes;
      untested = text.untested (answer_of l old command).reply;
    }

not_query_not_long : (long query : Bool) → (long ≡ true → query ≡ true) → query ≡ false → long ≡ false
not_query_not_long true query only not = absurd (false≢true (sym not ∙ only refl))
not_query_not_long false query only not = refl

pub others_are_short : (l : Legalizer) (old new : FloorState) (command : Command (List ℕ) Place) (reply : Reply) → Step l old command reply new
    → is_query command ≡ false → is_long reply ≡ false
others_are_short l old new command reply step not =
    not_query_not_long (is_long reply) (is_query command) (long_is_query l old new command reply step) not
