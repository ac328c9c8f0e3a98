-- The cases of a line: it does not reach the floor, or it is one step of it.
use Rattle.std.proofs.Common.{◌≡◌, ◌≢◌, ◌⊎◌, inl, inr, ℕ, List, Bool, true, false, cond, not, ◌&&◌, Option, Some, None, refl, ap, sym, ◌∙◌}
use Rattle.std.specs.Prelude.{MatchBool, MatchOption}
use Rattle.std.proofs.lemmas.Bool.{false≢true}
use Rattle.std.proofs.lemmas.Slice.Eq.{bytes_eq-Decides}
use Rattle.lf_floorplan.specs.declared.place.Place.{Place}
use Rattle.lf_rules.specs.Legalizer.{Legalizer}
use Rattle.lf_proto.specs.declared.request.Command.{Command}
use Rattle.lf_proto.specs.declared.request.Command.TheVariants.{Bye, To}
use Rattle.lf_proto.specs.declared.request.TeamCommand.{TeamCommand}
use Rattle.lf_proto.specs.declared.request.TeamCommand.TheVariants.{Open, Within}
use Rattle.lf_proto.specs.declared.verb.Action.{Action}
use Rattle.lf_proto.specs.declared.verb.Action.TheVariants.{Close, Sync, Check, Def, Where, Find, Change as Changing}
use Rattle.lf_proto.specs.declared.reply.Reply.{Reply}
use Rattle.lf_proto.specs.declared.reply.Reply.TheVariants.{Done, Opened as OpenedReply, Revision, At, Legalized, Tidied, Report, Def as DefText, Refused}
use Rattle.lf_proto.specs.declared.reply.Refusal.TheVariants.{BadRequest, NoTeam}
use Rattle.lf_proto.specs.Stream.{ended_line}
use Rattle.lf_floor_model.specs.States.{FloorState}
use Rattle.lf_floor_model.specs.Journals.{is_query, is_lasting}
use Rattle.lf_floor_model.specs.Steps.{IsTo}
use Rattle.lf_floor_model.specs.VerbLaws.{is_ok}
use Rattle.lf_hub_clients.specs.declared.floor.Outcome.{Outcome}
use Rattle.lf_hub_clients.specs.declared.floor.Outcome.TheVariants.{Unchanged, Named}
use Rattle.lf_hub_clients.specs.Turns.{is_change}
use Rattle.lf_hub_floor.specs.Answers.{AnswersLine, AnswersNoRequest, AnswersOwn, AnswersRequest, StaysOut, change_made, gives_label, is_own, name_of_team, outcome_of, request_on}

-- ---- outcomes

made_within : (session : ℕ) (action : Action (List ℕ) Place) (reply : Reply) → is_change (change_made (Within session action) reply) ≡ true
made_within session Close reply = refl
made_within session Sync reply = refl
made_within session Check reply = refl
made_within session Def reply = refl
made_within session (Where name) reply = refl
made_within session (Find name target) reply = refl
made_within session (Changing change) reply = refl

made_open : (reply : Reply) → is_change (change_made Open reply) ≡ true
made_open Done = refl
made_open (OpenedReply session revision) = refl
made_open (Revision revision) = refl
made_open (At place) = refl
made_open (Legalized revision place) = refl
made_open (Tidied revision moved) = refl
made_open (Report text) = refl
made_open (DefText text) = refl
made_open (Refused refusal) = refl

made_changes : (order : TeamCommand (List ℕ) Place) (reply : Reply) → is_change (change_made order reply) ≡ true
made_changes Open reply = made_open reply
made_changes (Within session action) reply = made_within session action reply

if_lasting : (b : Bool) (order : TeamCommand (List ℕ) Place) (reply : Reply) → is_change (cond b (change_made order reply) Unchanged) ≡ b
if_lasting true order reply = made_changes order reply
if_lasting false order reply = refl

and_false : (b : Bool) → (b && false) ≡ false
and_false true = refl
and_false false = refl

-- What lasts is a change.
pub change_is_lasting : (command : Command (List ℕ) Place) (reply : Reply) → is_change (outcome_of command reply) ≡ is_lasting command reply
change_is_lasting Bye reply = sym (and_false (is_ok reply))
change_is_lasting (To team order) reply = if_lasting (is_lasting (To team order) reply) order reply

and_first : (a b : Bool) → (a && b) ≡ true → a ≡ true
and_first true b e = refl
and_first false b e = e

and_not : (a b : Bool) → (a && not b) ≡ true → b ≡ false
and_not true true e = sym e
and_not true false e = refl
and_not false b e = absurd (false≢true e)

pub lasting_is_ok : (command : Command (List ℕ) Place) (reply : Reply) → is_lasting command reply ≡ true → is_ok reply ≡ true
lasting_is_ok command reply lasts = and_first (is_ok reply) (not (is_query command)) lasts

pub lasting_is_no_query : (command : Command (List ℕ) Place) (reply : Reply) → is_lasting command reply ≡ true → is_query command ≡ false
lasting_is_no_query command reply lasts = and_not (is_ok reply) (is_query command) lasts

-- ---- lines

-- The floor is as it was.
pub record IsOut (old : FloorState) (outcome : Outcome) (new : FloorState) : Type 0 where
  pub kept : new ≡ old
  pub unchanged : is_change outcome ≡ false

-- The line is a command of the team, or `bye`.
pub record IsOwnLine (l : Legalizer) (team : ℕ) (line : List ℕ) (old : FloorState) (text : List ℕ) (outcome : Outcome)
    (new : FloorState) : Type 0 where
  pub command : Command (List ℕ) Place
  pub requested : request_on line ≡ Some command
  pub own : is_own (name_of_team old.frame team) command ≡ true
  pub answers : AnswersOwn l old command text outcome new

out_of : (reply : Reply) (meaning : Outcome) (old : FloorState) (text : List ℕ) (outcome : Outcome) (new : FloorState)
    → is_change meaning ≡ false → StaysOut reply meaning old text outcome new → IsOut old outcome new
out_of reply meaning old text outcome new idle out = record { kept = out.kept; unchanged = ap is_change out.outcome_is ∙ idle }

module _ (l : Legalizer) (team : ℕ) (line : List ℕ) (old : FloorState) (text : List ℕ) (outcome : Outcome) (new : FloorState) where
  abbrev Cases : Type 0
  Cases = IsOut old outcome new ⊎ IsOwnLine l team line old text outcome new

  by_label : (b : Bool)
      → MatchBool b (StaysOut Done Named old text outcome new) (StaysOut (Refused BadRequest) Unchanged old text outcome new) → Cases
  by_label true out = inl (out_of Done Named old text outcome new refl out)
  by_label false out = inl (out_of (Refused BadRequest) Unchanged old text outcome new refl out)

  by_own : (command : Command (List ℕ) Place) → request_on line ≡ Some command → (b : Bool) → is_own (name_of_team old.frame team) command ≡ b
      → MatchBool b (AnswersOwn l old command text outcome new) (StaysOut (Refused NoTeam) Unchanged old text outcome new) → Cases
  by_own command requested true own answers = inr (record { command = command; requested = requested; own = own; answers = answers })
  by_own command requested false own out = inl (out_of (Refused NoTeam) Unchanged old text outcome new refl out)

  by_request : (o : Option (Command (List ℕ) Place)) → request_on line ≡ o
      → MatchOption o (AnswersNoRequest (ended_line line) old text outcome new) (λ command. AnswersRequest l team command old text outcome new)
      → Cases
  by_request None requested answers = by_label (gives_label (ended_line line)) answers
  by_request (Some command) requested answers = by_own command requested (is_own (name_of_team old.frame team) command) refl answers

  pub line_cases : AnswersLine l team line old text outcome new → Cases
  line_cases answers = by_request (request_on line) refl answers

-- The own team's command does not go to another team.
pub own_is_to : (name : Option (List ℕ)) (command : Command (List ℕ) Place) (other : List ℕ) → is_own name command ≡ true → name ≢ Some other
    → ¬ IsTo other command
own_is_to name Bye other own differs = λ to. to
own_is_to None (To team order) other own differs = absurd (false≢true own)
own_is_to (Some name) (To team order) other own differs =
    λ to. differs (ap (λ (n : List ℕ). Some n) (sym ((bytes_eq-Decides team name).0 own) ∙ to))
