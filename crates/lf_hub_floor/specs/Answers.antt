-- The answers to the lines of a team's socket.
use Rattle.std.specs.Prelude.{◌≡◌, ℕ, Bool, true, false, not, ◌==◌, cond, List, [], Option, Some, None, option_and_then, slice_get, bytes_eq, MatchBool, MatchOption}
use Rattle.std.specs.Option.{option_map_or}
use Rattle.lf_floorplan.specs.declared.frame.Frame.{Frame}
use Rattle.lf_floorplan.specs.declared.place.Place.{Place}
use Rattle.lf_rules.specs.Legalizer.{Legalizer}
use Rattle.lf_proto.specs.declared.request.Command.{Command}
use Rattle.lf_proto.specs.declared.request.Command.TheVariants.{Bye, To}
use Rattle.lf_proto.specs.declared.request.TeamCommand.{TeamCommand}
use Rattle.lf_proto.specs.declared.request.TeamCommand.TheVariants.{Open, Within}
use Rattle.lf_proto.specs.declared.verb.Action.{Action}
use Rattle.lf_proto.specs.declared.verb.Action.TheVariants.{Close}
use Rattle.lf_proto.specs.declared.reply.Reply.{Reply}
use Rattle.lf_proto.specs.declared.reply.Reply.TheVariants.{Done, Opened as OpenedReply, Refused}
use Rattle.lf_proto.specs.declared.reply.Refusal.TheVariants.{BadRequest, NoTeam}
use Rattle.lf_proto.specs.ReplyText.{reply_text}
use Rattle.lf_proto.specs.Stream.{ended_line}
use Rattle.lf_floor_model.specs.States.{FloorState}
use Rattle.lf_floor_model.specs.Teams.{team_names}
use Rattle.lf_floor_model.specs.Journals.{is_query, is_lasting}
use Rattle.lf_server.specs.Exchanges.{Line, StepsOn, requested_on}
use Rattle.lf_hub_clients.specs.declared.floor.Outcome.{Outcome}
use Rattle.lf_hub_clients.specs.declared.floor.Outcome.TheVariants.{Unchanged, Changed, Opened, Closed, Named, Ended}
use Rattle.lf_hub_lines.specs.declared.hub_line.HubLine.{HubLine}
use Rattle.lf_hub_lines.specs.declared.hub_line.HubLine.TheVariants.{Label}
use Rattle.lf_hub_lines.specs.HubLines.{hub_line_on}

-- ---- what a line asks for

-- The request of a line as it came, which may have a carriage return at its end.
abbrev pub request_on : List ℕ → Option (Command (List ℕ) Place)
request_on line = requested_on (ended_line line)

abbrev pub is_label_line : HubLine (List ℕ) → Bool
is_label_line (Label name) = true
is_label_line _ = false

-- Whether the line gives its connection a label.
abbrev pub gives_label : Line → Bool
gives_label line = option_map_or is_label_line (option_and_then hub_line_on line) false

-- The name of the team of this number.
abbrev pub name_of_team : Frame → ℕ → Option (List ℕ)
name_of_team f team = slice_get (team_names f) team

-- Whether the command is `bye`, or one of the team of this name.
abbrev pub is_own : Option (List ℕ) → Command (List ℕ) Place → Bool
is_own name Bye = true
is_own None (To team order) = false
is_own (Some name) (To team order) = bytes_eq team name

-- Whether the line asks for something and cannot be a change; and whether it may be one.
abbrev pub is_query_line : List ℕ → Bool
is_query_line line = option_map_or is_query (request_on line) false

abbrev pub can_change : List ℕ → Bool
can_change line = option_map_or (λ command. not (is_query command)) (request_on line) false

-- Whether the request closes this session of a team.
abbrev pub closes_by : ℕ → Command (List ℕ) Place → Bool
closes_by session (To team (Within closed Close)) = closed == session
closes_by session command = false

abbrev pub closes_session : ℕ → Option (Command (List ℕ) Place) → Bool
closes_session session requested = option_map_or (closes_by session) requested false

-- ---- outcomes

-- Whether the action is a query, whatever its team and session.
abbrev pub is_query_action : Action (List ℕ) Place → Bool
is_query_action action = is_query (To [] (Within 0 action))

-- What an accepted command that is not a query does.
abbrev pub change_made : TeamCommand (List ℕ) Place → Reply → Outcome
change_made Open (OpenedReply session revision) = Opened session
change_made (Within session Close) reply = Closed session
change_made order reply = Changed

-- The outcome of a command with this reply: what lasts is a change.
abbrev pub outcome_of : Command (List ℕ) Place → Reply → Outcome
outcome_of Bye reply = Ended
outcome_of (To team order) reply = cond (is_lasting (To team order) reply) (change_made order reply) Unchanged

-- ---- answers

-- The line does not reach the floor. It gets this reply, and has this outcome.
pub record StaysOut (reply : Reply) (meaning : Outcome) (old : FloorState) (text : List ℕ) (outcome : Outcome)
    (new : FloorState) : Type 0 where
  pub text_is : text ≡ reply_text reply [] []
  pub outcome_is : outcome ≡ meaning
  pub kept : new ≡ old

-- The line is a command of the team, or `bye`: one step of the floor.
pub record AnswersOwn (l : Legalizer) (old : FloorState) (command : Command (List ℕ) Place) (text : List ℕ)
    (outcome : Outcome) (new : FloorState) : Type 0 where
  pub reply : Reply
  pub steps : StepsOn l old command reply text new
  pub outcome_is : outcome ≡ outcome_of command reply

-- The line is a request: another team's gets `NoTeam`.
abbrev pub AnswersRequest : Legalizer → ℕ → Command (List ℕ) Place → FloorState → List ℕ → Outcome → FloorState → Type 0
AnswersRequest l team command old text outcome new =
    MatchBool (is_own (name_of_team old.frame team) command) (AnswersOwn l old command text outcome new)
    (StaysOut (Refused NoTeam) Unchanged old text outcome new)

-- The line is not a request: a label is accepted.
abbrev pub AnswersNoRequest : Line → FloorState → List ℕ → Outcome → FloorState → Type 0
AnswersNoRequest line old text outcome new =
    MatchBool (gives_label line) (StaysOut Done Named old text outcome new)
    (StaysOut (Refused BadRequest) Unchanged old text outcome new)

-- A line by the socket of the team of this number gets this text and outcome, and the floor changes
-- from `old` to `new`.
abbrev pub AnswersLine : Legalizer → ℕ → List ℕ → FloorState → List ℕ → Outcome → FloorState → Type 0
AnswersLine l team line old text outcome new =
    MatchOption (request_on line) (AnswersNoRequest (ended_line line) old text outcome new)
    (λ command. AnswersRequest l team command old text outcome new)

-- The same, whichever way places are searched for.
abbrev pub Answers : ℕ → List ℕ → FloorState → List ℕ → Outcome → FloorState → Type 0
Answers team line old text outcome new = (l : Legalizer) → AnswersLine l team line old text outcome new
