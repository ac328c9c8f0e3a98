-- The answers to the lines of a query socket, which change nothing.
use Rattle.std.specs.Prelude.{◌≡◌, ◌⊎◌, ℕ, true, List, [], ◌∷◌, ◌++◌, Option, Some, None, slice_get, codes, MatchBool, MatchOption}
use Rattle.lf_floorplan.specs.declared.place.Place.{Place}
use Rattle.lf_rules.specs.Legalizer.{Legalizer}
use Rattle.lf_proto.specs.declared.request.Command.{Command}
use Rattle.lf_proto.specs.declared.request.Command.TheVariants.{Bye, To}
use Rattle.lf_proto.specs.declared.request.TeamCommand.{TeamCommand}
use Rattle.lf_proto.specs.declared.request.TeamCommand.TheVariants.{Open, Within}
use Rattle.lf_proto.specs.declared.verb.Action.TheVariants.{Change as Changing}
use Rattle.lf_proto.specs.declared.reply.Reply.{Reply}
use Rattle.lf_proto.specs.declared.reply.Reply.TheVariants.{Done, Opened, Refused}
use Rattle.lf_proto.specs.declared.reply.Refusal.TheVariants.{BadRequest, NoTeam, OutOfMemory}
use Rattle.lf_proto.specs.ReplyText.{reply_text}
use Rattle.lf_floor_model.specs.States.{TeamState, FloorState}
use Rattle.lf_floor_model.specs.Teams.{TeamRules, team_rules, team_number}
use Rattle.lf_floor_model.specs.Outcomes.{may_be_short}
use Rattle.lf_floor_model.specs.Verbs.{outcome_within}
use Rattle.lf_server.specs.Exchanges.{reply_text_of}
use Rattle.lf_hub_floor.specs.Answers.{is_own, name_of_team, request_on}

-- The reply to a team's command on a query socket: that of a session that has seen the team's revision.
-- `open` takes no slot. None if the command is a change.
abbrev pub query_reply : TeamRules → TeamCommand (List ℕ) Place → TeamState → Option Reply
query_reply t Open s = Some (Opened 0 s.revision)
query_reply t (Within session (Changing change)) s = None
query_reply t (Within session action) s = Some (outcome_within s.revision t session action s).reply

-- The text is that of this reply to the team, or of `OutOfMemory` in its place.
pub record ShowsReply (floor : FloorState) (name : List ℕ) (expected : Reply) (text : List ℕ) : Type 0 where
  pub reply : Reply
  pub is : (reply ≡ expected) ⊎ ((reply ≡ Refused OutOfMemory) × (may_be_short expected ≡ true))
  pub text_is : text ≡ reply_text_of floor name reply

-- The reply to a change.
abbrev pub queries_only : List ℕ
queries_only = codes "no 15 QueriesOnly" ++ 10 ∷ []

-- A command of the team of this name gets this text.
abbrev pub ShowsOrder : Legalizer → FloorState → List ℕ → TeamCommand (List ℕ) Place → List ℕ → Type 0
ShowsOrder l floor name order text =
    (number : ℕ) (s : TeamState) → team_number floor.frame name ≡ Some number → slice_get floor.teams number ≡ Some s
    → MatchOption (query_reply (team_rules l floor.frame number s.padding) order s) (text ≡ queries_only)
    (λ expected. ShowsReply floor name expected text)

abbrev pub ShowsOwn : Legalizer → FloorState → Command (List ℕ) Place → List ℕ → Type 0
ShowsOwn l floor Bye text = text ≡ reply_text Done [] []
ShowsOwn l floor (To name order) text = ShowsOrder l floor name order text

-- A line by the query socket of the team of this number gets this text.
abbrev pub ShowsLine : Legalizer → ℕ → List ℕ → FloorState → List ℕ → Type 0
ShowsLine l team line floor text =
    MatchOption (request_on line) (text ≡ reply_text (Refused BadRequest) [] [])
    (λ command. MatchBool (is_own (name_of_team floor.frame team) command) (ShowsOwn l floor command text)
    (text ≡ reply_text (Refused NoTeam) [] []))

-- The same, whichever way places are searched for.
abbrev pub Shows : ℕ → List ℕ → FloorState → List ℕ → Type 0
Shows team line floor text = (l : Legalizer) → ShowsLine l team line floor text
