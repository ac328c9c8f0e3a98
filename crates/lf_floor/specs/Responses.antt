-- Replies whose DEF text is written separately.
use Rattle.std.specs.Prelude.{◌≡◌, ◌⊎◌, ℕ, ◌^◌, ◌≤◌, List, [], length, Option, Some, None, slice_get}
use Rattle.lf_floorplan.specs.declared.frame.Frame.{Frame}
use Rattle.lf_floorplan.specs.declared.place.Place.{Place}
use Rattle.lf_rules.specs.Legalizer.{Legalizer}
use Rattle.lf_proto.specs.declared.reply.Reply.{Reply}
use Rattle.lf_proto.specs.declared.reply.Reply.TheVariants.{Def}
use Rattle.lf_proto.specs.declared.request.Command.{Command}
use Rattle.lf_proto.specs.declared.request.Command.TheVariants.{Bye, To}
use Rattle.lf_proto.specs.declared.request.TeamCommand.{TeamCommand}
use Rattle.lf_proto.specs.declared.request.TeamCommand.TheVariants.{Within}
use Rattle.lf_proto.specs.declared.verb.Action.TheVariants.{Def as RequestDef}
use Rattle.lf_team_def.specs.TeamText.{team_text}
use Rattle.lf_floor_model.specs.States.{FloorState, TeamState}
use Rattle.lf_floor_model.specs.Steps.{IsAnswerOf}
use Rattle.lf_floor_model.specs.Teams.{team_number}
use Rattle.lf_floor.specs.declared.response.Response.{Response}
use Rattle.lf_floor.specs.declared.response.Response.TheVariants.{Reply as Whole, DefText}

-- the team of a command; bye has no team
abbrev pub team_addressed : Command (List ℕ) Place → List ℕ
team_addressed Bye = []
team_addressed (To team order) = team

-- the DEF text of a team in that state, with its cells at their working places; empty if there is
-- no such team
abbrev pub text_by : Frame → ℕ → Option TeamState → List ℕ
text_by f number None = []
text_by f number (Some s) = team_text f number s.cells

-- the DEF text of the team of that number
abbrev pub text_at : FloorState → Option ℕ → List ℕ
text_at floor None = []
text_at floor (Some number) = text_by floor.frame number (slice_get floor.teams number)

-- the DEF text of the team of that name
abbrev pub def_text : FloorState → List ℕ → List ℕ
def_text floor team = text_at floor (team_number floor.frame team)

-- the reply to a command of the team of that name, with the DEF text of the floor
abbrev pub reply_in : FloorState → List ℕ → Response → Reply
reply_in floor team (Whole reply) = reply
reply_in floor team (DefText length) = Def (def_text floor team)

-- the team's command requests its DEF text
abbrev pub WantsTeamText : TeamCommand (List ℕ) Place → Type 0
WantsTeamText (Within session RequestDef) = Unit {0}
WantsTeamText _ = ⊥

-- the command requests a DEF text
abbrev pub WantsText : Command (List ℕ) Place → Type 0
WantsText Bye = ⊥
WantsText (To team order) = WantsTeamText order

-- if the reply by the rules is a DEF text, the response is that text; a text of 2^64 bytes or more,
-- which cannot be counted, may be refused
abbrev pub RespondsWithText : FloorState → Command (List ℕ) Place → Response → Type 0
RespondsWithText floor command response =
    (l : Legalizer) (text : List ℕ) → WantsText command → IsAnswerOf l floor command (Def text) floor
    → (response ≡ DefText (length text)) ⊎ (2 ^ 64 ≤ length text)
