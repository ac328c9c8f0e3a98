-- The requests of a connection's lines, and the reply to each.
use Rattle.std.specs.Prelude.{◌≡◌, ℕ, Bool, true, false, List, [], ◌∷◌, ◌++◌, map, Option, Some, None, option_and_then, unwrap_or, MatchOption}
use Rattle.lf_floorplan.specs.declared.place.Place.{Place}
use Rattle.lf_rules.specs.Legalizer.{Legalizer}
use Rattle.lf_proto.specs.declared.request.Command.{Command}
use Rattle.lf_proto.specs.declared.request.Command.TheVariants.{Bye, To}
use Rattle.lf_proto.specs.declared.reply.Reply.{Reply}
use Rattle.lf_proto.specs.declared.reply.Reply.TheVariants.{Report, Def, Refused}
use Rattle.lf_proto.specs.declared.reply.Refusal.TheVariants.{BadRequest, Unplaced, NoPlace, Illegal}
use Rattle.lf_proto.specs.ReplyText.{reply_text}
use Rattle.lf_proto.specs.Requests.{command_on}
use Rattle.lf_floor_model.specs.States.{FloorState}
use Rattle.lf_floor_model.specs.Teams.{state_of}
use Rattle.lf_floor_model.specs.Outcomes.{name_at}
use Rattle.lf_floor_model.specs.Steps.{Step}
use Rattle.lf_floor.specs.Responses.{team_addressed}
use Rattle.lf_server.specs.Devices.{Writer, SendsText, BreaksText}

-- A line without its line end, or `None` if it is over the limit.
abbrev pub Line : Type 0
Line = Option (List ℕ)

-- The request of a line. A line over the limit has no request.
abbrev pub requested_on : Line → Option (Command (List ℕ) Place)
requested_on line = option_and_then command_on line

-- True if the request is 'bye'.
abbrev pub requests_end : Option (Command (List ℕ) Place) → Bool
requests_end (Some Bye) = true
requests_end (Some (To team order)) = false
requests_end None = false

abbrev pub is_bye : Line → Bool
is_bye line = requests_end (requested_on line)

-- ---- the text of a reply

-- The positions of the cells that a reply names: the cell, and the other cell.
abbrev pub reply_cells : Reply → Option ℕ × Option ℕ
reply_cells (Refused (Unplaced cell)) = (Some cell, None)
reply_cells (Refused (NoPlace cell)) = (Some cell, None)
reply_cells (Refused (Illegal rule cell other)) = (Some cell, other)
reply_cells _ = (None, None)

-- The name of the team's cell at this position, or no bytes if there is no such cell.
abbrev pub name_in : FloorState → List ℕ → Option ℕ → List ℕ
name_in floor team None = []
name_in floor team (Some own) = unwrap_or (option_and_then (λ s. name_at s.cells own) (state_of floor team)) []

-- The text of a reply to a command of the team.
abbrev pub reply_text_of : FloorState → List ℕ → Reply → List ℕ
reply_text_of floor team reply =
    reply_text reply (name_in floor team (reply_cells reply).0) (name_in floor team (reply_cells reply).1)

-- True if the reply contains a text of any length: a report, or a team's DEF text.
abbrev pub is_long : Reply → Bool
is_long (Report text) = true
is_long (Def text) = true
is_long _ = false

-- ---- one line

-- A line, the reply to it, and the reply's text.
pub record Exchange : Type 0 where
  pub line : Line
  pub reply : Reply
  pub text : List ℕ

-- A line that is no request gets `BadRequest`, and the floor is unchanged.
pub record RefusesLine (old : FloorState) (reply : Reply) (text : List ℕ) (new : FloorState) : Type 0 where
  pub reply_is : reply ≡ Refused BadRequest
  pub text_is : text ≡ reply_text reply [] []
  pub kept : new ≡ old

-- A request is one step of the floor, with this reply and its text.
pub record StepsOn (l : Legalizer) (old : FloorState) (command : Command (List ℕ) Place) (reply : Reply) (text : List ℕ)
    (new : FloorState) : Type 0 where
  pub step : Step l old command reply new
  pub text_is : text ≡ reply_text_of new (team_addressed command) reply

-- The line's request gets this reply and text, and the floor changes from `old` to `new`.
abbrev pub AnswersTo : Legalizer → FloorState → Option (Command (List ℕ) Place) → Reply → List ℕ → FloorState → Type 0
AnswersTo l old requested reply text new =
    MatchOption requested (RefusesLine old reply text new) (λ command. StepsOn l old command reply text new)

-- ---- many lines

-- Each line gets its reply, and the reply's text is written whole and flushed before the next line
-- is acted on. The floor changes from `old` to `new`, and the writer from `before` to `after`.
abbrev pub AnswersLines : Legalizer → FloorState → Writer → List Exchange → FloorState → Writer → Type 0
AnswersLines l old before [] new after = (new ≡ old) × (after ≡ before)
AnswersLines l old before (e ∷ later) new after =
    (mid : FloorState) × (between : Writer) × AnswersTo l old (requested_on e.line) e.reply e.text mid
    × SendsText before between e.text
    × AnswersLines l mid between later new after

-- The same, except that only a front of the last text was written.
pub record BreaksOffLastReply (l : Legalizer) (old : FloorState) (before : Writer) (done : List Exchange)
    (new : FloorState) (after : Writer) : Type 0 where
  pub earlier : List Exchange
  pub last : Exchange
  pub mid : FloorState
  pub between : Writer
  pub done_are : done ≡ earlier ++ last ∷ []
  pub exchanged : AnswersLines l old before earlier mid between
  pub answers : AnswersTo l mid (requested_on last.line) last.reply last.text new
  pub breaks : BreaksText between after last.text

abbrev pub lines : List Exchange → List Line
lines done = map (λ e. e.line) done
