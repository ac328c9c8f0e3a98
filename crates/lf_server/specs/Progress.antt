-- The progress of serving and how it stops: the invariants of the loops.
use Rattle.std.specs.Prelude.{◌≡◌, ℕ, ◌+◌, ◌-◌, Bool, IfSome, true, false, List, [], ◌++◌, length, Option, Some, None, ◌⊎◌}
use Rattle.std.specs.Io.KnownBytes.{Consumes}
use Rattle.lf_floorplan.specs.declared.place.Place.{Place}
use Rattle.lf_rules.specs.Legalizer.{Legalizer}
use Rattle.lf_proto.specs.declared.reply.Reply.{Reply}
use Rattle.lf_proto.specs.declared.framer.Got.{Got}
use Rattle.lf_proto.specs.declared.framer.Got.TheVariants.{Line as IsLine, TooLong}
use Rattle.lf_proto.specs.declared.request.Command.{Command}
use Rattle.lf_proto.specs.Stream.{lines_of}
use Rattle.lf_proto.specs.Pieces.{lines_from, between_line_feeds}
use Rattle.lf_floor_model.specs.States.{FloorState}
use Rattle.lf_server.specs.Devices.{Writer, SendsText, BreaksText}
use Rattle.lf_floor.specs.Responses.{team_addressed}
use Rattle.lf_server.specs.Exchanges.{AnswersTo, Exchange, AnswersLines, Line, requested_on, is_bye, lines, reply_text_of}
use Rattle.lf_server.specs.Endings.{AreLinesActedOn, WritesReplies, NoneIsBye, ended_lines}
use Rattle.lf_server.specs.declared.serve_loop.Ending.{Ending}
use Rattle.lf_server.specs.declared.serve_loop.Ending.TheVariants.{Bye, ReadFault, WriteFault, OutOfMemory}

-- The line that the framer gave.
abbrev pub IsGivenLine : Got → List ℕ → Line → Type 0
IsGivenLine got bytes line = ((got ≡ IsLine) × (line ≡ Some bytes)) ⊎ ((got ≡ TooLong) × (line ≡ None))

-- ---- one line

-- The team that a request names. 'bye' and a line that is no request name no team.
abbrev pub team_requested : Option (Command (List ℕ) Place) → List ℕ
team_requested None = []
team_requested (Some command) = team_addressed command

-- The request gets this reply with the reply's own text.
abbrev pub IsAnswered : Legalizer → FloorState → Option (Command (List ℕ) Place) → Reply → FloorState → Type 0
IsAnswered l old requested reply new =
    AnswersTo l old requested reply (reply_text_of new (team_requested requested) reply) new

-- What was written of the one reply, depending on how the connection continues.
abbrev pub ExchangeEnds : Option Ending → Writer → Writer → Line → List ℕ → Type 0
ExchangeEnds None w w' line text = SendsText w w' text × (is_bye line ≡ false)
ExchangeEnds (Some Bye) w w' line text = SendsText w w' text × (is_bye line ≡ true)
ExchangeEnds (Some WriteFault) w w' line text = BreaksText w w' text
ExchangeEnds (Some _) w w' line text = ⊥

-- One line was acted on.
pub record ActsOnLine (l : Legalizer) (stop : Option Ending) (w w' : Writer) (old new : FloorState)
    (line : Line) : Type 0 where
  pub reply : Reply
  pub text : List ℕ
  pub answers : AnswersTo l old (requested_on line) reply text new
  pub ends : ExchangeEnds stop w w' line text

-- ---- many lines

-- The framer's pending bytes changed from `held` to `held'`, lines were acted on, and serving
-- continues.
pub record ContinuesServing (l : Legalizer) (w w' : Writer) (left left' : ℕ) (old new : FloorState)
    (held held' : Option (List ℕ)) (from to : List ℕ) : Type 0 where
  pub done : List Exchange
  pub exchanged : AnswersLines l old w done new w'
  pub counts : left ≡ length done + left'
  pub no_bye : NoneIsBye (lines done)
  pub goes_on : (rest : List ℕ) → lines_from held (between_line_feeds (from ++ rest))
      ≡ lines done ++ lines_from held' (between_line_feeds (to ++ rest))

-- The lines acted on if serving stops in the middle of the input, or at its end.
abbrev pub StopsServingAt : Ending → ℕ → List Line → List Line → Type 0
StopsServingAt ReadFault limit all acted = ⊥
StopsServingAt OutOfMemory limit all acted = ⊥
StopsServingAt ending limit all acted = AreLinesActedOn ending limit all [] acted

-- Some of these lines were acted on, and serving stops.
pub record StopsServing (l : Legalizer) (ending : Ending) (w w' : Writer) (left left' : ℕ) (old new : FloorState)
    (all : List Line) : Type 0 where
  pub done : List Exchange
  pub comes : WritesReplies ending l old w done new w'
  pub counts : left ≡ length done + left'
  pub stops : StopsServingAt ending left all (lines done)

-- The input was served to an ending.
pub record FinishesServing (l : Legalizer) (ending : Ending) (input rest : Option (List ℕ)) (w w' : Writer)
    (left left' : ℕ) (old new : FloorState) : Type 0 where
  pub read : List ℕ
  pub reads : Consumes input rest read
  pub done : List Exchange
  pub comes : WritesReplies ending l old w done new w'
  pub counts : left ≡ length done + left'
  pub acted_on : IfSome input (λ bytes. AreLinesActedOn ending left (lines_of bytes) (ended_lines read) (lines done))

-- The number of replies counted as answered.
abbrev pub answered_count : Ending → ℕ → ℕ
answered_count WriteFault lines = lines - 1
answered_count _ lines = lines

-- Whether a call of the writer has failed. Only at a fault of the writer does it change.
abbrev pub SinkFailsAtWriteFault : Ending → Bool → Bool → Type 0
SinkFailsAtWriteFault WriteFault old new = new ≡ true
SinkFailsAtWriteFault _ old new = new ≡ old
