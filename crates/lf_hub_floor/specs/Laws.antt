-- What holds of all answers of a hub's floor.
use Rattle.std.specs.Prelude.{◌≡◌, ◌≢◌, ℕ, true, cond, List, [], ◌∷◌, ◌++◌, Some}
use Rattle.lf_floorplan.specs.declared.place.Place.{Place}
use Rattle.lf_rules.specs.Legalizer.{Legalizer}
use Rattle.lf_proto.specs.declared.request.Command.{Command}
use Rattle.lf_proto.specs.declared.reply.Reply.{Reply}
use Rattle.lf_floor_model.specs.States.{TeamState, FloorState}
use Rattle.lf_floor_model.specs.Teams.{state_of}
use Rattle.lf_floor_model.specs.Runs.{Run}
use Rattle.lf_floor_model.specs.Journals.{lasting}
use Rattle.lf_journal_text.specs.Records.{is_line}
use Rattle.lf_server.specs.Laws.{with_command}
use Rattle.lf_hub_clients.specs.declared.floor.Outcome.{Outcome}
use Rattle.lf_hub_clients.specs.Turns.{Turn, IsAnswered, is_change, refusal}
use Rattle.lf_hub.specs.Laws.{Follow}
use Rattle.lf_hub_floor.specs.Answers.{Answers, AnswersLine, name_of_team, request_on}
use Rattle.lf_hub_floor.specs.QueryAnswers.{Shows, ShowsLine}

-- ---- runs

-- The commands of the lines that were accepted changes, in order.
abbrev pub changes_in : List Turn → List (Command (List ℕ) Place)
changes_in [] = []
changes_in (t ∷ ts) = cond (is_change t.outcome) (with_command (request_on t.line) (changes_in ts)) (changes_in ts)

-- Commands whose run leads from the first floor to the second. Those that last, which are its journal,
-- are the accepted changes among the lines.
pub record IsRunOf (l : Legalizer) (old : FloorState) (turns : List Turn) (new : FloorState) : Type 0 where
  pub commands : List (Command (List ℕ) Place)
  pub replies : List Reply
  pub run : Run l old commands replies new
  pub changes : lasting commands replies ≡ changes_in turns

-- What a hub's lines do to the floor is a run.
abbrev pub TurnsRun : Type 0
TurnsRun = (l : Legalizer) (turns : List Turn) (old new : FloorState) → Follow (IsAnswered Answers Shows) old turns new
    → IsRunOf l old turns new

-- ---- teams

-- A line by the socket of one team leaves the others as they are, and the frame.
pub record KeepsOthers (team : ℕ) (old new : FloorState) : Type 0 where
  pub frame : new.frame ≡ old.frame
  pub others : (other : List ℕ) → name_of_team old.frame team ≢ Some other → state_of new other ≡ state_of old other

abbrev pub OthersAreKept : Type 0
OthersAreKept =
    (l : Legalizer) (team : ℕ) (line text : List ℕ) (outcome : Outcome) (old new : FloorState)
    → AnswersLine l team line old text outcome new → KeepsOthers team old new

-- Two floors have the same frame, and the team of this number has the same state in both.
pub record AgreeOn (team : ℕ) (a b : FloorState) : Type 0 where
  pub frame : a.frame ≡ b.frame
  pub name : List ℕ
  pub state : TeamState
  pub named : name_of_team a.frame team ≡ Some name
  pub in_first : state_of a name ≡ Some state
  pub in_second : state_of b name ≡ Some state

-- The same text and outcome, and the same state of the team afterwards.
pub record AreSameFor (team : ℕ) (text text' : List ℕ) (outcome outcome' : Outcome) (a b : FloorState) : Type 0 where
  pub texts : text ≡ text'
  pub outcomes : outcome ≡ outcome'
  pub states : (name : List ℕ) → name_of_team a.frame team ≡ Some name → state_of a name ≡ state_of b name

-- The reply to a line depends on the team's own state and the frame alone, unless memory runs out.
abbrev pub RepliesAreOwn : Type 0
RepliesAreOwn =
    (l : Legalizer) (team : ℕ) (line text text' : List ℕ) (outcome outcome' : Outcome) (a a' b b' : FloorState)
    → AnswersLine l team line a text outcome a' → AnswersLine l team line b text' outcome' b'
    → AgreeOn team a b → text ≢ refusal → text' ≢ refusal → AreSameFor team text text' outcome outcome' a' b'

-- The same on a query socket.
abbrev pub QueriesAreOwn : Type 0
QueriesAreOwn =
    (l : Legalizer) (team : ℕ) (line text text' : List ℕ) (a b : FloorState)
    → ShowsLine l team line a text → ShowsLine l team line b text'
    → AgreeOn team a b → text ≢ refusal → text' ≢ refusal → text ≡ text'

-- ---- records

-- A line and its reply can be a record: the line has neither a zero byte nor a line feed, and the reply
-- is such a line with its line feed.
pub record CanBeRecorded (line text : List ℕ) : Type 0 where
  pub line_is : is_line line ≡ true
  pub reply : List ℕ
  pub reply_is : is_line reply ≡ true
  pub text_is : text ≡ reply ++ 10 ∷ []

abbrev pub ChangesCanBeRecorded : Type 0
ChangesCanBeRecorded =
    (l : Legalizer) (team : ℕ) (line text : List ℕ) (outcome : Outcome) (old new : FloorState)
    → AnswersLine l team line old text outcome new → is_change outcome ≡ true → CanBeRecorded line text
