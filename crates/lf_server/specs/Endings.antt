-- How serving a connection ends: the lines acted on, the replies to them, and what was written.
use Rattle.std.specs.Prelude.{◌≡◌, ℕ, ◌+◌, ◌≤◌, true, false, List, [], ◌∷◌, ◌++◌, length, All, Option, IfSome}
use Rattle.std.specs.List.{slice_split}
use Rattle.std.specs.Io.KnownBytes.{Consumes}
use Rattle.lf_rules.specs.Legalizer.{Legalizer}
use Rattle.lf_proto.specs.Stream.{ended_line, is_end_of_line, lines_of}
use Rattle.lf_floor_model.specs.States.{FloorState}
use Rattle.lf_server.specs.Devices.{Writer}
use Rattle.lf_server.specs.Exchanges.{BreaksOffLastReply, Exchange, AnswersLines, Line, is_bye, lines}
use Rattle.lf_server.specs.declared.serve_loop.Ending.{Ending}
use Rattle.lf_server.specs.declared.serve_loop.Ending.TheVariants.{Done, Bye, ReadFault, WriteFault, TooManyLines, OutOfMemory}
use Rattle.lf_server.specs.declared.serve_loop.Served.{Served}

-- ---- the lines

-- The lines of these pieces that have their line feed: all except the last piece.
abbrev pub ended_in : List (List ℕ) → List Line
ended_in [] = []
ended_in (last ∷ []) = []
ended_in (piece ∷ next ∷ pieces) = ended_line piece ∷ ended_in (next ∷ pieces)

-- The lines of these bytes that have their line feed.
abbrev pub ended_lines : List ℕ → List Line
ended_lines bytes = ended_in (slice_split is_end_of_line bytes)

abbrev pub NoneIsBye : List Line → Type 0
NoneIsBye acted = All (λ line. is_bye line ≡ false) acted

-- The last of the lines acted on, with the earlier ones. They are the first of all lines.
pub record EndsAt (all acted : List Line) : Type 0 where
  pub before : List Line
  pub last : Line
  pub rest : List Line
  pub all_are : all ≡ acted ++ rest
  pub acted_are : acted ≡ before ++ last ∷ []
  pub none_before : NoneIsBye before

-- The lines acted on are the first of all lines, as many as are allowed, and another line follows.
pub record StopsShort (limit : ℕ) (all acted : List Line) : Type 0 where
  pub next : Line
  pub rest : List Line
  pub all_are : all ≡ acted ++ next ∷ rest
  pub full : length acted ≡ limit
  pub none : NoneIsBye acted

-- The lines acted on. `all` are the lines of the input, and `whole` are those read with their line
-- feed.
-- - `Done`: all lines
-- - `Bye`: the lines up to the first bye
-- - `ReadFault`: the lines read whole
-- - `WriteFault`: the lines up to one whose reply was not written
-- - `TooManyLines`: as many as are allowed
-- - `OutOfMemory`: no line
abbrev pub AreLinesActedOn : Ending → ℕ → List Line → List Line → List Line → Type 0
AreLinesActedOn Done limit all whole acted = (acted ≡ all) × NoneIsBye acted
AreLinesActedOn Bye limit all whole acted = (e : EndsAt all acted) × (is_bye e.last ≡ true)
AreLinesActedOn ReadFault limit all whole acted = (acted ≡ whole) × NoneIsBye acted
AreLinesActedOn WriteFault limit all whole acted = EndsAt all acted
AreLinesActedOn TooManyLines limit all whole acted = StopsShort limit all acted
AreLinesActedOn OutOfMemory limit all whole acted = acted ≡ []

-- ---- the floor and the writer

-- Each line acted on got its reply, and each reply's text was written and flushed. At a fault of
-- the writer this excludes the last reply.
abbrev pub WritesReplies : Ending → Legalizer → FloorState → Writer → List Exchange → FloorState → Writer → Type 0
WritesReplies WriteFault l old before done new after = BreaksOffLastReply l old before done new after
WritesReplies _ l old before done new after = AnswersLines l old before done new after

-- The count of replies written and flushed, given the count of lines acted on.
abbrev pub CountsAnswered : Ending → ℕ → ℕ → Type 0
CountsAnswered WriteFault acted answered = acted ≡ answered + 1
CountsAnswered _ acted answered = answered ≡ acted

-- Serving acted on lines of the input, one step each, and wrote the replies' texts.
pub record ServesLines (l : Legalizer) (limit : ℕ) (old : FloorState) (input left : Option (List ℕ))
    (before after : Writer) (served : Served) (new : FloorState) : Type 0 where
  pub read : List ℕ
  pub reads : Consumes input left read
  pub done : List Exchange
  pub comes : WritesReplies served.ending l old before done new after
  pub acted_on :
      IfSome input (λ bytes. AreLinesActedOn served.ending limit (lines_of bytes) (ended_lines read) (lines done))
  pub counted : served.lines ≡ length done
  pub answered : CountsAnswered served.ending served.lines served.answered
  pub within : served.lines ≤ limit
