-- What a line framer finds in a piece of a stream, and at the stream's end.
use Rattle.std.specs.Prelude.{◌≡◌, ℕ, ◌+◌, List, [], ◌∷◌, ◌++◌, length, take, drop, position, Option, Some, None}
use Rattle.lf_proto.specs.Stream.{is_end_of_line, lines_of, without_return}
use Rattle.lf_proto.specs.Framing.{Framing, with_more}
use Rattle.lf_proto.specs.declared.framer.Fed.{Fed}
use Rattle.lf_proto.specs.declared.framer.Got.{Got}
use Rattle.lf_proto.specs.declared.framer.Got.TheVariants.{More, Line, TooLong}

-- the result for a line that has ended: the line, or that it is too long
abbrev pub EndsLine : Option (List ℕ) → Got → List ℕ → Type 0
EndsLine None got line = got ≡ TooLong
EndsLine (Some bytes) got line = (got ≡ Line) × (line ≡ bytes)

abbrev pub without_return_of : Option (List ℕ) → Option (List ℕ)
without_return_of None = None
without_return_of (Some bytes) = Some (without_return bytes)

-- the result for a piece, given the index of its first line feed: without one, all of the piece is
-- kept; with one, the line ends there
abbrev pub FeedsAt : Option ℕ → Framing → List ℕ → Fed → Framing → Type 0
FeedsAt None old piece fed new = (fed.used ≡ length piece) × (fed.got ≡ More)
    × (new.pending ≡ with_more old.pending piece)
FeedsAt (Some at) old piece fed new = (fed.used ≡ at + 1) × (new.pending ≡ Some [])
    × EndsLine (without_return_of (with_more old.pending (take at piece))) fed.got new.line

abbrev pub Feeds : Framing → List ℕ → Fed → Framing → Type 0
Feeds old piece fed new = FeedsAt (position is_end_of_line piece) old piece fed new

-- the result at the end of the stream: the kept bytes are the last line, with its carriage return
abbrev pub FinishesAt : Option (List ℕ) → Got → List ℕ → Type 0
FinishesAt (Some []) got line = got ≡ More
FinishesAt pending got line = EndsLine pending got line

-- the line that was found, if there is one; None for a line that is too long
abbrev pub given_line : Got → List ℕ → List (Option (List ℕ))
given_line More line = []
given_line Line line = Some line ∷ []
given_line TooLong line = None ∷ []

-- feeding a stream: any prefix of the remaining bytes is the next piece, and the bytes that the
-- feed used are removed
pub data TakesBytes : Framing → List ℕ → List (Option (List ℕ)) → Framing → Type 0 where
  none_left : (framing : Framing) → TakesBytes framing [] [] framing
  next_piece : (old middle new : Framing) (piece rest : List ℕ) (fed : Fed) (lines : List (Option (List ℕ)))
      → Feeds old piece fed middle → TakesBytes middle (drop fed.used piece ++ rest) lines new
      → TakesBytes old (piece ++ rest) (given_line fed.got middle.line ++ lines) new

-- however a stream is cut, a new framer that takes it and then finishes finds the stream's lines
abbrev pub FramingKeepsLines : Type 0
FramingKeepsLines = (fresh full end : Framing) (stream : List ℕ) (lines : List (Option (List ℕ))) (got : Got)
    → fresh.pending ≡ Some [] → TakesBytes fresh stream lines full → FinishesAt full.pending got end.line
    → lines ++ given_line got end.line ≡ lines_of stream
