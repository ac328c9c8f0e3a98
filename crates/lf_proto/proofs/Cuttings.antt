-- However a stream is cut, its lines are the same.
use Rattle.std.proofs.Common.{◌≡◌, ℕ, suc, ◌+◌, ◌<◌, ◌≤◌, Bool, true, false, not, cond, nat_lt, nat_le, List, [], ◌∷◌, ◌++◌, length, take, drop, Option, None, Some, refl, sym, ap, ◌∙◌, arith, append_assoc, append-nil, length-append, IfSome}
use Rattle.std.proofs.lemmas.Bool.Decides.{nat_tests}
use Rattle.std.proofs.lemmas.List.Splits.{slice_split-cons_yes, slice_split-cons_no}
use Rattle.std.specs.List.{onto_first, position_or_len}
use Rattle.lf_proto.specs.Stream.{line_limit, is_end_of_line, within_limit, without_return, ended_line, last_line, lines_in, lines_of}
use Rattle.lf_proto.specs.Framing.{Framing, with_more}
use Rattle.lf_proto.specs.Pieces.{lines_from, between_line_feeds, with_front}
use Rattle.lf_proto.specs.Feeds.{EndsLine, without_return_of, FeedsAt, Feeds, FinishesAt, given_line, TakesBytes, none_left, next_piece, FramingKeepsLines}
use Rattle.lf_proto.specs.declared.framer.Fed.{Fed}
use Rattle.lf_proto.specs.declared.framer.Got.{Got}

-- the number of bytes in front of the first line feed, with one more byte
abbrev prefix_more : Bool → List ℕ → ℕ
prefix_more visible bytes = cond visible (1 + position_or_len is_end_of_line bytes) 0

-- with_front always gives a first piece
onto_first-with_front : (b : ℕ) (run : List ℕ) (parts : List (List ℕ)) → onto_first b (with_front run parts) ≡ with_front (b ∷ run) parts
onto_first-with_front b run [] = refl
onto_first-with_front b run (p ∷ parts) = refl

with_front-onto_first : (b : ℕ) (parts : List (List ℕ)) → with_front [] (onto_first b parts) ≡ onto_first b parts
with_front-onto_first b [] = refl
with_front-onto_first b (p ∷ parts) = refl

with_front-cond : (b : ℕ) (rest : List ℕ) (ends : Bool) → with_front [] (cond ends ([] ∷ between_line_feeds rest) (onto_first b (between_line_feeds rest))) ≡ cond ends ([] ∷ between_line_feeds rest) (onto_first b (between_line_feeds rest))
with_front-cond b rest true = refl
with_front-cond b rest false = with_front-onto_first b (between_line_feeds rest)

pub with_front-nil : (bytes : List ℕ) → with_front [] (between_line_feeds bytes) ≡ between_line_feeds bytes
with_front-nil [] = refl
with_front-nil (b ∷ rest) = with_front-cond b rest (is_end_of_line b)

with_front-append : (a b : List ℕ) (parts : List (List ℕ)) → with_front a (with_front b parts) ≡ with_front (a ++ b) parts
with_front-append a b [] = refl
with_front-append a b (p ∷ parts) = ap (λ q. q ∷ parts) (sym (append_assoc a b p))

-- one byte in front of bytes whose first line feed is known
module _ (b : ℕ) (bytes rest : List ℕ) where
  held_more : (ends : Bool) → is_end_of_line b ≡ ends → length (b ∷ bytes) ≤ prefix_more (not ends) bytes → (length bytes ≤ position_or_len is_end_of_line bytes → between_line_feeds (bytes ++ rest) ≡ with_front bytes (between_line_feeds rest)) → between_line_feeds (b ∷ (bytes ++ rest)) ≡ with_front (b ∷ bytes) (between_line_feeds rest)
  held_more true is none ih = absurd (omega arith)
  held_more false is none ih = slice_split-cons_no is_end_of_line b (bytes ++ rest) is ∙ (ap (onto_first b) (ih (omega arith)) ∙ onto_first-with_front b bytes (between_line_feeds rest))

  ended_more : (ends : Bool) (k : ℕ) → is_end_of_line b ≡ ends → k ≡ prefix_more (not ends) bytes → k < length (b ∷ bytes)
      → (position_or_len is_end_of_line bytes < length bytes → between_line_feeds (bytes ++ rest) ≡ take (position_or_len is_end_of_line bytes) bytes ∷ between_line_feeds (drop (position_or_len is_end_of_line bytes + 1) bytes ++ rest))
      → between_line_feeds (b ∷ (bytes ++ rest)) ≡ take k (b ∷ bytes) ∷ between_line_feeds (drop (k + 1) (b ∷ bytes) ++ rest)
  ended_more true k is at some ih = rw at (slice_split-cons_yes is_end_of_line b (bytes ++ rest) is)
  ended_more false k is at some ih =
      let front : k ≡ suc (position_or_len is_end_of_line bytes) = omega arith in
      let after_it : k + 1 ≡ suc (position_or_len is_end_of_line bytes + 1) = omega arith in
      rw (after_it, front) (slice_split-cons_no is_end_of_line b (bytes ++ rest) is ∙ ap (onto_first b) (ih (omega arith)))

-- bytes without a line feed are in front of the first piece
pieces-held : (bytes rest : List ℕ) → length bytes ≤ position_or_len is_end_of_line bytes → between_line_feeds (bytes ++ rest) ≡ with_front bytes (between_line_feeds rest)
pieces-held [] rest none = sym (with_front-nil rest)
pieces-held (b ∷ bytes) rest none = held_more b bytes rest (is_end_of_line b) refl none (pieces-held bytes rest)

-- the first piece ends at the first line feed
pieces-ended : (bytes rest : List ℕ) → position_or_len is_end_of_line bytes < length bytes → between_line_feeds (bytes ++ rest) ≡ take (position_or_len is_end_of_line bytes) bytes ∷ between_line_feeds (drop (position_or_len is_end_of_line bytes + 1) bytes ++ rest)
pieces-ended [] rest some = absurd (omega arith)
pieces-ended (b ∷ bytes) rest some = ended_more b bytes rest (is_end_of_line b) (position_or_len is_end_of_line (b ∷ bytes)) refl refl some (pieces-ended bytes rest)

-- there is always a first piece
pub some_pieces : (P : List (List ℕ) → Type 0) (bytes : List ℕ) → ((piece : List ℕ) (more : List (List ℕ)) → P (piece ∷ more)) → P (between_line_feeds bytes)
some_pieces P [] one = one [] []
some_pieces P (b ∷ bytes) one = front (is_end_of_line b)
  where
    added : (parts : List (List ℕ)) → P (onto_first b parts)
    added [] = one (b ∷ []) []
    added (p ∷ parts) = one (b ∷ p) parts

    front : (ends : Bool) → P (cond ends ([] ∷ between_line_feeds bytes) (onto_first b (between_line_feeds bytes)))
    front true = one [] (between_line_feeds bytes)
    front false = added (between_line_feeds bytes)

lines_in-ended : (bytes rest : List ℕ) → lines_in (bytes ∷ between_line_feeds rest) ≡ ended_line bytes ∷ lines_in (between_line_feeds rest)
lines_in-ended bytes rest = some_pieces (λ parts. lines_in (bytes ∷ parts) ≡ ended_line bytes ∷ lines_in parts) rest (λ p more. refl)

lines_from-over : (bytes rest : List ℕ) → lines_from None (bytes ∷ between_line_feeds rest) ≡ None ∷ lines_in (between_line_feeds rest)
lines_from-over bytes rest = some_pieces (λ parts. lines_from None (bytes ∷ parts) ≡ None ∷ lines_in parts) rest (λ p more. refl)

lines_from-held : (bytes : List ℕ) (parts : List (List ℕ)) → lines_from None (with_front bytes parts) ≡ lines_from None parts
lines_from-held bytes [] = refl
lines_from-held bytes (p ∷ []) = refl
lines_from-held bytes (p ∷ q ∷ parts) = refl

-- bytes over the limit stay over it
over_more : (bytes more : List ℕ) → nat_le (length bytes) line_limit ≡ false → nat_le (length (bytes ++ more)) line_limit ≡ false
over_more bytes more over = simp length-append (grind (arith, nat_tests))

ended_line-over : (bytes : List ℕ) → nat_le (length bytes) line_limit ≡ false → ended_line bytes ≡ None
ended_line-over bytes over = rw over refl

last_line-over : (bytes : List ℕ) → nat_le (length bytes) line_limit ≡ false → last_line bytes ≡ None ∷ []
last_line-over [] over = cc
last_line-over (b ∷ bytes) over = rw over refl

lines_in-over : (bytes : List ℕ) (parts : List (List ℕ)) → nat_le (length bytes) line_limit ≡ false → lines_in (with_front bytes parts) ≡ lines_from None parts
lines_in-over bytes [] over = last_line-over bytes over
lines_in-over bytes (p ∷ []) over = last_line-over (bytes ++ p) (over_more bytes p over)
lines_in-over bytes (p ∷ q ∷ parts) over = ap (λ l. l ∷ lines_in (q ∷ parts)) (ended_line-over (bytes ++ p) (over_more bytes p over))

-- keeping bytes is keeping them within the limit
lines_in-within : (bytes : List ℕ) (parts : List (List ℕ)) → lines_in (with_front bytes parts) ≡ lines_from (within_limit bytes) parts
lines_in-within bytes parts = go (nat_le (length bytes) line_limit) refl
  where
    go : (fits : Bool) → nat_le (length bytes) line_limit ≡ fits → lines_in (with_front bytes parts) ≡ lines_from (cond fits (Some bytes) None) parts
    go true is = refl
    go false is = lines_in-over bytes parts is

-- the kept bytes are within the limit
abbrev pub IsBounded : Option (List ℕ) → Type 0
IsBounded pending = IfSome pending (λ bytes. length bytes ≤ line_limit)

within_limit-bounded : (bytes : List ℕ) → IsBounded (within_limit bytes)
within_limit-bounded bytes = go (nat_le (length bytes) line_limit) refl
  where
    go : (fits : Bool) → nat_le (length bytes) line_limit ≡ fits → IsBounded (cond fits (Some bytes) None)
    go true is = grind (arith, nat_tests)
    go false is = tt

with_more-bounded : (pending : Option (List ℕ)) (bytes : List ℕ) → IsBounded (with_more pending bytes)
with_more-bounded None bytes = tt
with_more-bounded (Some held) bytes = within_limit-bounded (held ++ bytes)

-- the result for a line that has ended is that line
given-ended : (bytes : List ℕ) (got : Got) (line : List ℕ) → EndsLine (without_return_of (within_limit bytes)) got line → given_line got line ≡ ended_line bytes ∷ []
given-ended bytes got line = go (nat_le (length bytes) line_limit)
  where
    go : (fits : Bool) → EndsLine (without_return_of (cond fits (Some bytes) None)) got line → given_line got line ≡ cond fits (Some (without_return bytes)) None ∷ []
    go true ends = rw (ends.0, ends.1) refl
    go false ends = rw ends refl

-- one feed finds the lines of the bytes that it takes
abbrev pub Step : Framing → Framing → List ℕ → List ℕ → Fed → Type 0
Step old middle piece rest fed = lines_from old.pending (between_line_feeds (piece ++ rest)) ≡ given_line fed.got middle.line ++ lines_from middle.pending (between_line_feeds (drop fed.used piece ++ rest))

held_step : (pending : Option (List ℕ)) (piece rest : List ℕ) → length piece ≤ position_or_len is_end_of_line piece → lines_from pending (between_line_feeds (piece ++ rest)) ≡ lines_from (with_more pending piece) (between_line_feeds rest)
held_step None piece rest none = ap (lines_from None) (pieces-held piece rest none) ∙ lines_from-held piece (between_line_feeds rest)
held_step (Some held) piece rest none =
    ap (lines_from (Some held)) (pieces-held piece rest none) ∙ (ap lines_in (with_front-append held piece (between_line_feeds rest)) ∙ lines_in-within (held ++ piece) (between_line_feeds rest))

ended_step : (pending : Option (List ℕ)) (front rest : List ℕ) (got : Got) (line : List ℕ) → EndsLine (without_return_of (with_more pending front)) got line → lines_from pending (front ∷ between_line_feeds rest) ≡ given_line got line ++ lines_from (Some []) (between_line_feeds rest)
ended_step None front rest got line ends = rw (ends, with_front-nil rest) (lines_from-over front rest)
ended_step (Some held) front rest got line ends =
    lines_in-ended (held ++ front) rest ∙ sym (rw (with_front-nil rest) (ap (λ l. l ++ lines_in (between_line_feeds rest)) (given-ended (held ++ front) got line ends)))

drop_whole : (bytes : List ℕ) → drop (length bytes) bytes ≡ []
drop_whole [] = refl
drop_whole (b ∷ bytes) = drop_whole bytes

pub feed_step : (old middle : Framing) (piece rest : List ℕ) (fed : Fed) → Feeds old piece fed middle → Step old middle piece rest fed × IsBounded middle.pending
feed_step old middle piece rest fed = go (nat_lt (position_or_len is_end_of_line piece) (length piece)) refl
  where
    go : (some : Bool) → nat_lt (position_or_len is_end_of_line piece) (length piece) ≡ some → FeedsAt (cond some (Some (position_or_len is_end_of_line piece)) None) old piece fed middle → Step old middle piece rest fed × IsBounded middle.pending
    go true is (used, pending, ends) =
        let at = position_or_len is_end_of_line piece in
        let below : at < length piece = grind (arith, nat_tests) in (
          rw (used, pending) (ap (lines_from old.pending) (pieces-ended piece rest below) ∙ ended_step old.pending (take at piece) (drop (at + 1) piece ++ rest) fed.got middle.line ends),
          rw pending (omega arith),
        )
    go false is (used, more, pending) =
        let none : length piece ≤ position_or_len is_end_of_line piece = grind (arith, nat_tests) in
        (rw (used, more, pending, drop_whole piece) (held_step old.pending piece rest none), rw pending (with_more-bounded old.pending piece))

takes_lines : {old new : Framing} {stream : List ℕ} {lines : List (Option (List ℕ))} → TakesBytes old stream lines new → IsBounded old.pending → (lines_from old.pending (between_line_feeds stream) ≡ lines ++ lines_from new.pending ([] ∷ [])) × IsBounded new.pending
takes_lines (none_left framing) bounded = (refl, bounded)
takes_lines (next_piece old middle new piece rest fed lines feeds takes) bounded =
    let step = feed_step old middle piece rest fed feeds in
    let later = takes_lines takes step.1 in
    (step.0 ∙ (ap (λ l. given_line fed.got middle.line ++ l) later.0 ∙ sym (append_assoc (given_line fed.got middle.line) lines (lines_from new.pending ([] ∷ [])))), later.1)

-- the result at the end is the line of the kept bytes
pub finish_gives : (pending : Option (List ℕ)) (got : Got) (line : List ℕ) → IsBounded pending → FinishesAt pending got line → lines_from pending ([] ∷ []) ≡ given_line got line
finish_gives None got line bounded ends = rw ends refl
finish_gives (Some []) got line bounded ends = rw ends refl
finish_gives (Some (b ∷ held)) got line bounded (is_line, is) =
    let fits : nat_le (length (b ∷ held)) line_limit ≡ true = grind (arith, nat_tests) in
    let kept : last_line (b ∷ held) ≡ Some (b ∷ held) ∷ [] = rw fits refl in
    rw (is_line, is) (ap last_line (append-nil (b ∷ held)) ∙ kept)

pub gives_lines : FramingKeepsLines
gives_lines fresh full end stream lines got starts takes finishes =
    let start : IsBounded fresh.pending = rw starts (omega arith) in
    let whole = takes_lines takes start in
    let last = finish_gives full.pending got end.line whole.1 finishes in
    let first : lines_from fresh.pending (between_line_feeds stream) ≡ lines_of stream = rw starts (ap lines_in (with_front-nil stream)) in
    ap (λ l. lines ++ l) (sym last) ∙ (sym whole.0 ∙ first)
