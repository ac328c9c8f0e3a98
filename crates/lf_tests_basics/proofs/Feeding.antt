-- A stream that is fed in pieces.
use Rattle.std.proofs.Common.{◌≡◌, ◌≤◌, ◌+◌, ◌-◌, ◌&&◌, ℕ, Bool, true, false, List, [], ◌++◌, Option, length, take, drop, refl, sym, ap, ◌∙◌, subst, arith}
use Rattle.std.proofs.lemmas.List.{take-append-drop, drop-append-le, drop-drop, length-take, length-drop, drop_all, take_all}
use Rattle.std.proofs.lemmas.List.Folds.{list_all-append}
use Rattle.std.specs.List.{list_all}
use Rattle.std.specs.Option.{is_some}
use Rattle.lf_proto.specs.Feeds.{Feeds, TakesBytes, none_left, next_piece, given_line}
use Rattle.lf_proto.specs.Stream.{lines_of}
use Rattle.lf_proto.specs.Framing.{Framing}
use Rattle.lf_proto.specs.declared.framer.Fed.{Fed}
use Rattle.lf_proto.specs.declared.framer.Got.{Got}

-- the rest of a slice, whose length the slice has
pub of_the_rest : (stream piece : List ℕ) (at most : ℕ) → piece ≡ take most (take (length stream - at) (drop at stream)) → piece ≡ take most (drop at stream)
of_the_rest stream piece at most is =
    let all : take (length stream - at) (drop at stream) ≡ drop at stream = take_all _ _ (omega (arith, length-drop at stream)) in
    is ∙ ap (take most) all

-- a prefix of the rest is the next piece
pub feeds_on : (old middle new : Framing) (stream piece : List ℕ) (at most : ℕ) (fed : Fed) (lines : List (Option (List ℕ))) → piece ≡ take most (drop at stream)
    → Feeds old piece fed middle → fed.used ≤ length piece → TakesBytes middle (drop (at + fed.used) stream) lines new
    → TakesBytes old (drop at stream) (given_line fed.got middle.line ++ lines) new
feeds_on old middle new stream piece at most fed lines is feeds within takes =
    let rest = drop at stream in
    let whole : piece ++ drop most rest ≡ rest = ap (λ l. l ++ drop most rest) is ∙ take-append-drop most rest in
    let left : drop (at + fed.used) stream ≡ drop fed.used piece ++ drop most rest =
    sym (drop-drop fed.used at stream) ∙ (ap (drop fed.used) (sym whole) ∙ drop-append-le fed.used piece (drop most rest) within) in
    subst (λ l. TakesBytes old l (given_line fed.got middle.line ++ lines) new) whole
    (next_piece old middle new piece (drop most rest) fed lines feeds (subst (λ l. TakesBytes middle l lines new) left takes))

-- one more result
pub within_more : (all more : Bool) (got : Got) (line : List ℕ) (lines : List (Option (List ℕ))) → more ≡ list_all is_some (given_line got line)
    → (all && list_all is_some (given_line got line ++ lines)) ≡ ((all && more) && list_all is_some lines)
within_more true more got line lines is = list_all-append is_some (given_line got line) lines ∙ ap (λ b. b && list_all is_some lines) (sym is)
within_more false more got line lines is = refl

-- a prefix of the rest ends within the stream
pub inside : (stream piece : List ℕ) (at most used : ℕ) → piece ≡ take most (drop at stream) → at ≤ length stream → used ≤ length piece → at + used ≤ length stream
inside stream piece at most used is begun within = omega (arith, begun, within, ap length is, length-take most (drop at stream), length-drop at stream)

and_true : (b : Bool) → (b && true) ≡ b
and_true true = refl
and_true false = refl

-- no byte remains
pub fed_all : (now start : Framing) (stream : List ℕ) (at : ℕ) (within : Bool) → length stream ≤ at
    → ((lines : List (Option (List ℕ))) (new : Framing) → TakesBytes now (drop at stream) lines new → (all : List (Option (List ℕ))) × TakesBytes start stream all new × (list_all is_some all ≡ (within && list_all is_some lines)))
    → (lines : List (Option (List ℕ))) × TakesBytes start stream lines now × (within ≡ list_all is_some lines)
fed_all now start stream at within past goes =
    let (all, takes, is) = goes [] now (subst (λ l. TakesBytes now l [] now) (sym (drop_all at stream past)) (none_left now)) in
    (all, takes, sym (is ∙ and_true within))

-- the lines in front of the end, and the result at the end
pub all_within : (within last : Bool) (stream : List ℕ) (lines : List (Option (List ℕ))) (got : Got) (line : List ℕ) → within ≡ list_all is_some lines → last ≡ list_all is_some (given_line got line)
    → lines ++ given_line got line ≡ lines_of stream → (within && last) ≡ list_all is_some (lines_of stream)
all_within within last stream lines got line is ends whole =
    ap (λ b. b && last) is ∙ (ap (λ b. list_all is_some lines && b) ends ∙ (sym (list_all-append is_some lines (given_line got line)) ∙ ap (list_all is_some) whole))
