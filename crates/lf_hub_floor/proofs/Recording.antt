-- Accepted changes and their replies can be records: each is one line without a zero byte.
use Rattle.std.proofs.Common.{◌≡◌, ℕ, zero, suc, ◌+◌, ◌-◌, ◌/◌, ◌%◌, ◌<◌, List, [], ◌∷◌, ◌++◌, length, take, get_or, Bool, true, false, ◌==◌, ◌&&◌, not, cond, Some, None, refl, ap, sym, ◌∙◌, arith, append-nil, ℤ, pos, negsuc}
use Rattle.std.specs.Prelude.{decimal, nat_le, option_and_then}
use Rattle.std.specs.List.{list_all, join_with_byte}
use Rattle.std.specs.Fmt.{signed_decimal, digits, digits_onto, digit_glyph}
use Rattle.std.proofs.lemmas.Bool.{false≢true}
use Rattle.std.proofs.lemmas.Bool.Decides.{nat_tests}
use Rattle.std.proofs.lemmas.List.Folds.{list_all-append, list_all_more}
use Rattle.std.proofs.lemmas.Option.{none-some}
use Rattle.lf_orient.specs.declared.Orient.{Orient}
use Rattle.lf_orient.specs.declared.Orient.TheVariants.{N, W, S, E, FN, FW, FS, FE}
use Rattle.lf_orient.specs.Words.{orient_word}
use Rattle.lf_floorplan.specs.declared.place.Place.{Place}
use Rattle.lf_proto.specs.declared.request.Command.{Command}
use Rattle.lf_proto.specs.declared.reply.Reply.{Reply}
use Rattle.lf_proto.specs.declared.reply.Reply.TheVariants.{Done, Opened, Revision, At, Legalized, Tidied, Report, Def, Refused}
use Rattle.lf_proto.specs.Lines.{fields, is_line_byte}
use Rattle.lf_proto.specs.Requests.{command_in, command_on}
use Rattle.lf_proto.specs.ReplyText.{reply_text, reply_words}
use Rattle.lf_proto.specs.Stream.{without_return}
use Rattle.lf_proto.proofs.Fields.{line_head}
use Rattle.lf_journal_text.specs.Records.{is_line}
use Rattle.lf_floor_model.specs.VerbLaws.{is_ok}
use Rattle.lf_server.specs.Exchanges.{is_long}
use Rattle.lf_hub_floor.specs.Answers.{request_on}
use Rattle.lf_hub_floor.specs.Laws.{CanBeRecorded}

-- ---- lines

abbrev is_plain : ℕ → Bool
is_plain b = not (b == 10) && not (b == 0)

both : (a b : Bool) → a ≡ true → b ≡ true → (a && b) ≡ true
both true true p q = refl
both true false p q = q
both false b p q = p

byte_plain : (b : ℕ) → is_line_byte b ≡ true → is_plain b ≡ true
byte_plain b line = grind (arith, nat_tests)

cons_line : (b : ℕ) (bs : List ℕ) → is_plain b ≡ true → is_line bs ≡ true → is_line (b ∷ bs) ≡ true
cons_line b bs first rest = both (is_plain b) (list_all is_plain bs) first rest

append_line : (xs ys : List ℕ) → is_line xs ≡ true → is_line ys ≡ true → is_line (xs ++ ys) ≡ true
append_line xs ys first rest = list_all-append is_plain xs ys ∙ both (is_line xs) (is_line ys) first rest

bytes_line : (bs : List ℕ) → list_all is_line_byte bs ≡ true → is_line bs ≡ true
bytes_line [] line = refl
bytes_line (b ∷ bs) line = let parts = line_head b bs line in cons_line b bs (byte_plain b parts.0) (bytes_line bs parts.1)

-- A line with a carriage return at its end.
take_whole : (xs : List ℕ) (n : ℕ) → n ≡ length xs → take n xs ≡ xs
take_whole [] zero e = refl
take_whole [] (suc n) e = refl
take_whole (x ∷ xs) zero e = absurd (omega arith)
take_whole (x ∷ xs) (suc n) e = ap (λ (ys : List ℕ). x ∷ ys) (take_whole xs n (omega arith))

return_line : (x : ℕ) (xs : List ℕ) (i : ℕ) → length (x ∷ xs) ≡ i + 1 → get_or (x ∷ xs) i 0 ≡ 13 → is_line (take i (x ∷ xs)) ≡ true
    → is_line (x ∷ xs) ≡ true
return_line x xs i size last front =
    ap is_line (sym (take_whole (x ∷ xs) (i + 1) (sym size)))
    ∙ (list_all_more is_plain (x ∷ xs) i 0 (omega arith)
    ∙ both (is_line (take i (x ∷ xs))) (is_plain (get_or (x ∷ xs) i 0)) front (ap is_plain last))

is_13 : (b : ℕ) → (b == 13) ≡ true → b ≡ 13
is_13 b same = grind (arith, nat_tests)

ended_by : (x : ℕ) (xs : List ℕ) (b : Bool) → (get_or (x ∷ xs) (length (x ∷ xs) - 1) 0 == 13) ≡ b
    → is_line (cond b (take (length (x ∷ xs) - 1) (x ∷ xs)) (x ∷ xs)) ≡ true → is_line (x ∷ xs) ≡ true
ended_by x xs true same line =
    return_line x xs (length (x ∷ xs) - 1) (omega arith) (is_13 (get_or (x ∷ xs) (length (x ∷ xs) - 1) 0) same) line
ended_by x xs false other line = line

without_line : (bs : List ℕ) → is_line (without_return bs) ≡ true → is_line bs ≡ true
without_line [] line = refl
without_line (x ∷ xs) line = ended_by x xs (get_or (x ∷ xs) (length (x ∷ xs) - 1) 0 == 13) refl line

command_line : (bs : List ℕ) (command : Command (List ℕ) Place) → command_on bs ≡ Some command → list_all is_line_byte bs ≡ true
command_line bs command is = by (list_all is_line_byte bs) is where
  by : (b : Bool) → cond b (command_in (fields bs)) None ≡ Some command → b ≡ true
  by true e = refl
  by false e = absurd (none-some command e)

pub request_line : (line : List ℕ) (command : Command (List ℕ) Place) → request_on line ≡ Some command → is_line line ≡ true
request_line line command is = by (nat_le (length line) 4096) is where
  by : (b : Bool) → option_and_then command_on (cond b (Some (without_return line)) None) ≡ Some command → is_line line ≡ true
  by true e = without_line line (bytes_line (without_return line) (command_line (without_return line) command e))
  by false e = absurd (none-some command e)

-- ---- replies

glyph_plain : (n : ℕ) → is_plain (digit_glyph false (n % 10)) ≡ true
glyph_plain n = digit (n % 10) (omega arith) where
  digit : (d : ℕ) → d < 10 → is_plain (digit_glyph false d) ≡ true
  digit d low = grind (arith, nat_tests)

either_line : (b : Bool) (xs ys : List ℕ) → is_line xs ≡ true → is_line ys ≡ true → is_line (cond b xs ys) ≡ true
either_line true xs ys first second = first
either_line false xs ys first second = second

digits_line : (k n : ℕ) (acc : List ℕ) → is_line acc ≡ true → is_line (digits_onto k 10 false n acc) ≡ true
digits_line zero n acc line = line
digits_line (suc k) n acc line =
    let more = digit_glyph false (n % 10) ∷ acc in
    let next : is_line more ≡ true = cons_line (digit_glyph false (n % 10)) acc (glyph_plain n) line in
    either_line (n / 10 == 0) more (digits_onto k 10 false (n / 10) more) next (digits_line k (n / 10) more next)

decimal_line : (n : ℕ) → is_line (decimal n) ≡ true
unfolding digits
decimal_line n = digits_line 64 n [] refl

signed_line : (z : ℤ) → is_line (signed_decimal z) ≡ true
signed_line (pos n) = decimal_line n
signed_line (negsuc n) = cons_line 45 (decimal (suc n)) refl (decimal_line (suc n))

orient_line : (o : Orient) → is_line (orient_word o) ≡ true
orient_line N = refl
orient_line W = refl
orient_line S = refl
orient_line E = refl
orient_line FN = refl
orient_line FW = refl
orient_line FS = refl
orient_line FE = refl

-- Each word is part of a line.
abbrev AreWords : List (List ℕ) → Type 0
AreWords [] = Unit {0}
AreWords (w ∷ ws) = (is_line w ≡ true) × AreWords ws

words_line : (ws : List (List ℕ)) → AreWords ws → is_line (join_with_byte 32 ws) ≡ true
words_line [] are = refl
words_line (w ∷ []) are = are.0
words_line (w ∷ v ∷ ws) are =
    append_line w (32 ∷ join_with_byte 32 (v ∷ ws)) are.0 (cons_line 32 (join_with_byte 32 (v ∷ ws)) refl (words_line (v ∷ ws) are.1))

reply_are_words : (reply : Reply) (a b : List ℕ) → is_ok reply ≡ true → is_long reply ≡ false → AreWords (reply_words reply a b)
reply_are_words Done a b ok short = (refl, tt)
reply_are_words (Opened session revision) a b ok short = (refl, (decimal_line session, (decimal_line revision, tt)))
reply_are_words (Revision revision) a b ok short = (refl, (decimal_line revision, tt))
reply_are_words (At place) a b ok short = (refl, (signed_line place.x, (signed_line place.y, (orient_line place.orient, tt))))
reply_are_words (Legalized revision place) a b ok short =
    (refl, (decimal_line revision, (signed_line place.x, (signed_line place.y, (orient_line place.orient, tt)))))
reply_are_words (Tidied revision moved) a b ok short = (refl, (decimal_line revision, (decimal_line moved, tt)))
reply_are_words (Report text) a b ok short = absurd (false≢true (sym short))
reply_are_words (Def text) a b ok short = absurd (false≢true (sym short))
reply_are_words (Refused refusal) a b ok short = absurd (false≢true ok)

no_text_after : (reply : Reply) (a b : List ℕ) → is_long reply ≡ false
    → reply_text reply a b ≡ join_with_byte 32 (reply_words reply a b) ++ 10 ∷ []
no_text_after (Def text) a b short = absurd (false≢true (sym short))
no_text_after (Report text) a b short = absurd (false≢true (sym short))
no_text_after reply a b short = append-nil (join_with_byte 32 (reply_words reply a b) ++ 10 ∷ [])

pub can_be_recorded : (line text : List ℕ) (reply : Reply) (a b : List ℕ) → is_line line ≡ true → is_ok reply ≡ true → is_long reply ≡ false
    → text ≡ reply_text reply a b → CanBeRecorded line text
can_be_recorded line text reply a b plain ok short is = record {
  line_is = plain;
  reply = join_with_byte 32 (reply_words reply a b);
  reply_is = words_line (reply_words reply a b) (reply_are_words reply a b ok short);
  text_is = is ∙ no_text_after reply a b short;
}
