-- Steps over the bytes of a text.
use Rattle.std.proofs.Common.{◌≡◌, ℕ, zero, suc, ◌+◌, ◌≤◌, ◌<◌, Bool, true, false, cond, ltb, List, [], ◌∷◌, length, take, drop, Option, Some, None, ◌||◌, refl, sym, ap, inl, inr, get_or, add-one, add-zero, zero-add, ◌-◌, ◌∙◌, arith}
use Rattle.std.specs.List.{list_all}
use Rattle.std.specs.Prelude.{unwrap_or, not, ◌&&◌, ◌==◌}
use Rattle.std.specs.Option.{option_map, option_map_or}
use Rattle.std.proofs.lemmas.Bool.Decides.{nat_tests}
use Rattle.std.proofs.lemmas.Bool.{lt-ltb, le-ltb, cases_lt}
use Rattle.std.proofs.lemmas.List.Sums.{sum_by-cons}
use Rattle.std.proofs.Math.Seq.{drop-cons, take-length}
use Rattle.std.proofs.Math.ListN.{drop_of_length-le}
use Rattle.std.proofs.lemmas.List.{drop-drop, length-drop}
use Rattle.lf_lex.specs.declared.tokens.TokenKind.{TokenKind}
use Rattle.lf_lex.specs.declared.tokens.TokenKind.TheVariants.{Word, Quoted}
use Rattle.lf_lex.specs.declared.tokens.LexFault.TheVariants.{BadToken, UnexpectedEnd}
use Rattle.lf_lex.specs.Tokens.{Lexed, is_white, is_line_feed, line_feeds, with_token, token_at, stopped, is_word_byte, BeginsToken, comment_len, word_len, quoted_len, tokens_from}

pub unwrap_position : (n len : ℕ) → n ≤ len → unwrap_or (cond (ltb n len) (Some n) None) len ≡ n
unwrap_position n len le =
    elim (cases_lt n len) [
      | inl lt ↦ rw (lt-ltb n len lt) refl
      | inr ge ↦ rw (le-ltb n len ge) (omega arith)
    ]

abbrev pub blank_len : Bool → List ℕ → ℕ
blank_len in_comment bytes = cond in_comment (comment_len bytes) 0

pub first_and_rest : (text : List ℕ) (i : ℕ) → i < length text → drop i text ≡ get_or text i 0 ∷ drop (i + 1) text
first_and_rest text i lt = rw (add-one, drop-cons text i 0 lt) refl

pub one_more : (n : ℕ) → 1 + n ≡ suc n
one_more n = omega arith

-- What is left after one more byte.

line_feed_step : (in_comment : Bool) (at line b : ℕ) (bytes : List ℕ) → b ≡ 10 → tokens_from (blank_len in_comment (b ∷ bytes)) at line (b ∷ bytes) ≡ tokens_from 0 (at + 1) (line + 1) bytes
unfolding tokens_from
line_feed_step true at line b bytes e = rw e refl
line_feed_step false at line b bytes e = rw e refl

comment_step : (at line b : ℕ) (bytes : List ℕ) → is_line_feed b ≡ false → tokens_from (blank_len true (b ∷ bytes)) at line (b ∷ bytes) ≡ tokens_from (comment_len bytes) (at + 1) line bytes
unfolding tokens_from
comment_step at line b bytes h = rw (h, one_more (comment_len bytes)) (rw h refl)

number_sign_step : (in_comment : Bool) (at line b : ℕ) (bytes : List ℕ) → b ≡ 35 → tokens_from (blank_len in_comment (b ∷ bytes)) at line (b ∷ bytes) ≡ tokens_from (comment_len bytes) (at + 1) line bytes
unfolding tokens_from
number_sign_step true at line b bytes e = comment_step at line b bytes (rw e refl)
number_sign_step false at line b bytes e = rw e refl

pub white_step : (at line b : ℕ) (bytes : List ℕ) → is_line_feed b ≡ false → is_white b ≡ true → tokens_from 0 at line (b ∷ bytes) ≡ tokens_from 0 (at + 1) line bytes
unfolding tokens_from
white_step at line b bytes h w = rw (w, h) refl

pub not_ten : (b : ℕ) → (b ≡ 10 → ⊥) → is_line_feed b ≡ false
not_ten b h = grind (arith, nat_tests)

pub over_line_feed : (in_comment : Bool) (at line : ℕ) (text : List ℕ) (total : Lexed) → at < length text → get_or text at 0 ≡ 10
    → tokens_from (blank_len in_comment (drop at text)) at line (drop at text) ≡ total
    → tokens_from 0 (at + 1) (line + 1) (drop (at + 1) text) ≡ total
over_line_feed in_comment at line text total lt e same =
    sym (line_feed_step in_comment at line (get_or text at 0) (drop (at + 1) text) e) ∙ rw (first_and_rest text at lt) at same

pub over_number_sign : (in_comment : Bool) (at line : ℕ) (text : List ℕ) (total : Lexed) → at < length text → get_or text at 0 ≡ 35
    → tokens_from (blank_len in_comment (drop at text)) at line (drop at text) ≡ total
    → tokens_from (comment_len (drop (at + 1) text)) (at + 1) line (drop (at + 1) text) ≡ total
over_number_sign in_comment at line text total lt e same =
    sym (number_sign_step in_comment at line (get_or text at 0) (drop (at + 1) text) e) ∙ rw (first_and_rest text at lt) at same

pub over_comment : (in_comment : Bool) (at line : ℕ) (text : List ℕ) (total : Lexed) → at < length text → in_comment ≡ true → (get_or text at 0 ≡ 10 → ⊥)
    → tokens_from (blank_len in_comment (drop at text)) at line (drop at text) ≡ total
    → tokens_from (blank_len in_comment (drop (at + 1) text)) (at + 1) line (drop (at + 1) text) ≡ total
over_comment true at line text total lt e ne same =
    sym (comment_step at line (get_or text at 0) (drop (at + 1) text) (not_ten _ ne)) ∙ rw (first_and_rest text at lt) at same
over_comment false at line text total lt e ne same = absurd cc

pub over_white : (in_comment : Bool) (at line : ℕ) (text : List ℕ) (total : Lexed) → at < length text → in_comment ≡ false → (get_or text at 0 ≡ 10 → ⊥) → is_white (get_or text at 0) ≡ true
    → tokens_from (blank_len in_comment (drop at text)) at line (drop at text) ≡ total
    → tokens_from (blank_len in_comment (drop (at + 1) text)) (at + 1) line (drop (at + 1) text) ≡ total
over_white true at line text total lt e ne w same = absurd cc
over_white false at line text total lt e ne w same =
    sym (white_step at line (get_or text at 0) (drop (at + 1) text) (not_ten _ ne) w) ∙ rw (first_and_rest text at lt) at same

-- The number of bytes of a quoted text that are left.

pub quoted_goes_on : (escaped : Bool) (i b : ℕ) (bytes : List ℕ) → (not escaped && b == 34) ≡ false
    → option_map (λ n. i + n) (quoted_len escaped (b ∷ bytes)) ≡ option_map (λ n. i + 1 + n) (quoted_len (not escaped && b == 92) bytes)
quoted_goes_on escaped i b bytes h = rw h (moved i (quoted_len (not escaped && b == 92) bytes))
  where
    moved : (i : ℕ) (o : Option ℕ) → option_map (λ n. i + n) (option_map (λ n. n + 1) o) ≡ option_map (λ n. i + 1 + n) o
    moved i None = refl
    moved i (Some n) = let e : i + (n + 1) ≡ i + 1 + n = omega arith in rw e refl

-- The number of line feeds in a list that is cut at its front.
pub line_feeds_cons : (b : ℕ) (bytes : List ℕ) → line_feeds (b ∷ bytes) ≡ cond (is_line_feed b) 1 0 + line_feeds bytes
line_feeds_cons b bytes = sum_by-cons (λ x. cond (is_line_feed x) 1 0) b bytes

after_one : (b : Bool) (line n : ℕ) → cond b (line + 1) line + n ≡ line + (cond b 1 0 + n)
after_one true line n = omega arith
after_one false line n = omega arith

pub not_equal : (b n : ℕ) → (b ≡ n → ⊥) → (b == n) ≡ false
not_equal b n h = grind (arith, nat_tests)

-- The end line of a choice of five, if the first is not taken.
choice_end : (a b c d e : Bool) (w x y z t u : Lexed) (v : ℕ) → a ≡ false → x.end_line ≡ v → y.end_line ≡ v → z.end_line ≡ v → t.end_line ≡ v → u.end_line ≡ v
    → (cond a w (cond b x (cond c y (cond d z (cond e t u))))).end_line ≡ v
choice_end true b c d e w x y z t u v h p q r k l = absurd cc
choice_end false true c d e w x y z t u v h p q r k l = p
choice_end false false true d e w x y z t u v h p q r k l = q
choice_end false false false true e w x y z t u v h p q r k l = r
choice_end false false false false true w x y z t u v h p q r k l = k
choice_end false false false false false w x y z t u v h p q r k l = l

option_end : (f : ℕ → Lexed) (o : Option ℕ) (d : Lexed) (v : ℕ) → ((n : ℕ) → (f n).end_line ≡ v) → d.end_line ≡ v → (option_map_or f o d).end_line ≡ v
option_end f None d v p q = q
option_end f (Some n) d v p q = p n

other_end : (at line b : ℕ) (bytes : List ℕ) → ((n k l : ℕ) → (tokens_from n k l bytes).end_line ≡ l + line_feeds bytes)
    → is_line_feed b ≡ false → (tokens_from 0 at line (b ∷ bytes)).end_line ≡ line + line_feeds bytes
unfolding tokens_from
other_end at line b bytes each h =
    let quoted : ℕ → Lexed = λ more. with_token (token_at Quoted at line b bytes more) (tokens_from more (at + 1) line bytes) in
    choice_end (is_line_feed b) (is_white b) (b == 35) (b == 34) (list_all is_word_byte (b ∷ take (word_len bytes) bytes))
    (tokens_from 0 (at + 1) (line + 1) bytes) (tokens_from 0 (at + 1) line bytes) (tokens_from (comment_len bytes) (at + 1) line bytes) (option_map_or quoted (quoted_len false bytes) (stopped (UnexpectedEnd (line + line_feeds bytes)) (line + line_feeds bytes)))
    (with_token (token_at Word at line b bytes (word_len bytes)) (tokens_from (word_len bytes) (at + 1) line bytes)) (stopped (BadToken line) (line + line_feeds bytes)) (line + line_feeds bytes)
    h (each 0 (at + 1) line) (each (comment_len bytes) (at + 1) line)
    (option_end quoted (quoted_len false bytes) (stopped (UnexpectedEnd (line + line_feeds bytes)) (line + line_feeds bytes)) (line + line_feeds bytes) (λ n. each n (at + 1) line) refl)
    (each (word_len bytes) (at + 1) line) refl

end_line_step : (at line b : ℕ) (bytes : List ℕ) → ((n k l : ℕ) → (tokens_from n k l bytes).end_line ≡ l + line_feeds bytes)
    → (feed : Bool) → is_line_feed b ≡ feed → (tokens_from 0 at line (b ∷ bytes)).end_line ≡ line + (cond feed 1 0 + line_feeds bytes)
unfolding tokens_from
end_line_step at line b bytes each true h = rw h (each 0 (at + 1) (line + 1) ∙ omega arith)
end_line_step at line b bytes each false h = other_end at line b bytes each h ∙ omega arith

-- The line on which the rest ends.
pub end_line_is : (before at line : ℕ) (bytes : List ℕ) → (tokens_from before at line bytes).end_line ≡ line + line_feeds bytes
unfolding tokens_from
end_line_is before at line [] = sym (add-zero line)
end_line_is (suc before) at line (b ∷ bytes) =
    end_line_is before (at + 1) (cond (is_line_feed b) (line + 1) line) bytes ∙ after_one (is_line_feed b) line (line_feeds bytes) ∙ rw (line_feeds_cons b bytes) refl
end_line_is zero at line (b ∷ bytes) =
    end_line_step at line b bytes (λ n k l. end_line_is n k l bytes) (is_line_feed b) refl ∙ rw (line_feeds_cons b bytes) refl

-- Bytes that belong to an earlier token.
pub after_front : (n at line : ℕ) (bytes : List ℕ) → n ≤ length bytes → tokens_from n at line bytes ≡ tokens_from 0 (at + n) (line + line_feeds (take n bytes)) (drop n bytes)
unfolding tokens_from
after_front zero at line bytes le = rw (add-zero, add-zero) refl
after_front (suc n) at line [] le = absurd (omega arith)
after_front (suc n) at line (b ∷ bytes) le =
    let e : at + 1 + n ≡ at + suc n = omega arith in
    let f = after_one (is_line_feed b) line (line_feeds (take n bytes)) in
    after_front n (at + 1) (cond (is_line_feed b) (line + 1) line) bytes (omega arith) ∙ rw (e, f, ← line_feeds_cons b (take n bytes)) refl

-- The token at an offset, with what is left after it.
placed : (kind : TokenKind) (text : List ℕ) (at line more b : ℕ) (t : List ℕ) → at < length text → get_or text at 0 ≡ b → is_line_feed b ≡ false → more ≤ length (drop (at + 1) text)
    → t ≡ take (at + 1 + more - at) (drop at text)
    → tokens_from 0 at line (b ∷ drop (at + 1) text) ≡ with_token (token_at kind at line b (drop (at + 1) text) more) (tokens_from more (at + 1) line (drop (at + 1) text))
    → tokens_from 0 at line (drop at text) ≡ with_token (record { text = t; kind = kind; start = at; stop = at + 1 + more; line = line }) (tokens_from 0 (at + 1 + more) (line + line_feeds t) (drop (at + 1 + more) text))
placed kind text at line more b t lt byte h le t_eq read =
    let bytes = drop (at + 1) text in
    let e : drop at text ≡ b ∷ drop (at + 1) text = first_and_rest text at lt ∙ rw byte refl in
    let n : at + 1 + more - at ≡ suc more = omega arith in
    let t-is : t ≡ b ∷ take more (drop (at + 1) text) = t_eq ∙ rw (n, e) refl in
    let feeds : line_feeds t ≡ line_feeds (take more (drop (at + 1) text)) = ap line_feeds t-is ∙ line_feeds_cons b (take more bytes) ∙ rw h (zero-add _) in
    let rest-is : tokens_from more (at + 1) line (drop (at + 1) text) ≡ tokens_from 0 (at + 1 + more) (line + line_feeds t) (drop (at + 1 + more) text) = after_front more (at + 1) line bytes le ∙ rw (feeds, drop-drop) refl in
    rw e (read ∙ rw (rest-is, ← t-is) refl)

pub quoted_placed : (text : List ℕ) (at line more : ℕ) (t : List ℕ) → at < length text → get_or text at 0 ≡ 34 → more ≤ length (drop (at + 1) text)
    → t ≡ take (at + 1 + more - at) (drop at text) → Some more ≡ quoted_len false (drop (at + 1) text)
    → tokens_from 0 at line (drop at text) ≡ with_token (record { text = t; kind = Quoted; start = at; stop = at + 1 + more; line = line }) (tokens_from 0 (at + 1 + more) (line + line_feeds t) (drop (at + 1 + more) text))
unfolding tokens_from
quoted_placed text at line more t lt byte le t_eq e = placed Quoted text at line more 34 t lt byte refl le t_eq (rw (← e) refl)

pub quoted_stops : (text : List ℕ) (at line : ℕ) → at < length text → get_or text at 0 ≡ 34 → None ≡ quoted_len false (drop (at + 1) text)
    → tokens_from 0 at line (drop at text) ≡ stopped (UnexpectedEnd (line + line_feeds (drop (at + 1) text))) (line + line_feeds (drop at text))
unfolding tokens_from
quoted_stops text at line lt byte e =
    let feeds : line_feeds (34 ∷ drop (at + 1) text) ≡ line_feeds (drop (at + 1) text) = line_feeds_cons 34 (drop (at + 1) text) ∙ zero-add _ in
    rw (first_and_rest text at lt, byte, feeds, ← e) refl

or_false : (a b : Bool) → (a || b) ≡ false → (a ≡ false) × (b ≡ false)
or_false true b e = absurd cc
or_false false b e = (refl, e)

pub no_line_feed : (b : ℕ) → is_white b ≡ false → is_line_feed b ≡ false
no_line_feed b h = (or_false (b == 32 || b == 9) (b == 10) (or_false (b == 32 || b == 9 || b == 10) (b == 13) h).0).1

pub word_read : (at line b : ℕ) (bytes : List ℕ) → BeginsToken (b ∷ bytes) → (b == 34) ≡ false → list_all is_word_byte (b ∷ take (word_len bytes) bytes) ≡ true
    → tokens_from 0 at line (b ∷ bytes) ≡ with_token (token_at Word at line b bytes (word_len bytes)) (tokens_from (word_len bytes) (at + 1) line bytes)
unfolding tokens_from
word_read at line b bytes begins q w = rw (begins.0, no_line_feed b begins.0, begins.1, q, w) refl

pub word_stops_at : (at line b : ℕ) (bytes : List ℕ) → BeginsToken (b ∷ bytes) → (b == 34) ≡ false → list_all is_word_byte (b ∷ take (word_len bytes) bytes) ≡ false
    → tokens_from 0 at line (b ∷ bytes) ≡ stopped (BadToken line) (line + line_feeds bytes)
unfolding tokens_from
word_stops_at at line b bytes begins q w = rw (begins.0, no_line_feed b begins.0, begins.1, q, w) refl

word_is : (text : List ℕ) (at : ℕ) → at < length text → take (at + 1 + word_len (drop (at + 1) text) - at) (drop at text) ≡ get_or text at 0 ∷ take (word_len (drop (at + 1) text)) (drop (at + 1) text)
word_is text at lt =
    let n : at + 1 + word_len (drop (at + 1) text) - at ≡ suc (word_len (drop (at + 1) text)) = omega arith in
    rw (n, first_and_rest text at lt) refl

pub word_placed : (text : List ℕ) (at line more : ℕ) (t : List ℕ) → at < length text → BeginsToken (drop at text) → (get_or text at 0 ≡ 34 → ⊥) → more ≡ word_len (drop (at + 1) text) → more ≤ length (drop (at + 1) text)
    → t ≡ take (at + 1 + more - at) (drop at text) → list_all is_word_byte t ≡ true
    → tokens_from 0 at line (drop at text) ≡ with_token (record { text = t; kind = Word; start = at; stop = at + 1 + more; line = line }) (tokens_from 0 (at + 1 + more) (line + line_feeds t) (drop (at + 1 + more) text))
word_placed text at line more t lt begins no_quote m le t_eq w =
    let begins' : BeginsToken (get_or text at 0 ∷ drop (at + 1) text) = rw (first_and_rest text at lt) at begins in
    let w' : list_all is_word_byte (get_or text at 0 ∷ take (word_len (drop (at + 1) text)) (drop (at + 1) text)) ≡ true = rw (t_eq, m, word_is text at lt) at w in
    let read : tokens_from 0 at line (get_or text at 0 ∷ drop (at + 1) text) ≡ with_token (token_at Word at line (get_or text at 0) (drop (at + 1) text) more) (tokens_from more (at + 1) line (drop (at + 1) text))
    = rw m (word_read at line (get_or text at 0) (drop (at + 1) text) begins' (not_equal _ _ no_quote) w') in
    placed Word text at line more (get_or text at 0) t lt refl (no_line_feed _ begins'.0) le t_eq read

pub word_stops : (text : List ℕ) (at line : ℕ) → at < length text → BeginsToken (drop at text) → (get_or text at 0 ≡ 34 → ⊥)
    → list_all is_word_byte (get_or text at 0 ∷ take (word_len (drop (at + 1) text)) (drop (at + 1) text)) ≡ false
    → tokens_from 0 at line (drop at text) ≡ stopped (BadToken line) (line + line_feeds (drop at text))
word_stops text at line lt begins no_quote w =
    let begins' : BeginsToken (get_or text at 0 ∷ drop (at + 1) text) = rw (first_and_rest text at lt) at begins in
    let feeds : line_feeds (get_or text at 0 ∷ drop (at + 1) text) ≡ line_feeds (drop (at + 1) text) = line_feeds_cons _ (drop (at + 1) text) ∙ rw (no_line_feed _ begins'.0) (zero-add _) in
    rw (first_and_rest text at lt, feeds) (word_stops_at at line (get_or text at 0) (drop (at + 1) text) begins' (not_equal _ _ no_quote) w)

pub quoted_past : (escaped later : Bool) (i : ℕ) (text : List ℕ) → i < length text → (not escaped && get_or text i 0 == 34) ≡ false → later ≡ (not escaped && get_or text i 0 == 92)
    → option_map (λ n. i + n) (quoted_len escaped (drop i text)) ≡ quoted_len false text
    → option_map (λ n. i + 1 + n) (quoted_len later (drop (i + 1) text)) ≡ quoted_len false text
quoted_past escaped later i text lt h l so_far =
    rw l (sym (quoted_goes_on escaped i (get_or text i 0) (drop (i + 1) text) h)) ∙ rw (first_and_rest text i lt) at so_far

pub drop_whole : (n : ℕ) (text : List ℕ) → take (length text - n) (drop n text) ≡ drop n text
drop_whole n text = rw (← length-drop n text) (take-length (drop n text))

pub nothing_left : (at line : ℕ) (text : List ℕ) (old : Lexed) → length text ≤ at → tokens_from 0 at line (drop at text) ≡ old → (old.tokens ≡ []) × (old.fault ≡ None)
unfolding tokens_from
nothing_left at line text old le e =
    let empty : drop at text ≡ [] = drop_of_length-le text le in
    let is = rw empty at e in
    (sym (ap (λ (x : Lexed). x.tokens) is), sym (ap (λ (x : Lexed). x.fault) is))
