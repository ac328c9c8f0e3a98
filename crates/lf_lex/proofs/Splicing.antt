-- The tokens of a text in which runs of bytes are replaced.
use Rattle.std.proofs.Common.{◌≡◌, ℕ, zero, suc, ◌+◌, ◌-◌, ◌≤◌, Bool, true, false, cond, List, [], ◌∷◌, ◌++◌, map, length, take, drop, Option, Some, None, refl}
use Rattle.std.proofs.Common.{sym, ap, ◌∙◌, arith}
use Rattle.std.specs.Prelude.{not, ◌&&◌, ◌==◌}
use Rattle.std.specs.Option.{option_map_or}
use Rattle.std.specs.List.{list_all}
use Rattle.std.proofs.lemmas.List.{drop-drop, append_assoc, map-append}
use Rattle.std.proofs.Math.ListN.{take-append-drop}
use Rattle.std.proofs.lemmas.List.Sums.{prefix_len-le-length}
use Rattle.lf_lex.specs.declared.tokens.TokenKind.{TokenKind}
use Rattle.lf_lex.specs.declared.tokens.TokenKind.TheVariants.{Word, Quoted}
use Rattle.lf_lex.specs.declared.tokens.LexFault.TheVariants.{BadToken, UnexpectedEnd}
use Rattle.lf_lex.specs.Tokens.{Lexed, Lexeme, PlainToken, plain, is_white, is_line_feed, is_word_byte, line_feeds, comment_len, word_len, quoted_len, with_token}
use Rattle.lf_lex.specs.Tokens.{token_at, stopped, tokens_from}
use Rattle.lf_lex.specs.Splices.{Splice, spliced, joined_words, spaced, is_word_text, plain_word, LastIs, ReplacesTokens, AreEdited}
use Rattle.lf_lex.proofs.Scanning.{after_front, word_read, word_stops_at}
use Rattle.std.proofs.lemmas.Bool.Decides.{nat_tests}
use Rattle.lf_lex.proofs.Cutting.{cut, closing_in_front, starts_from, head_is, tail_is, no_token, blank_step, hash_step, quote_step}

abbrev pub plains : Lexed → List PlainToken
plains l = map plain l.tokens

-- Places do not matter.

abbrev Alike : Lexed → Lexed → Type 0
Alike x y = plains x ≡ plains y

choice_alike : (a b c d e : Bool) (w x y z t u w' x' y' z' t' u' : Lexed) → Alike w w' → Alike x x' → Alike y y' → Alike z z' → Alike t t' → Alike u u'
    → Alike (cond a w (cond b x (cond c y (cond d z (cond e t u))))) (cond a w' (cond b x' (cond c y' (cond d z' (cond e t' u')))))
choice_alike true b c d e w x y z t u w' x' y' z' t' u' o p q r k l = o
choice_alike false true c d e w x y z t u w' x' y' z' t' u' o p q r k l = p
choice_alike false false true d e w x y z t u w' x' y' z' t' u' o p q r k l = q
choice_alike false false false true e w x y z t u w' x' y' z' t' u' o p q r k l = r
choice_alike false false false false true w x y z t u w' x' y' z' t' u' o p q r k l = k
choice_alike false false false false false w x y z t u w' x' y' z' t' u' o p q r k l = l

option_alike : (f f' : ℕ → Lexed) (o : Option ℕ) (d d' : Lexed) → ((n : ℕ) → Alike (f n) (f' n)) → Alike d d'
    → Alike (option_map_or f o d) (option_map_or f' o d')
option_alike f f' None d d' p q = q
option_alike f f' (Some n) d d' p q = p n

pub moved : (n at at' line line' : ℕ) (bytes : List ℕ) → Alike (tokens_from n at line bytes) (tokens_from n at' line' bytes)
unfolding tokens_from
moved n at at' line line' [] = refl
moved (suc n) at at' line line' (b ∷ bytes) = moved n (at + 1) (at' + 1) (cond (is_line_feed b) (line + 1) line) (cond (is_line_feed b) (line' + 1) line') bytes
moved zero at at' line line' (b ∷ bytes) =
    let each : (n k k' : ℕ) → Alike (tokens_from n (at + 1) k bytes) (tokens_from n (at' + 1) k' bytes) = λ n k k'. moved n (at + 1) (at' + 1) k k' bytes in
    let quoted : ℕ → Lexed = λ more. with_token (token_at Quoted at line b bytes more) (tokens_from more (at + 1) line bytes) in
    let quoted' : ℕ → Lexed = λ more. with_token (token_at Quoted at' line' b bytes more) (tokens_from more (at' + 1) line' bytes) in
    choice_alike (is_line_feed b) (is_white b) (b == 35) (b == 34) (list_all is_word_byte (b ∷ take (word_len bytes) bytes))
    (tokens_from 0 (at + 1) (line + 1) bytes) (tokens_from 0 (at + 1) line bytes) (tokens_from (comment_len bytes) (at + 1) line bytes)
    (option_map_or quoted (quoted_len false bytes) (stopped (UnexpectedEnd (line + line_feeds bytes)) (line + line_feeds bytes)))
    (with_token (token_at Word at line b bytes (word_len bytes)) (tokens_from (word_len bytes) (at + 1) line bytes))
    (stopped (BadToken line) (line + line_feeds bytes))
    (tokens_from 0 (at' + 1) (line' + 1) bytes) (tokens_from 0 (at' + 1) line' bytes) (tokens_from (comment_len bytes) (at' + 1) line' bytes)
    (option_map_or quoted' (quoted_len false bytes) (stopped (UnexpectedEnd (line' + line_feeds bytes)) (line' + line_feeds bytes)))
    (with_token (token_at Word at' line' b bytes (word_len bytes)) (tokens_from (word_len bytes) (at' + 1) line' bytes))
    (stopped (BadToken line') (line' + line_feeds bytes))
    (each 0 (line + 1) (line' + 1)) (each 0 line line') (each (comment_len bytes) line line')
    (option_alike quoted quoted' (quoted_len false bytes) (stopped (UnexpectedEnd (line + line_feeds bytes)) (line + line_feeds bytes))
    (stopped (UnexpectedEnd (line' + line_feeds bytes)) (line' + line_feeds bytes))
    (λ n. ap (λ (x : List PlainToken). plain (token_at Quoted at line b bytes n) ∷ x) (each n line line')) refl)
    (ap (λ (x : List PlainToken). plain (token_at Word at line b bytes (word_len bytes)) ∷ x) (each (word_len bytes) line line')) refl

-- Holds if white space is at the front, or nothing is left.
abbrev pub BeginsWhite : List ℕ → Type 0
BeginsWhite [] = Unit {0}
BeginsWhite (b ∷ bytes) = is_white b ≡ true

pub and_true : (a b : Bool) → (a && b) ≡ true → (a ≡ true) × (b ≡ true)
and_true true b e = (refl, e)
and_true false b e = absurd cc

not_true : (a : Bool) → not a ≡ true → a ≡ false
not_true true e = absurd cc
not_true false e = refl

-- A word in front of white space.

word_byte_not_white : (b : ℕ) → is_word_byte b ≡ true → is_white b ≡ false
word_byte_not_white b h = grind (arith, nat_tests)

word_len_front : (bytes rest : List ℕ) → list_all is_word_byte bytes ≡ true → BeginsWhite rest
    → (word_len (bytes ++ rest) ≡ length bytes) × (take (length bytes) (bytes ++ rest) ≡ bytes) × (drop (length bytes) (bytes ++ rest) ≡ rest)
word_len_front [] [] h w = (refl, refl, refl)
word_len_front [] (b ∷ rest) h w = (rw w refl, refl, refl)
word_len_front (b ∷ bytes) rest h w =
    let h' = and_true (is_word_byte b) (list_all is_word_byte bytes) h in
    let r = word_len_front bytes rest h'.1 w in
    let e : 1 + word_len (bytes ++ rest) ≡ suc (length bytes) = omega (arith, r.0) in
    (rw (word_byte_not_white b h'.0) e, ap (λ (x : List ℕ). b ∷ x) r.1, r.2)

pub word_front : (at line : ℕ) (w rest : List ℕ) → is_word_text w ≡ true → BeginsWhite rest
    → plains (tokens_from 0 at line (w ++ rest)) ≡ plain_word w ∷ plains (tokens_from 0 at line rest)
word_front at line [] rest h white = absurd cc
word_front at line (b ∷ bytes) rest h white =
    let x = and_true (not (b == 35) && not (b == 34)) (list_all is_word_byte (b ∷ bytes)) h in
    let y = and_true (not (b == 35)) (not (b == 34)) x.0 in
    let z = and_true (is_word_byte b) (list_all is_word_byte bytes) x.1 in
    let f = word_len_front bytes rest z.1 white in
    let all : list_all is_word_byte (b ∷ take (word_len (bytes ++ rest)) (bytes ++ rest)) ≡ true = rw (f.0, f.1) x.1 in
    let read = word_read at line b (bytes ++ rest) (word_byte_not_white b z.0, not_true _ y.0) (not_true _ y.1) all in
    let within : length bytes ≤ length (bytes ++ rest) = length-append bytes rest in
    let after_it = after_front (length bytes) (at + 1) line (bytes ++ rest) within in
    let rest-is : plains (tokens_from (word_len (bytes ++ rest)) (at + 1) line (bytes ++ rest)) ≡ plains (tokens_from 0 at line rest) =
    rw (f.0, after_it, f.2) (moved 0 _ at _ line rest) in
    let first-is : plain (token_at Word at line b (bytes ++ rest) (word_len (bytes ++ rest))) ≡ plain_word (b ∷ bytes) = rw (f.0, f.1) refl in
    ap plains read ∙ ap (λ (x : List PlainToken). plain (token_at Word at line b (bytes ++ rest) (word_len (bytes ++ rest))) ∷ x) rest-is
    ∙ ap (λ (x : PlainToken). x ∷ plains (tokens_from 0 at line rest)) first-is
  where
    length-append : (xs ys : List ℕ) → length xs ≤ length (xs ++ ys)
    length-append [] ys = omega arith
    length-append (x ∷ xs) ys = omega (arith, length-append xs ys)

space_front : (at line : ℕ) (bytes : List ℕ) → plains (tokens_from 0 at line (32 ∷ bytes)) ≡ plains (tokens_from 0 at line bytes)
unfolding tokens_from
space_front at line bytes = moved 0 (at + 1) at line line bytes

spaced_white : (ws : List (List ℕ)) (rest : List ℕ) → BeginsWhite rest → BeginsWhite (spaced ws ++ rest)
spaced_white [] rest w = w
spaced_white (v ∷ ws) rest w = refl

spaced_front : (at line : ℕ) (ws : List (List ℕ)) (rest : List ℕ) → list_all is_word_text ws ≡ true → BeginsWhite rest
    → plains (tokens_from 0 at line (spaced ws ++ rest)) ≡ map plain_word ws ++ plains (tokens_from 0 at line rest)
spaced_front at line [] rest h white = refl
spaced_front at line (w ∷ ws) rest h white =
    let x = and_true (is_word_text w) (list_all is_word_text ws) h in
    space_front at line ((w ++ spaced ws) ++ rest)
    ∙ ap (λ (y : List ℕ). plains (tokens_from 0 at line y)) (append_assoc w (spaced ws) rest)
    ∙ word_front at line w (spaced ws ++ rest) x.0 (spaced_white ws rest white)
    ∙ ap (λ (y : List PlainToken). plain_word w ∷ y) (spaced_front at line ws rest x.1 white)

pub joined_front : (at line : ℕ) (ws : List (List ℕ)) (rest : List ℕ) → list_all is_word_text ws ≡ true → BeginsWhite rest
    → plains (tokens_from 0 at line (joined_words ws ++ rest)) ≡ map plain_word ws ++ plains (tokens_from 0 at line rest)
joined_front at line [] rest h white = refl
joined_front at line (w ∷ ws) rest h white =
    let x = and_true (is_word_text w) (list_all is_word_text ws) h in
    ap (λ (y : List ℕ). plains (tokens_from 0 at line y)) (append_assoc w (spaced ws) rest)
    ∙ word_front at line w (spaced ws ++ rest) x.0 (spaced_white ws rest white)
    ∙ ap (λ (y : List PlainToken). plain_word w ∷ y) (spaced_front at line ws rest x.1 white)

-- The bytes after a token.

word_after : (bytes : List ℕ) → BeginsWhite (drop (word_len bytes) bytes)
word_after [] = tt
word_after (b ∷ bytes) = by_test (is_white b) refl (word_after bytes)
  where
    by_test : (test : Bool) → is_white b ≡ test → BeginsWhite (drop (word_len bytes) bytes) → BeginsWhite (drop (word_len (b ∷ bytes)) (b ∷ bytes))
    by_test true h r = rw h h
    by_test false h r = let e : 1 + word_len bytes ≡ suc (word_len bytes) = omega arith in rw (h, e) r

-- The tokens after an offset that skipping reaches.
pub record FollowsBytes (at stop : ℕ) (bytes : List ℕ) (us : List Lexeme) : Type 0 where
  pub line : ℕ
  pub past : at ≤ stop
  pub rest : (tokens_from 0 stop line (drop (stop - at) bytes)).tokens ≡ us

abbrev pub Next : ℕ → List ℕ → Lexeme → List Lexeme → Type 0
Next at bytes u us = FollowsBytes at u.stop bytes us × (is_word_text u.text ≡ true → BeginsWhite (drop (u.stop - at) bytes))

next_taken : (kind : TokenKind) (at line b more : ℕ) (bytes : List ℕ) (u : Lexeme) (us : List Lexeme) → more ≤ length bytes
    → tokens_from 0 at line (b ∷ bytes) ≡ with_token (token_at kind at line b bytes more) (tokens_from more (at + 1) line bytes)
    → (is_word_text (b ∷ take more bytes) ≡ true → BeginsWhite (drop more bytes)) → (tokens_from 0 at line (b ∷ bytes)).tokens ≡ u ∷ us
    → Next at (b ∷ bytes) u us
next_taken kind at line b more bytes u us within same white e =
    let e' : token_at kind at line b bytes more ∷ (tokens_from more (at + 1) line bytes).tokens ≡ u ∷ us = sym (ap (λ (x : Lexed). x.tokens) same) ∙ e in
    let is = head_is (token_at kind at line b bytes more) u _ _ e' in
    let rest = tail_is (token_at kind at line b bytes more) u _ _ e' in
    let stop-is : u.stop ≡ at + 1 + more = sym (ap (λ (x : Lexeme). x.stop) is) in
    let text-is : u.text ≡ b ∷ take more bytes = sym (ap (λ (x : Lexeme). x.text) is) in
    let len-is : at + 1 + more - at ≡ suc more = omega arith in
    let front = after_front more (at + 1) line bytes within in
    let rest' : (tokens_from 0 (at + 1 + more) (line + line_feeds (take more bytes)) (drop more bytes)).tokens ≡ us = sym (ap (λ (x : Lexed). x.tokens) front)
    ∙ rest in (
      record { line = line + line_feeds (take more bytes); past = omega (arith, stop-is); rest = rw (stop-is, len-is) rest' },
      rw (stop-is, text-is, len-is) white,
    )

quote_no_word : (b : ℕ) (bytes : List ℕ) → (b == 34) ≡ true → is_word_text (b ∷ bytes) ≡ true → ⊥
quote_no_word b bytes q k =
    let x = and_true (not (b == 35) && not (b == 34)) (list_all is_word_byte (b ∷ bytes)) k in
    let y = not_true (b == 34) (and_true (not (b == 35)) (not (b == 34)) x.0).1 in
    let z : true ≡ false = sym q ∙ y in absurd cc

next_quote : (at line b : ℕ) (bytes : List ℕ) (u : Lexeme) (us : List Lexeme) (o : Option ℕ) → is_white b ≡ false → (b == 35) ≡ false → (b == 34) ≡ true
    → quoted_len false bytes ≡ o
    → (tokens_from 0 at line (b ∷ bytes)).tokens ≡ u ∷ us → Next at (b ∷ bytes) u us
next_quote at line b bytes u us None w h q o e = absurd (no_token [] us u (sym (ap (λ (x : Lexed). x.tokens) (quote_step at line b bytes None w h q o)) ∙ e))
next_quote at line b bytes u us (Some more) w h q o e =
    next_taken Quoted at line b more bytes u us (closing_in_front false more more bytes [] o (omega arith)).1 (quote_step at line b bytes (Some more) w h q o)
    (λ k. absurd (quote_no_word b (take more bytes) q k)) e

next_word : (at line b : ℕ) (bytes : List ℕ) (u : Lexeme) (us : List Lexeme) (test : Bool) → is_white b ≡ false → (b == 35) ≡ false → (b == 34) ≡ false
    → list_all is_word_byte (b ∷ take (word_len bytes) bytes) ≡ test
    → (tokens_from 0 at line (b ∷ bytes)).tokens ≡ u ∷ us → Next at (b ∷ bytes) u us
next_word at line b bytes u us false w h q l e = absurd (no_token [] us u (sym (ap (λ (x : Lexed). x.tokens) (word_stops_at at line b bytes (w, h) q l)) ∙ e))
next_word at line b bytes u us true w h q l e =
    next_taken Word at line b (word_len bytes) bytes u us (prefix_len-le-length _ bytes) (word_read at line b bytes (w, h) q l) (λ k. word_after bytes) e

next_any : (at line b : ℕ) (bytes : List ℕ) (u : Lexeme) (us : List Lexeme) (white hash quote : Bool) → is_white b ≡ white → (b == 35) ≡ hash
    → (b == 34) ≡ quote
    → (tokens_from 0 at line (b ∷ bytes)).tokens ≡ u ∷ us → u.start ≡ at → Next at (b ∷ bytes) u us
next_any at line b bytes u us true hash quote w h q e s =
    let step = blank_step at line b bytes (is_line_feed b) refl w in
    let ge = starts_from 0 (at + 1) (cond (is_line_feed b) (line + 1) line) bytes [] us u (sym (ap (λ (x : Lexed). x.tokens) step) ∙ e) in
    absurd (omega (arith, ge, s))
next_any at line b bytes u us false true quote w h q e s =
    let ge = starts_from (comment_len bytes) (at + 1) line bytes [] us u (sym (ap (λ (x : Lexed). x.tokens) (hash_step at line b bytes w h)) ∙ e) in
    absurd (omega (arith, ge, s))
next_any at line b bytes u us false false true w h q e s = next_quote at line b bytes u us (quoted_len false bytes) w h q refl e
next_any at line b bytes u us false false false w h q e s = next_word at line b bytes u us
    (list_all is_word_byte (b ∷ take (word_len bytes) bytes)) w h q refl e

next_at : (at line : ℕ) (bytes : List ℕ) (u : Lexeme) (us : List Lexeme) → (tokens_from 0 at line bytes).tokens ≡ u ∷ us → u.start ≡ at → Next at bytes u us
unfolding tokens_from
next_at at line [] u us e s = absurd (no_token [] us u e)
next_at at line (b ∷ bytes) u us e s = next_any at line b bytes u us (is_white b) (b == 35) (b == 34) refl refl refl e s

cancel : (before xs ys : List Lexeme) → before ++ xs ≡ before ++ ys → xs ≡ ys
cancel [] xs ys e = e
cancel (t ∷ before) xs ys e = cancel before xs ys (tail_is t t _ _ e)

-- The tokens from one of them on are those of the bytes from its first byte on.
skip_to : (at line : ℕ) (bytes : List ℕ) (before after : List Lexeme) (t : Lexeme) → (tokens_from 0 at line bytes).tokens ≡ before ++ t ∷ after
    → (tokens_from 0 t.start t.line (drop (t.start - at) bytes)).tokens ≡ t ∷ after
skip_to at line bytes before after t e =
    let whole : take (t.start - at) bytes ++ drop (t.start - at) bytes ≡ bytes = take-append-drop (t.start - at) bytes in
    let c = rw whole at (cut (drop (t.start - at) bytes) 0 at line bytes before after t e) in
    cancel before _ _ (sym (ap (λ (x : Lexed). x.tokens) c) ∙ e)

skip_plains : (at line : ℕ) (bytes new : List ℕ) (before after : List Lexeme) (t : Lexeme) → (tokens_from 0 at line bytes).tokens ≡ before ++ t ∷ after
    → plains (tokens_from 0 at line (take (t.start - at) bytes ++ new)) ≡ map plain before ++ plains (tokens_from 0 t.start t.line new)
skip_plains at line bytes new before after t e = ap plains (cut new 0 at line bytes before after t e)
    ∙ map-append plain before (tokens_from 0 t.start t.line new).tokens

walk : (at line : ℕ) (bytes : List ℕ) (us after : List Lexeme) (u : Lexeme) (stop : ℕ) → (tokens_from 0 at line bytes).tokens ≡ u ∷ (us ++ after) → u.start ≡ at
    → LastIs stop u us
    → FollowsBytes at stop bytes after × BeginsWhite (drop (stop - at) bytes)
walk at line bytes [] after u stop e s last =
    let n = next_at at line bytes u after e s in
    (rw last.0 at n.0, rw last.0 at (n.1 last.1))
walk at line bytes (v ∷ us) after u stop e s last =
    let n = next_at at line bytes u (v ∷ (us ++ after)) e s in
    let m = skip_to u.stop n.0.line (drop (u.stop - at) bytes) [] (us ++ after) v n.0.rest in
    let ge = starts_from 0 u.stop n.0.line (drop (u.stop - at) bytes) [] (us ++ after) v n.0.rest in
    let w = walk v.start v.line (drop (v.start - u.stop) (drop (u.stop - at) bytes)) us after v stop m refl last in
    let there : drop (stop - v.start) (drop (v.start - u.stop) (drop (u.stop - at) bytes)) ≡ drop (stop - at) bytes =
    let sum : u.stop - at + (v.start - u.stop + (stop - v.start)) ≡ stop - at = omega (arith, ge, n.0.past, w.0.past) in
    drop-drop (stop - v.start) (v.start - u.stop) _ ∙ drop-drop _ (u.stop - at) bytes ∙ rw sum refl in
    (record { line = w.0.line; past = omega (arith, ge, n.0.past, w.0.past); rest = rw there at w.0.rest }, rw there at w.1)

-- The first token at or after a splice.
first_made : (s : Splice) (ws : List (List ℕ)) (middle after : List Lexeme) → ReplacesTokens s ws middle after
    → (t : Lexeme) × (ts : List Lexeme) × (middle ++ after ≡ t ∷ ts) × (s.start ≡ t.start)
first_made s ws [] [] m = absurd m
first_made s ws [] (t ∷ after) m = (t, after, refl, m.0)
first_made s ws (t ∷ middle) after m = (t, middle ++ after, refl, m.0)

white_up_to : (stop line b start : ℕ) (bytes new : List ℕ) (before ts : List Lexeme) (t : Lexeme) → is_white b ≡ true
    → (tokens_from 0 stop line (b ∷ bytes)).tokens ≡ before ++ t ∷ ts → start ≡ t.start
    → BeginsWhite (take (start - stop) (b ∷ bytes) ++ new)
white_up_to stop line b start bytes new before ts t w e s =
    let step = blank_step stop line b bytes (is_line_feed b) refl w in
    let ge = starts_from 0 (stop + 1) (cond (is_line_feed b) (line + 1) line) bytes before ts t (sym (ap (λ (x : Lexed). x.tokens) step) ∙ e) in
    let n-is : start - stop ≡ suc (start - (stop + 1)) = omega (arith, ge, s) in
    rw n-is w

spliced_white : (ss : List Splice) (stop line : ℕ) (bytes : List ℕ) (p : List Lexeme) (q : List PlainToken) → (tokens_from 0 stop line bytes).tokens ≡ p
    → AreEdited ss p q → BeginsWhite bytes → BeginsWhite (spliced stop ss bytes)
unfolding spliced tokens_from
spliced_white [] stop line bytes p q e edits w = w
spliced_white (s ∷ ss) stop line [] p q e edits w =
    let f = first_made s edits.words edits.middle edits.after edits.makes in
    absurd (no_token edits.before f.1 f.0 (e ∙ edits.tokens ∙ ap (λ (x : List Lexeme). edits.before ++ x) f.2))
spliced_white (s ∷ ss) stop line (b ∷ bytes) p q e edits w =
    let f = first_made s edits.words edits.middle edits.after edits.makes in
    white_up_to stop line b s.start bytes _ edits.before f.1 f.0 w (e ∙ edits.tokens ∙ ap (λ (x : List Lexeme). edits.before ++ x) f.2) f.3

-- The tokens of a text with its splices made.

abbrev Lexes : List Splice → Type 0
Lexes ss = (at line : ℕ) (bytes : List ℕ) (p : List Lexeme) (q : List PlainToken) → (tokens_from 0 at line bytes).tokens ≡ p → AreEdited ss p q → (at' line' : ℕ)
    → plains (tokens_from 0 at' line' (spliced at ss bytes)) ≡ q

made : (s : Splice) (ss : List Splice) (at line : ℕ) (bytes : List ℕ) (before middle after : List Lexeme) (words : List (List ℕ)) (later : List PlainToken)
    → (tokens_from 0 at line bytes).tokens ≡ before ++ (middle ++ after) → ReplacesTokens s words middle after → list_all is_word_text words ≡ true
    → AreEdited ss after later → Lexes ss
    → plains (tokens_from 0 at line (take (s.start - at) bytes ++ (s.new ++ spliced s.stop ss (drop (s.stop - at) bytes)))) ≡ map plain before ++
    (map plain_word words ++ later)
made s ss at line bytes before [] [] words later e m spelled edits next = absurd m
made s ss at line bytes before [] (t ∷ after) words later e m spelled edits next =
    let rest = spliced t.start ss (drop (t.start - at) bytes) in
    let new-is : joined_words words ++ 32 ∷ [] ++ spliced t.start ss (drop (t.start - at) bytes) ≡ joined_words words ++
    (32 ∷ spliced t.start ss (drop (t.start - at) bytes)) = append_assoc (joined_words words) (32 ∷ []) rest in
    let inner : plains (tokens_from 0 t.start t.line (joined_words words ++ 32 ∷ [] ++ spliced t.start ss (drop (t.start - at) bytes))) ≡ map plain_word words ++ later =
    rw new-is (joined_front t.start t.line words (32 ∷ rest) spelled refl
    ∙ ap (λ (x : List PlainToken). map plain_word words ++ x) (space_front t.start t.line rest
    ∙ next t.start t.line (drop (t.start - at) bytes) (t ∷ after) later (skip_to at line bytes before after t e) edits t.start t.line)) in
    rw (m.0, m.1, m.2) (skip_plains at line bytes _ before after t e ∙ ap (λ (x : List PlainToken). map plain before ++ x) inner)
made s ss at line bytes before (t ∷ middle) after words later e m spelled edits next =
    let from = skip_to at line bytes before (middle ++ after) t e in
    let w = walk t.start t.line (drop (t.start - at) bytes) middle after t s.stop from refl m.1 in
    let ge = starts_from 0 at line bytes before (middle ++ after) t e in
    let sum : t.start - at + (s.stop - t.start) ≡ s.stop - at = omega (arith, ge, w.0.past) in
    let there : drop (s.stop - t.start) (drop (t.start - at) bytes) ≡ drop (s.stop - at) bytes = drop-drop (s.stop - t.start) (t.start - at) bytes
    ∙ rw sum refl in
    let rest-is = rw there at w.0.rest in
    let white = spliced_white ss s.stop w.0.line (drop (s.stop - at) bytes) after later rest-is edits (rw there at w.1) in
    let inner : plains (tokens_from 0 t.start t.line (joined_words words ++ spliced s.stop ss (drop (s.stop - at) bytes))) ≡ map plain_word words ++ later =
    joined_front t.start t.line words (spliced s.stop ss (drop (s.stop - at) bytes)) spelled white
    ∙ ap (λ (x : List PlainToken). map plain_word words ++ x) (next s.stop w.0.line (drop (s.stop - at) bytes) after later rest-is edits t.start t.line) in
    rw (m.0, m.2) (skip_plains at line bytes _ before (middle ++ after) t e ∙ ap (λ (x : List PlainToken). map plain before ++ x) inner)

pub edited_tokens : (ss : List Splice) → Lexes ss
unfolding spliced
edited_tokens [] at line bytes p q e edits at' line' = moved 0 at' at line' line bytes ∙ ap (λ (x : List Lexeme). map plain x) e ∙ edits
edited_tokens (s ∷ ss) at line bytes p q e edits at' line' =
    moved 0 at' at line' line _
    ∙ made s ss at line bytes edits.before edits.middle edits.after edits.words edits.later (e ∙ edits.tokens) edits.makes edits.spelled edits.next
    (λ a l b x y f g a' l'. edited_tokens ss a l b x y f g a' l')
    ∙ sym edits.new
