-- A text that is cut at the start of a token.
use Rattle.std.proofs.Common.{◌≡◌, ℕ, zero, suc, ◌+◌, ◌-◌, ◌≤◌, ◌<◌, Bool, true, false, cond, List, [], ◌∷◌, ◌++◌, length, take, drop, Option, Some, None}
use Rattle.std.proofs.Common.{replicate, refl, sym, ap, ◌∙◌, arith, subst}
use Rattle.std.specs.Prelude.{not, ◌&&◌, ◌==◌}
use Rattle.std.specs.Option.{option_map, option_map_or}
use Rattle.std.specs.List.{list_all, position_or_len}
use Rattle.std.proofs.lemmas.Bool.Decides.{nat_tests}
use Rattle.std.proofs.lemmas.List.Sums.{prefix_len-le-length}
use Rattle.lf_lex.specs.declared.tokens.TokenKind.{TokenKind}
use Rattle.lf_lex.specs.declared.tokens.TokenKind.TheVariants.{Word, Quoted}
use Rattle.lf_lex.specs.declared.tokens.LexFault.TheVariants.{UnexpectedEnd}
use Rattle.lf_lex.specs.Tokens.{Lexed, Lexeme, is_white, is_line_feed, is_word_byte, line_feeds, comment_len, word_len, quoted_len, with_token, with_tokens}
use Rattle.lf_lex.specs.Tokens.{token_at, stopped, tokens_from, AreSlices, CutsAtTokens}
use Rattle.lf_lex.proofs.Scanning.{no_line_feed, one_more, white_step, word_read, word_stops_at}
use Rattle.lf_lex.proofs.Slices.{slices_from}
use Rattle.lf_lex.specs.Reading.{lexed_after}

-- The first bytes of a list with others after them.
front_of : (n k : ℕ) (bytes new : List ℕ) → n ≤ k → n ≤ length bytes → take n (take k bytes ++ new) ≡ take n bytes
front_of zero k bytes new le within = refl
front_of (suc n) zero bytes new le within = absurd (omega arith)
front_of (suc n) (suc k) [] new le within = absurd (omega arith)
front_of (suc n) (suc k) (b ∷ bytes) new le within = ap (λ (x : List ℕ). b ∷ x) (front_of n k bytes new (omega arith) (omega arith))

-- The first byte that passes a test lies in the front.
first_step : (p : ℕ → Bool) (k b : ℕ) (bytes new : List ℕ) → (test : Bool) → p b ≡ test → position_or_len p (b ∷ bytes) < suc k
    → position_or_len p (b ∷ bytes) < length (b ∷ bytes)
    → (position_or_len p bytes < k → position_or_len p bytes < length bytes → position_or_len p (take k bytes ++ new) ≡ position_or_len p bytes)
    → position_or_len p (b ∷ (take k bytes ++ new)) ≡ position_or_len p (b ∷ bytes)
first_step p k b bytes new true h lt within next = rw h refl
first_step p k b bytes new false h lt within next =
    let lt' : 1 + position_or_len p bytes < suc k = rw h at lt in
    let within' : 1 + position_or_len p bytes < length (b ∷ bytes) = rw h at within in
    rw h (ap (λ (n : ℕ). 1 + n) (next (omega arith) (omega arith)))

first_in_front : (p : ℕ → Bool) (k : ℕ) (bytes new : List ℕ) → position_or_len p bytes < k → position_or_len p bytes < length bytes
    → position_or_len p (take k bytes ++ new) ≡ position_or_len p bytes
first_in_front p k [] new lt within = absurd (omega arith)
first_in_front p zero (b ∷ bytes) new lt within = absurd (omega arith)
first_in_front p (suc k) (b ∷ bytes) new lt within = first_step p k b bytes new (p b) refl lt within (λ x y. first_in_front p k bytes new x y)

pub some_is : (m n : ℕ) → ◌≡◌ {A = Option ℕ} (Some m) (Some n) → m ≡ n
some_is m n e = cc

-- The closing quote lies in the front.
closing_rest : (n k : ℕ) (bytes front : List ℕ) (escaped : Bool) (o : Option ℕ) → quoted_len escaped bytes ≡ o → option_map (λ m. m + 1) o ≡ Some n → n ≤ suc k
    → ((m : ℕ) → quoted_len escaped bytes ≡ Some m → m ≤ k → (quoted_len escaped front ≡ Some m) × (m ≤ length bytes))
    → (option_map (λ m. m + 1) (quoted_len escaped front) ≡ Some n) × (n ≤ suc (length bytes))
closing_rest n k bytes front escaped None q f le next = absurd cc
closing_rest n k bytes front escaped (Some m) q f le next =
    let is = some_is (m + 1) n f in
    let r = next m q (omega arith) in
    (rw r.0 f, omega (arith, r.1))

not_zero : (n : ℕ) (o : Option ℕ) → option_map (λ m. m + 1) o ≡ Some n → 0 < n
not_zero n None f = absurd cc
not_zero n (Some m) f = omega (arith, some_is (m + 1) n f)

closing_step : (escaped : Bool) (n k b : ℕ) (bytes new : List ℕ) (test : Bool) → (not escaped && b == 34) ≡ test → quoted_len escaped (b ∷ bytes) ≡ Some n
    → n ≤ suc k
    → ((later : Bool) (m : ℕ) → quoted_len later bytes ≡ Some m → m ≤ k → (quoted_len later (take k bytes ++ new) ≡ Some m) × (m ≤ length bytes))
    → (quoted_len escaped (b ∷ (take k bytes ++ new)) ≡ Some n) × (n ≤ suc (length bytes))
closing_step escaped n k b bytes new true h e le next = let f : ◌≡◌ {A = Option ℕ} (Some 1) (Some n) = rw h at e in (rw h f, omega (arith, some_is 1 n f))
closing_step escaped n k b bytes new false h e le next =
    let f : option_map (λ m. m + 1) (quoted_len (not escaped && b == 92) bytes) ≡ Some n = rw h at e in
    rw h (closing_rest n k bytes (take k bytes ++ new) (not escaped && b == 92) (quoted_len (not escaped && b == 92) bytes) refl f le
    (next (not escaped && b == 92)))

closing_positive : (escaped : Bool) (n b : ℕ) (bytes : List ℕ) (test : Bool) → (not escaped && b == 34) ≡ test → quoted_len escaped (b ∷ bytes) ≡ Some n → 0 < n
closing_positive escaped n b bytes true h e = let f : ◌≡◌ {A = Option ℕ} (Some 1) (Some n) = rw h at e in omega (arith, some_is 1 n f)
closing_positive escaped n b bytes false h e =
    let f : option_map (λ m. m + 1) (quoted_len (not escaped && b == 92) bytes) ≡ Some n = rw h at e in
    not_zero n (quoted_len (not escaped && b == 92) bytes) f

pub closing_in_front : (escaped : Bool) (n k : ℕ) (bytes new : List ℕ) → quoted_len escaped bytes ≡ Some n → n ≤ k
    → (quoted_len escaped (take k bytes ++ new) ≡ Some n) × (n ≤ length bytes)
closing_in_front escaped n k [] new e le = absurd cc
closing_in_front escaped n zero (b ∷ bytes) new e le = absurd (omega (arith, closing_positive escaped n b bytes (not escaped && b == 34) refl e))
closing_in_front escaped n (suc k) (b ∷ bytes) new e le = closing_step escaped n k b bytes new (not escaped && b == 34) refl e le
    (λ later m q x. closing_in_front later m k bytes new q x)

-- The offset at which a remaining token begins.

in_slices : (text : List ℕ) (from : ℕ) (before after : List Lexeme) (t : Lexeme) → AreSlices text from (before ++ t ∷ after) → from ≤ t.start
in_slices text from [] after t s = s.0
in_slices text from (u ∷ before) after t s = omega (arith, in_slices text u.stop before after t s.3, s.0, s.1)

pub starts_from : (n at line : ℕ) (bytes : List ℕ) (before after : List Lexeme) (t : Lexeme) → (tokens_from n at line bytes).tokens ≡ before ++ t ∷ after
    → at + n ≤ t.start
starts_from n at line bytes before after t e =
    let text = replicate at 0 ++ bytes in
    let lexed_after : drop at (replicate at 0 ++ bytes) ≡ bytes = drop_replicate_seam at bytes in
    in_slices (replicate at 0 ++ bytes) (at + n) before after t
    (subst (AreSlices (replicate at 0 ++ bytes) (at + n)) e (slices_from (replicate at 0 ++ bytes) (at + n) n at line bytes lexed_after (omega arith)))
  where
    drop_replicate_seam : (at : ℕ) (bytes : List ℕ) → drop at (replicate at 0 ++ bytes) ≡ bytes
    drop_replicate_seam zero bytes = refl
    drop_replicate_seam (suc at) bytes = drop_replicate_seam at bytes

pub no_token : (before after : List Lexeme) (t : Lexeme) → ◌≡◌ {A = List Lexeme} [] (before ++ t ∷ after) → ⊥
no_token [] after t e = absurd cc
no_token (u ∷ before) after t e = absurd cc

pub head_is : (u t : Lexeme) (us ts : List Lexeme) → ◌≡◌ {A = List Lexeme} (u ∷ us) (t ∷ ts) → u ≡ t
head_is u t us ts e = cc

pub tail_is : (u t : Lexeme) (us ts : List Lexeme) → ◌≡◌ {A = List Lexeme} (u ∷ us) (t ∷ ts) → us ≡ ts
tail_is u t us ts e = cc

-- White space is skipped.
pub blank_step : (at line b : ℕ) (bytes : List ℕ) (feed : Bool) → is_line_feed b ≡ feed → is_white b ≡ true
    → tokens_from 0 at line (b ∷ bytes) ≡ tokens_from 0 (at + 1) (cond (is_line_feed b) (line + 1) line) bytes
unfolding tokens_from
blank_step at line b bytes true h w = rw h refl
blank_step at line b bytes false h w = white_step at line b bytes h w ∙ rw h refl

pub hash_step : (at line b : ℕ) (bytes : List ℕ) → is_white b ≡ false → (b == 35) ≡ true
    → tokens_from 0 at line (b ∷ bytes) ≡ tokens_from (comment_len bytes) (at + 1) line bytes
unfolding tokens_from
hash_step at line b bytes w h = rw (w, no_line_feed b w, h) refl

pub quote_step : (at line b : ℕ) (bytes : List ℕ) (o : Option ℕ) → is_white b ≡ false → (b == 35) ≡ false → (b == 34) ≡ true → quoted_len false bytes ≡ o
    → tokens_from 0 at line (b ∷ bytes) ≡ option_map_or (λ more. with_token (token_at Quoted at line b bytes more) (tokens_from more (at + 1) line bytes)) o
    (stopped (UnexpectedEnd (line + line_feeds bytes)) (line + line_feeds bytes))
unfolding tokens_from
quote_step at line b bytes o w h q e = rw (w, no_line_feed b w, h, q, e) refl

-- The next token begins after the first byte of white space.
passed_step : (p : ℕ → Bool) (at line b : ℕ) (bytes : List ℕ) (test : Bool) → p b ≡ test → (p b ≡ true → is_white b ≡ true)
    → (before after : List Lexeme) (t : Lexeme)
    → ((line : ℕ) → (tokens_from (position_or_len p bytes) (at + 1) line bytes).tokens ≡ before ++ t ∷ after
    → (at + 1 + position_or_len p bytes < t.start) × (position_or_len p bytes < length bytes))
    → (tokens_from (position_or_len p (b ∷ bytes)) at line (b ∷ bytes)).tokens ≡ before ++ t ∷ after
    → (at + position_or_len p (b ∷ bytes) < t.start) × (position_or_len p (b ∷ bytes) < suc (length bytes))
unfolding tokens_from
passed_step p at line b bytes true h white before after t next e =
    let e' : (tokens_from 0 at line (b ∷ bytes)).tokens ≡ before ++ t ∷ after = rw h at e in
    let step = blank_step at line b bytes (is_line_feed b) refl (white h) in
    let ge = starts_from 0 (at + 1) (cond (is_line_feed b) (line + 1) line) bytes before after t (sym (ap (λ (x : Lexed). x.tokens) step) ∙ e') in
    rw h (omega (arith, ge), omega arith)
passed_step p at line b bytes false h white before after t next e =
    let e' : (tokens_from (suc (position_or_len p bytes)) at line (b ∷ bytes)).tokens ≡ before ++ t ∷ after = rw (h, one_more (position_or_len p bytes)) at e in
    let r = next (cond (is_line_feed b) (line + 1) line) e' in
    rw h (omega (arith, r.0), omega (arith, r.1))

pub passed : (p : ℕ → Bool) → ((b : ℕ) → p b ≡ true → is_white b ≡ true) → (at line : ℕ) (bytes : List ℕ) (before after : List Lexeme) (t : Lexeme)
    → (tokens_from (position_or_len p bytes) at line bytes).tokens ≡ before ++ t ∷ after
    → (at + position_or_len p bytes < t.start) × (position_or_len p bytes < length bytes)
unfolding tokens_from
passed p white at line [] before after t e = absurd (no_token before after t e)
passed p white at line (b ∷ bytes) before after t e =
    passed_step p at line b bytes (p b) refl (white b) before after t (λ l f. passed p white (at + 1) l bytes before after t f) e

-- The tokens in front of a token do not depend on that token and what follows it.
abbrev pub Cuts : List ℕ → ℕ → ℕ → ℕ → List ℕ → Type 0
Cuts new n at line bytes = (before after : List Lexeme) (t : Lexeme) → (tokens_from n at line bytes).tokens ≡ before ++ t ∷ after
    → tokens_from n at line (take (t.start - at) bytes ++ new) ≡ with_tokens before (tokens_from 0 t.start t.line new)

over_byte : (new : List ℕ) (n m at line line' b : ℕ) (bytes : List ℕ) → tokens_from n at line (b ∷ bytes) ≡ tokens_from m (at + 1) line' bytes
    → ((before after : List Lexeme) (t : Lexeme) → (tokens_from m (at + 1) line' bytes).tokens ≡ before ++ t ∷ after
    → tokens_from n at line (b ∷ (take (t.start - (at + 1)) bytes ++ new)) ≡ tokens_from m (at + 1) line' (take (t.start - (at + 1)) bytes ++ new))
    → Cuts new m (at + 1) line' bytes → Cuts new n at line (b ∷ bytes)
over_byte new n m at line line' b bytes same once_more each before after t e =
    let e' : (tokens_from m (at + 1) line' bytes).tokens ≡ before ++ t ∷ after = sym (ap (λ (x : Lexed). x.tokens) same) ∙ e in
    let ge = starts_from m (at + 1) line' bytes before after t e' in
    let n-is : t.start - at ≡ suc (t.start - (at + 1)) = omega (arith, ge) in
    rw n-is (once_more before after t e' ∙ each before after t e')

over_token : (new : List ℕ) (kind : TokenKind) (at line b more : ℕ) (bytes : List ℕ) → more ≤ length bytes
    → tokens_from 0 at line (b ∷ bytes) ≡ with_token (token_at kind at line b bytes more) (tokens_from more (at + 1) line bytes)
    → ((before after : List Lexeme) (t : Lexeme) → (tokens_from more (at + 1) line bytes).tokens ≡ before ++ t ∷ after
    → tokens_from 0 at line (b ∷ (take (t.start - (at + 1)) bytes ++ new))
    ≡ with_token (token_at kind at line b (take (t.start - (at + 1)) bytes ++ new) more)
    (tokens_from more (at + 1) line (take (t.start - (at + 1)) bytes ++ new)))
    → Cuts new more (at + 1) line bytes → Cuts new 0 at line (b ∷ bytes)
over_token new kind at line b more bytes within same once_more each [] after t e =
    let e' : token_at kind at line b bytes more ∷ (tokens_from more (at + 1) line bytes).tokens ≡ t ∷ after = sym (ap (λ (x : Lexed). x.tokens) same) ∙ e in
    let is = head_is (token_at kind at line b bytes more) t _ _ e' in
    let start-is : t.start ≡ at = sym (ap (λ (x : Lexeme). x.start) is) in
    let line-is : t.line ≡ line = sym (ap (λ (x : Lexeme). x.line) is) in
    let none : at - at ≡ 0 = omega arith in
    rw (start-is, line-is, none) refl
over_token new kind at line b more bytes within same once_more each (u ∷ before) after t e =
    let e' : token_at kind at line b bytes more ∷ (tokens_from more (at + 1) line bytes).tokens ≡ u ∷ (before ++ t ∷ after) =
    sym (ap (λ (x : Lexed). x.tokens) same) ∙ e in
    let is = head_is (token_at kind at line b bytes more) u _ _ e' in
    let rest = tail_is (token_at kind at line b bytes more) u _ _ e' in
    let ge = starts_from more (at + 1) line bytes before after t rest in
    let n-is : t.start - at ≡ suc (t.start - (at + 1)) = omega (arith, ge) in
    let bytes-is : take more (take (t.start - (at + 1)) bytes ++ new) ≡ take more bytes =
    front_of more (t.start - (at + 1)) bytes new (omega (arith, ge)) within in
    let token-is : token_at kind at line b (take (t.start - (at + 1)) bytes ++ new) more ≡ u = rw bytes-is is in
    rw n-is (once_more before after t rest ∙ ap (λ (x : Lexeme). with_token x (tokens_from more (at + 1) line (take (t.start - (at + 1)) bytes ++ new))) token-is
    ∙ ap (λ (x : Lexed). with_token u x) (each before after t rest))

over_stop : (new : List ℕ) (at line b : ℕ) (bytes : List ℕ) (rest : Lexed) → tokens_from 0 at line (b ∷ bytes) ≡ rest → rest.tokens ≡ []
    → Cuts new 0 at line (b ∷ bytes)
over_stop new at line b bytes rest same none before after t e = absurd (no_token before after t (sym none ∙ sym (ap (λ (x : Lexed). x.tokens) same) ∙ e))

over_quote : (new : List ℕ) (at line b : ℕ) (bytes : List ℕ) (o : Option ℕ) → is_white b ≡ false → (b == 35) ≡ false → (b == 34) ≡ true
    → quoted_len false bytes ≡ o
    → ((m line' : ℕ) → Cuts new m (at + 1) line' bytes) → Cuts new 0 at line (b ∷ bytes)
over_quote new at line b bytes None w h q e each = over_stop new at line b bytes _ (quote_step at line b bytes None w h q e) refl
over_quote new at line b bytes (Some more) w h q e each =
    let within = (closing_in_front false more more bytes [] e (omega arith)).1 in
    over_token new Quoted at line b more bytes within (quote_step at line b bytes (Some more) w h q e)
    (λ before after t f. let ge = starts_from more (at + 1) line bytes before after t f in
    quote_step at line b (take (t.start - (at + 1)) bytes ++ new) (Some more) w h q
    (closing_in_front false more (t.start - (at + 1)) bytes new e (omega (arith, ge))).0)
    (each more line)

word_again : (new : List ℕ) (at line b : ℕ) (bytes : List ℕ) (k : ℕ) → is_white b ≡ false → (b == 35) ≡ false → (b == 34) ≡ false
    → list_all is_word_byte (b ∷ take (word_len bytes) bytes) ≡ true
    → word_len bytes < k → word_len bytes < length bytes
    → tokens_from 0 at line (b ∷ (take k bytes ++ new)) ≡ with_token (token_at Word at line b (take k bytes ++ new) (word_len bytes))
    (tokens_from (word_len bytes) (at + 1) line (take k bytes ++ new))
word_again new at line b bytes k w h q l lt within =
    let len-is : word_len (take k bytes ++ new) ≡ word_len bytes = first_in_front is_white k bytes new lt within in
    let bytes-is : take (word_len bytes) (take k bytes ++ new) ≡ take (word_len bytes) bytes =
    front_of (word_len bytes) k bytes new (omega arith) (omega arith) in
    let all : list_all is_word_byte (b ∷ take (word_len (take k bytes ++ new)) (take k bytes ++ new)) ≡ true = rw (len-is, bytes-is) l in
    rw len-is at (word_read at line b (take k bytes ++ new) (w, h) q all)

over_word : (new : List ℕ) (at line b : ℕ) (bytes : List ℕ) (test : Bool) → is_white b ≡ false → (b == 35) ≡ false → (b == 34) ≡ false
    → list_all is_word_byte (b ∷ take (word_len bytes) bytes) ≡ test
    → ((m line' : ℕ) → Cuts new m (at + 1) line' bytes) → Cuts new 0 at line (b ∷ bytes)
over_word new at line b bytes false w h q l each = over_stop new at line b bytes _ (word_stops_at at line b bytes (w, h) q l) refl
over_word new at line b bytes true w h q l each =
    over_token new Word at line b (word_len bytes) bytes (prefix_len-le-length _ bytes) (word_read at line b bytes (w, h) q l)
    (λ before after t f. let r = passed is_white (λ x p. p) (at + 1) line bytes before after t f in
    word_again new at line b bytes (t.start - (at + 1)) w h q l (omega (arith, r.0)) r.1)
    (each (word_len bytes) line)

feed_is_white : (b : ℕ) → is_line_feed b ≡ true → is_white b ≡ true
feed_is_white b h = let e : b ≡ 10 = grind (arith, nat_tests) in rw e refl

over_any : (new : List ℕ) (at line b : ℕ) (bytes : List ℕ) (white hash quote : Bool) → is_white b ≡ white → (b == 35) ≡ hash → (b == 34) ≡ quote
    → ((m line' : ℕ) → Cuts new m (at + 1) line' bytes) → Cuts new 0 at line (b ∷ bytes)
over_any new at line b bytes true hash quote w h q each =
    over_byte new 0 0 at line (cond (is_line_feed b) (line + 1) line) b bytes (blank_step at line b bytes (is_line_feed b) refl w)
    (λ before after t e. blank_step at line b (take (t.start - (at + 1)) bytes ++ new) (is_line_feed b) refl w) (each 0 (cond (is_line_feed b) (line + 1) line))
over_any new at line b bytes false true quote w h q each =
    over_byte new 0 (comment_len bytes) at line line b bytes (hash_step at line b bytes w h)
    (λ before after t e. let r = passed is_line_feed feed_is_white (at + 1) line bytes before after t e in
    let len-is : comment_len (take (t.start - (at + 1)) bytes ++ new) ≡ comment_len bytes =
    first_in_front is_line_feed (t.start - (at + 1)) bytes new (omega (arith, r.0)) r.1 in
    rw len-is at (hash_step at line b (take (t.start - (at + 1)) bytes ++ new) w h))
    (each (comment_len bytes) line)
over_any new at line b bytes false false true w h q each = over_quote new at line b bytes (quoted_len false bytes) w h q refl each
over_any new at line b bytes false false false w h q each = over_word new at line b bytes
    (list_all is_word_byte (b ∷ take (word_len bytes) bytes)) w h q refl each

pub cut : (new : List ℕ) (n at line : ℕ) (bytes : List ℕ) → Cuts new n at line bytes
unfolding tokens_from
cut new n at line [] before after t e = absurd (no_token before after t e)
cut new (suc n) at line (b ∷ bytes) before after t e =
    over_byte new (suc n) n at line (cond (is_line_feed b) (line + 1) line) b bytes refl (λ x y z f. refl)
    (λ x y z f. cut new n (at + 1) (cond (is_line_feed b) (line + 1) line) bytes x y z f) before after t e
cut new zero at line (b ∷ bytes) before after t e =
    over_any new at line b bytes (is_white b) (b == 35) (b == 34) refl refl refl (λ m line' x y z f. cut new m (at + 1) line' bytes x y z f) before after t e

pub cut_tokens : (text : List ℕ) → CutsAtTokens text
cut_tokens text new before t after e = let whole : t.start - 0 ≡ t.start = omega arith in rw whole at (cut new 0 0 1 text before after t e)

pub split_tokens : (l : Lexed) (read rest : List Lexeme) → l.tokens ≡ read ++ rest → l ≡ with_tokens read (lexed_after rest l)
split_tokens l read rest e = ap (λ (z : List Lexeme). lexed_after z l) e
