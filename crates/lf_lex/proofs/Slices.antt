-- Tokens are slices of their text, in order.
use Rattle.std.proofs.Common.{◌≡◌, ◌==◌, ℕ, zero, suc, ◌+◌, ◌-◌, ◌≤◌, Bool, true, false, cond, ◌&&◌, List, [], ◌∷◌, length, take, drop, Option, Some, None, refl, arith}
use Rattle.std.specs.Prelude.{IfSome, not}
use Rattle.std.specs.Option.{option_map, option_map_or}
use Rattle.std.specs.List.{list_all}
use Rattle.std.proofs.lemmas.List.{drop-drop}
use Rattle.std.proofs.lemmas.List.Sums.{prefix_len-le-length}
use Rattle.lf_lex.specs.declared.tokens.TokenKind.TheVariants.{Word, Quoted}
use Rattle.lf_lex.specs.declared.tokens.LexFault.TheVariants.{BadToken, UnexpectedEnd}
use Rattle.lf_lex.specs.Tokens.{Lexed, is_white, is_line_feed, is_word_byte, line_feeds, comment_len, word_len, quoted_len, with_token, token_at, stopped}
use Rattle.lf_lex.specs.Tokens.{tokens_from, AreSlices, AreWithin}

-- A claim on a choice of five.
choice_of : (P : Lexed → Type 0) (a b c d e : Bool) (w x y z t u : Lexed) → P w → P x → P y → P z → P t → P u
    → P (cond a w (cond b x (cond c y (cond d z (cond e t u)))))
choice_of P true b c d e w x y z t u o p q r k l = o
choice_of P false true c d e w x y z t u o p q r k l = p
choice_of P false false true d e w x y z t u o p q r k l = q
choice_of P false false false true e w x y z t u o p q r k l = r
choice_of P false false false false true w x y z t u o p q r k l = k
choice_of P false false false false false w x y z t u o p q r k l = l

pub option_of : (P : Lexed → Type 0) (f : ℕ → Lexed) (o : Option ℕ) (d : Lexed) → ((n : ℕ) → P (f n)) → P d → P (option_map_or f o d)
option_of P f None d p q = q
option_of P f (Some n) d p q = p n

next_drop : (text : List ℕ) (at b : ℕ) (bytes : List ℕ) → drop at text ≡ b ∷ bytes → drop (at + 1) text ≡ bytes
next_drop text at b bytes e = rw (← drop-drop 1 at text, e) refl

slice_is : (text : List ℕ) (at more b : ℕ) (bytes : List ℕ) → drop at text ≡ b ∷ bytes → b ∷ take more bytes ≡ take (at + 1 + more - at) (drop at text)
slice_is text at more b bytes e = let n : at + 1 + more - at ≡ suc more = omega arith in rw (n, e) refl

pub slices_from : (text : List ℕ) (from before at line : ℕ) (bytes : List ℕ) → drop at text ≡ bytes → from ≤ at + before
    → AreSlices text from (tokens_from before at line bytes).tokens
unfolding tokens_from
slices_from text from before at line [] e le = tt
slices_from text from (suc before) at line (b ∷ bytes) e le =
    slices_from text from before (at + 1) (cond (is_line_feed b) (line + 1) line) bytes (next_drop text at b bytes e) (omega arith)
slices_from text from zero at line (b ∷ bytes) e le =
    let after = next_drop text at b bytes e in
    let rest : (n k : ℕ) → AreSlices text (at + 1 + n) (tokens_from n (at + 1) k bytes).tokens =
    λ n k. slices_from text (at + 1 + n) n (at + 1) k bytes after (omega arith) in
    let passed : (n k : ℕ) → AreSlices text from (tokens_from n (at + 1) k bytes).tokens =
    λ n k. slices_from text from n (at + 1) k bytes after (omega arith) in
    let quoted : ℕ → Lexed = λ more. with_token (token_at Quoted at line b bytes more) (tokens_from more (at + 1) line bytes) in
    choice_of (λ x. AreSlices text from x.tokens) (is_line_feed b) (is_white b) (b == 35) (b == 34) (list_all is_word_byte (b ∷ take (word_len bytes) bytes))
    (tokens_from 0 (at + 1) (line + 1) bytes) (tokens_from 0 (at + 1) line bytes) (tokens_from (comment_len bytes) (at + 1) line bytes)
    (option_map_or quoted (quoted_len false bytes) (stopped (UnexpectedEnd (line + line_feeds bytes)) (line + line_feeds bytes)))
    (with_token (token_at Word at line b bytes (word_len bytes)) (tokens_from (word_len bytes) (at + 1) line bytes))
    (stopped (BadToken line) (line + line_feeds bytes))
    (passed 0 (line + 1)) (passed 0 line) (passed (comment_len bytes) line)
    (option_of (λ x. AreSlices text from x.tokens) quoted (quoted_len false bytes) (stopped (UnexpectedEnd (line + line_feeds bytes)) (line + line_feeds bytes))
    (λ n. (omega arith, omega arith, slice_is text at n b bytes e, rest n line)) tt)
    (omega arith, omega arith, slice_is text at (word_len bytes) b bytes e, rest (word_len bytes) line) tt

-- Tokens end within their text.

one_longer : (len : ℕ) (o : Option ℕ) → IfSome o (λ n. n ≤ len) → IfSome (option_map (λ n. n + 1) o) (λ n. n ≤ suc len)
one_longer len None h = tt
one_longer len (Some n) h = omega (arith, h)

first_quote : (len : ℕ) (o : Option ℕ) (here : Bool) → IfSome o (λ n. n ≤ len) → IfSome (cond here (Some 1) (option_map (λ n. n + 1) o)) (λ n. n ≤ suc len)
first_quote len o true h = omega arith
first_quote len o false h = one_longer len o h

quoted_within : (escaped : Bool) (bytes : List ℕ) → IfSome (quoted_len escaped bytes) (λ n. n ≤ length bytes)
quoted_within escaped [] = tt
quoted_within escaped (b ∷ bytes) =
    first_quote (length bytes) (quoted_len (not escaped && b == 92) bytes) (not escaped && b == 34) (quoted_within (not escaped && b == 92) bytes)

within_of : (P : Lexed → Type 0) (f : ℕ → Lexed) (len : ℕ) (o : Option ℕ) (d : Lexed) → IfSome o (λ n. n ≤ len) → ((n : ℕ) → n ≤ len → P (f n)) → P d
    → P (option_map_or f o d)
within_of P f len None d h p q = q
within_of P f len (Some n) d h p q = p n h

pub within_from : (text : List ℕ) (before at line : ℕ) (bytes : List ℕ) → at + length bytes ≤ length text → AreWithin text (tokens_from before at line bytes).tokens
unfolding tokens_from
within_from text before at line [] le = tt
within_from text (suc before) at line (b ∷ bytes) le = within_from text before (at + 1) (cond (is_line_feed b) (line + 1) line) bytes (omega (arith, le))
within_from text zero at line (b ∷ bytes) le =
    let rest : (n k : ℕ) → AreWithin text (tokens_from n (at + 1) k bytes).tokens = λ n k. within_from text n (at + 1) k bytes (omega (arith, le)) in
    let quoted : ℕ → Lexed = λ more. with_token (token_at Quoted at line b bytes more) (tokens_from more (at + 1) line bytes) in
    choice_of (λ x. AreWithin text x.tokens) (is_line_feed b) (is_white b) (b == 35) (b == 34) (list_all is_word_byte (b ∷ take (word_len bytes) bytes))
    (tokens_from 0 (at + 1) (line + 1) bytes) (tokens_from 0 (at + 1) line bytes) (tokens_from (comment_len bytes) (at + 1) line bytes)
    (option_map_or quoted (quoted_len false bytes) (stopped (UnexpectedEnd (line + line_feeds bytes)) (line + line_feeds bytes)))
    (with_token (token_at Word at line b bytes (word_len bytes)) (tokens_from (word_len bytes) (at + 1) line bytes))
    (stopped (BadToken line) (line + line_feeds bytes))
    (rest 0 (line + 1)) (rest 0 line) (rest (comment_len bytes) line)
    (within_of (λ x. AreWithin text x.tokens) quoted (length bytes) (quoted_len false bytes) (stopped (UnexpectedEnd (line + line_feeds bytes)) (line + line_feeds bytes))
    (quoted_within false bytes) (λ n short. (omega (arith, le, short), rest n line)) tt)
    (omega (arith, le, prefix_len-le-length (λ x. not (is_white x)) bytes), rest (word_len bytes) line) tt
