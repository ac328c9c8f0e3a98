-- The tokens of a text: a word begins no comment and no quoted text, and a quoted text ends with
-- its closing mark.
use Rattle.std.proofs.Common.{◌≡◌, ◌==◌, ℕ, zero, suc, ◌+◌, ◌≤◌, Bool, true, false, cond, List, [], ◌∷◌, length, take, Option, Some, None, refl, ap, sym, ◌∙◌}
use Rattle.std.proofs.Common.{append-nil, arith}
use Rattle.std.specs.Prelude.{All}
use Rattle.std.specs.Option.{option_map_or}
use Rattle.std.specs.List.{list_all}
use Rattle.std.proofs.lemmas.Bool.Decides.{nat_tests}
use Rattle.std.proofs.lemmas.List.Elements.{All-nil, All-cons}
use Rattle.lf_lex.specs.declared.tokens.TokenKind.TheVariants.{Word, Quoted}
use Rattle.lf_lex.specs.declared.tokens.LexFault.TheVariants.{BadToken, UnexpectedEnd}
use Rattle.lf_lex.specs.Tokens.{Lexed, Lexeme, is_white, is_line_feed, is_word_byte, line_feeds, comment_len, word_len, quoted_len, with_token, token_at}
use Rattle.lf_lex.specs.Tokens.{stopped}
use Rattle.lf_lex.specs.Tokens.{tokens_from}
use Rattle.lf_lex.specs.Splices.{is_word_text}
use Rattle.lf_lex.proofs.Cutting.{closing_in_front}
use Rattle.lf_laws_roundtrip.specs.Spelled.{IsQuotedText}

-- Holds if the token is spelled as in a text.
pub record IsSpelledToken (t : Lexeme) : Type 0 where
  pub word : t.kind ≡ Word → is_word_text t.text ≡ true
  pub quoted : t.kind ≡ Quoted → IsQuotedText t.text

-- A claim on a choice of five, given the tests for a comment, a quoted text and a word.
choice_of : (P : Lexed → Type 0) (a b c d e : Bool) (w x y z t u : Lexed) → P w → P x → P y → (d ≡ true → P z) → (c ≡ false → d ≡ false → e ≡ true → P t) → P u
    → P (cond a w (cond b x (cond c y (cond d z (cond e t u)))))
choice_of P true b c d e w x y z t u o p q r k l = o
choice_of P false true c d e w x y z t u o p q r k l = p
choice_of P false false true d e w x y z t u o p q r k l = q
choice_of P false false false true e w x y z t u o p q r k l = r refl
choice_of P false false false false true w x y z t u o p q r k l = k refl refl refl
choice_of P false false false false false w x y z t u o p q r k l = l

option_at : (P : Lexed → Type 0) (f : ℕ → Lexed) (o : Option ℕ) (d : Lexed) → ((n : ℕ) → o ≡ Some n → P (f n)) → P d → P (option_map_or f o d)
option_at P f None d each none = none
option_at P f (Some n) d each none = each n refl

word_at : (at line b more : ℕ) (bytes : List ℕ) → (b == 35) ≡ false → (b == 34) ≡ false → list_all is_word_byte (b ∷ take more bytes) ≡ true
    → IsSpelledToken (token_at Word at line b bytes more)
word_at at line b more bytes hash quote all = record { word = λ k. rw (hash, quote) all; quoted = λ k. absurd cc }

is_quote : (b : ℕ) → (b == 34) ≡ true → b ≡ 34
is_quote b h = grind (arith, nat_tests)

long_take : (n : ℕ) (bytes : List ℕ) → n ≤ length bytes → length (take n bytes) ≡ n
long_take zero bytes le = refl
long_take (suc n) [] le = absurd (omega arith)
long_take (suc n) (b ∷ bytes) le = omega (arith, long_take n bytes (omega arith))

quoted_at : (at line b more : ℕ) (bytes : List ℕ) → (b == 34) ≡ true → quoted_len false bytes ≡ Some more
    → IsSpelledToken (token_at Quoted at line b bytes more)
quoted_at at line b more bytes h closed =
    let front = closing_in_front false more more bytes [] closed (omega arith) in
    record {
      word = λ k. absurd cc;
      quoted = λ k. record {
        more = take more bytes;
        text = ap (λ (c : ℕ). c ∷ take more bytes) (is_quote b h);
        closed =
            ap (λ (l : List ℕ). quoted_len false l) (sym (append-nil (take more bytes))) ∙ front.0
            ∙ ap (λ (n : ℕ). Some n) (sym (long_take more bytes front.1));
      };
    }

pub spelled_from : (before at line : ℕ) (bytes : List ℕ) → All IsSpelledToken (tokens_from before at line bytes).tokens
unfolding tokens_from
spelled_from before at line [] = All-nil IsSpelledToken
spelled_from (suc before) at line (b ∷ bytes) = spelled_from before (at + 1) (cond (is_line_feed b) (line + 1) line) bytes
spelled_from zero at line (b ∷ bytes) =
    let rest : (n k : ℕ) → All IsSpelledToken (tokens_from n (at + 1) k bytes).tokens = λ n k. spelled_from n (at + 1) k bytes in
    let quoted : ℕ → Lexed = λ more. with_token (token_at Quoted at line b bytes more) (tokens_from more (at + 1) line bytes) in
    choice_of (λ x. All IsSpelledToken x.tokens) (is_line_feed b) (is_white b) (b == 35) (b == 34) (list_all is_word_byte (b ∷ take (word_len bytes) bytes))
    (tokens_from 0 (at + 1) (line + 1) bytes) (tokens_from 0 (at + 1) line bytes) (tokens_from (comment_len bytes) (at + 1) line bytes)
    (option_map_or quoted (quoted_len false bytes) (stopped (UnexpectedEnd (line + line_feeds bytes)) (line + line_feeds bytes)))
    (with_token (token_at Word at line b bytes (word_len bytes)) (tokens_from (word_len bytes) (at + 1) line bytes))
    (stopped (BadToken line) (line + line_feeds bytes))
    (rest 0 (line + 1)) (rest 0 line) (rest (comment_len bytes) line)
    (λ h. option_at (λ x. All IsSpelledToken x.tokens) quoted (quoted_len false bytes)
    (stopped (UnexpectedEnd (line + line_feeds bytes)) (line + line_feeds bytes))
    (λ n closed. All-cons IsSpelledToken (token_at Quoted at line b bytes n) _ (quoted_at at line b n bytes h closed) (rest n line)) (All-nil IsSpelledToken))
    (λ hash quote all. All-cons IsSpelledToken (token_at Word at line b bytes (word_len bytes)) _ (word_at at line b (word_len bytes) bytes hash quote all)
    (rest (word_len bytes) line))
    (All-nil IsSpelledToken)
