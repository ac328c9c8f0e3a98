-- The kind of a token follows from its text.
use Rattle.std.proofs.Common.{◌≡◌, ◌==◌, ℕ, zero, suc, ◌+◌, ◌-◌, ◌<◌, Bool, true, false, cond, List, [], ◌∷◌, length, take, drop, get_or, refl, sym, arith}
use Rattle.std.specs.Prelude.{All}
use Rattle.std.specs.Option.{option_map_or}
use Rattle.std.specs.List.{list_all}
use Rattle.std.proofs.lemmas.List.Elements.{All-nil, All-cons}
use Rattle.lf_lex.specs.declared.tokens.TokenKind.TheVariants.{Word, Quoted}
use Rattle.lf_lex.specs.declared.tokens.LexFault.TheVariants.{BadToken, UnexpectedEnd}
use Rattle.lf_lex.specs.Tokens.{Lexed, is_white, is_line_feed, is_word_byte, line_feeds, comment_len, word_len, quoted_len, with_token, token_at, stopped}
use Rattle.lf_lex.specs.Tokens.{tokens_from, token_kind, IsSpelled}
use Rattle.lf_lex.proofs.Scanning.{first_and_rest, not_equal}
use Rattle.lf_lex.proofs.Slices.{option_of}

first_bytes : (text word : List ℕ) (at n : ℕ) → at < length text → word ≡ take (suc n) (drop at text) → (rest : List ℕ) × (word ≡ get_or text at 0 ∷ rest)
first_bytes text word at n lt e = (take n (drop (at + 1) text), rw (e, first_and_rest text at lt) refl)

first_of_slice : (text word : List ℕ) (at stop : ℕ) → at < length text → at < stop → word ≡ take (stop - at) (drop at text)
    → (rest : List ℕ) × (word ≡ get_or text at 0 ∷ rest)
first_of_slice text word at stop lt le e =
    let n : stop - at ≡ suc (stop - (at + 1)) = omega arith in
    first_bytes text word at (stop - (at + 1)) lt (rw n at e)

kind_of_first : (word rest : List ℕ) (b : ℕ) (test : Bool) → word ≡ b ∷ rest → (b == 34) ≡ test → token_kind word ≡ cond test Quoted Word
kind_of_first word rest b test e h = rw (e, h) refl

pub quoted_spelled : (text word : List ℕ) (at stop line : ℕ) → at < length text → at < stop → get_or text at 0 ≡ 34 → word ≡ take (stop - at) (drop at text)
    → IsSpelled (record { text = word; kind = Quoted; start = at; stop = stop; line = line })
quoted_spelled text word at stop line lt le quote e =
    let f = first_of_slice text word at stop lt le e in
    record { kind = sym (kind_of_first word f.0 (get_or text at 0) true f.1 (rw quote refl)); bytes = λ h. absurd cc }

pub word_spelled : (text word : List ℕ) (at stop line : ℕ) → at < length text → at < stop → (get_or text at 0 ≡ 34 → ⊥) → word ≡ take (stop - at) (drop at text)
    → list_all is_word_byte word ≡ true
    → IsSpelled (record { text = word; kind = Word; start = at; stop = stop; line = line })
word_spelled text word at stop line lt le no_quote e bytes =
    let f = first_of_slice text word at stop lt le e in
    record { kind = sym (kind_of_first word f.0 (get_or text at 0) false f.1 (not_equal _ _ no_quote)); bytes = λ _. bytes }

-- A claim on a choice of five, given the tests for a quoted text and a word.
choice_of : (P : Lexed → Type 0) (a b c d e : Bool) (w x y z t u : Lexed) → P w → P x → P y → (d ≡ true → P z) → (d ≡ false → e ≡ true → P t) → P u
    → P (cond a w (cond b x (cond c y (cond d z (cond e t u)))))
choice_of P true b c d e w x y z t u o p q r k l = o
choice_of P false true c d e w x y z t u o p q r k l = p
choice_of P false false true d e w x y z t u o p q r k l = q
choice_of P false false false true e w x y z t u o p q r k l = r refl
choice_of P false false false false true w x y z t u o p q r k l = k refl refl
choice_of P false false false false false w x y z t u o p q r k l = l

quoted_at : (at line b more : ℕ) (bytes : List ℕ) → (b == 34) ≡ true → IsSpelled (token_at Quoted at line b bytes more)
quoted_at at line b more bytes h = record { kind = rw h refl; bytes = λ k. absurd cc }

word_at : (at line b more : ℕ) (bytes : List ℕ) → (b == 34) ≡ false → list_all is_word_byte (b ∷ take more bytes) ≡ true
    → IsSpelled (token_at Word at line b bytes more)
word_at at line b more bytes h e = record { kind = rw h refl; bytes = λ _. e }

pub spelled_from : (before at line : ℕ) (bytes : List ℕ) → All IsSpelled (tokens_from before at line bytes).tokens
unfolding tokens_from
spelled_from before at line [] = All-nil IsSpelled
spelled_from (suc before) at line (b ∷ bytes) = spelled_from before (at + 1) (cond (is_line_feed b) (line + 1) line) bytes
spelled_from zero at line (b ∷ bytes) =
    let rest : (n k : ℕ) → All IsSpelled (tokens_from n (at + 1) k bytes).tokens = λ n k. spelled_from n (at + 1) k bytes in
    let quoted : ℕ → Lexed = λ more. with_token (token_at Quoted at line b bytes more) (tokens_from more (at + 1) line bytes) in
    choice_of (λ x. All IsSpelled x.tokens) (is_line_feed b) (is_white b) (b == 35) (b == 34) (list_all is_word_byte (b ∷ take (word_len bytes) bytes))
    (tokens_from 0 (at + 1) (line + 1) bytes) (tokens_from 0 (at + 1) line bytes) (tokens_from (comment_len bytes) (at + 1) line bytes)
    (option_map_or quoted (quoted_len false bytes) (stopped (UnexpectedEnd (line + line_feeds bytes)) (line + line_feeds bytes)))
    (with_token (token_at Word at line b bytes (word_len bytes)) (tokens_from (word_len bytes) (at + 1) line bytes))
    (stopped (BadToken line) (line + line_feeds bytes))
    (rest 0 (line + 1)) (rest 0 line) (rest (comment_len bytes) line)
    (λ h. option_of (λ x. All IsSpelled x.tokens) quoted (quoted_len false bytes) (stopped (UnexpectedEnd (line + line_feeds bytes)) (line + line_feeds bytes))
    (λ n. All-cons IsSpelled (token_at Quoted at line b bytes n) _ (quoted_at at line b n bytes h) (rest n line)) (All-nil IsSpelled))
    (λ h e. All-cons IsSpelled (token_at Word at line b bytes (word_len bytes)) _ (word_at at line b (word_len bytes) bytes h e) (rest (word_len bytes) line))
    (All-nil IsSpelled)
