-- The tokens of lines of words, and of a quoted text.
use Rattle.std.proofs.Common.{◌≡◌, ℕ, ◌+◌, ◌≤◌, true, false, List, [], ◌∷◌, ◌++◌, All, map, length, take, Some, refl, ap, sym, ◌∙◌, append_assoc, arith}
use Rattle.std.specs.List.{list_all, flat_map}
use Rattle.std.proofs.Math.Seq.{take-append_seam, drop-append_seam}
use Rattle.std.proofs.lemmas.List.Elements.{All-head, All-tail}
use Rattle.lf_lex.specs.declared.tokens.TokenKind.TheVariants.{Quoted}
use Rattle.lf_lex.specs.Tokens.{PlainToken, plain, tokens_from, token_at, line_feeds, quoted_len}
use Rattle.lf_lex.specs.Splices.{joined_words, is_word_text, plain_word}
use Rattle.lf_lex.proofs.Scanning.{after_front}
use Rattle.lf_lex.proofs.Cutting.{closing_in_front, quote_step}
use Rattle.lf_lex.proofs.Splicing.{plains, moved, joined_front, word_front}
use Rattle.lf_def.specs.PrintedTexts.{quoted_of, quoted_tokens}
use Rattle.lf_team_def.specs.TeamText.{words_line}

-- The tokens of a text without their places.
abbrev pub read : List ℕ → List PlainToken
read text = plains (tokens_from 0 0 1 text)

feed_front : (rest : List ℕ) → read (10 ∷ rest) ≡ read rest
unfolding tokens_from
feed_front rest = moved 0 1 0 2 1 rest

space_front : (rest : List ℕ) → read (32 ∷ rest) ≡ read rest
unfolding tokens_from
space_front rest = moved 0 1 0 1 1 rest

pub read_nothing : read [] ≡ []
unfolding tokens_from
read_nothing = refl

abbrev pub AreWords : List (List ℕ) → Type 0
AreWords words = list_all is_word_text words ≡ true

pub line_front : (words : List (List ℕ)) (rest : List ℕ) → AreWords words → read (words_line words ++ rest) ≡ map plain_word words ++ read rest
line_front words rest h =
    ap read (append_assoc (joined_words words) (10 ∷ []) rest)
    ∙ joined_front 0 1 words (10 ∷ rest) h refl
    ∙ ap (λ (y : List PlainToken). map plain_word words ++ y) (feed_front rest)

pub lines_front : (lines : List (List (List ℕ))) (rest : List ℕ) → All AreWords lines
    → read (flat_map words_line lines ++ rest) ≡ flat_map (map plain_word) lines ++ read rest
lines_front [] rest h = refl
lines_front (l ∷ ls) rest h =
    ap read (append_assoc (words_line l) (flat_map words_line ls) rest)
    ∙ line_front l (flat_map words_line ls ++ rest) (All-head AreWords l ls h)
    ∙ ap (λ (y : List PlainToken). map plain_word l ++ y) (lines_front ls rest (All-tail AreWords l ls h))
    ∙ sym (append_assoc (map plain_word l) (flat_map (map plain_word) ls) (read rest))

-- A quoted text that ends with its last byte.
quoted_front : (more rest : List ℕ) → quoted_len false more ≡ Some (length more) → read (34 ∷ (more ++ rest)) ≡ quoted_of (34 ∷ more) ∷ read rest
quoted_front more rest closed =
    let front : take (length more) more ≡ more = take_whole more in
    let found : quoted_len false (more ++ rest) ≡ Some (length more) =
    ap (λ (l : List ℕ). quoted_len false (l ++ rest)) (sym front) ∙ (closing_in_front false (length more) (length more) more rest closed (omega arith)).0 in
    let after_it = after_front (length more) 1 1 (more ++ rest) (long more rest) in
    let rest-is : plains (tokens_from (length more) 1 1 (more ++ rest)) ≡ read rest =
    ap plains after_it ∙ ap (λ (l : List ℕ). plains (tokens_from 0 (1 + length more) (1 + line_feeds (take (length more) (more ++ rest))) l))
    (drop-append_seam more rest)
    ∙ moved 0 (1 + length more) 0 (1 + line_feeds (take (length more) (more ++ rest))) 1 rest in
    let first-is : plain (token_at Quoted 0 1 34 (more ++ rest) (length more)) ≡ quoted_of (34 ∷ more) =
    ap (λ (l : List ℕ). quoted_of (34 ∷ l)) (take-append_seam more rest) in
    ap plains (quote_step 0 1 34 (more ++ rest) (Some (length more)) refl refl refl found)
    ∙ ap (λ (x : List PlainToken). plain (token_at Quoted 0 1 34 (more ++ rest) (length more)) ∷ x) rest-is
    ∙ ap (λ (x : PlainToken). x ∷ read rest) first-is
  where
    take_whole : (xs : List ℕ) → take (length xs) xs ≡ xs
    take_whole [] = refl
    take_whole (x ∷ xs) = ap (λ (l : List ℕ). x ∷ l) (take_whole xs)

    long : (xs ys : List ℕ) → length xs ≤ length (xs ++ ys)
    long [] ys = omega arith
    long (x ∷ xs) ys = omega (arith, long xs ys)

-- keyword "text" ; on a line.
pub quoted_line : (keyword q more rest : List ℕ) → is_word_text keyword ≡ true → q ≡ 34 ∷ more → quoted_len false more ≡ Some (length more)
    → read (words_line (keyword ∷ q ∷ (59 ∷ []) ∷ []) ++ rest) ≡ quoted_tokens keyword q ++ read rest
quoted_line keyword q more rest word is closed =
    ap (λ (l : List ℕ). read (words_line (keyword ∷ l ∷ (59 ∷ []) ∷ []) ++ rest)) is
    ∙ ap read (regroup keyword more rest)
    ∙ word_front 0 1 keyword (32 ∷ (34 ∷ (more ++ (32 ∷ 59 ∷ 10 ∷ rest)))) word refl
    ∙ ap (λ (y : List PlainToken). plain_word keyword ∷ y)
    (space_front (34 ∷ (more ++ (32 ∷ 59 ∷ 10 ∷ rest)))
    ∙ quoted_front more (32 ∷ 59 ∷ 10 ∷ rest) closed
    ∙ ap (λ (y : List PlainToken). quoted_of (34 ∷ more) ∷ y)
    (space_front (59 ∷ 10 ∷ rest) ∙ word_front 0 1 (59 ∷ []) (10 ∷ rest) refl refl ∙ ap (λ (y : List PlainToken). plain_word (59 ∷ []) ∷ y) (feed_front rest)))
    ∙ ap (λ (l : List ℕ). quoted_tokens keyword l ++ read rest) (sym is)
  where
    regroup : (keyword more rest : List ℕ) → words_line (keyword ∷ (34 ∷ more) ∷ (59 ∷ []) ∷ []) ++ rest ≡ keyword ++ (32 ∷ (34 ∷ (more ++ (32 ∷ 59 ∷ 10 ∷ rest))))
    regroup keyword more rest =
        ap (λ (l : List ℕ). l ++ rest) (append_assoc keyword (32 ∷ ((34 ∷ more) ++ (32 ∷ 59 ∷ []))) (10 ∷ []))
        ∙ append_assoc keyword ((32 ∷ ((34 ∷ more) ++ (32 ∷ 59 ∷ []))) ++ 10 ∷ []) rest
        ∙ ap (λ (l : List ℕ). keyword ++ (32 ∷ 34 ∷ l))
        (ap (λ (l : List ℕ). l ++ rest) (append_assoc more (32 ∷ 59 ∷ []) (10 ∷ [])) ∙ append_assoc more (32 ∷ 59 ∷ 10 ∷ []) rest)
