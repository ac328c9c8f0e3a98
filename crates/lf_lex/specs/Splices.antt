-- A text in which some runs of bytes are replaced.
use Rattle.std.specs.Prelude.{◌≡◌, ℕ, ◌-◌, ◌≤◌, ◌==◌, take, drop, ◌++◌, map, Bool, true, false, not, ◌&&◌, List, [], ◌∷◌}
use Rattle.std.specs.List.{list_all}
use Rattle.lf_lex.specs.declared.tokens.TokenKind.TheVariants.{Word}
use Rattle.lf_lex.specs.Tokens.{Lexeme, PlainToken, plain, tokens_of, is_word_byte}

-- Bytes that replace those from one offset up to another.
pub record Splice : Type 0 where
  pub start : ℕ
  pub stop : ℕ
  pub new : List ℕ

-- The rest of a text from an offset on, with the splices made.
unfoldable pub spliced : ℕ → List Splice → List ℕ → List ℕ
spliced at [] bytes = bytes
spliced at (s ∷ ss) bytes = take (s.start - at) bytes ++ (s.new ++ spliced s.stop ss (drop (s.stop - at) bytes))

-- Holds if the splices are in order, do not overlap, and lie within a text of this length.
abbrev pub Rising : ℕ → ℕ → List Splice → Type 0
Rising at len [] = at ≤ len
Rising at len (s ∷ ss) = (at ≤ s.start) × (s.start ≤ s.stop) × Rising s.stop len ss

-- Words with a space in front of each.
abbrev pub spaced : List (List ℕ) → List ℕ
spaced [] = []
spaced (w ∷ ws) = 32 ∷ w ++ spaced ws

-- Words with one space between them.
abbrev pub joined_words : List (List ℕ) → List ℕ
joined_words [] = []
joined_words (w ∷ ws) = w ++ spaced ws

-- True if the bytes are one word when white space follows.
abbrev pub is_word_text : List ℕ → Bool
is_word_text [] = false
is_word_text (b ∷ bytes) = not (b == 35) && not (b == 34) && list_all is_word_byte (b ∷ bytes)

abbrev pub plain_word : List ℕ → PlainToken
plain_word w = record { text = w; kind = Word }

-- Holds if the last token of a run is a word and ends at this offset.
abbrev pub LastIs : ℕ → Lexeme → List Lexeme → Type 0
LastIs stop t [] = (t.stop ≡ stop) × (is_word_text t.text ≡ true)
LastIs stop t (u ∷ us) = LastIs stop u us

-- Holds if the splice replaces a run of tokens by words, or inserts words in front of a token.
abbrev pub ReplacesTokens : Splice → List (List ℕ) → List Lexeme → List Lexeme → Type 0
ReplacesTokens s ws [] [] = ⊥
ReplacesTokens s ws [] (t ∷ after) = (s.start ≡ t.start) × (s.stop ≡ t.start) × (s.new ≡ joined_words ws ++ 32 ∷ [])
ReplacesTokens s ws (t ∷ middle) after = (s.start ≡ t.start) × LastIs s.stop t middle × (s.new ≡ joined_words ws)

pub record SpliceStep (s : Splice) (p : List Lexeme) (q : List PlainToken)
    (Then : List Lexeme → List PlainToken → Type 0) : Type 0 where
  pub before : List Lexeme
  pub middle : List Lexeme
  pub after : List Lexeme
  pub words : List (List ℕ)
  pub later : List PlainToken
  pub tokens : p ≡ before ++ (middle ++ after)
  pub makes : ReplacesTokens s words middle after
  pub spelled : list_all is_word_text words ≡ true
  pub new : q ≡ map plain before ++ (map plain_word words ++ later)
  pub next : Then after later

-- Holds if the splices turn the first run of tokens into the second.
abbrev pub AreEdited : List Splice → List Lexeme → List PlainToken → Type 0
AreEdited [] p q = map plain p ≡ q
AreEdited (s ∷ ss) p q = SpliceStep s p q (AreEdited ss)

-- Holds if splices in the text make the same splices among its tokens, except for offsets and
-- lines.
abbrev pub SplicesTokens : List ℕ → Type 0
SplicesTokens text = (ss : List Splice) (q : List PlainToken) → AreEdited ss (tokens_of text).tokens q
    → map plain (tokens_of (spliced 0 ss text)).tokens ≡ q
