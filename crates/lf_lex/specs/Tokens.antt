-- The tokens of a text, up to its end or the first fault.
use Rattle.std.specs.Prelude.{◌≡◌, ℕ, zero, suc, ◌+◌, ◌-◌, ◌==◌, nat_le, nat_lt, ◌<◌, ◌≤◌, length, drop, Bool, true, false, not, ◌&&◌, ◌||◌, List, [], ◌∷◌, take, ◌++◌, Option, Some, None, Result, Ok, Err, count_by, if◌then◌else◌}
use Rattle.std.specs.Option.{option_map, option_map_or}
use Rattle.std.specs.List.{list_all, position_or_len}
use denote.Ref.{Bor}
use Rattle.lf_lex.specs.declared.tokens.TokenOf.{TokenOf}
use Rattle.lf_lex.specs.declared.tokens.TokenKind.{TokenKind}
use Rattle.lf_lex.specs.declared.tokens.TokenKind.TheVariants.{Word, Quoted}
use Rattle.lf_lex.specs.declared.tokens.LexFault.{LexFault}
use Rattle.lf_lex.specs.declared.tokens.LexFault.TheVariants.{BadToken, UnexpectedEnd}

-- A token whose bytes are a list instead of a slice of a text.
abbrev pub Lexeme : Type 0
Lexeme = TokenOf (List ℕ)

-- The tokens of a text, the fault after them, and the line on which the text ends.
pub record Lexed : Type 0 where
  pub tokens : List Lexeme
  pub fault : Option LexFault
  pub end_line : ℕ

-- True for space, tab, line feed and carriage return.
abbrev pub is_white : ℕ → Bool
is_white b = b == 32 || b == 9 || b == 10 || b == 13

abbrev pub is_line_feed : ℕ → Bool
is_line_feed b = b == 10

abbrev pub is_word_byte : ℕ → Bool
is_word_byte b = nat_le 33 b && nat_le b 126

-- True if no word may have the byte.
abbrev pub is_other : ℕ → Bool
is_other b = nat_lt b 33 || nat_lt 126 b

abbrev pub line_feeds : List ℕ → ℕ
line_feeds bytes = count_by is_line_feed bytes

-- The number of bytes of a comment after its number sign, up to the end of the line.
abbrev pub comment_len : List ℕ → ℕ
comment_len bytes = position_or_len is_line_feed bytes

-- The number of bytes up to the next white space.
abbrev pub word_len : List ℕ → ℕ
word_len bytes = position_or_len is_white bytes

-- The number of bytes up to the closing quote, including it. The byte after a backslash does not
-- close the text.
abbrev pub quoted_len : Bool → List ℕ → Option ℕ
quoted_len escaped [] = None
quoted_len escaped (b ∷ bytes) =
    if not escaped && b == 34 then Some 1
    else option_map (λ n. n + 1) (quoted_len (not escaped && b == 92) bytes)

abbrev pub with_token : Lexeme → Lexed → Lexed
with_token token rest = record { tokens = token ∷ rest.tokens; fault = rest.fault; end_line = rest.end_line }

abbrev pub stopped : LexFault → ℕ → Lexed
stopped fault end_line = record { tokens = []; fault = Some fault; end_line = end_line }

-- The token whose first byte is b, followed by this many of the bytes after b.
abbrev pub token_at : TokenKind → ℕ → ℕ → ℕ → List ℕ → ℕ → Lexeme
token_at kind at line b bytes more = record {
  text = b ∷ take more bytes;
  kind = kind;
  start = at;
  stop = at + 1 + more;
  line = line;
}

-- The tokens of the rest of a text, from an offset and a line on. The first `before` bytes belong
-- to an earlier token and are skipped.
unfoldable pub tokens_from : ℕ → ℕ → ℕ → List ℕ → Lexed
tokens_from before at line [] = record { tokens = []; fault = None; end_line = line }
tokens_from (suc before) at line (b ∷ bytes) =
    tokens_from before (at + 1) (if is_line_feed b then line + 1 else line) bytes
tokens_from zero at line (b ∷ bytes) =
    if is_line_feed b then tokens_from 0 (at + 1) (line + 1) bytes
    else if is_white b then tokens_from 0 (at + 1) line bytes
    else if b == 35 then tokens_from (comment_len bytes) (at + 1) line bytes
    else if b == 34 then
    option_map_or (λ more. with_token (token_at Quoted at line b bytes more) (tokens_from more (at + 1) line bytes))
    (quoted_len false bytes) (stopped (UnexpectedEnd (line + line_feeds bytes)) (line + line_feeds bytes))
    else if list_all is_word_byte (b ∷ take (word_len bytes) bytes) then
    with_token (token_at Word at line b bytes (word_len bytes)) (tokens_from (word_len bytes) (at + 1) line bytes)
    else stopped (BadToken line) (line + line_feeds bytes)

-- The tokens of a text.
abbrev pub tokens_of : List ℕ → Lexed
tokens_of text = tokens_from 0 0 1 text

abbrev pub lexeme : TokenOf (Bor (List ℕ)) → Lexeme
lexeme t = record { text = t.text.now; kind = t.kind; start = t.start; stop = t.stop; line = t.line }

-- Holds if a call for the next token returns the first token, `None` at the end, or the fault after
-- the last token. The fault then remains.
abbrev pub ReturnsNextToken : Result (Option (TokenOf (Bor (List ℕ)))) LexFault → Lexed → Lexed → Type 0
ReturnsNextToken (Ok (Some token)) old new = old ≡ with_token (lexeme token) new
ReturnsNextToken (Ok None) old new = (old.tokens ≡ []) × (old.fault ≡ None) × (new ≡ old)
ReturnsNextToken (Err fault) old new = (old.tokens ≡ []) × (old.fault ≡ Some fault) × (new ≡ old)

-- Holds if a token begins here, or nothing is left.
abbrev pub BeginsToken : List ℕ → Type 0
BeginsToken [] = Unit {0}
BeginsToken (b ∷ bytes) = (is_white b ≡ false) × ((b == 35) ≡ false)

-- Holds if this is the token at an offset, with the other tokens after it, or the fault at that
-- offset.
abbrev pub ReadsToken : List ℕ → ℕ → ℕ → Result (TokenOf (Bor (List ℕ))) LexFault → Type 0
ReadsToken text at line (Ok t) =
    (at + length t.text.now ≡ t.stop) × (at < t.stop) × (t.stop ≤ length text)
    × (tokens_from 0 at line (drop at text)
    ≡ with_token (lexeme t) (tokens_from 0 t.stop (line + line_feeds t.text.now) (drop t.stop text)))
ReadsToken text at line (Err fault) =
    tokens_from 0 at line (drop at text) ≡ stopped fault (line + line_feeds (drop at text))

-- Holds if the tokens are slices of the text from an offset on, in order and without overlap.
abbrev pub AreSlices : List ℕ → ℕ → List Lexeme → Type 0
AreSlices text from [] = Unit {0}
AreSlices text from (t ∷ ts) = (from ≤ t.start) × (t.start < t.stop)
    × (t.text ≡ take (t.stop - t.start) (drop t.start text)) × AreSlices text t.stop ts

-- Holds if the tokens end within the text.
abbrev pub AreWithin : List ℕ → List Lexeme → Type 0
AreWithin text [] = Unit {0}
AreWithin text (t ∷ ts) = (t.stop ≤ length text) × AreWithin text ts

-- These tokens, followed by those of a rest.
abbrev pub with_tokens : List Lexeme → Lexed → Lexed
with_tokens front rest = record { tokens = front ++ rest.tokens; fault = rest.fault; end_line = rest.end_line }

-- A token without its offsets and line.
pub record PlainToken : Type 0 where
  pub text : List ℕ
  pub kind : TokenKind

abbrev pub plain : Lexeme → PlainToken
plain t = record { text = t.text; kind = t.kind }

-- Holds if replacing a token and all that follows leaves the tokens in front of it unchanged, with
-- their offsets.
abbrev pub CutsAtTokens : List ℕ → Type 0
CutsAtTokens text = (new : List ℕ) (before : List Lexeme) (t : Lexeme) (after : List Lexeme)
    → (tokens_of text).tokens ≡ before ++ t ∷ after
    → tokens_of (take t.start text ++ new) ≡ with_tokens before (tokens_from 0 t.start t.line new)

-- The kind of a token with these bytes. A quotation mark begins a quoted text.
abbrev pub token_kind : List ℕ → TokenKind
token_kind [] = Word
token_kind (b ∷ bytes) = if b == 34 then Quoted else Word

-- Holds if the first byte determines the kind of the token, and each byte of a word is from 33 to
-- 126.
pub record IsSpelled (t : Lexeme) : Type 0 where
  pub kind : t.kind ≡ token_kind t.text
  pub bytes : t.kind ≡ Word → list_all is_word_byte t.text ≡ true
