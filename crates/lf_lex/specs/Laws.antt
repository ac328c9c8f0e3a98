-- Laws on reading, whatever is read.
use Rattle.std.specs.Prelude.{◌≡◌, ◌<◌, List, length, map}
use Rattle.lf_lex.specs.Tokens.{Lexed, Lexeme, plain, with_tokens}
use Rattle.lf_lex.specs.Reading.{Reader, Statement, taken, continues}

-- Holds if the statement takes a token when more statements follow. A block of such statements ends
-- or fails.
abbrev pub TakesTokens : {S : Type 0} → Statement S → Type 0
TakesTokens statement = (before after : _) (l m : Lexed) → statement before l ≡ continues after m
    → length m.tokens < length l.tokens

-- Holds if the reader takes a run of tokens and reads alike from tokens with the same texts,
-- wherever they are and whatever follows.
abbrev pub ReadsAlike : {A : Type 0} → Reader A → Type 0
ReadsAlike reader = (l m : Lexed) (x : _) → reader l ≡ taken x m
    → (run : List Lexeme) × (l ≡ with_tokens run m) × ((same : List Lexeme) → map plain same ≡ map plain run
    → (after_it : Lexed) → reader (with_tokens same after_it) ≡ taken x after_it)
