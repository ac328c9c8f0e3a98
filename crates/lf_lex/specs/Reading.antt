-- Readers: each takes a value from the front of a list of tokens, or returns the first fault with
-- its line.
use Rattle.std.specs.Prelude.{◌≡◌, ℕ, zero, suc, ◌<◌, ◌≤◌, nat_lt, Bool, true, false, ◌&&◌, not, List, [], ◌∷◌, length, Option, Some, None, Result, Ok, Err}
use Rattle.std.specs.Prelude.{codes, if◌then◌else◌}
use Rattle.std.specs.Str.{bytes_eq}
use Rattle.std.specs.List.{list_all}
use Rattle.lf_lex.specs.declared.tokens.TokenKind.{TokenKind}
use Rattle.lf_lex.specs.declared.tokens.TokenKind.TheVariants.{Word, Quoted}
use Rattle.lf_lex.specs.declared.tokens.LexFault.{LexFault}
use Rattle.lf_lex.specs.declared.tokens.LexFault.TheVariants as lex
use Rattle.lf_lex.specs.declared.fault.FaultNumber.{FaultNumber}
use Rattle.lf_lex.specs.declared.fault.FaultNumber.TheVariants.{BadToken, UnexpectedEnd, Unexpected, BadNumber, WrongEnd, TooMany}
use Rattle.lf_lex.specs.declared.fault.ReadFault.{ReadFault}
use Rattle.lf_lex.specs.declared.fault.ReadError.{ReadError}
use Rattle.lf_lex.specs.declared.fault.ReadError.TheVariants.{Memory, Fault}
use Rattle.lf_lex.specs.Tokens.{Lexeme, Lexed, is_word_byte}

-- A value that was read, and the tokens that are left.
pub record ReadValue (A : Type 0) : Type 0 where
  pub value : A
  pub rest : Lexed

-- A function that reads a value from the front of the tokens.
abbrev pub Reader : Type 0 → Type 0
Reader A = Lexed → Result (ReadValue A) ReadFault

infixl 10 ◌>>=◌
abbrev pub ◌>>=◌ : {A B : Type 0} → Result A ReadFault → (A → Result B ReadFault) → Result B ReadFault
(Ok x) >>= f = f x
(Err e) >>= f = Err e

-- The value, with what is left.
abbrev pub taken : {A : Type 0} → A → Lexed → Result (ReadValue A) ReadFault
taken x rest = Ok (record { value = x; rest = rest })

-- The fault of this number at a line.
abbrev pub fault_at : {A : Type 0} → FaultNumber → ℕ → Result A ReadFault
fault_at number line = Err (record { number = number; line = line })

-- The number that was read, or BadNumber at the line.
abbrev pub or_bad_number : {A E : Type 0} → Result A E → ℕ → Result A ReadFault
or_bad_number (Ok x) line = Ok x
or_bad_number (Err e) line = fault_at BadNumber line

-- The value alone.
abbrev pub value_of : {A : Type 0} → Result (ReadValue A) ReadFault → Result A ReadFault
value_of (Ok x) = Ok x.value
value_of (Err e) = Err e

-- The error for the fault of this number at a line.
abbrev pub error_at : FaultNumber → ℕ → ReadError
error_at number line = Fault (record { number = number; line = line })

abbrev pub lexer_error : LexFault → ReadError
lexer_error (lex.BadToken line) = error_at BadToken line
lexer_error (lex.UnexpectedEnd line) = error_at UnexpectedEnd line

-- Tokens.

-- The fault after the last token: the lexer's fault, or UnexpectedEnd at the end of the text.
abbrev pub fault_of : Option LexFault → ℕ → ReadFault
fault_of None end_line = record { number = UnexpectedEnd; line = end_line }
fault_of (Some (lex.BadToken line)) end_line = record { number = BadToken; line = line }
fault_of (Some (lex.UnexpectedEnd line)) end_line = record { number = UnexpectedEnd; line = line }

abbrev pub fault_after : Lexed → ReadFault
fault_after l = fault_of l.fault l.end_line

abbrev pub lexed_after : List Lexeme → Lexed → Lexed
lexed_after tokens l = record { tokens = tokens; fault = l.fault; end_line = l.end_line }

abbrev pub first_token : List Lexeme → Lexed → Result (ReadValue Lexeme) ReadFault
first_token [] l = Err (fault_after l)
first_token (t ∷ ts) l = taken t (lexed_after ts l)

-- Any token.
abbrev pub token : Reader Lexeme
token l = first_token l.tokens l

abbrev pub end_or_fault : Option LexFault → Lexed → Result (ReadValue (Option Lexeme)) ReadFault
end_or_fault None l = taken None l
end_or_fault (Some f) l = Err (fault_after l)

abbrev pub next_of : List Lexeme → Lexed → Result (ReadValue (Option Lexeme)) ReadFault
next_of [] l = end_or_fault l.fault l
next_of (t ∷ ts) l = taken (Some t) (lexed_after ts l)

-- Any token, or `None` at the end of the text.
abbrev pub next : Reader (Option Lexeme)
next l = next_of l.tokens l

-- Words.

-- True if the token's bytes are these. A quoted text never has the bytes of a word.
abbrev pub is : List ℕ → Lexeme → Bool
is word t = bytes_eq t.text word

abbrev pub kind_is_word : TokenKind → Bool
kind_is_word Word = true
kind_is_word Quoted = false

-- True if the token is a word other than a semicolon.
abbrev pub is_word : Lexeme → Bool
is_word t = kind_is_word t.kind && not (is (codes ";") t)

-- This token; Unexpected for another one.
unfoldable pub keyword : List ℕ → Reader (Unit {0})
keyword due l = do
  t ← token l
  if is due t.value then taken tt t.rest else fault_at Unexpected t.value.line

-- A word other than a semicolon, of any length.
unfoldable pub word : Reader Lexeme
word l = do
  t ← token l
  if is_word t.value then taken t.value t.rest else fault_at Unexpected t.value.line

-- A word other than a semicolon, of at most 1,024 bytes.
unfoldable pub name : Reader Lexeme
name l = do
  t ← word l
  if nat_lt 1024 (length t.value.text) then fault_at TooMany t.value.line else taken t.value t.rest

-- The name that is due after END.
unfoldable pub end_name : List ℕ → Reader (Unit {0})
end_name due l = do
  t ← token l
  if not (kind_is_word t.value.kind) then fault_at Unexpected t.value.line
      else if is due t.value then taken tt t.rest
      else fault_at WrongEnd t.value.line

-- Statements.

-- Whether more statements follow, and the state after this one.
pub record Turn (S : Type 0) : Type 0 where
  pub more : Bool
  pub state : S

-- What one statement of a block reads, given the state in front of it.
abbrev pub Statement : Type 0 → Type 0
Statement S = S → Reader (Turn S)

-- The result of a statement after which more follow.
abbrev pub continues : {S : Type 0} → S → Lexed → Result (ReadValue (Turn S)) ReadFault
continues s l = taken (record { more = true; state = s }) l

-- The result of the last statement.
abbrev pub finishes : {S : Type 0} → S → Lexed → Result (ReadValue (Turn S)) ReadFault
finishes s l = taken (record { more = false; state = s }) l

-- Reads statements up to the last, at most this many.
unfoldable pub statements : {S : Type 0} → Statement S → ℕ → S → Reader S
statements statement zero s l = Err (fault_after l)
statements statement (suc n) s l = do
  t ← statement s l
  if t.value.more then statements statement n t.value.state t.rest else taken t.value.state t.rest

-- Reads statements up to the last. Each takes a token, so there are at most as many as tokens.
abbrev pub block : {S : Type 0} → Statement S → S → Reader S
block statement s l = statements statement (suc (length l.tokens)) s l

-- The value of the first of several statements of one kind.
abbrev pub first_counts : {A : Type 0} → Option A → A → Option A
first_counts None x = Some x
first_counts (Some first) x = Some first

-- Skipping.

-- Skips a token. A semicolon is the last.
unfoldable pub passed_token : Statement (Unit {0})
passed_token _ l = do
  t ← token l
  if is (codes ";") t.value then finishes tt t.rest else continues tt t.rest

-- Skips up to the next semicolon, including it.
abbrev pub to_semicolon : Reader (Unit {0})
to_semicolon l = block passed_token tt l

-- Skips a token, given whether the one in front of it is END. The name that is due directly after
-- END is the last.
unfoldable pub passed_to_end : List ℕ → Statement Bool
passed_to_end due after_end l = do
  t ← token l
  if after_end && is due t.value then finishes after_end t.rest else continues (is (codes "END") t.value) t.rest

-- Skips up to the next END directly followed by the name, including both.
unfoldable pub to_end : List ℕ → Reader (Unit {0})
to_end due l = do
  t ← block (passed_to_end due) false l
  taken tt t.rest

-- Skips a token. The word that is due is the last.
unfoldable pub passed_to_word : List ℕ → Statement (Unit {0})
passed_to_word due _ l = do
  t ← token l
  if is due t.value then finishes tt t.rest else continues tt t.rest

-- Skips up to the next such word, including it.
abbrev pub to_word : List ℕ → Reader (Unit {0})
to_word due l = block (passed_to_word due) tt l

-- What functions return.

-- A name: a word of at most 1,024 bytes, each from 33 to 126.
pub record IsName (bytes : List ℕ) : Type 0 where
  pub short : length bytes ≤ 1024
  pub printable : list_all is_word_byte bytes ≡ true

-- Holds if the failure is the fault that the definition gives, or a failed allocation.
abbrev pub Fails : {A : Type 0} → ReadError → Result A ReadFault → Type 0
Fails Memory reading = Unit {0}
Fails (Fault f) reading = reading ≡ Err f

-- Holds if the error is a fault of the text and not a failed allocation.
abbrev pub IsFault : ReadError → Type 0
IsFault Memory = ⊥
IsFault (Fault f) = Unit {0}

-- Holds if a function returned what the definition reads, with its value seen by `view`, and took
-- at least one token. Also holds if it failed as the definition does, or because an allocation
-- failed.
abbrev pub Reads : {X Y : Type 0} → (X → Y) → Result X ReadError → Reader Y → Lexed → Lexed → Type 0
Reads view (Ok x) reader old new = (reader old ≡ taken (view x) new) × (length new.tokens < length old.tokens)
Reads view (Err e) reader old new = Fails e (reader old)

-- The same for a function that may have taken no token.
abbrev pub ReadsOn : {X Y : Type 0} → (X → Y) → Result X ReadError → Reader Y → Lexed → Lexed → Type 0
ReadsOn view (Ok x) reader old new = (reader old ≡ taken (view x) new) × (length new.tokens ≤ length old.tokens)
ReadsOn view (Err e) reader old new = Fails e (reader old)

-- The same for a statement that may be the end of the text. If more statements follow, a token was
-- taken.
abbrev pub ReadsTurn : {S : Type 0} → (Bool → Turn S) → Result Bool ReadError → Reader (Turn S) → Lexed → Lexed → Type 0
ReadsTurn view (Ok more) reader old new = (reader old ≡ taken (view more) new) × (length new.tokens ≤ length old.tokens)
    × (more ≡ true → length new.tokens < length old.tokens)
ReadsTurn view (Err e) reader old new = Fails e (reader old)

-- The turn of a block, given whether more statements follow.
abbrev pub turn : {S : Type 0} → S → Bool → Turn S
turn s more = record { more = more; state = s }
