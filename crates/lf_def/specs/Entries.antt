-- Sections of DEF: entries that begin with a minus, and their clauses that begin with a plus.
use Rattle.std.specs.Prelude.{ℕ, nat_lt, not, List, [], ◌∷◌, ◌++◌, length, Result, Ok, codes, if◌then◌else◌}
use Rattle.lf_lex.specs.declared.fault.FaultNumber.TheVariants.{Unexpected, TooMany}
use Rattle.lf_lex.specs.declared.fault.ReadFault.{ReadFault}
use Rattle.lf_lex.specs.Tokens.{Lexeme}
use Rattle.lf_lex.specs.Reading.{◌>>=◌, Reader, Statement, continues, finishes, fault_at, token, is, is_word, end_name, to_semicolon, block}

-- The minus and an entry, or END and the keyword of the section.
unfoldable pub entry_or_end : {A : Type 0} → List ℕ → Reader A → Statement (List A)
entry_or_end keyword entry entries l = do
  t ← token l
  if is (codes "-") t.value then (entry t.rest >>= λ e. continues (entries ++ e.value ∷ []) e.rest)
      else if is (codes "END") t.value then (end_name keyword t.rest >>= λ stop. finishes entries stop.rest)
      else fault_at Unexpected t.value.line

-- A section, after its keyword: count ; entries, END and the keyword. Its entries follow those of
-- earlier sections. The count is ignored.
unfoldable pub section : {A : Type 0} → List ℕ → Reader A → List A → Reader (List A)
section keyword entry entries l = do
  start ← to_semicolon l
  block (entry_or_end keyword entry) entries start.rest

-- The bytes of a name or a pattern, if the token is a word other than a semicolon, of at most 1,024
-- bytes.
abbrev pub name_token : Lexeme → Result (List ℕ) ReadFault
name_token t =
    if not (is_word t) then fault_at Unexpected t.line
    else if nat_lt 1024 (length t.text) then fault_at TooMany t.line
    else Ok t.text
