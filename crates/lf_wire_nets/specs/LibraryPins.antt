-- LEF texts: the pins of all macros, up to END LIBRARY or the end of the text between statements.
use Rattle.std.specs.Prelude.{◌≡◌, ◌⊎◌, ℕ, List, [], ◌∷◌, ◌++◌, Option, Some, None, Result, Err, codes, if◌then◌else◌}
use Rattle.lf_lex.specs.declared.fault.ReadFault.{ReadFault}
use Rattle.lf_lex.specs.declared.fault.LoadFault.{LoadFault}
use Rattle.lf_lex.specs.declared.fault.ReadError.TheVariants.{Memory, Fault}
use Rattle.lf_lex.specs.Faults.{load_fault_of}
use Rattle.lf_lex.specs.Tokens.{Lexeme, tokens_of}
use Rattle.lf_lex.specs.Reading.{◌>>=◌, Reader, Statement, Turn, taken, continues, finishes, next, is, end_name, block, value_of}
use Rattle.lf_lef.specs.Library.{to_named_end, skip_lef_from}
use Rattle.lf_wire_nets.specs.declared.macros.MacroPins.{MacroPins}
use Rattle.lf_wire_nets.specs.MacroPins.{macro_pins}

-- Skips a statement other than MACRO, after its first token: SITE up to its END and name.
unfoldable pub skip_site_or : Lexeme → Reader (Unit {0})
skip_site_or t l = if is (codes "SITE") t then to_named_end l else skip_lef_from t l

-- The macros so far, and one that is read after its keyword.
unfoldable pub with_macro_pins : List MacroPins → Reader (List MacroPins)
with_macro_pins macros l = do
  m ← macro_pins l
  taken (macros ++ m.value ∷ []) m.rest

-- A statement of the text, after its first token. Every MACRO counts, in the order of the text.
-- Other statements are skipped.
unfoldable pub macros_statement_from : List MacroPins → Lexeme → Reader (Turn (List MacroPins))
macros_statement_from macros t l =
    if is (codes "END") t then (end_name (codes "LIBRARY") l >>= λ stop. finishes macros stop.rest)
    else if is (codes "MACRO") t then (with_macro_pins macros l >>= λ new. continues new.value new.rest)
    else (skip_site_or t l >>= λ stop. continues macros stop.rest)

-- A statement, or the end of the text, which ends the library too.
abbrev pub macros_statement_or_end : List MacroPins → Option Lexeme → Reader (Turn (List MacroPins))
macros_statement_or_end macros None l = finishes macros l
macros_statement_or_end macros (Some t) l = macros_statement_from macros t l

unfoldable pub macros_statement : Statement (List MacroPins)
macros_statement macros l = do
  t ← next l
  macros_statement_or_end macros t.value t.rest

-- The macros so far, and those of a LEF text, with their pins; or the text's first fault.
abbrev pub pins_after : List MacroPins → List ℕ → Result (List MacroPins) ReadFault
pins_after macros text = value_of (block macros_statement macros (tokens_of text))

-- Holds if the fault is that of the text, with its line, or a failed allocation.
abbrev pub RefusesPins : LoadFault → Result (List MacroPins) ReadFault → Type 0
RefusesPins fault reading = (fault ≡ load_fault_of Memory)
    ⊎ ((first : ReadFault) × (reading ≡ Err first) × (fault ≡ load_fault_of (Fault first)))
