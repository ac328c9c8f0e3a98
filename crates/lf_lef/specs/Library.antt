-- LEF texts: the statements of a library, up to END LIBRARY or the end of the text between
-- statements.
use Rattle.std.specs.Prelude.{◌≡◌, ◌⊎◌, ℕ, nat_le, Bool, ◌||◌, List, [], ◌∷◌, ◌++◌, length, Option, Some, None, Result, Ok, Err, codes, if◌then◌else◌}
use Rattle.lf_names.specs.Names.{position_of}
use Rattle.lf_lex.specs.declared.fault.FaultNumber.TheVariants.{TooMany}
use Rattle.lf_lex.specs.declared.fault.ReadFault.{ReadFault}
use Rattle.lf_lex.specs.declared.fault.LoadFault.{LoadFault}
use Rattle.lf_lex.specs.declared.fault.ReadError.TheVariants.{Memory, Fault}
use Rattle.lf_lex.specs.Faults.{load_fault_of}
use Rattle.lf_lex.specs.Tokens.{Lexeme, tokens_of}
use Rattle.lf_lex.specs.Reading.{◌>>=◌, Reader, Statement, Turn, taken, continues, finishes, fault_at, next, is, name, end_name, to_semicolon, to_end, to_word, block}
use Rattle.lf_lex.specs.Reading.{value_of}
use Rattle.lf_lef.specs.Contents.{Contents, site_names, macro_names}
use Rattle.lf_lef.specs.Sites.{site_parts, site_of}
use Rattle.lf_lef.specs.Macros.{macro_parts, macro_from_parts}

-- Checks that there is room for one more entry if the name is new.
abbrev pub room_for : Option ℕ → ℕ → Lexeme → Result (Unit {0}) ReadFault
room_for (Some at) count t = Ok tt
room_for None count t = if nat_le 1000000 count then fault_at TooMany t.line else Ok tt

-- The entries with this one appended if its name is new. The first of several entries with one name
-- counts.
abbrev pub with_first : {A : Type 0} → Option ℕ → List A → A → List A
with_first (Some at) things thing = things
with_first None things thing = things ++ thing ∷ []

-- SITE name, its statements, END name; after its keyword.
unfoldable pub with_site : Contents → Reader Contents
with_site c l = do
  n ← name l
  room ← room_for (position_of (site_names c.sites) n.value.text) (length c.sites) n.value
  parts ← site_parts n.value.text n.rest
  taken (record c {
    sites = with_first (position_of (site_names c.sites) n.value.text) c.sites
        (site_of n.value.text parts.value);
  }) parts.rest

-- MACRO name, its statements, END name; after its keyword.
unfoldable pub with_macro : Contents → Reader Contents
with_macro c l = do
  n ← name l
  room ← room_for (position_of (macro_names c.macros) n.value.text) (length c.macros) n.value
  parts ← macro_parts n.value.text n.rest
  taken (record c {
    macros = with_first (position_of (macro_names c.macros) n.value.text) c.macros
        (macro_from_parts n.value.text parts.value);
  }) parts.rest

-- True for what is skipped up to END and the name that follows the keyword (LEF LAYER, VIA,
-- VIARULE, NONDEFAULTRULE, ARRAY).
abbrev pub is_named : Lexeme → Bool
is_named t = is (codes "LAYER") t || is (codes "VIA") t || is (codes "VIARULE") t || is (codes "NONDEFAULTRULE") t
    || is (codes "ARRAY") t

-- True for what is skipped up to END and its keyword (LEF UNITS, PROPERTYDEFINITIONS, SPACING, and
-- groups of older texts).
abbrev pub is_group : Lexeme → Bool
is_group t = is (codes "UNITS") t || is (codes "PROPERTYDEFINITIONS") t || is (codes "SPACING") t
    || is (codes "IRDROP") t || is (codes "NOISETABLE") t
    || is (codes "CORRECTIONTABLE") t

-- The name, and all tokens up to END and that name.
unfoldable pub to_named_end : Reader (Unit {0})
to_named_end l = do
  n ← name l
  to_end n.value.text n.rest

-- Skips a statement other than SITE and MACRO, after its first token.
unfoldable pub skip_lef_from : Lexeme → Reader (Unit {0})
skip_lef_from t l =
    if is_named t then to_named_end l
    else if is_group t then to_end t.text l
    else if is (codes "BEGINEXT") t then to_word (codes "ENDEXT") l
    else if is (codes ";") t then taken tt l
    else to_semicolon l

-- A statement of the text, after its first token. SITE and MACRO count. Other statements are
-- skipped.
unfoldable pub lef_statement_from : Contents → Lexeme → Reader (Turn Contents)
lef_statement_from c t l =
    if is (codes "END") t then (end_name (codes "LIBRARY") l >>= λ stop. finishes c stop.rest)
    else if is (codes "SITE") t then (with_site c l >>= λ new. continues new.value new.rest)
    else if is (codes "MACRO") t then (with_macro c l >>= λ new. continues new.value new.rest)
    else (skip_lef_from t l >>= λ stop. continues c stop.rest)

-- A statement, or the end of the text, which ends the library too.
abbrev pub statement_or_end : Contents → Option Lexeme → Reader (Turn Contents)
statement_or_end c None l = finishes c l
statement_or_end c (Some t) l = lef_statement_from c t l

unfoldable pub lef_statement : Statement Contents
lef_statement c l = do
  t ← next l
  statement_or_end c t.value t.rest

-- The contents of a library after a text, and what is left after END LIBRARY.
abbrev pub library : Contents → Reader Contents
library c l = block lef_statement c l

-- The contents of a library after a text was read into it, or the text's first fault.
abbrev pub library_after : Contents → List ℕ → Result Contents ReadFault
library_after c text = value_of (library c (tokens_of text))

-- Holds if the fault is that of the text, with its line, or a failed allocation.
abbrev pub RefusesLef : LoadFault → Result Contents ReadFault → Type 0
RefusesLef fault reading = (fault ≡ load_fault_of Memory)
    ⊎ ((first : ReadFault) × (reading ≡ Err first) × (fault ≡ load_fault_of (Fault first)))
