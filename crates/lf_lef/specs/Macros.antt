-- LEF MACRO: MACRO name, its statements, END name.
use Rattle.std.specs.Prelude.{ℕ, ◌||◌, List, [], ◌∷◌, ◌++◌, None, codes, unwrap_or, if◌then◌else◌}
use Rattle.lf_units.specs.declared.geometry.Point.{Point}
use Rattle.lf_lex.specs.Tokens.{Lexeme}
use Rattle.lf_lex.specs.Reading.{◌>>=◌, Reader, Statement, Turn, taken, continues, finishes, token, is, end_name, to_semicolon, to_end, block, first_counts}
use Rattle.lf_floorplan.specs.declared.macros.Macro.{Macro}
use Rattle.lf_lef.specs.declared.macros.MacroParts.{MacroParts}
use Rattle.lf_lef.specs.Lengths.{size, origin}
use Rattle.lf_lef.specs.Sites.{symmetry, no_symmetry, no_point}
use Rattle.lf_lef.specs.Pins.{pin, rail_of}

-- A skipped statement of OBS or DENSITY (LEF MACRO OBS, LEF MACRO DENSITY). An END without a name
-- is the last.
unfoldable pub passed_statement : Statement (Unit {0})
passed_statement _ l = do
  t ← token l
  if is (codes "END") t.value then finishes tt t.rest
      else if is (codes ";") t.value then continues tt t.rest
      else (to_semicolon t.rest >>= λ stop. continues tt stop.rest)

-- OBS or DENSITY after its keyword.
abbrev pub passed_group : Reader (Unit {0})
passed_group l = block passed_statement tt l

-- Skips a statement of a macro, after its first token.
unfoldable pub skip_lef_from : Lexeme → Reader (Unit {0})
skip_lef_from t l =
    if is (codes "OBS") t || is (codes "DENSITY") t then passed_group l
    else if is (codes "TIMING") t then to_end (codes "TIMING") l
    else if is (codes ";") t then taken tt l
    else to_semicolon l

-- A statement of a macro, after its first token. The first ORIGIN, SIZE and SYMMETRY count, and
-- every PIN. Other statements are skipped.
unfoldable pub macro_statement_from : List ℕ → MacroParts → Lexeme → Reader (Turn MacroParts)
macro_statement_from name parts t l =
    if is (codes "END") t then (end_name name l >>= λ stop. finishes parts stop.rest)
    else if is (codes "ORIGIN") t then
    (origin l >>= λ p. continues (record parts { origin = first_counts parts.origin p.value }) p.rest)
    else if is (codes "SIZE") t then
    (size l >>= λ s. continues (record parts { size = first_counts parts.size s.value }) s.rest)
    else if is (codes "SYMMETRY") t then
    (symmetry l >>= λ s. continues (record parts { symmetry = first_counts parts.symmetry s.value }) s.rest)
    else if is (codes "PIN") t then
    (pin l >>= λ p. continues (record parts { pins = parts.pins ++ p.value ∷ [] }) p.rest)
    else (skip_lef_from t l >>= λ stop. continues parts stop.rest)

unfoldable pub macro_statement : List ℕ → Statement MacroParts
macro_statement name parts l = do
  t ← token l
  macro_statement_from name parts t.value t.rest

abbrev pub no_macro_parts : MacroParts
no_macro_parts = record { size = None; origin = None; symmetry = None; pins = [] }

-- The statements of a macro, and its END name.
abbrev pub macro_parts : List ℕ → Reader MacroParts
macro_parts name l = block (macro_statement name) no_macro_parts l

abbrev pub origin_of : MacroParts → Point
origin_of parts = unwrap_or parts.origin no_point

-- The macro that the statements describe.
abbrev pub macro_from_parts : List ℕ → MacroParts → Macro
macro_from_parts name parts =
    record {
      name = name;
      size = unwrap_or parts.size no_point;
      origin = origin_of parts;
      symmetry = unwrap_or parts.symmetry no_symmetry;
      rail = rail_of (origin_of parts).y parts.pins;
    }
