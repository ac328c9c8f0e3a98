-- DEF VERSION, DIVIDERCHAR, BUSBITCHARS, DESIGN and UNITS. The first of each counts.
use Rattle.std.specs.Prelude.{ℕ, Bool, ◌||◌, List, [], None, codes, unwrap_or, if◌then◌else◌}
use Rattle.lf_lex.specs.declared.fault.FaultNumber.TheVariants.{Unexpected}
use Rattle.lf_lex.specs.Tokens.{Lexeme}
use Rattle.lf_lex.specs.Reading.{◌>>=◌, Reader, taken, fault_at, token, word, name, is, keyword, kind_is_word, first_counts}
use Rattle.lf_def.specs.declared.header.DocumentHeader.{DocumentHeader}
use Rattle.lf_def.specs.declared.header.HeaderParts.{HeaderParts}
use Rattle.lf_def.specs.Coordinates.{count}

-- VERSION v ; after its keyword (DEF VERSION).
unfoldable pub version : Reader (List ℕ)
version l = do
  v ← word l
  stop ← keyword (codes ";") v.rest
  taken v.value.text stop.rest

-- DIVIDERCHAR "c" ; or BUSBITCHARS "cc" ; after its keyword (DEF DIVIDERCHAR, DEF BUSBITCHARS). The
-- value is the quoted text with its marks.
unfoldable pub quoted : Reader (List ℕ)
quoted l = do
  t ← token l
  if kind_is_word t.value.kind then fault_at Unexpected t.value.line
      else (keyword (codes ";") t.rest >>= λ stop. taken t.value.text stop.rest)

-- DESIGN name ; after its keyword (DEF DESIGN).
unfoldable pub design : Reader (List ℕ)
design l = do
  n ← name l
  stop ← keyword (codes ";") n.rest
  taken n.value.text stop.rest

-- UNITS DISTANCE MICRONS n ; after its keyword (DEF UNITS). The value is the database units per
-- micron, from 1 to 20000.
unfoldable pub units : Reader ℕ
units l = do
  distance ← keyword (codes "DISTANCE") l
  microns ← keyword (codes "MICRONS") distance.rest
  n ← count 20000 microns.rest
  stop ← keyword (codes ";") n.rest
  taken n.value stop.rest

abbrev pub is_header : Lexeme → Bool
is_header t = is (codes "VERSION") t || is (codes "DIVIDERCHAR") t || is (codes "BUSBITCHARS") t
    || is (codes "DESIGN") t || is (codes "UNITS") t

-- A statement of the header, after its keyword.
unfoldable pub header_statement : HeaderParts → Lexeme → Reader HeaderParts
header_statement parts t l =
    if is (codes "VERSION") t then
    (version l >>= λ v. taken (record parts { version = first_counts parts.version v.value }) v.rest)
    else if is (codes "DIVIDERCHAR") t then
    (quoted l >>= λ q. taken (record parts { divider = first_counts parts.divider q.value }) q.rest)
    else if is (codes "BUSBITCHARS") t then
    (quoted l >>= λ q. taken (record parts { brackets = first_counts parts.brackets q.value }) q.rest)
    else if is (codes "DESIGN") t then
    (design l >>= λ d. taken (record parts { design = first_counts parts.design d.value }) d.rest)
    else (units l >>= λ n. taken (record parts { units = first_counts parts.units n.value }) n.rest)

abbrev pub no_header : HeaderParts
no_header = record { version = None; divider = None; brackets = None; design = None; units = None }

-- The header that the statements describe. The defaults are 5.8, "/" and "[]".
abbrev pub header_of : HeaderParts → DocumentHeader
header_of parts =
    record {
      version = unwrap_or parts.version (codes "5.8");
      divider = unwrap_or parts.divider (codes "\"/\"");
      brackets = unwrap_or parts.brackets (codes "\"[]\"");
      design = unwrap_or parts.design [];
      units = parts.units;
    }
