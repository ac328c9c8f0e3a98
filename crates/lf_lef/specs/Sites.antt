-- LEF SITE: SITE name, its statements, END name.
use Rattle.std.specs.Prelude.{ℕ, pos, true, false, List, None, codes, unwrap_or, if◌then◌else◌}
use Rattle.std.specs.Str.{bytes_eq}
use Rattle.lf_units.specs.declared.geometry.Point.{Point}
use Rattle.lf_orient.specs.declared.Symmetry.{Symmetry}
use Rattle.lf_lex.specs.declared.fault.FaultNumber.TheVariants.{Unexpected}
use Rattle.lf_lex.specs.Tokens.{Lexeme}
use Rattle.lf_lex.specs.Reading.{◌>>=◌, Reader, Statement, Turn, taken, continues, finishes, fault_at, token, is, word, keyword, end_name, to_semicolon, block, first_counts}
use Rattle.lf_floorplan.specs.declared.sites.Site.{Site}
use Rattle.lf_lef.specs.declared.sites.SiteParts.{SiteParts}
use Rattle.lf_lef.specs.Lengths.{size}

-- One word and a semicolon: CLASS of a site, USE of a pin.
unfoldable pub one_word : Reader (List ℕ)
one_word l = do
  w ← word l
  stop ← keyword (codes ";") w.rest
  taken w.value.text stop.rest

-- A word of SYMMETRY {X | Y | R90} .. ; up to its semicolon. R90 is ignored.
unfoldable pub symmetry_word : Statement Symmetry
symmetry_word s l = do
  t ← token l
  if is (codes ";") t.value then finishes s t.rest
      else if is (codes "X") t.value then continues (record s { x = true }) t.rest
      else if is (codes "Y") t.value then continues (record s { y = true }) t.rest
      else if is (codes "R90") t.value then continues s t.rest
      else fault_at Unexpected t.value.line

abbrev pub no_symmetry : Symmetry
no_symmetry = record { x = false; y = false }

-- SYMMETRY {X | Y | R90} .. ; after its keyword.
abbrev pub symmetry : Reader Symmetry
symmetry l = block symmetry_word no_symmetry l

-- A statement of a site, after its first token. The first CLASS, SYMMETRY and SIZE count. Other
-- statements are skipped.
unfoldable pub site_statement_from : List ℕ → SiteParts → Lexeme → Reader (Turn SiteParts)
site_statement_from name parts t l =
    if is (codes "END") t then (end_name name l >>= λ stop. finishes parts stop.rest)
    else if is (codes "CLASS") t then (one_word l >>= λ class.
    continues (record parts { core = first_counts parts.core (bytes_eq class.value (codes "CORE")) }) class.rest)
    else if is (codes "SYMMETRY") t then
    (symmetry l >>= λ s. continues (record parts { symmetry = first_counts parts.symmetry s.value }) s.rest)
    else if is (codes "SIZE") t then
    (size l >>= λ s. continues (record parts { size = first_counts parts.size s.value }) s.rest)
    else if is (codes ";") t then continues parts l
    else (to_semicolon l >>= λ stop. continues parts stop.rest)

unfoldable pub site_statement : List ℕ → Statement SiteParts
site_statement name parts l = do
  t ← token l
  site_statement_from name parts t.value t.rest

abbrev pub no_site_parts : SiteParts
no_site_parts = record { core = None; symmetry = None; size = None }

-- The statements of a site, and its END name.
abbrev pub site_parts : List ℕ → Reader SiteParts
site_parts name l = block (site_statement name) no_site_parts l

abbrev pub no_point : Point
no_point = record { x = pos 0; y = pos 0 }

-- The site that the statements describe.
abbrev pub site_of : List ℕ → SiteParts → Site
site_of name parts = record {
  name = name;
  core = unwrap_or parts.core false;
  size = unwrap_or parts.size no_point;
  symmetry = unwrap_or parts.symmetry no_symmetry;
}
