-- DEF ROW: ROW name site x y orient [DO numX BY numY [STEP sx sy]] [+ ..] ;
use Rattle.std.specs.Prelude.{List, [], ◌∷◌, ◌++◌, Option, Some, None, codes, if◌then◌else◌}
use Rattle.lf_units.specs.declared.geometry.Point.{Point}
use Rattle.lf_lex.specs.declared.fault.FaultNumber.TheVariants.{Unexpected}
use Rattle.lf_lex.specs.Tokens.{Lexeme}
use Rattle.lf_lex.specs.Reading.{◌>>=◌, Reader, taken, fault_at, token, name, is, keyword, to_semicolon}
use Rattle.lf_def.specs.declared.rows.RowStatement.{RowStatement}
use Rattle.lf_def.specs.declared.rows.Sites.{Sites}
use Rattle.lf_def.specs.Coordinates.{dbu, count, orient_of}

-- The end of a row, after its first token. Its properties are skipped.
unfoldable pub row_end : Lexeme → Reader (Unit {0})
row_end t l =
    if is (codes ";") t then taken tt l
    else if is (codes "+") t then to_semicolon l
    else fault_at Unexpected t.line

-- [STEP sx sy] and the end of the row, after its first token.
unfoldable pub step : Lexeme → Reader (Option Point)
step t l =
    if is (codes "STEP") t then (dbu l >>= λ x. dbu x.rest >>= λ y. token y.rest >>= λ u. row_end u.value u.rest
    >>= λ stop. taken (Some (record { x = x.value; y = y.value })) stop.rest)
    else (row_end t l >>= λ stop. taken None stop.rest)

-- numX BY numY [STEP sx sy] and the end of the row, after DO.
unfoldable pub sites : Reader Sites
sites l = do
  x ← count 2147483647 l
  by ← keyword (codes "BY") x.rest
  y ← count 2147483647 by.rest
  t ← token y.rest
  s ← step t.value t.rest
  taken (record { x = x.value; y = y.value; step = s.value }) s.rest

abbrev pub one_site : Sites
one_site = record { x = 1; y = 1; step = None }

-- [DO numX BY numY [STEP sx sy]] and the end of the row, after its first token. Without DO the row
-- has one site.
unfoldable pub sites_from : Lexeme → Reader Sites
sites_from t l =
    if is (codes "DO") t then sites l
    else (row_end t l >>= λ stop. taken one_site stop.rest)

-- A row after its keyword.
unfoldable pub row : Reader RowStatement
row l = do
  n ← name l
  site ← name n.rest
  x ← dbu site.rest
  y ← dbu x.rest
  t ← token y.rest
  orient ← orient_of t.value
  u ← token t.rest
  s ← sites_from u.value u.rest
  taken (record {
    name = n.value.text;
    site = site.value.text;
    x = x.value;
    y = y.value;
    orient = orient;
    sites_x = s.value.x;
    sites_y = s.value.y;
    step = s.value.step;
  }) s.rest

-- One more row, after its keyword.
unfoldable pub with_row : List RowStatement → Reader (List RowStatement)
with_row rows l = do
  r ← row l
  taken (rows ++ r.value ∷ []) r.rest
