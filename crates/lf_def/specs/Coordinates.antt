-- Coordinates, points, rectangles, counts and orientations of DEF. Coordinates are whole database
-- units.
use Rattle.std.specs.Prelude.{ℕ, nat_le, ◌&&◌, ℤ, pos, negsuc, Result, Ok, codes, if◌then◌else◌}
use Rattle.std.specs.Int.{int_min, int_max}
use Rattle.lf_units.specs.declared.geometry.Point.{Point}
use Rattle.lf_units.specs.declared.geometry.Rect.{Rect}
use Rattle.lf_units.specs.Number.{fixed_of}
use Rattle.lf_orient.specs.declared.Orient.{Orient}
use Rattle.lf_orient.specs.declared.Orient.TheVariants.{N, W, S, E, FN, FW, FS, FE}
use Rattle.lf_lex.specs.declared.fault.FaultNumber.TheVariants.{BadNumber, Unexpected}
use Rattle.lf_lex.specs.declared.fault.ReadFault.{ReadFault}
use Rattle.lf_lex.specs.Tokens.{Lexeme}
use Rattle.lf_lex.specs.Reading.{◌>>=◌, Reader, taken, fault_at, token, is, keyword, or_bad_number}

-- The whole number of a token, from -2147483647 to 2147483647.
abbrev pub dbu_of : Lexeme → Result ℤ ReadFault
dbu_of t = or_bad_number (fixed_of t.text 0 2147483647) t.line

-- A coordinate.
unfoldable pub dbu : Reader ℤ
dbu l = do
  t ← token l
  x ← dbu_of t.value
  taken x t.rest

abbrev pub number_up_to : ℕ → ℤ → ℕ → Result ℕ ReadFault
number_up_to most (pos n) line = if nat_le 1 n && nat_le n most then Ok n else fault_at BadNumber line
number_up_to most (negsuc n) line = fault_at BadNumber line

-- A whole number from 1 to the largest one.
unfoldable pub count : ℕ → Reader ℕ
count most l = do
  t ← token l
  x ← dbu_of t.value
  n ← number_up_to most x t.value.line
  taken n t.rest

-- x y ) after the first parenthesis.
unfoldable pub point_rest : Reader Point
point_rest l = do
  x ← dbu l
  y ← dbu x.rest
  stop ← keyword (codes ")") y.rest
  taken (record { x = x.value; y = y.value }) stop.rest

-- ( x y )
unfoldable pub def_point : Reader Point
def_point l = do
  start ← keyword (codes "(") l
  point_rest start.rest

-- The rectangle with these two opposite corners.
abbrev pub rect_between : Point → Point → Rect
rect_between p q = record { x1 = int_min p.x q.x; y1 = int_min p.y q.y; x2 = int_max p.x q.x; y2 = int_max p.y q.y }

-- x y ) ( x y ) after the first parenthesis: any two opposite corners.
unfoldable pub rect_rest : Reader Rect
rect_rest l = do
  p ← point_rest l
  q ← def_point p.rest
  taken (rect_between p.value q.value) q.rest

-- ( x y ) ( x y )
unfoldable pub def_rectangle : Reader Rect
def_rectangle l = do
  start ← keyword (codes "(") l
  rect_rest start.rest

-- The orientation that the token names.
abbrev pub orient_of : Lexeme → Result Orient ReadFault
orient_of t =
    if is (codes "N") t then Ok N
    else if is (codes "W") t then Ok W
    else if is (codes "S") t then Ok S
    else if is (codes "E") t then Ok E
    else if is (codes "FN") t then Ok FN
    else if is (codes "FW") t then Ok FW
    else if is (codes "FS") t then Ok FS
    else if is (codes "FE") t then Ok FE
    else fault_at Unexpected t.line
