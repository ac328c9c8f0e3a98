-- Lengths and points of LEF, in millionths of a micron.
use Rattle.std.specs.Prelude.{◌^◌, ℤ, pos, negsuc, ◌≤ℤ◌, Result, codes, if◌then◌else◌}
use Rattle.lf_units.specs.declared.geometry.Point.{Point}
use Rattle.lf_units.specs.Number.{fixed_of}
use Rattle.lf_lex.specs.declared.fault.ReadFault.{ReadFault}
use Rattle.lf_lex.specs.Tokens.{Lexeme}
use Rattle.lf_lex.specs.Reading.{◌>>=◌, Reader, taken, token, is, keyword, or_bad_number}

-- Holds if the length lies between -1,000,000 and 1,000,000 microns.
pub record IsLengthInRange (length : ℤ) : Type 0 where
  pub low : negsuc 999999999999 ≤ℤ length
  pub high : length ≤ℤ pos (10 ^ 12)

-- Holds if both lengths of a point or a size are in that range.
pub record HasRange (p : Point) : Type 0 where
  pub x : IsLengthInRange p.x
  pub y : IsLengthInRange p.y

-- The length of a token, with six decimals of a micron.
abbrev pub micros_of : Lexeme → Result ℤ ReadFault
micros_of t = or_bad_number (fixed_of t.text 6 (10 ^ 12)) t.line

-- A length.
unfoldable pub micros : Reader ℤ
micros l = do
  t ← token l
  length ← micros_of t.value
  taken length t.rest

-- A point, after its first token: x y, or ( x y ).
unfoldable pub point_from : Lexeme → Reader Point
point_from t l =
    if is (codes "(") t then (micros l >>= λ x. micros x.rest >>= λ y. keyword (codes ")") y.rest >>= λ stop.
    taken (record { x = x.value; y = y.value }) stop.rest)
    else (micros_of t >>= λ x. micros l >>= λ y. taken (record { x = x; y = y.value }) y.rest)

-- A point.
unfoldable pub lef_point : Reader Point
lef_point l = do
  t ← token l
  point_from t.value t.rest

-- SIZE w BY h ; after its keyword (LEF SITE, LEF MACRO).
unfoldable pub size : Reader Point
size l = do
  width ← micros l
  by ← keyword (codes "BY") width.rest
  height ← micros by.rest
  stop ← keyword (codes ";") height.rest
  taken (record { x = width.value; y = height.value }) stop.rest

-- ORIGIN x y ; after its keyword (LEF MACRO).
unfoldable pub origin : Reader Point
origin l = do
  p ← lef_point l
  stop ← keyword (codes ";") p.rest
  taken p.value stop.rest
