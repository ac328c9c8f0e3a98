-- LEF PORT: the boxes of RECT and POLYGON.
use Rattle.std.specs.Prelude.{Option, Some, codes, if◌then◌else◌}
use Rattle.lf_lex.specs.Tokens.{Lexeme}
use Rattle.lf_lex.specs.Reading.{◌>>=◌, Reader, Statement, Turn, taken, continues, finishes, token, is, to_semicolon, block}
use Rattle.lf_lef.specs.Lengths.{point_from, lef_point}
use Rattle.lf_lef.specs.Pins.{past_mask, past_iterate}
use Rattle.lf_units.specs.declared.geometry.Rect.{Rect}
use Rattle.lf_wire_nets.specs.Boxes.{point_box, box_around, joined_box}

-- The box of the first corner of a shape: [MASK n] [ITERATE] pt.
unfoldable pub shape_corner : Reader Rect
shape_corner l = do
  t ← token l
  past ← past_mask t.value t.rest
  first ← past_iterate past.value past.rest
  p ← point_from first.value first.rest
  taken (point_box p.value) p.rest

-- RECT [MASK n] [ITERATE] pt pt .. ; after its keyword: the box between two opposite corners. Only
-- the first rectangle of an ITERATE counts.
unfoldable pub rectangle_box : Reader Rect
rectangle_box l = do
  corner ← shape_corner l
  opposite ← lef_point corner.rest
  stop ← to_semicolon opposite.rest
  taken (box_around corner.value (point_box opposite.value)) stop.rest

-- One more corner of a polygon. The semicolon is the last token. DO and what follows it up to the
-- semicolon are skipped.
unfoldable pub polygon_corner : Statement Rect
polygon_corner box l = do
  t ← token l
  if is (codes ";") t.value then finishes box t.rest
      else if is (codes "DO") t.value then (to_semicolon t.rest >>= λ stop. finishes box stop.rest)
      else (point_from t.value t.rest >>= λ p. continues (box_around box (point_box p.value)) p.rest)

-- POLYGON [MASK n] [ITERATE] pt pt .. [DO ..] ; after its keyword: the least box around its
-- corners. Only the first polygon of an ITERATE counts.
unfoldable pub polygon_box : Reader Rect
polygon_box l = do
  corner ← shape_corner l
  block polygon_corner corner.value corner.rest

-- A statement of a port, after its first token. Every RECT and POLYGON widens the box. Other
-- statements are skipped, and an END without a name is the last.
unfoldable pub port_shape_from : Option Rect → Lexeme → Reader (Turn (Option Rect))
port_shape_from box t l =
    if is (codes "END") t then finishes box l
    else if is (codes "RECT") t then (rectangle_box l >>= λ b. continues (Some (joined_box box b.value)) b.rest)
    else if is (codes "POLYGON") t then (polygon_box l >>= λ b. continues (Some (joined_box box b.value)) b.rest)
    else if is (codes ";") t then continues box l
    else (to_semicolon l >>= λ stop. continues box stop.rest)

unfoldable pub port_shape : Statement (Option Rect)
port_shape box l = do
  t ← token l
  port_shape_from box t.value t.rest
