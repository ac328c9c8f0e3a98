-- DEF PINS: - name {+ clause} ;
use Rattle.std.specs.Prelude.{Bool, ◌||◌, List, [], ◌∷◌, ◌++◌, Option, Some, None, codes, if◌then◌else◌}
use Rattle.std.specs.Int.{int_min, int_max}
use Rattle.lf_units.specs.declared.geometry.Point.{Point}
use Rattle.lf_units.specs.declared.geometry.Rect.{Rect}
use Rattle.lf_lex.specs.Tokens.{Lexeme}
use Rattle.lf_lex.specs.Reading.{◌>>=◌, Reader, Statement, Turn, taken, continues, finishes, token, name, is, block, first_counts}
use Rattle.lf_def.specs.declared.components.Location.{Location}
use Rattle.lf_def.specs.Coordinates.{def_point, orient_of, point_rest}
use Rattle.lf_wire_nets.specs.declared.design_pins.DesignPin.{DesignPin}
use Rattle.lf_wire_nets.specs.declared.design_pins.DesignPort.{DesignPort}
use Rattle.lf_wire_nets.specs.declared.design_pins.PinParts.{PinParts}
use Rattle.lf_wire_nets.specs.declared.design_pins.PinToken.{PinToken}
use Rattle.lf_wire_nets.specs.declared.design_pins.PinToken.TheVariants.{Clause, Shape, Rest}

abbrev pub begins_placement : Lexeme → Bool
begins_placement t = is (codes "PLACED") t || is (codes "FIXED") t || is (codes "COVER") t

abbrev pub begins_shape : Lexeme → Bool
begins_shape t = is (codes "LAYER") t || is (codes "POLYGON") t

-- ( x y ) orient after PLACED, FIXED or COVER.
unfoldable pub location : Reader Location
location l = do
  p ← def_point l
  t ← token p.rest
  orient ← orient_of t.value
  taken (record { x = p.value.x; y = p.value.y; orient = orient }) t.rest

-- The box with this point alone.
abbrev pub point_box : Point → Rect
point_box p = record { x1 = p.x; y1 = p.y; x2 = p.x; y2 = p.y }

-- The least box around a box and a point.
abbrev pub box_with : Rect → Point → Rect
box_with b p = record {
  x1 = int_min b.x1 p.x;
  y1 = int_min b.y1 p.y;
  x2 = int_max b.x2 p.x;
  y2 = int_max b.y2 p.y;
}

-- The least box around the shapes so far and a point.
abbrev pub shape_with : Option Rect → Point → Rect
shape_with None p = point_box p
shape_with (Some b) p = box_with b p

-- The ports, and one with this location and this shape. A port without a location is left out.
abbrev pub with_port : List DesignPort → Option Location → Option Rect → List DesignPort
with_port ports None shape = ports
with_port ports (Some at) shape = ports ++ record { at = at; shape = shape } ∷ []

-- A clause, after its plus and its word. PORT begins the next port, LAYER and POLYGON are shapes of
-- the port, and its first placement counts. Of clauses other than these and placements only the word is read.
unfoldable pub pin_clause : PinParts → Lexeme → Reader (Turn PinParts)
pin_clause parts t l =
    if begins_shape t then continues (record parts { expected = Shape }) l
    else if is (codes "PORT") t then
    continues (record { ports = with_port parts.ports parts.at parts.shape; at = None; shape = None; expected = Rest }) l
    else if begins_placement t then (location l >>= λ p.
    continues (record parts { at = first_counts parts.at p.value; expected = Rest }) p.rest)
    else continues (record parts { expected = Rest }) l

-- A token of LAYER or POLYGON after their word. Each point widens the box, and other tokens are
-- skipped: the layer, MASK, SPACING and DESIGNRULEWIDTH.
unfoldable pub shape_token : PinParts → Lexeme → Reader (Turn PinParts)
shape_token parts t l =
    if is (codes "(") t then (point_rest l >>= λ p.
    continues (record parts { shape = Some (shape_with parts.shape p.value) }) p.rest)
    else continues parts l

-- The part of a pin that begins with a token, which is no separator. Tokens after the word of
-- another clause, and those in front of the first clause, are skipped.
unfoldable pub pin_token : PinToken → PinParts → Lexeme → Reader (Turn PinParts)
pin_token Clause parts t l = pin_clause parts t l
pin_token Shape parts t l = shape_token parts t l
pin_token Rest parts t l = continues parts l

-- The part of a pin that begins with a token. A semicolon is the last, and a plus begins a clause.
unfoldable pub pin_part_from : PinParts → Lexeme → Reader (Turn PinParts)
pin_part_from parts t l =
    if is (codes ";") t then finishes parts l
    else if is (codes "+") t then continues (record parts { expected = Clause }) l
    else pin_token parts.expected parts t l

unfoldable pub pin_part : Statement PinParts
pin_part parts l = do
  t ← token l
  pin_part_from parts t.value t.rest

abbrev pub no_pin_parts : PinParts
no_pin_parts = record { ports = []; at = None; shape = None; expected = Rest }

-- A pin of the design, after its minus. Without a PORT all its clauses are those of one port.
unfoldable pub design_pin : Reader DesignPin
design_pin l = do
  n ← name l
  parts ← block pin_part no_pin_parts n.rest
  taken (record {
    name = n.value.text;
    ports = with_port parts.value.ports parts.value.at parts.value.shape;
  }) parts.rest
