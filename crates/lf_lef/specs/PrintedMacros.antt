-- Printed LEF macros: statements of MACRO, PIN, PORT and OBS in any order, with skipped ones among
-- them.
use Rattle.std.specs.Prelude.{◌≡◌, ◌≢◌, ℕ, ◌<◌, Bool, List, [], ◌∷◌, ◌++◌, length, map, All, IfSome, ℤ, Option, Some, None, codes, if◌then◌else◌, true}
use Rattle.lf_units.specs.declared.geometry.Point.{Point}
use Rattle.lf_orient.specs.declared.Symmetry.{Symmetry}
use Rattle.lf_names.specs.Names.{position_of}
use Rattle.lf_lex.specs.Tokens.{Lexed, Lexeme, PlainToken, with_tokens}
use Rattle.lf_lex.specs.Reading.{first_counts}
use Rattle.lf_lex.specs.Splices.{plain_word}
use Rattle.lf_lex.specs.Passing.{OccurNowhere}
use Rattle.lf_floorplan.specs.declared.macros.Macro.{Macro}
use Rattle.lf_lef.specs.declared.pins.Reach.{Reach}
use Rattle.lf_lef.specs.declared.pins.Pin.{Pin}
use Rattle.lf_lef.specs.declared.macros.MacroParts.{MacroParts}
use Rattle.lf_lef.specs.Contents.{Contents, macro_names}
use Rattle.lf_lef.specs.Pins.{reach_of, use_named, no_pin}
use Rattle.lf_lef.specs.Macros.{no_macro_parts, macro_from_parts}
use Rattle.lf_lef.specs.Library.{library}
use Rattle.lf_lef.specs.Printed.{Spells, Writes, IsPrintable, end_words, use_words, with_semicolon, IsSkippedToSemicolon, SkippedStatement, IsWhole}
use Rattle.lf_lef.specs.Printed.{tokens_after}
use Rattle.lf_lef.specs.Sites.{no_symmetry}

-- Lengths and points.

-- A word, and the length that it denotes.
pub record PrintedLength : Type 0 where
  pub word : List ℕ
  pub length : ℤ

abbrev pub IsPrintedLength : PrintedLength → Type 0
IsPrintedLength n = Writes n.word n.length

-- A point: x y, or ( x y ).
pub record PrintedPoint : Type 0 where
  pub x : PrintedLength
  pub y : PrintedLength
  pub in_parentheses : Bool

abbrev pub point_words : PrintedPoint → List (List ℕ)
point_words p = if p.in_parentheses then codes "(" ∷ p.x.word ∷ p.y.word ∷ codes ")" ∷ [] else p.x.word ∷ p.y.word ∷ []

pub record IsPrintedPoint (p : PrintedPoint) : Type 0 where
  pub x : IsPrintedLength p.x
  pub y : IsPrintedLength p.y

abbrev pub printed_point : PrintedPoint → Point
printed_point p = record { x = p.x.length; y = p.y.length }

-- Ports (LEF MACRO PIN PORT).

-- A rectangle: its mask, whether it is repeated, two opposite corners, and what follows them up to
-- its semicolon, for example DO n BY m STEP x y.
pub record PrintedRect : Type 0 where
  pub mask : Option PrintedLength
  pub iterate : Bool
  pub corner : PrintedPoint
  pub opposite : PrintedPoint
  pub more : List PlainToken

pub record IsPrintedRect (r : PrintedRect) : Type 0 where
  pub mask : IfSome r.mask IsPrintedLength
  pub corner : IsPrintedPoint r.corner
  pub opposite : IsPrintedPoint r.opposite
  pub more : OccurNowhere (codes ";" ∷ []) r.more

abbrev pub mask_words : Option PrintedLength → List (List ℕ)
mask_words None = []
mask_words (Some n) = codes "MASK" ∷ n.word ∷ []

abbrev pub iterate_words : Bool → List (List ℕ)
iterate_words iterate = if iterate then codes "ITERATE" ∷ [] else []

-- RECT [MASK n] [ITERATE] pt pt .. ;
abbrev pub rect_tokens : PrintedRect → List PlainToken
rect_tokens r =
    plain_word (codes "RECT") ∷ (map plain_word (mask_words r.mask) ++
    (map plain_word (iterate_words r.iterate) ++ (map plain_word (point_words r.corner)
    ++ (map plain_word (point_words r.opposite) ++ with_semicolon r.more))))

-- A statement of a PORT.
pub data PortStatement : Type 0 where
  port_rect : PrintedRect → PortStatement
  port_passed : List PlainToken → PortStatement

abbrev pub port_statement_tokens : PortStatement → List PlainToken
port_statement_tokens (port_rect r) = rect_tokens r
port_statement_tokens (port_passed tokens) = with_semicolon tokens

abbrev pub IsPortStatement : PortStatement → Type 0
IsPortStatement (port_rect r) = IsPrintedRect r
IsPortStatement (port_passed tokens) = IsSkippedToSemicolon (codes "END" ∷ codes "RECT" ∷ []) tokens

-- The statements in order, and END.
abbrev pub port_tokens : List PortStatement → List PlainToken
port_tokens [] = plain_word (codes "END") ∷ []
port_tokens (s ∷ ss) = port_statement_tokens s ++ port_tokens ss

-- Every RECT counts.
abbrev pub reaches_with_rect : List Reach → PortStatement → List Reach
reaches_with_rect reaches (port_rect r) = reaches ++ reach_of r.corner.y.length r.opposite.y.length ∷ []
reaches_with_rect reaches (port_passed tokens) = reaches

abbrev pub with_rects : List Reach → List PortStatement → List Reach
with_rects reaches [] = reaches
with_rects reaches (s ∷ ss) = with_rects (reaches_with_rect reaches s) ss

-- Pins (LEF MACRO PIN).

-- A statement of a PIN.
pub data PinStatement : Type 0 where
  pin_use : List ℕ → PinStatement
  pin_port : List PortStatement → PinStatement
  pin_passed : List PlainToken → PinStatement

abbrev pub pin_statement_tokens : PinStatement → List PlainToken
pin_statement_tokens (pin_use use_word) = map plain_word (use_words use_word)
pin_statement_tokens (pin_port statements) = plain_word (codes "PORT") ∷ port_tokens statements
pin_statement_tokens (pin_passed tokens) = with_semicolon tokens

abbrev pub IsPinStatement : PinStatement → Type 0
IsPinStatement (pin_use use_word) = use_word ≢ codes ";"
IsPinStatement (pin_port statements) = All IsPortStatement statements
IsPinStatement (pin_passed tokens) = IsSkippedToSemicolon (codes "END" ∷ codes "USE" ∷ codes "PORT" ∷ []) tokens

-- The statements in order, and END name.
abbrev pub pin_body_tokens : List ℕ → List PinStatement → List PlainToken
pin_body_tokens name [] = map plain_word (end_words name)
pin_body_tokens name (s ∷ ss) = pin_statement_tokens s ++ pin_body_tokens name ss

-- The first USE counts, and every PORT.
abbrev pub with_pin_statement : Pin → PinStatement → Pin
with_pin_statement pin (pin_use use_word) = record pin { supply = first_counts pin.supply (use_named use_word) }
with_pin_statement pin (pin_port statements) = record pin { reaches = with_rects pin.reaches statements }
with_pin_statement pin (pin_passed tokens) = pin

abbrev pub with_pin_statements : Pin → List PinStatement → Pin
with_pin_statements pin [] = pin
with_pin_statements pin (s ∷ ss) = with_pin_statements (with_pin_statement pin s) ss

-- Macros (LEF MACRO).

-- Groups that are skipped statement by statement, up to an END without a name.
pub data Layers : Type 0 where
  obstructions : Layers
  density : Layers

abbrev pub layers_word : Layers → List ℕ
layers_word obstructions = codes "OBS"
layers_word density = codes "DENSITY"

abbrev pub layers_tokens : List (List PlainToken) → List PlainToken
layers_tokens [] = plain_word (codes "END") ∷ []
layers_tokens (s ∷ ss) = with_semicolon s ++ layers_tokens ss

-- A word of SYMMETRY.
pub data SymmetryWord : Type 0 where
  about_x : SymmetryWord
  about_y : SymmetryWord
  turned : SymmetryWord

abbrev pub spelled_symmetry : SymmetryWord → List ℕ
spelled_symmetry about_x = codes "X"
spelled_symmetry about_y = codes "Y"
spelled_symmetry turned = codes "R90"

-- The words, and a semicolon.
abbrev pub symmetry_tokens : List SymmetryWord → List PlainToken
symmetry_tokens [] = plain_word (codes ";") ∷ []
symmetry_tokens (w ∷ ws) = plain_word (spelled_symmetry w) ∷ symmetry_tokens ws

-- R90 is ignored.
abbrev pub with_symmetry : Symmetry → SymmetryWord → Symmetry
with_symmetry s about_x = record s { x = true }
with_symmetry s about_y = record s { y = true }
with_symmetry s turned = s

abbrev pub with_symmetries : Symmetry → List SymmetryWord → Symmetry
with_symmetries s [] = s
with_symmetries s (w ∷ ws) = with_symmetries (with_symmetry s w) ws

-- A statement of a MACRO.
pub data MacroStatement : Type 0 where
  -- ORIGIN pt ;
  macro_origin : PrintedPoint → MacroStatement
  -- SIZE w BY h ;
  macro_size : PrintedLength → PrintedLength → MacroStatement
  -- SYMMETRY {X | Y | R90} .. ;
  macro_symmetry : List SymmetryWord → MacroStatement
  -- PIN name, its statements, END name.
  macro_pin : List ℕ → List PinStatement → MacroStatement
  -- OBS or DENSITY, statements of any words and quoted texts, END.
  macro_layers : Layers → List (List PlainToken) → MacroStatement
  -- TIMING .. END TIMING
  macro_timing : List PlainToken → MacroStatement
  -- Any other statement, up to its semicolon.
  macro_passed : List PlainToken → MacroStatement

abbrev pub macro_statement_tokens : MacroStatement → List PlainToken
macro_statement_tokens (macro_origin p) =
    plain_word (codes "ORIGIN") ∷ (map plain_word (point_words p) ++ plain_word (codes ";") ∷ [])
macro_statement_tokens (macro_size w h) = map plain_word (codes "SIZE" ∷ w.word ∷ codes "BY" ∷ h.word ∷ codes ";" ∷ [])
macro_statement_tokens (macro_symmetry words) = plain_word (codes "SYMMETRY") ∷ symmetry_tokens words
macro_statement_tokens (macro_pin name statements) =
    plain_word (codes "PIN") ∷ plain_word name ∷ pin_body_tokens name statements
macro_statement_tokens (macro_layers keyword statements) = plain_word (layers_word keyword) ∷ layers_tokens statements
macro_statement_tokens (macro_timing between) =
    plain_word (codes "TIMING") ∷ (between ++ map plain_word (end_words (codes "TIMING")))
macro_statement_tokens (macro_passed tokens) = with_semicolon tokens

abbrev pub IsMacroStatement : MacroStatement → Type 0
IsMacroStatement (macro_origin p) = IsPrintedPoint p
IsMacroStatement (macro_size w h) = IsPrintedLength w × IsPrintedLength h
IsMacroStatement (macro_symmetry words) = Unit {0}
IsMacroStatement (macro_pin name statements) = IsPrintable name × All IsPinStatement statements
IsMacroStatement (macro_layers keyword statements) = All (IsSkippedToSemicolon (codes "END" ∷ [])) statements
IsMacroStatement (macro_timing between) = OccurNowhere (codes "END" ∷ codes "TIMING" ∷ []) between
IsMacroStatement (macro_passed tokens) =
    IsSkippedToSemicolon (codes "END" ∷ codes "ORIGIN" ∷ codes "SIZE" ∷ codes "SYMMETRY" ∷ codes "PIN" ∷ codes "OBS"
    ∷ codes "DENSITY" ∷ codes "TIMING" ∷ []) tokens

-- The statements in order, and END name.
abbrev pub macro_body_tokens : List ℕ → List MacroStatement → List PlainToken
macro_body_tokens name [] = map plain_word (end_words name)
macro_body_tokens name (s ∷ ss) = macro_statement_tokens s ++ macro_body_tokens name ss

-- MACRO name, its statements, END name.
abbrev pub macro_tokens : List ℕ → List MacroStatement → List PlainToken
macro_tokens name statements = plain_word (codes "MACRO") ∷ plain_word name ∷ macro_body_tokens name statements

-- The first ORIGIN, SIZE and SYMMETRY count, and every PIN. Skipped statements are ignored.
abbrev pub with_statement : MacroParts → MacroStatement → MacroParts
with_statement parts (macro_origin p) = record parts { origin = first_counts parts.origin (printed_point p) }
with_statement parts (macro_size w h) = record parts {
  size = first_counts parts.size (record { x = w.length; y = h.length });
}
with_statement parts (macro_symmetry words) = record parts {
  symmetry = first_counts parts.symmetry (with_symmetries no_symmetry words);
}
with_statement parts (macro_pin name statements) = record parts {
  pins = parts.pins ++ with_pin_statements no_pin statements ∷ [];
}
with_statement parts (macro_layers keyword statements) = parts
with_statement parts (macro_timing between) = parts
with_statement parts (macro_passed tokens) = parts

abbrev pub with_statements : MacroParts → List MacroStatement → MacroParts
with_statements parts [] = parts
with_statements parts (s ∷ ss) = with_statements (with_statement parts s) ss

-- The macro that the statements describe.
abbrev pub described_macro : List ℕ → List MacroStatement → Macro
described_macro name statements = macro_from_parts name (with_statements no_macro_parts statements)

-- Holds if a macro with a new name, printed by any such statements, reads back, after skipped
-- statements and with anything after it.
abbrev pub ReadsMacroOf : Contents → Macro → List MacroStatement → Type 0
ReadsMacroOf c m statements = (passed : List SkippedStatement) (tokens : List Lexeme) (after_it : Lexed)
    → All IsWhole passed → IsPrintable m.name → All IsMacroStatement statements → described_macro m.name statements ≡ m
    → position_of (macro_names c.macros) m.name ≡ None → length c.macros < 1000000
    → Spells tokens (tokens_after passed (macro_tokens m.name statements))
    → library c (with_tokens tokens after_it) ≡ library (record c { macros = c.macros ++ m ∷ [] }) after_it
