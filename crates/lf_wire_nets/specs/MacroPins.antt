-- LEF MACRO: its pins. MACRO name, its statements, END name.
use Rattle.std.specs.Prelude.{ℕ, List, [], ◌∷◌, ◌++◌, Option, None, All, codes, if◌then◌else◌}
use Rattle.lf_lex.specs.Tokens.{Lexeme}
use Rattle.lf_lex.specs.Reading.{◌>>=◌, Reader, Statement, Turn, taken, continues, finishes, token, is, name, end_name, to_semicolon, block, IsName}
use Rattle.lf_lef.specs.Macros as macros
use Rattle.lf_units.specs.declared.geometry.Rect.{Rect}
use Rattle.lf_wire_nets.specs.declared.pins.MacroPin.{MacroPin}
use Rattle.lf_wire_nets.specs.declared.macros.MacroPins.{MacroPins}
use Rattle.lf_wire_nets.specs.Boxes.{IsShapeBoxIfAny}
use Rattle.lf_wire_nets.specs.Shapes.{port_shape}

-- A statement of a pin, after its first token. Every PORT counts. Other statements are skipped, and
-- END and the pin's name are the last.
unfoldable pub pin_port_from : List ℕ → Option Rect → Lexeme → Reader (Turn (Option Rect))
pin_port_from name box t l =
    if is (codes "END") t then (end_name name l >>= λ stop. finishes box stop.rest)
    else if is (codes "PORT") t then (block port_shape box l >>= λ b. continues b.value b.rest)
    else if is (codes ";") t then continues box l
    else (to_semicolon l >>= λ stop. continues box stop.rest)

unfoldable pub pin_port : List ℕ → Statement (Option Rect)
pin_port name box l = do
  t ← token l
  pin_port_from name box t.value t.rest

-- PIN name, its statements, END name; after its keyword.
unfoldable pub macro_pin : Reader MacroPin
macro_pin l = do
  n ← name l
  box ← block (pin_port n.value.text) None n.rest
  taken (record { name = n.value.text; box = box.value }) box.rest

-- The pins so far, and one that is read after its keyword.
unfoldable pub with_macro_pin : List MacroPin → Reader (List MacroPin)
with_macro_pin pins l = do
  p ← macro_pin l
  taken (pins ++ p.value ∷ []) p.rest

-- A statement of a macro, after its first token. Every PIN counts. Other statements are skipped,
-- and END and the macro's name are the last.
unfoldable pub pins_statement_from : List ℕ → List MacroPin → Lexeme → Reader (Turn (List MacroPin))
pins_statement_from name pins t l =
    if is (codes "END") t then (end_name name l >>= λ stop. finishes pins stop.rest)
    else if is (codes "PIN") t then (with_macro_pin pins l >>= λ new. continues new.value new.rest)
    else (macros.skip_lef_from t l >>= λ stop. continues pins stop.rest)

unfoldable pub pins_statement : List ℕ → Statement (List MacroPin)
pins_statement name pins l = do
  t ← token l
  pins_statement_from name pins t.value t.rest

-- MACRO name, its statements, END name; after its keyword.
unfoldable pub macro_pins : Reader MacroPins
macro_pins l = do
  n ← name l
  pins ← block (pins_statement n.value.text) [] n.rest
  taken (record { name = n.value.text; pins = pins.value }) pins.rest

-- Holds if the pin has a name, and its box is in the range of LEF.
pub record IsMacroPin (p : MacroPin) : Type 0 where
  pub name : IsName p.name
  pub box : IsShapeBoxIfAny p.box

-- Holds if the macro has a name, and each of its pins is one.
pub record HasMacroPins (m : MacroPins) : Type 0 where
  pub name : IsName m.name
  pub pins : All IsMacroPin m.pins
