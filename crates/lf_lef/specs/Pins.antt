-- LEF MACRO PIN and its PORT, as needed for supply rails.
use Rattle.std.specs.Prelude.{ℕ, Bool, true, false, ◌&&◌, not, List, [], ◌∷◌, ◌++◌, ℤ, pos, ◌+ℤ◌, int_le, Option, Some, None, codes, if◌then◌else◌}
use Rattle.std.specs.Int.{int_min, int_max}
use Rattle.std.specs.List.{list_any}
use Rattle.std.specs.Str.{bytes_eq}
use Rattle.lf_orient.specs.declared.Rail.{Rail}
use Rattle.lf_orient.specs.declared.Rail.TheVariants as rail
use Rattle.lf_lex.specs.Tokens.{Lexeme}
use Rattle.lf_lex.specs.Reading.{◌>>=◌, Reader, Statement, Turn, taken, continues, finishes, token, is, name, end_name, to_semicolon, block, first_counts}
use Rattle.lf_lef.specs.declared.pins.PinUse.{PinUse}
use Rattle.lf_lef.specs.declared.pins.PinUse.TheVariants.{Power, Ground, Other}
use Rattle.lf_lef.specs.declared.pins.Reach.{Reach}
use Rattle.lf_lef.specs.declared.pins.Pin.{Pin}
use Rattle.lf_lef.specs.Lengths.{micros, point_from, lef_point}
use Rattle.lf_lef.specs.Sites.{one_word}

-- MASK n, if present.
unfoldable pub past_mask : Lexeme → Reader Lexeme
past_mask t l = if is (codes "MASK") t then (micros l >>= λ n. token n.rest) else taken t l

-- ITERATE, if present.
unfoldable pub past_iterate : Lexeme → Reader Lexeme
past_iterate t l = if is (codes "ITERATE") t then token l else taken t l

-- The y range of a rectangle, from any two opposite corners.
abbrev pub reach_of : ℤ → ℤ → Reach
reach_of a b = record { low = int_min a b; high = int_max a b }

-- RECT [MASK n] [ITERATE] pt pt .. ; after its keyword. Only the first rectangle of an ITERATE
-- counts.
unfoldable pub lef_rectangle : Reader Reach
lef_rectangle l = do
  t ← token l
  past ← past_mask t.value t.rest
  first ← past_iterate past.value past.rest
  corner ← point_from first.value first.rest
  opposite ← lef_point corner.rest
  stop ← to_semicolon opposite.rest
  taken (reach_of corner.value.y opposite.value.y) stop.rest

-- A statement of a port, after its first token. Every RECT counts, other statements are skipped,
-- and an END without a name is the last.
unfoldable pub port_statement_from : List Reach → Lexeme → Reader (Turn (List Reach))
port_statement_from reaches t l =
    if is (codes "END") t then finishes reaches l
    else if is (codes "RECT") t then (lef_rectangle l >>= λ r. continues (reaches ++ r.value ∷ []) r.rest)
    else if is (codes ";") t then continues reaches l
    else (to_semicolon l >>= λ stop. continues reaches stop.rest)

unfoldable pub port_statement : Statement (List Reach)
port_statement reaches l = do
  t ← token l
  port_statement_from reaches t.value t.rest

-- The use that a word names. Words other than POWER and GROUND are ignored.
abbrev pub use_named : List ℕ → PinUse
use_named w = if bytes_eq w (codes "POWER") then Power else if bytes_eq w (codes "GROUND") then Ground else Other

-- A statement of a pin, after its first token. The first USE and every PORT count. Other statements
-- are skipped.
unfoldable pub pin_statement_from : List ℕ → Pin → Lexeme → Reader (Turn Pin)
pin_statement_from name pin t l =
    if is (codes "END") t then (end_name name l >>= λ stop. finishes pin stop.rest)
    else if is (codes "USE") t then
    (one_word l >>= λ w. continues (record pin { supply = first_counts pin.supply (use_named w.value) }) w.rest)
    else if is (codes "PORT") t then
    (block port_statement pin.reaches l >>= λ r. continues (record pin { reaches = r.value }) r.rest)
    else if is (codes ";") t then continues pin l
    else (to_semicolon l >>= λ stop. continues pin stop.rest)

unfoldable pub pin_statement : List ℕ → Statement Pin
pin_statement name pin l = do
  t ← token l
  pin_statement_from name pin t.value t.rest

abbrev pub no_pin : Pin
no_pin = record { supply = None; reaches = [] }

-- PIN name, its statements, END name; after its keyword.
unfoldable pub pin : Reader Pin
pin l = do
  n ← name l
  block (pin_statement n.value.text) no_pin n.rest

-- The bottom rail: a rule of this project, not of LEF.

-- True if the rectangle reaches the line y = 0 after ORIGIN is added.
abbrev pub is_at_bottom : ℤ → Reach → Bool
is_at_bottom origin r = int_le (r.low +ℤ origin) (pos 0) && int_le (pos 0) (r.high +ℤ origin)

-- True if the uses are the same.
abbrev pub is_same_use : PinUse → PinUse → Bool
is_same_use Power Power = true
is_same_use Ground Ground = true
is_same_use Other Other = true
is_same_use _ _ = false

abbrev pub is_used_as : PinUse → Option PinUse → Bool
is_used_as supply None = false
is_used_as supply (Some u) = is_same_use u supply

-- True if the pin has this use, and one of its rectangles reaches the bottom.
abbrev pub is_supply_at_bottom : PinUse → ℤ → Pin → Bool
is_supply_at_bottom supply origin p = is_used_as supply p.supply && list_any (is_at_bottom origin) p.reaches

-- True if one of the pins has this use and reaches the bottom.
abbrev pub has_at_bottom : PinUse → ℤ → List Pin → Bool
has_at_bottom supply origin pins = list_any (is_supply_at_bottom supply origin) pins

-- Power if a power pin reaches the bottom and no ground pin does. Otherwise ground.
abbrev pub rail_of : ℤ → List Pin → Rail
rail_of origin pins =
    if has_at_bottom Power origin pins && not (has_at_bottom Ground origin pins) then rail.Power else rail.Ground
