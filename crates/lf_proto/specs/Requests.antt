-- The request lines, by the shapes of their fields.
use Rattle.std.specs.Prelude.{ℕ, ◌<◌, ◌^◌, cond, List, [], ◌∷◌, Option, Some, None, ℤ, pos, negsuc, ◌<ℤ◌, codes}
use Rattle.std.specs.Int.Signed.{lt_z, lt_z_yes}
use Rattle.std.specs.List.{list_all}
use Rattle.std.specs.Str.{bytes_eq}
use Rattle.lf_units.specs.declared.geometry.Point.{Point}
use Rattle.lf_orient.specs.declared.Orient.{Orient}
use Rattle.lf_orient.specs.declared.Orient.TheVariants.{N, W, S, E, FN, FW, FS, FE}
use Rattle.lf_floorplan.specs.declared.place.Place.{Place}
use Rattle.lf_proto.specs.Lines.{fields, is_line_byte, IsLineName}
use Rattle.lf_proto.specs.Numbers.{◌>>=◌, session_number, shown_by_test, padding, coordinate}
use Rattle.lf_proto.specs.declared.request.Command.{Command}
use Rattle.lf_proto.specs.declared.request.Command.TheVariants.{Bye, To}
use Rattle.lf_proto.specs.declared.request.TeamCommand.TheVariants.{Open, Within}
use Rattle.lf_proto.specs.declared.verb.Verb.{Verb}
use Rattle.lf_proto.specs.declared.verb.Shape.{Shape}
use Rattle.lf_proto.specs.declared.verb.Shape.TheVariants.{Alone, Cell, CellAt, CellTo, Cells, Sites}
use Rattle.lf_proto.specs.declared.verb.Operands.{Operands}
use Rattle.lf_proto.specs.declared.verb.Operands.TheVariants.{Alone as NoField, Cell as OneCell, CellAt as CellThere, CellTo as CellTowards, Cells as TwoCells, Sites as SitesApart}
use Rattle.lf_proto.specs.declared.verb.Action.{Action}
use Rattle.lf_proto.specs.Verbs.{joined, parts_of, shape_of, verb_named}

-- the orientation of that name (LEF/DEF 5.8, DEF COMPONENTS)
abbrev pub orient_named : List ℕ → Option Orient
orient_named text =
    cond (bytes_eq text (codes "N")) (Some N)
    (cond (bytes_eq text (codes "W")) (Some W)
    (cond (bytes_eq text (codes "S")) (Some S)
    (cond (bytes_eq text (codes "E")) (Some E)
    (cond (bytes_eq text (codes "FN")) (Some FN)
    (cond (bytes_eq text (codes "FW")) (Some FW)
    (cond (bytes_eq text (codes "FS")) (Some FS)
    (cond (bytes_eq text (codes "FE")) (Some FE)
    None)))))))

-- a proof that the coordinate is above -2147483648, which no DEF text has
abbrev pub in_def : (z : ℤ) → Option (negsuc 2147483647 <ℤ z)
in_def z = shown_by_test (lt_z (negsuc 2147483647) z) lt_z_yes

-- the place of a cell whose lower left corner is at x and y
abbrev pub place_at : ℤ → ℤ → Orient → Option Place
place_at x y orient = do
  x_in_def ← in_def x
  y_in_def ← in_def y
  Some (record { x = x; y = y; orient = orient; x_in_def = x_in_def; y_in_def = y_in_def })

-- a place in three fields: x, y and the orientation
abbrev pub place_written : List ℕ → List ℕ → List ℕ → Option Place
place_written x_text y_text orient_text = do
  x ← coordinate x_text
  y ← coordinate y_text
  orient ← orient_named orient_text
  place_at x y orient

-- X Y O, and no more fields
abbrev pub place_of_words : List (List ℕ) → Option Place
place_of_words (x ∷ y ∷ orient ∷ []) = place_written x y orient
place_of_words _ = None

-- X Y, and no more fields
abbrev pub target_of_words : List (List ℕ) → Option Point
target_of_words (x_text ∷ y_text ∷ []) = do
  x ← coordinate x_text
  y ← coordinate y_text
  Some (record { x = x; y = y })
target_of_words _ = None

-- ---- a verb's own fields

-- no field
abbrev pub alone_of : List (List ℕ) → Option (Operands (List ℕ) Place)
alone_of [] = Some NoField
alone_of _ = None

-- CELL
abbrev pub one_cell_operands : List (List ℕ) → Option (Operands (List ℕ) Place)
one_cell_operands (cell ∷ []) = Some (OneCell cell)
one_cell_operands _ = None

-- CELL X Y O
abbrev pub cell_at_of : List (List ℕ) → Option (Operands (List ℕ) Place)
cell_at_of (cell ∷ fields) = do
  place ← place_of_words fields
  Some (CellThere cell place)
cell_at_of _ = None

-- CELL X Y
abbrev pub cell_to_of : List (List ℕ) → Option (Operands (List ℕ) Place)
cell_to_of (cell ∷ fields) = do
  target ← target_of_words fields
  Some (CellTowards cell target)
cell_to_of _ = None

-- CELL CELL
abbrev pub two_cell_operands : List (List ℕ) → Option (Operands (List ℕ) Place)
two_cell_operands (first ∷ second ∷ []) = Some (TwoCells first second)
two_cell_operands _ = None

-- P
abbrev pub sites_of : List (List ℕ) → Option (Operands (List ℕ) Place)
sites_of (sites ∷ []) = do
  padding ← padding sites
  Some (SitesApart padding)
sites_of _ = None

-- the fields of that shape, and no more
abbrev pub operands_by : Shape → List (List ℕ) → Option (Operands (List ℕ) Place)
operands_by Alone = alone_of
operands_by Cell = one_cell_operands
operands_by CellAt = cell_at_of
operands_by CellTo = cell_to_of
operands_by Cells = two_cell_operands
operands_by Sites = sites_of

-- a session's action, from its verb and the fields after its number
abbrev pub action_by : Verb → List (List ℕ) → Option (Action (List ℕ) Place)
action_by verb own = do
  operands ← operands_by (shape_of verb) own
  joined verb operands

-- ---- the lines

-- bye, and no more fields
abbrev pub bye_of : List (List ℕ) → Option (Command (List ℕ) Place)
bye_of [] = Some Bye
bye_of _ = None

-- open TEAM, after the verb
abbrev pub open_of : List (List ℕ) → Option (Command (List ℕ) Place)
open_of (team ∷ []) = Some (To team Open)
open_of _ = None

-- TEAM N and the verb's own fields: an action of the session of that number of that team
abbrev pub within_of : Verb → List (List ℕ) → Option (Command (List ℕ) Place)
within_of verb (team ∷ number ∷ own) = do
  session ← session_number number
  action ← action_by verb own
  Some (To team (Within session action))
within_of verb _ = None

-- the command of bye or open, from that word and the fields after it
abbrev pub outside_of : List ℕ → List (List ℕ) → Option (Command (List ℕ) Place)
outside_of word arguments =
    cond (bytes_eq word (codes "bye")) (bye_of arguments) (cond (bytes_eq word (codes "open")) (open_of arguments) None)

-- the command of a line, given the verb named by its first word, if there is one, that word and the
-- fields after it
abbrev pub command_by_verb : Option Verb → List ℕ → List (List ℕ) → Option (Command (List ℕ) Place)
command_by_verb (Some verb) word = within_of verb
command_by_verb None word = outside_of word

-- the command in the fields of a line: the first word, then its fields
abbrev pub command_in : List (List ℕ) → Option (Command (List ℕ) Place)
command_in [] = None
command_in (word ∷ arguments) = command_by_verb (verb_named word) word arguments

-- the command on a line, if it is a request
abbrev pub command_on : List ℕ → Option (Command (List ℕ) Place)
command_on line = cond (list_all is_line_byte line) (command_in (fields line)) None

-- ---- the requests that a line can write

-- a place whose corner fits 32 bits
pub record IsInRange (place : Place) : Type 0 where
  pub x_in_range : place.x <ℤ pos (2 ^ 31)
  pub y_in_range : place.y <ℤ pos (2 ^ 31)

-- a coordinate that a line can write: from -2147483647 to 2147483647
pub record IsCoordinate (z : ℤ) : Type 0 where
  pub low : negsuc 2147483647 <ℤ z
  pub high : z <ℤ pos (2 ^ 31)

-- a target that a line can write
pub record IsTarget (target : Point) : Type 0 where
  pub x_in_range : IsCoordinate target.x
  pub y_in_range : IsCoordinate target.y

-- a verb's own fields that a line can have
abbrev pub ArePlain : Operands (List ℕ) Place → Type 0
ArePlain NoField = Unit {0}
ArePlain (OneCell cell) = IsLineName cell
ArePlain (CellThere cell place) = IsLineName cell × IsInRange place
ArePlain (CellTowards cell target) = IsLineName cell × IsTarget target
ArePlain (TwoCells first second) = IsLineName first × IsLineName second
ArePlain (SitesApart padding) = Unit {0}

-- an action that a line can write
abbrev pub IsPlainAction : Action (List ℕ) Place → Type 0
IsPlainAction action = ArePlain (parts_of action).1

-- a request that a line can write: its names have visible bytes alone, and its numbers have 32 bits
abbrev pub IsPlain : Command (List ℕ) Place → Type 0
IsPlain Bye = Unit {0}
IsPlain (To team Open) = IsLineName team
IsPlain (To team (Within session action)) = IsLineName team × (session < 2 ^ 32) × IsPlainAction action
