-- The verbs of a session. Each has its line in every table of this file, and in no other definition
-- file of this crate.
use Rattle.std.specs.Prelude.{◌≡◌, ℕ, List, Option, Some, None, codes, bytes_eq, position, slice_get, option_and_then, option_map}
use denote.Ref.{Bor}
use Rattle.lf_floorplan.specs.declared.place.Place.{Place as Placed}
use Rattle.lf_proto.specs.Lines.{IsLineName}
use Rattle.lf_proto.specs.declared.verb.Verb.{Verb}
use Rattle.lf_proto.specs.declared.verb.Verb.TheVariants.{Close, Sync, Check, Def, Where, Find, Place, Legalize, Tidy, Unplace, Swap, Undo, Commit, Revert, Pad}
use Rattle.lf_proto.specs.declared.verb.TheConstants.{VERBS}
use Rattle.lf_proto.specs.declared.verb.Shape.{Shape}
use Rattle.lf_proto.specs.declared.verb.Shape.TheVariants.{Alone, Cell, CellAt, CellTo, Cells, Sites}
use Rattle.lf_proto.specs.declared.verb.Operands.{Operands}
use Rattle.lf_proto.specs.declared.verb.Operands.TheVariants.{Alone as NoField, Cell as OneCell, CellAt as CellThere, CellTo as CellTowards, Cells as TwoCells, Sites as SitesApart}
use Rattle.lf_proto.specs.declared.verb.Action.{Action}
use Rattle.lf_proto.specs.declared.verb.Action.TheVariants.{Close as Closing, Sync as Syncing, Check as Checking, Def as Exporting, Where as Asking, Find as Finding, Change as Changing}
use Rattle.lf_proto.specs.declared.verb.Change.{Change}
use Rattle.lf_proto.specs.declared.verb.Change.TheVariants.{Place as Placing, Legalize as Legalizing, Tidy as Tidying, Unplace as Unplacing, Swap as Swapping, Undo as Undoing, Commit as Committing, Revert as Reverting, Pad as Padding}

-- a verb's name: the first word of its line
abbrev pub verb_name : Verb → List ℕ
verb_name Close = codes "close"
verb_name Sync = codes "sync"
verb_name Check = codes "check"
verb_name Def = codes "def"
verb_name Where = codes "where"
verb_name Find = codes "find"
verb_name Place = codes "place"
verb_name Legalize = codes "legalize"
verb_name Tidy = codes "tidy"
verb_name Unplace = codes "unplace"
verb_name Swap = codes "swap"
verb_name Undo = codes "undo"
verb_name Commit = codes "commit"
verb_name Revert = codes "revert"
verb_name Pad = codes "pad"

-- the shape of a verb's own fields
abbrev pub shape_of : Verb → Shape
shape_of Close = Alone
shape_of Sync = Alone
shape_of Check = Alone
shape_of Def = Alone
shape_of Where = Cell
shape_of Find = CellTo
shape_of Place = CellAt
shape_of Legalize = CellTo
shape_of Tidy = Alone
shape_of Unplace = Cell
shape_of Swap = Cells
shape_of Undo = Alone
shape_of Commit = Alone
shape_of Revert = Alone
shape_of Pad = Sites

-- a verb by its name
abbrev pub verb_named : List ℕ → Option Verb
verb_named word = option_and_then (slice_get VERBS) (position (λ v. bytes_eq (verb_name v) word) VERBS)

module _ {N P : Type 0} where
  -- an action, as its verb and that verb's own fields
  abbrev pub parts_of : Action N P → Verb × Operands N P
  parts_of Closing = (Close, NoField)
  parts_of Syncing = (Sync, NoField)
  parts_of Checking = (Check, NoField)
  parts_of Exporting = (Def, NoField)
  parts_of (Asking cell) = (Where, OneCell cell)
  parts_of (Finding cell target) = (Find, CellTowards cell target)
  parts_of (Changing (Placing cell place)) = (Place, CellThere cell place)
  parts_of (Changing (Legalizing cell target)) = (Legalize, CellTowards cell target)
  parts_of (Changing Tidying) = (Tidy, NoField)
  parts_of (Changing (Unplacing cell)) = (Unplace, OneCell cell)
  parts_of (Changing (Swapping first second)) = (Swap, TwoCells first second)
  parts_of (Changing Undoing) = (Undo, NoField)
  parts_of (Changing Committing) = (Commit, NoField)
  parts_of (Changing Reverting) = (Revert, NoField)
  parts_of (Changing (Padding padding)) = (Pad, SitesApart padding)

  -- the action of a verb with these fields, if they have its shape
  abbrev pub joined : Verb → Operands N P → Option (Action N P)
  joined Close NoField = Some Closing
  joined Sync NoField = Some Syncing
  joined Check NoField = Some Checking
  joined Def NoField = Some Exporting
  joined Where (OneCell cell) = Some (Asking cell)
  joined Find (CellTowards cell target) = Some (Finding cell target)
  joined Place (CellThere cell place) = Some (Changing (Placing cell place))
  joined Legalize (CellTowards cell target) = Some (Changing (Legalizing cell target))
  joined Tidy NoField = Some (Changing Tidying)
  joined Unplace (OneCell cell) = Some (Changing (Unplacing cell))
  joined Swap (TwoCells first second) = Some (Changing (Swapping first second))
  joined Undo NoField = Some (Changing Undoing)
  joined Commit NoField = Some (Changing Committing)
  joined Revert NoField = Some (Changing Reverting)
  joined Pad (SitesApart padding) = Some (Changing (Padding padding))
  joined _ _ = None

  -- the shape of these fields
  abbrev pub shape_in : Operands N P → Shape
  shape_in NoField = Alone
  shape_in (OneCell cell) = Cell
  shape_in (CellThere cell place) = CellAt
  shape_in (CellTowards cell target) = CellTo
  shape_in (TwoCells first second) = Cells
  shape_in (SitesApart padding) = Sites

module _ {N : Type 0} where
  -- a verb's own fields with the names themselves, in place of references to them
  abbrev pub operands_of : Operands (Bor N) Placed → Operands N Placed
  operands_of NoField = NoField
  operands_of (OneCell cell) = OneCell cell.now
  operands_of (CellThere cell place) = CellThere cell.now place
  operands_of (CellTowards cell target) = CellTowards cell.now target
  operands_of (TwoCells first second) = TwoCells first.now second.now
  operands_of (SitesApart padding) = SitesApart padding

-- a change whose cells are named by lists of bytes
abbrev pub change_of : Change (Bor (List ℕ)) Placed → Change (List ℕ) Placed
change_of (Placing cell place) = Placing cell.now place
change_of (Legalizing cell target) = Legalizing cell.now target
change_of Tidying = Tidying
change_of (Unplacing cell) = Unplacing cell.now
change_of (Swapping first second) = Swapping first.now second.now
change_of Undoing = Undoing
change_of Committing = Committing
change_of Reverting = Reverting
change_of (Padding padding) = Padding padding

-- a session's action, its cells named by lists of bytes
abbrev pub action_of : Action (Bor (List ℕ)) Placed → Action (List ℕ) Placed
action_of Closing = Closing
action_of Syncing = Syncing
action_of Checking = Checking
action_of Exporting = Exporting
action_of (Asking cell) = Asking cell.now
action_of (Finding cell target) = Finding cell.now target
action_of (Changing change) = Changing (change_of change)

-- each verb is found by its name, which can be a field of a line
abbrev pub NamesReadBack : Type 0
NamesReadBack = (v : Verb) → (verb_named (verb_name v) ≡ Some v) × IsLineName (verb_name v)

-- an action that is split has fields of its verb's shape, and joined again it is the same; N is the
-- type of names
abbrev pub PartsJoin : Type 0 → Type 0
PartsJoin N = (a : Action N Placed) → (shape_of (parts_of a).0 ≡ shape_in (parts_of a).1)
    × (joined (parts_of a).0 (parts_of a).1 ≡ Some a)

-- copying the names and joining a verb with its fields can be done in either order
abbrev pub CopiesJoin : Type 0
CopiesJoin = (v : Verb) (o : Operands (Bor (List ℕ)) Placed)
    → option_map action_of (joined v o) ≡ joined v (operands_of o)
