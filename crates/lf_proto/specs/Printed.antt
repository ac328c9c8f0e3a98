-- The line that prints a request, and the laws of lines.
use Rattle.std.specs.Prelude.{◌≡◌, ℕ, true, List, [], ◌∷◌, ◌++◌, Some, codes, decimal}
use Rattle.std.specs.Fmt.{signed_decimal}
use Rattle.std.specs.List.{join_with_byte}
use Rattle.lf_units.specs.declared.geometry.Point.{Point}
use Rattle.lf_floorplan.specs.declared.place.Place.{Place}
use Rattle.lf_proto.specs.Lines.{is_blank}
use Rattle.lf_proto.specs.Requests.{command_on, IsPlain}
use Rattle.lf_proto.specs.ReplyText.{reply_place_words}
use Rattle.lf_proto.specs.declared.request.Command.{Command}
use Rattle.lf_proto.specs.declared.request.Command.TheVariants.{Bye, To}
use Rattle.lf_proto.specs.declared.request.TeamCommand.TheVariants.{Open, Within}
use Rattle.lf_proto.specs.declared.verb.Operands.{Operands}
use Rattle.lf_proto.specs.declared.verb.Operands.TheVariants.{Alone, Cell, CellAt, CellTo, Cells, Sites}
use Rattle.lf_proto.specs.declared.verb.Action.{Action}
use Rattle.lf_proto.specs.Verbs.{verb_name, parts_of}

-- a target: X Y
abbrev pub target_words : Point → List (List ℕ)
target_words target = signed_decimal target.x ∷ signed_decimal target.y ∷ []

-- a verb's own fields
abbrev pub operand_words : Operands (List ℕ) Place → List (List ℕ)
operand_words Alone = []
operand_words (Cell cell) = cell ∷ []
operand_words (CellAt cell place) = cell ∷ reply_place_words place
operand_words (CellTo cell target) = cell ∷ target_words target
operand_words (Cells first second) = first ∷ second ∷ []
operand_words (Sites padding) = decimal padding.sites ∷ []

-- the verb of a session's action, and its own fields
abbrev pub action_words : Action (List ℕ) Place → List ℕ × List (List ℕ)
action_words action = (verb_name (parts_of action).0, operand_words (parts_of action).1)

-- the fields of a request: bye, or open TEAM, or the verb, TEAM N, and the verb's own fields
abbrev pub printed_fields : Command (List ℕ) Place → List (List ℕ)
printed_fields Bye = codes "bye" ∷ []
printed_fields (To team Open) = codes "open" ∷ team ∷ []
printed_fields (To team (Within session action)) =
    (action_words action).0 ∷ team ∷ decimal session ∷ (action_words action).1

-- the line that prints a request: its fields with one space between each two
abbrev pub printed : Command (List ℕ) Place → List ℕ
printed command = join_with_byte 32 (printed_fields command)

-- the line that prints a request, with its line feed
abbrev pub request_line : Command (List ℕ) Place → List ℕ
request_line command = printed command ++ 10 ∷ []

-- the line that prints a request reads as that request
abbrev pub RequestReadsBack : Type 0
RequestReadsBack = (command : Command (List ℕ) Place) → IsPlain command → command_on (printed command) ≡ Some command

-- a blank at either end of a line does not matter
abbrev pub PassesBlanksAround : Type 0
PassesBlanksAround = (blank : ℕ) (line : List ℕ) → is_blank blank ≡ true
    → (command_on (blank ∷ line) ≡ command_on line) × (command_on (line ++ blank ∷ []) ≡ command_on line)

-- two blanks in a row are equivalent to one, and a tab is equivalent to a space
abbrev pub PassesBlanksBetween : Type 0
PassesBlanksBetween = (a b c : ℕ) (front rest : List ℕ) → is_blank a ≡ true → is_blank b ≡ true → is_blank c ≡ true
    → command_on (front ++ a ∷ b ∷ rest) ≡ command_on (front ++ c ∷ rest)
