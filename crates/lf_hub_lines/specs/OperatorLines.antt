-- The lines of the operator that the hub answers itself, by their fields.
use Rattle.std.specs.Prelude.{ℕ, cond, List, [], ◌∷◌, Option, Some, None, option_and_then, codes}
use Rattle.std.specs.Str.{bytes_eq}
use denote.Ref.{Bor}
use Rattle.lf_proto.specs.Numbers.{◌>>=◌, digits}
use Rattle.lf_hub_lines.specs.HubLines.{fields_on}
use Rattle.lf_hub_lines.specs.declared.operator_line.OperatorLine.{OperatorLine}
use Rattle.lf_hub_lines.specs.declared.operator_line.OperatorLine.TheVariants.{Stop, State, Status, Export, Drop, Freeze, Thaw}

-- A line with its names in place of references to them.
abbrev pub operator_line_with_names : OperatorLine (Bor (List ℕ)) → OperatorLine (List ℕ)
operator_line_with_names Stop = Stop
operator_line_with_names State = State
operator_line_with_names Status = Status
operator_line_with_names (Export path) = Export path.now
operator_line_with_names (Drop number) = Drop number
operator_line_with_names (Freeze team) = Freeze team.now
operator_line_with_names (Thaw team) = Thaw team.now

-- A line of one word.
abbrev pub alone_named : List ℕ → Option (OperatorLine (List ℕ))
alone_named word =
    cond (bytes_eq word (codes "stop")) (Some Stop)
    (cond (bytes_eq word (codes "state")) (Some State)
    (cond (bytes_eq word (codes "status")) (Some Status) None))

-- The number of a connection: 1 to 10 digits.
abbrev pub drop_of : List ℕ → Option (OperatorLine (List ℕ))
drop_of argument = do
  number ← digits argument
  Some (Drop number)

-- A line of two words.
abbrev pub with_argument : List ℕ → List ℕ → Option (OperatorLine (List ℕ))
with_argument word argument =
    cond (bytes_eq word (codes "export")) (Some (Export argument))
    (cond (bytes_eq word (codes "drop")) (drop_of argument)
    (cond (bytes_eq word (codes "freeze")) (Some (Freeze argument))
    (cond (bytes_eq word (codes "thaw")) (Some (Thaw argument)) None)))

-- One word, or two.
abbrev pub operator_line_in : List (List ℕ) → Option (OperatorLine (List ℕ))
operator_line_in (word ∷ []) = alone_named word
operator_line_in (word ∷ argument ∷ []) = with_argument word argument
operator_line_in _ = None

-- The operator's line, if it is one.
abbrev pub operator_line_on : List ℕ → Option (OperatorLine (List ℕ))
operator_line_on line = option_and_then operator_line_in (fields_on line)
