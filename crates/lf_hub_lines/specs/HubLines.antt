-- The lines of a team's clients that the hub answers itself, by their fields.
use Rattle.std.specs.Prelude.{◌≡◌, ℕ, Bool, ◌==◌, ◌||◌, ◌&&◌, nat_lt, nat_le, cond, List, [], ◌∷◌, length, Option, Some, None, option_and_then, codes}
use Rattle.std.specs.List.{list_all}
use Rattle.std.specs.Str.{bytes_eq}
use denote.Ref.{Bor}
use Rattle.lf_proto.specs.Lines.{fields, is_line_byte}
use Rattle.lf_proto.specs.Numbers.{◌>>=◌, session_number}
use Rattle.lf_proto.specs.Requests.{command_on}
use Rattle.lf_hub_lines.specs.declared.hub_line.HubLine.{HubLine}
use Rattle.lf_hub_lines.specs.declared.hub_line.HubLine.TheVariants.{Label, Units, Wait}

-- The fields of a line. None if a byte cannot occur in a line.
abbrev pub fields_on : List ℕ → Option (List (List ℕ))
fields_on line = cond (list_all is_line_byte line) (Some (fields line)) None

-- A line with its names in place of references to them.
abbrev pub hub_line_with_names : HubLine (Bor (List ℕ)) → HubLine (List ℕ)
hub_line_with_names (Label name) = Label name.now
hub_line_with_names Units = Units
hub_line_with_names (Wait team revision) = Wait team.now revision

-- ---- labels

abbrev pub is_between : ℕ → ℕ → ℕ → Bool
is_between low high b = nat_le low b && nat_le b high

-- A letter, a digit, `_`, `.`, `-` or `@`.
abbrev pub is_label_byte : ℕ → Bool
is_label_byte b = is_between 97 122 b || is_between 65 90 b || is_between 48 57 b
    || b == 95 || b == 46 || b == 45 || b == 64

-- 1 to 64 such bytes.
abbrev pub is_label : List ℕ → Bool
is_label name = nat_lt 0 (length name) && nat_le (length name) 64 && list_all is_label_byte name

-- ---- the lines

-- NAME, and no more fields.
abbrev pub label_of : List (List ℕ) → Option (HubLine (List ℕ))
label_of (name ∷ []) = cond (is_label name) (Some (Label name)) None
label_of _ = None

-- No field.
abbrev pub units_of : List (List ℕ) → Option (HubLine (List ℕ))
units_of [] = Some Units
units_of _ = None

-- TEAM REV, and no more fields. A revision is a number of 32 bits.
abbrev pub wait_of : List (List ℕ) → Option (HubLine (List ℕ))
wait_of (team ∷ number ∷ []) = do
  revision ← session_number number
  Some (Wait team revision)
wait_of _ = None

-- The first word, and the fields after it.
abbrev pub hub_line_in : List (List ℕ) → Option (HubLine (List ℕ))
hub_line_in [] = None
hub_line_in (word ∷ arguments) =
    cond (bytes_eq word (codes "iam")) (label_of arguments)
    (cond (bytes_eq word (codes "units")) (units_of arguments)
    (cond (bytes_eq word (codes "wait")) (wait_of arguments) None))

-- The hub's own line, if it is one.
abbrev pub hub_line_on : List ℕ → Option (HubLine (List ℕ))
hub_line_on line = option_and_then hub_line_in (fields_on line)

-- Such a line is not a request.
abbrev pub HubLinesAreNotRequests : Type 0
HubLinesAreNotRequests = (line : List ℕ) (own : HubLine (List ℕ)) → hub_line_on line ≡ Some own → command_on line ≡ None
