-- The words of a line, lines by their positions, and a team's numbers in the program.
use Rattle.std.specs.Prelude.{ℕ, List, [], ◌∷◌, Option, None, Some, cond, nat_lt, slice_get, decimal}
use Rattle.lf_state_text.specs.declared.read.Numbers.{Numbers as KeptNumbers}
use Rattle.lf_state_text.specs.declared.write.Word.{Word}
use Rattle.lf_state_text.specs.declared.write.Word.TheVariants.{Text, Count, Spot, Slot}
use Rattle.lf_undo.specs.declared.moves.Move.{Move}
use Rattle.lf_state_text.specs.Saved.{entry_lines, move_line}
use Rattle.lf_state_text.specs.Reading.{Numbers}
use Rattle.lf_state_text.specs.Words.{place_text, slot_text}

-- the text of a word
abbrev pub state_word_text : Word → List ℕ
state_word_text (Text text) = text.now
state_word_text (Count n) = decimal n
state_word_text (Spot place) = place_text place
state_word_text (Slot seen) = slot_text seen

-- a word with a space in front
abbrev pub spaced_state_word : Word → List ℕ
spaced_state_word word = 32 ∷ state_word_text word

-- the numbers of a team's first line
abbrev pub numbers_view : KeptNumbers → Numbers
numbers_view n = record { revision = n.revision; padding = n.padding.sites; entries = n.entries }

-- the line of a move, if it is of a cell below this number
abbrev pub move_within : ℕ → Move → List ℕ
move_within cells m = cond (nat_lt m.own cells) (move_line m) []

-- the lines of an undo entry; nothing if there is none
abbrev pub entry_if : Option (List Move) → List ℕ
entry_if None = []
entry_if (Some moves) = entry_lines moves

-- the line of two parts; empty if one is missing
abbrev pub line_with : {A B : Type 0} → (A → B → List ℕ) → Option A → B → List ℕ
line_with line None b = []
line_with line (Some a) b = line a b

abbrev pub line_if : {A B : Type 0} → (A → B → List ℕ) → Option A → Option B → List ℕ
line_if line a None = []
line_if line a (Some b) = line_with line a b

-- the line of that position in both lists
abbrev pub line_of_pair : {A B : Type 0} → (A → B → List ℕ) → List A → List B → ℕ → List ℕ
line_of_pair line firsts seconds at = line_if line (slice_get firsts at) (slice_get seconds at)
