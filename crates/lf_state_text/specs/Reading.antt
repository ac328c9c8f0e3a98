-- The result of reading a state text: the teams of a design, or the first fault.
use Rattle.std.specs.Prelude.{◌≡◌, ℕ, zero, suc, ◌+◌, ◌-◌, Bool, true, nat_lt, nat_le, List, [], ◌∷◌, length, take, Option, Some, None, is_some, Result, Ok, Err, ◌==◌, cond, codes}
use Rattle.lf_floorplan.specs.declared.limits.Limits.{Limits}
use Rattle.lf_floorplan.specs.declared.place.Place.{Place}
use Rattle.lf_undo.specs.declared.moves.Move.{Move}
use Rattle.lf_lex.specs.Tokens.{line_feeds}
use Rattle.lf_state_text.specs.declared.fault.StateFaultNumber.{StateFaultNumber}
use Rattle.lf_state_text.specs.declared.fault.StateFaultNumber.TheVariants.{UnexpectedEnd, Unexpected, BadNumber, OtherVersion, OtherDesign, OutOfRange}
use Rattle.lf_state_text.specs.declared.fault.ReadError.{ReadError}
use Rattle.lf_state_text.specs.declared.fault.ReadError.TheVariants as reading
use Rattle.lf_state_text.specs.declared.fault.StateFault.{StateFault}
use Rattle.lf_state_text.specs.declared.fault.StateError.{StateError}
use Rattle.lf_state_text.specs.declared.fault.StateError.TheVariants as states
use Rattle.lf_state_text.specs.declared.saved_rows.SavedCell.{SavedCell}
use Rattle.lf_state_text.specs.Designs.{NamedDesign, NamedTeam}
use Rattle.lf_state_text.specs.Words.{bytes_after, cut, number, place_or_dash, slot_on}
use Rattle.lf_state_text.specs.Saved.{SavedTeam, title}

-- the first fault of a text, in its order, and the number of unread bytes there
pub record TextFault : Type 0 where
  pub number : StateFaultNumber
  pub left : ℕ

infixl 10 ◌>>=◌
abbrev pub ◌>>=◌ : {A B : Type 0} → Result A TextFault → (A → Result B TextFault) → Result B TextFault
(Ok x) >>= f = f x
(Err e) >>= f = Err e

-- ---- the result of a function, seen by a view, is the result of reading, unless memory ran out;
-- with the unread bytes

-- the fault at this number of unread bytes
abbrev pub FailsAtRest : {Y : Type 0} → ReadError → Result Y TextFault → ℕ → Type 0
FailsAtRest reading.Memory read left = Unit {0}
FailsAtRest (reading.Fault number) read left = read ≡ Err (record { number = number; left = left })

abbrev pub ReadsState : {X Y : Type 0} → (X → List ℕ → Y) → Result X ReadError → Result Y TextFault → List ℕ → Type 0
ReadsState view (Ok x) read left = read ≡ Ok (view x left)
ReadsState view (Err e) read left = FailsAtRest e read (length left)

-- the same for a fault with its line
abbrev pub FailsAt : {Y : Type 0} → StateError → Result Y StateFault → Type 0
FailsAt states.Memory read = Unit {0}
FailsAt (states.Fault f) read = read ≡ Err f

abbrev pub ReturnsAt : {X Y : Type 0} → (X → Y) → Result X StateError → Result Y StateFault → Type 0
ReturnsAt view (Ok x) read = read ≡ Ok (view x)
ReturnsAt view (Err e) read = FailsAt e read

-- ---- faults

-- the fault of that number at these unread bytes
abbrev pub fault : {A : Type 0} → StateFaultNumber → List ℕ → Result A TextFault
fault number bytes = Err (record { number = number; left = length bytes })

abbrev pub or_fault : {A : Type 0} → StateFaultNumber → List ℕ → Option A → Result A TextFault
or_fault number bytes None = fault number bytes
or_fault number bytes (Some x) = Ok x

-- the fault of a line that continues differently: that number, or UnexpectedEnd if the text ends
-- within the line
abbrev pub mismatch : StateFaultNumber → List ℕ → StateFaultNumber
mismatch number bytes = cond (is_some (cut 10 bytes)) number UnexpectedEnd

-- the fault with its line in the text
abbrev pub fault_with_line : List ℕ → TextFault → StateFault
fault_with_line text f = record { number = f.number; line = line_feeds (take (length text - f.left) text) + 1 }

abbrev pub with_fault_line : {A : Type 0} → List ℕ → Result A TextFault → Result A StateFault
with_fault_line text (Ok x) = Ok x
with_fault_line text (Err f) = Err (fault_with_line text f)

-- ---- words: the value of each, and the bytes after it

-- the expected bytes
unfoldable pub due_at : StateFaultNumber → List ℕ → List ℕ → Result (List ℕ) TextFault
due_at number due bytes = or_fault (mismatch number bytes) bytes (bytes_after due bytes)

-- a word up to that byte
unfoldable pub word_at : ℕ → List ℕ → Result (List ℕ × List ℕ) TextFault
word_at byte bytes = or_fault UnexpectedEnd bytes (cut byte bytes)

unfoldable pub number_at : ℕ → List ℕ → Result (ℕ × List ℕ) TextFault
number_at byte bytes = do
  word ← word_at byte bytes
  n ← or_fault BadNumber bytes (number word.0)
  Ok (n, word.1)

-- a number below the limit
unfoldable pub below_at : ℕ → ℕ → List ℕ → Result (ℕ × List ℕ) TextFault
below_at limit byte bytes = do
  n ← number_at byte bytes
  cond (nat_lt n.0 limit) (Ok n) (fault OutOfRange bytes)

-- the expected number
unfoldable pub count_at : ℕ → ℕ → List ℕ → Result (List ℕ) TextFault
count_at count byte bytes = do
  n ← number_at byte bytes
  cond (n.0 == count) (Ok n.1) (fault OtherDesign bytes)

unfoldable pub read_spot : ℕ → List ℕ → Result (Option Place × List ℕ) TextFault
read_spot byte bytes = do
  word ← word_at byte bytes
  place ← or_fault BadNumber bytes (place_or_dash word.0)
  Ok (place, word.1)

-- ---- lines

-- no session has seen a revision above the team's
abbrev pub is_seen_by : ℕ → Option ℕ → Bool
is_seen_by revision None = true
is_seen_by revision (Some seen) = nat_le seen revision

unfoldable pub slot_at : ℕ → List ℕ → Result (Option ℕ × List ℕ) TextFault
slot_at revision bytes = do
  word ← word_at 10 bytes
  slot ← or_fault BadNumber bytes (slot_on word.0)
  cond (is_seen_by revision slot) (Ok (slot, word.1)) (fault OutOfRange bytes)

unfoldable pub read_cell : List ℕ → List ℕ → Result (SavedCell × List ℕ) TextFault
read_cell name bytes = do
  named ← due_at OtherDesign name bytes
  rest ← due_at OtherDesign (codes " ") named
  working ← read_spot 32 rest
  committed ← read_spot 10 working.1
  Ok (record { working = working.0; committed = committed.0 }, committed.1)

-- a move of one of the cells of a team of this size
unfoldable pub move_at : ℕ → List ℕ → Result (Move × List ℕ) TextFault
move_at cells bytes = do
  own ← below_at cells 32 bytes
  place ← read_spot 10 own.1
  Ok (record { own = own.0; place = place.0 }, place.1)

-- this number of items, one after another
unfoldable pub many_at : {X : Type 0} → (List ℕ → Result (X × List ℕ) TextFault) → ℕ → List ℕ
    → Result (List X × List ℕ) TextFault
many_at item zero bytes = Ok ([], bytes)
many_at item (suc n) bytes = do
  first ← item bytes
  others ← many_at item n first.1
  Ok (first.0 ∷ others.0, others.1)

-- an item for each of these
unfoldable pub each_at : {D X : Type 0} → (D → List ℕ → Result (X × List ℕ) TextFault) → List D → List ℕ
    → Result (List X × List ℕ) TextFault
each_at item [] bytes = Ok ([], bytes)
each_at item (due ∷ dues) bytes = do
  first ← item due bytes
  others ← each_at item dues first.1
  Ok (first.0 ∷ others.0, others.1)

unfoldable pub entry_at : ℕ → List ℕ → Result (List Move × List ℕ) TextFault
entry_at cells bytes = do
  rest ← due_at Unexpected (codes "undo ") bytes
  count ← number_at 10 rest
  many_at (move_at cells) count.0 count.1

-- ---- teams

-- the numbers of a team's first line that the design does not determine
pub record Numbers : Type 0 where
  pub revision : ℕ
  pub padding : ℕ
  pub entries : ℕ

-- the word team, and the team's name
unfoldable pub named_at : List ℕ → List ℕ → Result (List ℕ) TextFault
named_at name bytes = do
  rest ← due_at Unexpected (codes "team ") bytes
  named ← due_at OtherDesign name rest
  due_at OtherDesign (codes " ") named

unfoldable pub numbers_at : Limits → ℕ → List ℕ → Result (Numbers × List ℕ) TextFault
numbers_at limits cells bytes = do
  revision ← below_at (limits.revisions + 1) 32 bytes
  padding ← below_at 17 32 revision.1
  slots ← count_at limits.sessions 32 padding.1
  all ← count_at cells 32 slots
  entries ← below_at (limits.undo + 1) 10 all
  Ok (record { revision = revision.0; padding = padding.0; entries = entries.0 }, entries.1)

-- the lines of a team after its first, which has these numbers
unfoldable pub rows_at : Limits → NamedTeam → Numbers → List ℕ → Result (SavedTeam × List ℕ) TextFault
rows_at limits named numbers bytes = do
  slots ← many_at (slot_at numbers.revision) limits.sessions bytes
  cells ← each_at read_cell named.cells slots.1
  entries ← many_at (entry_at (length named.cells)) numbers.entries cells.1
  Ok (
    record {
      revision = numbers.revision;
      padding = numbers.padding;
      slots = slots.0;
      cells = cells.0;
      entries = entries.0;
    },
    entries.1,
  )

unfoldable pub team_at : Limits → NamedTeam → List ℕ → Result (SavedTeam × List ℕ) TextFault
team_at limits named bytes = do
  rest ← named_at named.name bytes
  numbers ← numbers_at limits (length named.cells) rest
  rows_at limits named numbers.0 numbers.1

-- the title of version 1
abbrev pub title_at : List ℕ → Result (List ℕ) TextFault
title_at text = or_fault OtherVersion text (bytes_after title text)

-- the title, and the number of teams
unfoldable pub opening_at : NamedDesign → List ℕ → Result (List ℕ) TextFault
opening_at design text = do
  rest ← title_at text
  counted ← due_at Unexpected (codes "teams ") rest
  count_at (length design.teams) 10 counted

-- the whole text
unfoldable pub all_at : NamedDesign → List ℕ → Result (List SavedTeam) TextFault
all_at design text = do
  rest ← opening_at design text
  teams ← each_at (team_at design.limits) design.teams rest
  cond (length teams.1 == 0) (Ok teams.0) (fault Unexpected teams.1)

-- the saved teams in the text of a state of the design, or its first fault with its line
abbrev pub saved_state_of : NamedDesign → List ℕ → Result (List SavedTeam) StateFault
saved_state_of design text = with_fault_line text (all_at design text)
