-- What is printed about a refused text.
use Rattle.std.specs.Prelude.{◌≡◌, ◌⊎◌, ◌+◌, ◌-◌, ℕ, zero, suc, List, [], drop, position, take, Option, Some, None, option_map}
use Rattle.lf_lex.specs.declared.fault.LoadFault.{LoadFault}
use Rattle.lf_lex.specs.declared.fault.ReadError.TheVariants.{Memory}
use Rattle.lf_lex.specs.Faults.{load_fault_of}
use Rattle.lf_lex.specs.Tokens.{is_line_feed, tokens_of}
use Rattle.lf_frame.specs.Conflicts.{Conflict, no_fence}
use Rattle.lf_state_text.specs.declared.fault.StateFault.{StateFault}
use Rattle.lf_task_faults.specs.declared.faults.TextKind.{TextKind}
use Rattle.lf_task_faults.specs.declared.text_refusal.FenceLine.{FenceLine}
use Rattle.lf_task_faults.specs.declared.text_refusal.TextRefusal.{TextRefusal}
use Rattle.lf_task_faults.specs.declared.text_refusal.StateRefusal.{StateRefusal}
use Rattle.lf_task_faults.specs.Hints.{earlier_line, hint_of, fault_line_number, nth_line, remark_of}

-- What follows the line feed at this position. Empty if there is no line feed.
abbrev pub after_feed : List ℕ → Option ℕ → List ℕ
after_feed bytes None = []
after_feed bytes (Some at) = drop (at + 1) bytes

-- What follows the first line.
abbrev pub after_line : List ℕ → List ℕ
after_line bytes = after_feed bytes (position is_line_feed bytes)

-- What follows the first lines, given their number.
abbrev pub after_lines : ℕ → List ℕ → List ℕ
after_lines zero bytes = bytes
after_lines (suc lines) bytes = after_lines lines (after_line bytes)

-- What comes before the line feed at this position.
abbrev pub before_feed : List ℕ → Option ℕ → List ℕ
before_feed bytes None = bytes
before_feed bytes (Some at) = take at bytes

-- The first line, without its line feed.
abbrev pub first_line : List ℕ → List ℕ
first_line bytes = before_feed bytes (position is_line_feed bytes)

-- The line of this number of a text, counted from 1. Empty if there is no such line.
abbrev pub text_line : List ℕ → ℕ → List ℕ
text_line text number = first_line (after_lines (number - 1) text)

-- The first 80 bytes of the line of this number. Empty without a number.
abbrev pub line_front : List ℕ → Option ℕ → List ℕ
line_front text None = []
line_front text (Some number) = take 80 (text_line text number)

-- A fence: its name, and the first line that contains it.
pub record FenceLineFact : Type 0 where
  pub name : List ℕ
  pub line : Option ℕ

-- The fence of this name in the text.
abbrev pub fence_line_in : List ℕ → List ℕ → FenceLineFact
fence_line_in text name = record { name = name; line = nth_line name 0 (tokens_of text).tokens }

-- The name and the line of a printed fence.
abbrev pub fence_line_of : FenceLine → FenceLineFact
fence_line_of fence = record { name = fence.name.items; line = fence.line }

-- The fault `reported` with its fences is reported for the fault that was found. It is the same
-- fault, or a failed allocation without fences.
abbrev pub IsReportedConflict : LoadFault → Conflict → LoadFault → Conflict → Type 0
IsReportedConflict found overlapping_one reported fences = ((reported ≡ found) × (fences ≡ overlapping_one))
    ⊎ ((reported ≡ load_fault_of Memory) × (fences ≡ no_fence))

-- What is reported about the fault of a text that was read as this kind, with these fences in
-- conflict: its number, line and name; the line that it is about, with its first bytes; the line of
-- an earlier entry of its name; the fences with their lines; what the text may be instead; and what
-- the design lacks.
pub record ReportsFault (kind : TextKind) (text : List ℕ) (fault : LoadFault) (overlapping_one : Conflict)
    (refusal : TextRefusal) : Type 0 where
  pub number : refusal.number ≡ fault.number
  pub line : refusal.line ≡ fault.line
  pub name : option_map (λ name. name.items) refusal.name ≡ option_map (λ name. name.now) fault.name
  pub at : refusal.at ≡ fault_line_number text fault
  pub shown : refusal.shown.items ≡ line_front text (fault_line_number text fault)
  pub earlier : refusal.earlier ≡ earlier_line text fault
  pub first_overlapped : option_map fence_line_of refusal.first_overlapped
      ≡ option_map (fence_line_in text) overlapping_one.first
  pub second_overlapped : option_map fence_line_of refusal.second_overlapped
      ≡ option_map (fence_line_in text) overlapping_one.second
  pub hint : refusal.hint ≡ hint_of kind text
  pub remark : refusal.remark ≡ remark_of text fault.number

-- What is reported about the fault of a state text: its number and its line, with the first bytes
-- of that line.
pub record ReportsStateFault (text : List ℕ) (fault : StateFault) (refusal : StateRefusal) : Type 0 where
  pub number : refusal.number ≡ fault.number
  pub line : refusal.line ≡ fault.line
  pub shown : refusal.shown.items ≡ line_front text (Some fault.line)
