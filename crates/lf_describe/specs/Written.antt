-- A text that is written in chunks.
use Rattle.std.specs.Prelude.{◌≡◌, ℕ, Bool, List, ◌++◌, Option, Result, Ok, Err, false, true}
use Rattle.std.specs.Io.KnownBytes.{Appends}
use Rattle.lf_describe.specs.declared.description.DescribeFailure.{DescribeFailure}
use Rattle.lf_describe.specs.declared.description.DescribeFailure.TheVariants as undescribed
use Rattle.lf_describe.specs.declared.line_output.LineFault.{LineFault}
use Rattle.lf_describe.specs.declared.line_output.LineFault.TheVariants as line

-- A front of the text is appended, and `rest` remains.
abbrev pub WritesFrontOf : Option (List ℕ) → Option (List ℕ) → List ℕ → List ℕ → Type 0
WritesFrontOf old new text rest = (front : List ℕ) × (text ≡ front ++ rest) × Appends old new front

-- A front of the text is appended.
abbrev pub AppendsFront : Option (List ℕ) → Option (List ℕ) → List ℕ → Type 0
AppendsFront old new text = (rest : List ℕ) × WritesFrontOf old new text rest

-- True if the fault is the writer's.
abbrev pub is_line_writers : LineFault → Bool
is_line_writers line.OutOfMemory = false
is_line_writers line.Output = true

abbrev pub is_writers : DescribeFailure → Bool
is_writers undescribed.OutOfMemory = false
is_writers undescribed.LineOutOfMemory = false
is_writers undescribed.Output = true

-- True if the result is an error because the writer failed.
abbrev pub is_line_output : {T : Type 0} → Result T LineFault → Bool
is_line_output (Ok value) = false
is_line_output (Err fault) = is_line_writers fault

abbrev pub is_output : {T : Type 0} → Result T DescribeFailure → Bool
is_output (Ok value) = false
is_output (Err fault) = is_writers fault
