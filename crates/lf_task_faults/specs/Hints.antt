-- The line of a name in a text, and what a refused text may be instead.
use Rattle.std.specs.Prelude.{◌==◌, ◌-◌, ◌||◌, ℕ, Bool, true, false, List, [], ◌∷◌, Option, Some, None, bytes_eq, codes, if◌then◌else◌, is_some, nat_eq, option_and_then}
use Rattle.std.specs.List.{starts_with}
use Rattle.lf_lex.specs.declared.fault.FaultNumber.{FaultNumber}
use Rattle.lf_lex.specs.declared.fault.FaultNumber.TheVariants.{BadStep, NoMacro, NoRows, NotWhole, SecondName, SecondRegion}
use Rattle.lf_lex.specs.declared.fault.LoadFault.{LoadFault}
use Rattle.lf_lex.specs.Tokens.{Lexeme, tokens_of}
use Rattle.lf_task_faults.specs.declared.faults.TextKind.{TextKind}
use Rattle.lf_task_faults.specs.declared.faults.TextKind.TheVariants.{Lef, Def, State, Journal}
use Rattle.lf_task_faults.specs.declared.hints.Compression.{Compression}
use Rattle.lf_task_faults.specs.declared.hints.Compression.TheVariants.{Gzip, Bzip2, Xz, Zstd, Zip}
use Rattle.lf_task_faults.specs.declared.hints.Remark.{Remark}
use Rattle.lf_task_faults.specs.declared.hints.Remark.TheVariants as remark
use Rattle.lf_task_faults.specs.declared.hints.Hint.{Hint}
use Rattle.lf_task_faults.specs.declared.hints.Hint.TheVariants.{Compressed, OtherKind}

-- The line of a word among tokens, after `passed` earlier occurrences.
abbrev pub nth_line : List ℕ → ℕ → List Lexeme → Option ℕ
nth_line word passed [] = None
nth_line word passed (t ∷ ts) = if bytes_eq t.text word then
    (if passed == 0 then Some t.line else nth_line word (passed - 1) ts) else nth_line word passed ts

-- True if the word occurs in the text.
abbrev pub has_word : List ℕ → List ℕ → Bool
has_word text word = is_some (nth_line word 0 (tokens_of text).tokens)

-- The compression of a text that begins as a file of gzip, bzip2, xz, zstd or zip.
abbrev pub compression_of : List ℕ → Option Compression
compression_of text =
    if starts_with nat_eq text (31 ∷ 139 ∷ []) then Some Gzip
    else if starts_with nat_eq text (codes "BZh") then Some Bzip2
    else if starts_with nat_eq text (253 ∷ codes "7zXZ") then Some Xz
    else if starts_with nat_eq text (40 ∷ 181 ∷ 47 ∷ 253 ∷ []) then Some Zstd
    else if starts_with nat_eq text (80 ∷ 75 ∷ 3 ∷ 4 ∷ []) then Some Zip else None

-- True if the text has a word that only the other kind of text has.
abbrev pub is_of_other_kind : TextKind → List ℕ → Bool
is_of_other_kind Lef text = has_word text (codes "DESIGN")
is_of_other_kind Def text = has_word text (codes "MACRO") || has_word text (codes "LIBRARY")
is_of_other_kind State text = false
is_of_other_kind Journal text = false

-- What a text may be instead, given its compression, and whether it is of the other kind.
abbrev pub hint_by : Option Compression → Bool → Option Hint
hint_by (Some compression) other = Some (Compressed compression)
hint_by None other = if other then Some OtherKind else None

-- What a refused text of this kind may be instead.
abbrev pub hint_of : TextKind → List ℕ → Option Hint
hint_of kind text = hint_by (compression_of text) (is_of_other_kind kind text)

-- What a refused design with this DEF text lacks, by the number of its refusal.
abbrev pub remark_of : List ℕ → FaultNumber → Option Remark
remark_of text NoRows = if has_word text (codes "ROW") then Some remark.NoCoreRow else Some remark.NoRow
remark_of text BadStep = Some remark.Step
remark_of text NoMacro = Some remark.NoMacro
remark_of text NotWhole = Some remark.Size
remark_of text _ = None

-- True if the refusal concerns the second of two entries of one name.
abbrev pub is_second : FaultNumber → Bool
is_second SecondName = true
is_second SecondRegion = true
is_second _ = false

-- The line of the refused name: of its first occurrence, or of its second one if it is a second
-- entry.
abbrev pub name_line : List ℕ → FaultNumber → List ℕ → Option ℕ
name_line text number name = if is_second number then nth_line name 1 (tokens_of text).tokens
    else nth_line name 0 (tokens_of text).tokens

-- The line of a fault that has only a name.
abbrev pub line_of_named : List ℕ → LoadFault → Option ℕ
line_of_named text fault = option_and_then (λ name. name_line text fault.number name.now) fault.name

-- The line of a fault: its own, or the one that contains its name.
abbrev pub fault_line_number : List ℕ → LoadFault → Option ℕ
fault_line_number text fault = if is_some fault.line then fault.line else line_of_named text fault

-- The line of the earlier of two entries of one name, if the later one is refused.
abbrev pub earlier_line : List ℕ → LoadFault → Option ℕ
earlier_line text fault = if is_second fault.number then
    option_and_then (λ name. nth_line name.now 0 (tokens_of text).tokens) fault.name else None
