-- The beginning of a journal, and what a design calls for.
use Rattle.std.specs.Prelude.{ℕ, List, [], ◌∷◌, Option, Some, None, take, if◌then◌else◌}
use Rattle.std.specs.Str.{bytes_eq}
use Rattle.lf_journal_text.specs.Records.{Entry, Log, title}
use Rattle.lf_journal_text.specs.declared.refusal.RefusalKind.{RefusalKind}
use Rattle.lf_journal_text.specs.declared.refusal.RefusalKind.TheVariants.{OtherTexts, OtherSessions, OtherState}

-- The first record of a journal of the design of this line (it begins with the number of session slots in 10
-- digits), which begins with the state of this name.
abbrev pub due_beginning : List ℕ → List ℕ → Entry
due_beginning design state = record { origin = title; line = design; reply = state }

-- What is other in a first record than in the due one.
abbrev pub other_in : Entry → Entry → Option RefusalKind
other_in e due =
    if bytes_eq e.line due.line then (if bytes_eq e.reply due.reply then None else Some OtherState)
    else if bytes_eq (take 10 e.line) (take 10 due.line) then Some OtherTexts else Some OtherSessions

-- The same of the first records.
abbrev pub other_first : List Entry → Entry → Option RefusalKind
other_first [] due = None
other_first (e ∷ es) due = other_in e due

-- The same of the batches. A journal without a batch has nothing other.
abbrev pub other_beginning : List Log → Entry → Option RefusalKind
other_beginning [] due = None
other_beginning (log ∷ logs) due = other_first log.entries due
