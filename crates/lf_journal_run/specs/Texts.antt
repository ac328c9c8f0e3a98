-- The lines and the replies of records as texts, and where a record is.
use Rattle.std.specs.Prelude.{ℕ, zero, suc, ◌+◌, ◌-◌, List, [], ◌∷◌, take, length, nat_lt, ◌==◌, if◌then◌else◌}
use Rattle.std.specs.List.{flat_map}
use Rattle.lf_journal_text.specs.Records.{Entry, Log, line_text, entries_text}

-- The records of batches.
abbrev pub entries_in : List Log → List Entry
entries_in logs = flat_map (λ (log : Log). log.entries) logs

-- Their lines, each with its line feed.
abbrev pub lines_text : List Entry → List ℕ
lines_text entries = flat_map (λ (e : Entry). line_text e.line) entries

-- Their replies, each with its line feed.
abbrev pub replies_text : List Entry → List ℕ
replies_text entries = flat_map (λ (e : Entry). line_text e.reply) entries

-- The number of lines that two texts have in common at their start.
unfoldable pub same_lines : List ℕ → List ℕ → ℕ
same_lines [] bytes = 0
same_lines (b ∷ bs) [] = 0
same_lines (b ∷ bs) (c ∷ cs) =
    if b == c then (if b == 10 then suc (same_lines bs cs) else same_lines bs cs) else 0

-- The bytes of a batch: its header, and its records.
abbrev pub log_size : Log → ℕ
log_size log = 38 + length (entries_text log.entries)

-- The bytes of batches.
unfoldable pub logs_size : List Log → ℕ
logs_size [] = 0
logs_size (log ∷ logs) = log_size log + logs_size logs

-- The byte where the record of this number begins, if the batches begin at byte `at`.
unfoldable pub record_byte : ℕ → ℕ → List Log → ℕ
record_byte number at [] = at
record_byte number at (log ∷ logs) =
    if nat_lt number (length log.entries) then at + (38 + length (entries_text (take number log.entries)))
    else record_byte (number - length log.entries) (at + log_size log) logs
