-- Records, and the text of a segment that has them.
use Rattle.std.specs.Prelude.{◌≡◌, ℕ, zero, suc, ◌+◌, Bool, true, false, not, ◌&&◌, ◌==◌, if◌then◌else◌, List, [], ◌∷◌, ◌++◌, length, take, drop, Option, Some, None, option_map, position, Result, Ok, Err, codes}
use Rattle.std.specs.List.{flat_map, list_all}
use Rattle.std.specs.Str.{bytes_eq}
use Rattle.lf_journal_text.specs.Batches.{batch_size, number_at, digits_of, sum_from, is_torn, damage_kind}
use Rattle.lf_journal_text.specs.declared.damage.Damage.{Damage}
use Rattle.lf_journal_text.specs.declared.damage.DamageKind.TheVariants.{BadRecord, OtherVersion}

-- ---- records

-- From where a line came, the line, and its reply.
pub record Entry : Type 0 where
  pub origin : List ℕ
  pub line : List ℕ
  pub reply : List ℕ

abbrev pub line_text : List ℕ → List ℕ
line_text line = line ++ 10 ∷ []

abbrev pub entry_text : Entry → List ℕ
entry_text e = line_text e.origin ++ (line_text e.line ++ line_text e.reply)

abbrev pub entries_text : List Entry → List ℕ
entries_text = flat_map entry_text

-- Neither a zero byte nor a line feed is among these bytes.
abbrev pub is_line : List ℕ → Bool
is_line = list_all (λ b. not (b == 10) && not (b == 0))

-- The record is three lines.
pub record HasLines (e : Entry) : Type 0 where
  pub origin : is_line e.origin ≡ true
  pub line : is_line e.line ≡ true
  pub reply : is_line e.reply ≡ true

-- ---- reading records

infixl 10 ◌>>=◌
abbrev pub ◌>>=◌ : {A B : Type 0} → Option A → (A → Option B) → Option B
None >>= f = None
(Some x) >>= f = f x

-- The first line, and the bytes behind its line feed.
unfoldable pub line_at : List ℕ → Option (List ℕ × List ℕ)
line_at bytes = option_map (λ at. (take at bytes, drop (at + 1) bytes)) (position (λ b. b == 10) bytes)

unfoldable pub entry_at : List ℕ → Option (Entry × List ℕ)
entry_at bytes = do
  origin ← line_at bytes
  line ← line_at origin.1
  reply ← line_at line.1
  Some (record { origin = origin.0; line = line.0; reply = reply.0 }, reply.1)

-- At most so many records, up to the end of the bytes.
unfoldable pub entries_at : ℕ → List ℕ → Option (List Entry)
entries_at n [] = Some []
entries_at zero (b ∷ bs) = None
entries_at (suc n) (b ∷ bs) = do
  first ← entry_at (b ∷ bs)
  rest ← entries_at n first.1
  Some (first.0 ∷ rest)

-- The records that the bytes are.
unfoldable pub entries_of : List ℕ → Option (List Entry)
entries_of bytes = entries_at (length bytes) bytes

-- ---- the text of a batch

-- Behind the gate: both lengths, and the time in milliseconds since 1970.
abbrev pub head_text : ℕ → ℕ → List ℕ
head_text time size = digits_of 5 size ++ (32 ∷ (digits_of 5 size ++ (32 ∷ (digits_of 13 time ++ (32 ∷ [])))))

-- A batch of these records: ^L, the header and the records.
unfoldable pub batch_text : ℕ → List ℕ → List ℕ
batch_text time payload =
    12 ∷ (head_text time (length payload) ++ (digits_of 10 (sum_from (sum_from 0 (head_text time (length payload))) payload) ++ (10 ∷ payload)))

-- ---- reading a segment

-- A batch: its time, and its records.
pub record Log : Type 0 where
  pub time : ℕ
  pub entries : List Entry

-- What a batch has, given without its gate. None if its bytes are not records.
unfoldable pub log_in : List ℕ → Option Log
log_in batch = option_map (λ entries. record { time = number_at 13 12 batch; entries = entries }) (entries_of (drop 37 batch))

-- The first line of the beginning of a segment.
abbrev pub title : List ℕ
title = codes "lefence-journal 4"

-- The beginning of a segment is one record: the title, the design, and the state with which it begins.
abbrev pub is_beginning : List Entry → Bool
is_beginning [] = false
is_beginning (e ∷ []) = bytes_eq e.origin title
is_beginning (e ∷ f ∷ es) = false

-- Where no whole batch is.
unfoldable pub ended_at : ℕ → List ℕ → Result (List Log) Damage
ended_at at xs = if is_torn xs then Ok [] else Err (record { at = at; kind = damage_kind xs })

-- The batches with others in front of them.
abbrev pub in_front : List Log → Result (List Log) Damage → Result (List Log) Damage
in_front logs (Ok rest) = Ok (logs ++ rest)
in_front logs (Err damage) = Err damage

-- A batch at byte `at`, and what is read behind it.
unfoldable pub logged_at : ℕ → Option Log → Result (List Log) Damage → Result (List Log) Damage
logged_at at None rest = Err (record { at = at; kind = BadRecord })
logged_at at (Some log) rest =
    if (at == 0) && not (is_beginning log.entries) then Err (record { at = at; kind = OtherVersion })
    else in_front (log ∷ []) rest

-- At most so many batches, from byte `at` of a segment on.
unfoldable pub segment_at : ℕ → ℕ → List ℕ → Result (List Log) Damage
segment_at zero at xs = ended_at at xs
segment_at (suc n) at xs =
    if batch_size xs == 0 then ended_at at xs
    else logged_at at (log_in (drop 1 (take (batch_size xs) xs))) (segment_at n (at + batch_size xs) (drop (batch_size xs) xs))

-- The batches of a segment, or its first damage.
unfoldable pub segment_of : List ℕ → Result (List Log) Damage
segment_of file = segment_at (length file) 0 file

-- The same of the batches that a file stands for, and of its end.
unfoldable pub logs_from : ℕ → List (List ℕ) → Result (List Log) Damage → Result (List Log) Damage
logs_from at [] end = end
logs_from at (batch ∷ batches) end = logged_at at (log_in batch) (logs_from (at + (1 + length batch)) batches end)

-- A prefix of the file is read to a prefix of what the file is read to.
pub record ReadsPrefix (logs : List Log) (cut : List ℕ) : Type 0 where
  pub front : List Log
  pub more : List Log
  pub read : segment_of cut ≡ Ok front
  pub all : logs ≡ front ++ more

-- ---- the beginning of a segment

-- The name of a state in a beginning: its length in 13 digits, a space, and its sum in 10.
unfoldable pub state_name : List ℕ → List ℕ
state_name state = digits_of 13 (length state) ++ (32 ∷ digits_of 10 (sum_from 0 state))

-- The names of texts, each behind a space.
abbrev pub names_text : List (List ℕ) → List ℕ
names_text names = flat_map (λ (name : List ℕ). 32 ∷ name) names

-- The line of a design: the number of session slots in 10 digits, and the names of its texts, the DEF text first.
abbrev pub design_line : ℕ → List (List ℕ) → List ℕ
design_line sessions names = digits_of 10 sessions ++ names_text names

-- The beginning of a segment of this design that begins with this state.
abbrev pub beginning : List ℕ → List ℕ → Entry
beginning design state = record { origin = title; line = design; reply = state_name state }

-- Its batch.
abbrev pub beginning_text : ℕ → List ℕ → List ℕ → List ℕ
beginning_text time design state = batch_text time (entry_text (beginning design state))
