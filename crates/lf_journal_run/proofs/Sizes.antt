-- The batches of a journal are within its bytes.
use Rattle.std.proofs.Common.{◌≡◌, ◌≢◌, ℕ, zero, suc, ◌+◌, ◌≤◌, Bool, true, false, List, [], ◌∷◌, ◌++◌, length, take, drop, Option, Some, None, option_map, Result, Ok, Err, refl, sym, ◌∙◌, ap, inl, inr, arith, length-drop}
use Rattle.std.proofs.lemmas.List.{length-take-le}
use Rattle.std.proofs.lemmas.Bool.{cases_eq, cases_Bool, cond-true, cond-false}
use Rattle.lf_journal_text.specs.Batches.{batch_size, is_torn, number_at}
use Rattle.lf_journal_text.specs.Records.{Entry, Log, ended_at, entries_of, entries_text, in_front, is_beginning, log_in, logged_at, segment_at, segment_of}
use Rattle.lf_journal_text.specs.declared.damage.Damage.{Damage}
use Rattle.lf_journal_text.proofs.Reading.{size_within}
use Rattle.lf_journal_text.proofs.RecordLists.{entries_said}
use Rattle.lf_journal_text.proofs.Segments.{bad_record, one_log, other_version, segment_step, segment_stop, size_long}
use Rattle.lf_journal_run.specs.Texts.{log_size, logs_size}

pub size_none : logs_size [] ≡ 0
unfolding logs_size
size_none = refl

pub size_more : (log : Log) (logs : List Log) → logs_size (log ∷ logs) ≡ log_size log + logs_size logs
unfolding logs_size
size_more log logs = refl

-- What was read without damage.
record IsFirst (found : Option Log) (behind : Result (List Log) Damage) (logs : List Log) : Type 0 where
  pub log : Log
  pub others : List Log
  pub batch : found ≡ Some log
  pub rest : behind ≡ Ok others
  pub all : logs ≡ log ∷ others

in_front_of : (log : Log) (rest : Result (List Log) Damage) (logs : List Log) → in_front (log ∷ []) rest ≡ Ok logs → IsFirst (Some log) rest logs
in_front_of log (Ok others) logs is = record { log = log; others = others; batch = refl; rest = refl; all = cc (sym is) }
in_front_of log (Err damage) logs is = absurd (cc is)

first_of : (at : ℕ) (found : Option Log) (rest : Result (List Log) Damage) (logs : List Log) → logged_at at found rest ≡ Ok logs → IsFirst found rest logs
first_of at None rest logs is = absurd (cc (sym (bad_record at rest) ∙ is))
first_of at (Some log) rest logs is =
    let begins : at ≡ 0 → is_beginning log.entries ≡ true = λ first. elim (cases_Bool (is_beginning log.entries)) [
      | inl begun ↦ begun
      | inr other ↦ absurd (cc (sym (other_version at log rest first other) ∙ is))
    ] in
    in_front_of log rest logs (sym (one_log at log rest begins) ∙ is)

-- The records of a batch that was found.
abbrev entries_or : Option Log → List Entry
entries_or None = []
entries_or (Some log) = log.entries

-- The records of a batch are its bytes.
said_by : (bytes : List ℕ) (t : ℕ) (found : Option (List Entry)) (log : Log) → entries_of bytes ≡ found → option_map (λ (es : List Entry). record { time = t; entries = es }) found ≡ Some log
    → bytes ≡ entries_text log.entries
unfolding entries_of
said_by bytes t None log read is = absurd (cc is)
said_by bytes t (Some es) log read is =
    let same : es ≡ log.entries = ap entries_or is in
    entries_said (length bytes) bytes es read ∙ ap entries_text same

log_said : (batch : List ℕ) (log : Log) → log_in batch ≡ Some log → drop 37 batch ≡ entries_text log.entries
unfolding log_in
log_said batch log is = said_by (drop 37 batch) (number_at 13 12 batch) (entries_of (drop 37 batch)) log refl is

size_of_log : (xs : List ℕ) (log : Log) → batch_size xs ≢ 0 → log_in (drop 1 (take (batch_size xs) xs)) ≡ Some log → log_size log ≡ batch_size xs
size_of_log xs log some is =
    let batch = take (batch_size xs) xs in
    omega (arith, ap length (log_said (drop 1 batch) log is), length-drop 37 (drop 1 batch), length-drop 1 batch, length-take-le (batch_size xs) xs (size_within xs), size_long xs some)

ended_none : (at : ℕ) (xs : List ℕ) (logs : List Log) → ended_at at xs ≡ Ok logs → logs ≡ []
unfolding ended_at
ended_none at xs logs is = elim (cases_Bool (is_torn xs)) [
  | inl torn ↦ cc (sym is ∙ cond-true _ _ _ torn)
  | inr other ↦ absurd (cc (sym (cond-false _ _ _ other) ∙ is))
]

none_within : (logs : List Log) (n : ℕ) → logs ≡ [] → logs_size logs ≤ n
none_within logs n none = omega (arith, ap logs_size none, size_none)

within : (n at : ℕ) (xs : List ℕ) (logs : List Log) → segment_at n at xs ≡ Ok logs → logs_size logs ≤ length xs
unfolding segment_at
within zero at xs logs is = none_within logs (length xs) (ended_none at xs logs is)
within (suc n) at xs logs is =
    elim (cases_eq (batch_size xs) 0) [
      | inl none ↦ none_within logs (length xs) (ended_none at xs logs (sym (segment_stop (suc n) at xs none) ∙ is))
      | inr some ↦
          let one = first_of at (log_in (drop 1 (take (batch_size xs) xs))) (segment_at n (at + batch_size xs) (drop (batch_size xs) xs)) logs (sym (segment_step n at xs some) ∙ is) in
          let rest = within n (at + batch_size xs) (drop (batch_size xs) xs) one.others one.rest in
          omega (arith, ap logs_size one.all, size_more one.log one.others, size_of_log xs one.log some one.batch, rest, length-drop (batch_size xs) xs, size_within xs)
    ]

pub logs_within : (file : List ℕ) (logs : List Log) → segment_of file ≡ Ok logs → logs_size logs ≤ length file
unfolding segment_of
logs_within file logs is = within (length file) 0 file logs is
