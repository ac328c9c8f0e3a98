-- Where a record is.
use Rattle.std.proofs.Common.{◌≡◌, ℕ, zero, suc, ◌+◌, ◌-◌, ◌<◌, ◌≤◌, List, [], ◌∷◌, length, map, take, refl, sym, ◌∙◌, ap, arith, length-append}
use Rattle.std.proofs.lemmas.List.{take-map}
use Rattle.std.proofs.lemmas.Bool.{cond-true, cond-false, lt-ltb, le-ltb}
use Rattle.lf_journal_text.specs.Records.{Entry, Log, entries_text, entry_text}
use Rattle.lf_journal_text.specs.Views.{entry_of}
use Rattle.lf_journal_text.specs.declared.records.Record.{Record}
use Rattle.lf_journal_run.specs.Texts.{log_size, record_byte}

pub byte_none : (number at : ℕ) → record_byte number at [] ≡ at
unfolding record_byte
byte_none number at = refl

pub byte_here : (number at : ℕ) (log : Log) (logs : List Log) → number < length log.entries
    → record_byte number at (log ∷ logs) ≡ at + (38 + length (entries_text (take number log.entries)))
unfolding record_byte
byte_here number at log logs low = cond-true _ _ _ (lt-ltb number (length log.entries) low)

pub byte_later : (number at : ℕ) (log : Log) (logs : List Log) → length log.entries ≤ number
    → record_byte number at (log ∷ logs) ≡ record_byte (number - length log.entries) (at + log_size log) logs
unfolding record_byte
byte_later number at log logs past = cond-false _ _ _ (le-ltb number (length log.entries) past)

pub first_records : (n : ℕ) (es : List Entry) → length (entries_text (take n es)) ≤ length (entries_text es)
first_records zero es = omega arith
first_records (suc n) [] = omega arith
first_records (suc n) (e ∷ es) =
    omega (arith, length-append (entry_text e) (entries_text (take n es)), length-append (entry_text e) (entries_text es), first_records n es)

-- The first records of a batch.
pub front_is : (n : ℕ) (rs items : List Record) → rs ≡ items → map entry_of (take n rs) ≡ take n (map entry_of items)
front_is n rs items same = ap (λ (l : List Record). map entry_of (take n l)) same ∙ sym (take-map entry_of n items)
