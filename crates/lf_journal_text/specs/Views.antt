-- What is read, without where it lies in memory.
use Rattle.std.specs.Prelude.{◌≡◌, List, map, Result, Ok, Err, Vec}
use Rattle.lf_journal_text.specs.Records.{Entry, Log}
use Rattle.lf_journal_text.specs.declared.damage.Damage.{Damage}
use Rattle.lf_journal_text.specs.declared.records.Record.{Record}
use Rattle.lf_journal_text.specs.declared.segment.Batch.{Batch}
use Rattle.lf_journal_text.specs.declared.segment.ReadError.{ReadError}
use Rattle.lf_journal_text.specs.declared.segment.ReadError.TheVariants as errors

abbrev pub entry_of : Record → Entry
entry_of r = record { origin = r.origin.now; line = r.line.now; reply = r.reply.now }

abbrev pub log_of : Batch → Log
log_of b = record { time = b.time; entries = map entry_of b.records.items }

-- What an error says of reading: damage is the first one, and of memory nothing is said.
abbrev pub Fails : ReadError → Result (List Log) Damage → Type 0
Fails errors.Memory read = Unit {0}
Fails (errors.Damaged damage) read = read ≡ Err damage

-- What the reader of a segment returned is what reading gives, unless memory ran out.
abbrev pub Gives : {A : Type 0} → Result (Vec Batch A) ReadError → Result (List Log) Damage → Type 0
Gives (Ok batches) read = read ≡ Ok (map log_of batches.items)
Gives (Err error) read = Fails error read
