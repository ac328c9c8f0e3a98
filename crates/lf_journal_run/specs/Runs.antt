-- A journal that is run on a floor.
use Rattle.std.specs.Prelude.{◌≡◌, ◌≢◌, ◌⊎◌, ℕ, ◌+◌, Bool, true, false, List, [], Option, Some, None, Ok, Err, drop}
use Rattle.lf_rules.specs.Legalizer.{Legalizer}
use Rattle.lf_floor_model.specs.States.{FloorState}
use Rattle.lf_server.specs.Devices.{writer}
use Rattle.lf_server.specs.Endings.{ServesLines}
use Rattle.lf_server.specs.declared.serve_loop.Ending.{Ending}
use Rattle.lf_server.specs.declared.serve_loop.Ending.TheVariants.{Done}
use Rattle.lf_server.specs.declared.serve_loop.Served.{Served}
use Rattle.lf_journal_text.specs.Records.{Log, segment_of}
use Rattle.lf_journal_text.specs.declared.damage.Damage.{Damage}
use Rattle.lf_journal_run.specs.Beginnings.{due_beginning, other_beginning}
use Rattle.lf_journal_run.specs.Texts.{entries_in, lines_text, replies_text, record_byte, same_lines}
use Rattle.lf_journal_text.specs.declared.refusal.Refusal.{Refusal}
use Rattle.lf_journal_text.specs.declared.refusal.RefusalKind.{RefusalKind}
use Rattle.lf_journal_text.specs.declared.refusal.RefusalKind.TheVariants.{Damaged, OtherReply}
use Rattle.lf_journal_run.specs.declared.fault.RunError.{RunError}
use Rattle.lf_journal_run.specs.declared.fault.RunError.TheVariants.{Memory, Refused}

-- The most lines of a journal.
abbrev pub most_lines : ℕ
most_lines = 18446744073709551615

-- The lines of a text are served on the floor, as those of a connection, until this ending. Then this
-- text is written, and the floor is the new one.
pub record Writes (l : Legalizer) (ending : Ending) (old : FloorState) (lines text : List ℕ)
    (new : FloorState) : Type 0 where
  pub served : Served
  pub ends : served.ending ≡ ending
  pub unread : Option (List ℕ)
  pub is_flushed : Bool
  pub has_failed : Bool
  pub serves : ServesLines l most_lines old (Some lines) unread (writer (Some []) true false)
      (writer (Some text) is_flushed has_failed) served new

-- All lines of the records of these batches are served, and their recorded replies are written.
abbrev pub RunsLogs : Legalizer → FloorState → List Log → FloorState → Type 0
RunsLogs l old logs new = Writes l Done old (lines_text (entries_in logs)) (replies_text (entries_in logs)) new

-- The journal is that of the design of this line, and begins with the state of this name. Behind its
-- beginning, the lines of its records get the recorded replies.
pub record RunsJournal (l : Legalizer) (journal design state : List ℕ) (old new : FloorState) : Type 0 where
  pub logs : List Log
  pub read : segment_of journal ≡ Ok logs
  pub begins : other_beginning logs (due_beginning design state) ≡ None
  pub runs : RunsLogs l old (drop 1 logs) new

-- ---- refusals

-- The journal does not have the due beginning.
pub record HasOtherBeginning (journal design state : List ℕ) (refusal : Refusal) : Type 0 where
  pub logs : List Log
  pub read : segment_of journal ≡ Ok logs
  pub other : other_beginning logs (due_beginning design state) ≡ Some refusal.kind
  pub at : refusal.at ≡ 38

-- The lines of the records of these batches get other replies than the recorded ones, or one of them ends the
-- connection.
pub record GetsOtherReply (l : Legalizer) (old : FloorState) (logs : List Log) (number : ℕ) : Type 0 where
  pub ending : Ending
  pub text : List ℕ
  pub new : FloorState
  pub writes : Writes l ending old (lines_text (entries_in logs)) text new
  pub other : (text ≢ replies_text (entries_in logs)) ⊎ (ending ≢ Done)
  pub number_is : number ≡ same_lines text (replies_text (entries_in logs))

-- The refusal of another reply, in a journal of these batches, to the record of this number behind the beginning.
abbrev pub NamesRecord : List Log → ℕ → RunError → Type 0
NamesRecord logs number Memory = Unit {0}
NamesRecord logs number (Refused refusal) = (refusal.kind ≡ OtherReply) × (refusal.at ≡ record_byte (1 + number) 0 logs)

-- The journal has the due beginning, and behind it the reply to a line is not the recorded one. The refusal names
-- the first such record.
pub record HasOtherReply (l : Legalizer) (journal design state : List ℕ) (old : FloorState)
    (refusal : Refusal) : Type 0 where
  pub logs : List Log
  pub read : segment_of journal ≡ Ok logs
  pub begins : other_beginning logs (due_beginning design state) ≡ None
  pub number : ℕ
  pub gets : GetsOtherReply l old (drop 1 logs) number
  pub names : NamesRecord logs number (Refused refusal)

-- The journal is damaged.
abbrev pub IsDamaged : List ℕ → Refusal → Type 0
IsDamaged journal refusal = (damage : Damage) × (segment_of journal ≡ Err damage)
    × (refusal ≡ record { at = damage.at; kind = Damaged damage.kind })

-- Why a journal was not read. Of memory nothing is said.
abbrev pub IsNotRead : List ℕ → RunError → Type 0
IsNotRead journal Memory = Unit {0}
IsNotRead journal (Refused refusal) = IsDamaged journal refusal

-- Why a journal is refused.
abbrev pub IsRefused : Legalizer → List ℕ → List ℕ → List ℕ → FloorState → Refusal → Type 0
IsRefused l journal design state old refusal =
    IsDamaged journal refusal ⊎ (HasOtherBeginning journal design state refusal
    ⊎ HasOtherReply l journal design state old refusal)

-- Why a journal was not run. Of memory nothing is said.
abbrev pub IsNotRun : Legalizer → List ℕ → List ℕ → List ℕ → FloorState → RunError → Type 0
IsNotRun l journal design state old Memory = Unit {0}
IsNotRun l journal design state old (Refused refusal) = IsRefused l journal design state old refusal
