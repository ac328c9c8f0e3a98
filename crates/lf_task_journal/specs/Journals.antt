-- The journal of a file that is run on a floor, or why it is not.
use Rattle.std.specs.Prelude.{◌≡◌, ◌⊎◌, ℕ, List, Option, Some}
use Rattle.lf_floorplan.specs.declared.limits.Limits.{Limits}
use Rattle.lf_rules.specs.Legalizer.{Legalizer}
use Rattle.lf_floor_model.specs.States.{FloorState}
use Rattle.lf_journal_text.specs.declared.refusal.Refusal.{Refusal}
use Rattle.lf_journal_run.specs.Runs.{IsRefused, RunsJournal}
use Rattle.lf_task_faults.specs.declared.faults.Fault.{Fault}
use Rattle.lf_task_faults.specs.declared.faults.Fault.TheVariants.{RefusedJournal, SetupOutOfMemory}
use Rattle.lf_task_faults.specs.declared.faults.TextKind.TheVariants.{Journal}
use Rattle.lf_task_designs.specs.Designs.{ReadsFile, IsUnread}
use Rattle.lf_task_journal.specs.Names.{IsLineOf, IsLineUnread, IsStateNamed, IsStateUnread}

-- The journal of the file is that of the design of these files with these limits, and begins with this state. The
-- lines of its records get the recorded replies, and lead to the new floor.
pub record RunsJournalFile (limits : Limits) (gives : ReadsFile) (def : List ℕ) (lefs : List (List ℕ))
    (state : Option (List ℕ)) (journal : List ℕ) (old new : FloorState) : Type 0 where
  pub line : List ℕ
  pub line_is : IsLineOf gives def lefs limits.sessions line
  pub name : List ℕ
  pub name_is : IsStateNamed gives state name
  pub text : List ℕ
  pub given : gives journal (Some text)
  pub runs : (l : Legalizer) → RunsJournal l text line name old new

-- ---- why it is not run

-- One of the files was not read.
abbrev pub IsFileUnread : ReadsFile → List ℕ → List (List ℕ) → Option (List ℕ) → List ℕ → Fault → Type 0
IsFileUnread gives def lefs state journal fault =
    IsLineUnread gives def lefs fault
    ⊎ (IsStateUnread gives state fault ⊎ IsUnread gives Journal journal fault)

-- The fault is that the journal of this path is refused.
abbrev pub IsRefusalAt : List ℕ → Refusal → Fault → Type 0
IsRefusalAt path refusal (RefusedJournal its its_refusal) = (its.now ≡ path) × (its_refusal ≡ refusal)
IsRefusalAt path refusal _ = ⊥

-- The journal of the file is refused.
pub record IsJournalRefused (limits : Limits) (gives : ReadsFile) (def : List ℕ) (lefs : List (List ℕ))
    (state : Option (List ℕ)) (journal : List ℕ) (old : FloorState) (fault : Fault) : Type 0 where
  pub line : List ℕ
  pub line_is : IsLineOf gives def lefs limits.sessions line
  pub name : List ℕ
  pub name_is : IsStateNamed gives state name
  pub text : List ℕ
  pub given : gives journal (Some text)
  pub refusal : Refusal
  pub refused : (l : Legalizer) → IsRefused l text line name old refusal
  pub reported : IsRefusalAt journal refusal fault

-- Why the journal of the file is not run.
abbrev pub IsJournalFault : Limits → ReadsFile → List ℕ → List (List ℕ) → Option (List ℕ) → List ℕ → FloorState → Fault
    → Type 0
IsJournalFault limits gives def lefs state journal old fault =
    (fault ≡ SetupOutOfMemory)
    ⊎ (IsFileUnread gives def lefs state journal fault
    ⊎ IsJournalRefused limits gives def lefs state journal old fault)
