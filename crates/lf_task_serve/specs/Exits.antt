-- How lines end.
use Rattle.std.specs.Prelude.{◌≡◌, ◌<◌, ◌⊎◌, ◌++◌, ℕ, List, [], ◌∷◌, Option, Some, None, codes, take}
use Rattle.std.specs.Io.KnownBytes.{Appends}
use Rattle.lf_floorplan.specs.declared.limits.Limits.{Limits}
use Rattle.lf_floorplan.specs.declared.loaded.Loaded.{Loaded}
use Rattle.lf_rules.specs.Legalizer.{Legalizer}
use Rattle.lf_def.specs.Document.{Document}
use Rattle.lf_io.specs.Shelf.{Put}
use Rattle.lf_floor_model.specs.States.{FloorState}
use Rattle.lf_server.specs.Connections.{Accepted, AreServed}
use Rattle.lf_server.specs.declared.serve_loop.Ending.{Ending}
use Rattle.lf_task_faults.specs.declared.faults.Fault.{Fault}
use Rattle.lf_task_faults.specs.declared.faults.Fault.TheVariants.{Accept, Bind, SetupOutOfMemory, Output}
use Rattle.lf_task_designs.specs.Designs.{ReadsFile, IsOpened}
use Rattle.lf_task_faults.specs.declared.faults.OutputKind.TheVariants.{Export, Save}
use Rattle.lf_task_files.specs.Faults.{IsOutputFault}
use Rattle.lf_task_files.specs.States.{IsSaved}
use Rattle.lf_task_files.specs.Exits.{IsExported}
use Rattle.lf_task_journal.specs.Begun.{IsBeginFault, IsBeginOf, IsBegunFloor}
use Rattle.lf_task_serve.specs.Faults.{ending_fault}
use Rattle.lf_task_serve.specs.Lines.{IsServed, default_most_lines, reads_for}

-- ---- inputs and outputs of a task

-- The inputs and outputs of a task: the input and the output, each before and after, the texts
-- written to files, and the connections that were accepted and closed.
pub record Streams : Type 0 where
  pub input : Option (List ℕ)
  pub left : Option (List ℕ)
  pub before : Option (List ℕ)
  pub after : Option (List ℕ)
  pub old_puts : Option (List Put)
  pub new_puts : Option (List Put)
  pub old_accepted : Option Accepted
  pub new_accepted : Option Accepted

abbrev pub streams : Option (List ℕ) → Option (List ℕ) → Option (List ℕ) → Option (List ℕ) → Option (List Put)
    → Option (List Put)
    → Option Accepted → Option Accepted → Streams
streams input left before after old_puts new_puts old_accepted new_accepted =
    record {
      input = input;
      left = left;
      before = before;
      after = after;
      old_puts = old_puts;
      new_puts = new_puts;
      old_accepted = old_accepted;
      new_accepted = new_accepted;
    }

-- The input and the output alone, if nothing is known of files and connections.
abbrev pub streams_alone : Option (List ℕ) → Option (List ℕ) → Option (List ℕ) → Option (List ℕ) → Streams
streams_alone input left before after = streams input left before after None None None None

-- The lines of the input, at most `limit`, were served on the floor, up to their end or to a bye.
pub record AnswersInput (limit : ℕ) (begin floor : FloorState)
    (input left before after : Option (List ℕ)) : Type 0 where
  pub ending : Ending
  pub well : ending_fault ending ≡ None
  pub served : (l : Legalizer) → IsServed l limit begin floor input left before after ending

-- The line that is written once the service listens on its port.
abbrev pub listening : List ℕ
listening = codes "listening" ++ 10 ∷ []

-- `connections` connections were accepted and served on the floor, after `listening` was written.
pub record IsOffered (begin floor : FloorState) (connections : ℕ) (before after : Option (List ℕ))
    (old_accepted new_accepted : Option Accepted) : Type 0 where
  pub reported : Appends before after listening
  pub served :
      AreServed default_most_lines (reads_for default_most_lines) connections old_accepted new_accepted begin floor

-- This work led to the state of the floor. Then the exported text of the document was written if
-- requested, and then the state.
pub record IsFinished (Work : FloorState → Streams → Type 0) (save export : Option (List ℕ)) (text : List ℕ)
    (document : Document) (io : Streams) : Type 0 where
  pub floor : FloorState
  pub work : Work floor io
  pub between : Option (List Put)
  pub exports : IsExported export text document floor io.old_puts between
  pub saves : IsSaved save floor between io.new_puts

-- The design was opened, its floor was brought into the requested state, the requested journal was
-- run on it, and then this work on it finished.
pub record IsServedDesign (limits : Limits) (gives : ReadsFile) (def : List ℕ) (lefs : List (List ℕ))
    (state journal save export : Option (List ℕ))
    (Work : FloorState → FloorState → Streams → Type 0) (io : Streams) : Type 0 where
  pub text : List ℕ
  pub document : Document
  pub loaded : Loaded
  pub opened : IsOpened limits gives def lefs text document loaded
  pub begin : FloorState
  pub begins : IsBegunFloor limits gives def lefs state journal loaded begin
  pub finished : IsFinished (Work begin) save export text document io

-- ---- faults

-- The lines of the input were served on the floor, up to an end that is this fault.
pub record EndsWithFault (limit : ℕ) (begin : FloorState) (fault : Fault)
    (input left before after : Option (List ℕ)) : Type 0 where
  pub floor : FloorState
  pub ending : Ending
  pub is : ending_fault ending ≡ Some fault
  pub served : (l : Legalizer) → IsServed l limit begin floor input left before after ending

-- Why the lines of a demo are not answered up to their end: an allocation for the floor failed, or
-- serving them ended with a fault.
abbrev pub IsLinesFault : ℕ → FloorState → Fault → Option (List ℕ) → Option (List ℕ) → Option (List ℕ)
    → Option (List ℕ) → Type 0
IsLinesFault limit begin fault input left before after = (fault ≡ SetupOutOfMemory)
    ⊎ EndsWithFault limit begin fault input left before after

-- Why a service ends early. If it cannot listen on the port, nothing is written. If the line
-- `listening` is not written, a front of it may be. If a connection is not accepted, the earlier
-- ones were served.
abbrev pub IsServiceFault : ℕ → ℕ → FloorState → Fault → Option (List ℕ) → Option (List ℕ) → Option Accepted
    → Option Accepted → Type 0
IsServiceFault port connections begin (Bind its why) before after old_accepted new_accepted =
    (its ≡ port) × (after ≡ before) × (new_accepted ≡ old_accepted)
IsServiceFault port connections begin Output before after old_accepted new_accepted =
    ((n : ℕ) × Appends before after (take n listening)) × (new_accepted ≡ old_accepted)
IsServiceFault port connections begin Accept before after old_accepted new_accepted =
    (floor : FloorState)
    × ((count : ℕ) × (count < connections) × IsOffered begin floor count before after old_accepted new_accepted)
IsServiceFault port connections begin _ before after old_accepted new_accepted = ⊥

-- Nothing was read, written or accepted.
pub record IsUntouched (io : Streams) : Type 0 where
  pub unread : io.left ≡ io.input
  pub unwritten : io.after ≡ io.before
  pub unput : io.new_puts ≡ io.old_puts
  pub unaccepted : io.new_accepted ≡ io.old_accepted

-- Why the work on a floor fails: for its own reason; or a requested file cannot be written, which
-- is reported before anything is done; or the exported text is not written after the work.
abbrev pub IsServeFault : Option (List ℕ) → Option (List ℕ) → (Fault → Streams → Type 0)
    → (FloorState → Streams → Type 0) → Fault → Streams → Type 0
IsServeFault save export why Work fault io =
    why fault io
    ⊎ (((IsOutputFault Export export fault ⊎ IsOutputFault Save save fault) × IsUntouched io)
    ⊎ (IsOutputFault Export export fault × ((floor : FloorState) × Work floor io)))

-- There is nothing to work on for this reason, and neither input nor output, files or connections
-- are touched; or there is, and this is why the work on it fails.
abbrev pub IsJobStop : {A : Type 0} → (Fault → Type 0) → (A → Type 0) → (A → Fault → Streams → Type 0)
    → Fault → Streams → Type 0
IsJobStop {A} nothing IsWorkedOn why fault io =
    (nothing fault × IsUntouched io) ⊎ ((on : A) × IsWorkedOn on × why on fault io)

-- Why a job on lines fails: it stopped, and no file is written; or everything is done except that
-- the state is not saved.
abbrev pub IsUndone : Limits → ReadsFile → List ℕ → List (List ℕ) → Option (List ℕ) → Option (List ℕ) → Option (List ℕ)
    → Option (List ℕ) → (FloorState → Fault → Streams → Type 0) → (FloorState → FloorState → Streams → Type 0) → Fault → Streams → Type 0
IsUndone limits gives def lefs state journal save export why Work fault io =
    (IsJobStop (IsBeginFault limits gives def lefs state journal) (IsBeginOf limits gives def lefs state journal)
    (λ begin. IsServeFault save export (why begin) (Work begin)) fault io × (io.new_puts ≡ io.old_puts))
    ⊎ (IsOutputFault Save save fault × IsServedDesign limits gives def lefs state journal None export Work io)
