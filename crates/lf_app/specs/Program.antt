-- A run of the program: what it reads, prints and writes for the words of its command line, and the status with which
-- it ends.
use Rattle.std.specs.Prelude.{◌≡◌, ◌⊎◌, ℕ, Bool, true, false, List, [], Option, Some, None, Result, Ok, Err}
use Rattle.std.specs.Prelude.{String, Vec, map, string_bytes, take}
use Rattle.std.specs.Global.{Global}
use Rattle.std.specs.Io.KnownBytes.{Appends}
use Rattle.lf_cli.specs.Command.{Job, job_of}
use Rattle.lf_cli.specs.Help.{help_requested}
use Rattle.lf_cli.specs.declared.help.Help.{Help}
use Rattle.lf_cli.specs.declared.parse.UsageFault.{UsageFault}
use Rattle.lf_cli.specs.declared.parse.UsageFault.TheVariants as usage
use Rattle.lf_task_usage.specs.Usage.{help_text, usage_text}
use Rattle.lf_task_faults.specs.declared.faults.Fault.{Fault}
use Rattle.lf_task_faults.specs.declared.faults.Fault.TheVariants.{Output, SetupOutOfMemory}
use Rattle.lf_task_faults.specs.Faults.{fault_lines_text, status_of}
use Rattle.lf_task_designs.specs.Designs.{ReadsFile}
use Rattle.lf_task_serve.specs.Surroundings.{BlamesEnvironment, Io, streams_of}
use Rattle.lf_task_run.specs.Outputs.{WritesExportAlone, WritesNoFile}
use Rattle.lf_app.specs.Exits.{IsJobFault, IsJobOutcome}
use Rattle.lf_app.specs.Offers.{IsOfferOf}
use Rattle.lf_app.specs.Requests.{requests_of}

-- A run: what contracts see of its devices before and after it, the bytes of standard error before and after it and
-- whether writing them has failed, and the exit status.
pub record Run : Type 0 where
  pub before : Io
  pub after : Io
  pub messages_before : Option (List ℕ)
  pub messages_after : Option (List ℕ)
  pub messages_failed : Bool
  pub status : ℕ

abbrev pub run_of : Io → Io → Option (List ℕ) → Option (List ℕ) → Bool → ℕ → Run
run_of before after messages_before messages_after messages_failed status = record {
  before = before;
  after = after;
  messages_before = messages_before;
  messages_after = messages_after;
  messages_failed = messages_failed;
  status = status;
}

-- ---- what is said on standard error

-- Nothing is written to standard error.
abbrev pub IsSilent : Run → Type 0
IsSilent run = run.messages_after ≡ run.messages_before

-- Exactly this text is written to standard error, unless that fails.
abbrev pub Reports : List ℕ → Run → Type 0
Reports text run = Appends run.messages_before run.messages_after text ⊎ (run.messages_failed ≡ true)

-- The run ends with this fault: its lines are reported, and the status is its status.
pub record EndsByFault (fault : Fault) (run : Run) : Type 0 where
  pub reported : Reports (fault_lines_text fault) run
  pub status_is : run.status ≡ status_of fault

-- ---- runs that do a job

-- Nothing is written to standard output.
abbrev pub IsUnwritten : Run → Type 0
IsUnwritten run =
    (run.after.contents ≡ run.before.contents) × (run.after.write_failed ≡ run.before.write_failed)

-- The job is done, and nothing is reported.
pub record IsJobDone (gives : ReadsFile) (job : Job) (run : Run) : Type 0 where
  pub outcome : IsJobOutcome gives job (streams_of run.before run.after) run.status
  pub offered : IsOfferOf job run.before.offers run.after.offers
  pub silent : IsSilent run

-- The job fails with one fault. No file is written if none but the exported text is requested. Only the requested
-- service is offered.
pub record IsJobFailed (gives : ReadsFile) (job : Job) (run : Run) : Type 0 where
  pub fault : Fault
  pub why : IsJobFault gives job fault (streams_of run.before run.after)
  pub blames : BlamesEnvironment (requests_of job).lines (IsUnwritten run) run.before run.after fault
  pub unput : WritesExportAlone (requests_of job).files → run.after.puts ≡ run.before.puts
  pub offered : (run.after.offers ≡ run.before.offers) ⊎ IsOfferOf job run.before.offers run.after.offers
  pub ends : EndsByFault fault run

-- The run of words that name a job: the job is done, or fails. Standard input and files are left alone if they are not
-- requested.
pub record IsJobRun (gives : ReadsFile) (job : Job) (run : Run) : Type 0 where
  pub ends : IsJobDone gives job run ⊎ IsJobFailed gives job run
  pub unread : (requests_of job).reads_input ≡ false
      → (run.after.left ≡ run.before.left) × (run.after.reads ≡ run.before.reads)
  pub unasked : WritesNoFile (requests_of job).files
      → (run.after.puts ≡ run.before.puts) × (run.after.put_failed ≡ run.before.put_failed)

-- ---- other runs

-- The text is written to standard output, with status 0.
pub record IsShown (text : List ℕ) (run : Run) : Type 0 where
  pub written : Appends run.before.contents run.after.contents text
  pub silent : IsSilent run
  pub status_is : run.status ≡ 0

-- Standard output fails, after a prefix of the text is written, perhaps nothing.
pub record IsNotShown (text : List ℕ) (run : Run) : Type 0 where
  pub size : ℕ
  pub written : Appends run.before.contents run.after.contents (take size text)
  pub failed : run.after.write_failed ≡ true
  pub ends : EndsByFault Output run

-- These devices, with the standard output of others.
abbrev pub with_output_of : Io → Io → Io
with_output_of others io = record io { contents = others.contents; write_failed = others.write_failed }

-- The run of words that request help or the version. No device is touched but standard output and standard error.
pub record IsHelpRun (help : Help) (run : Run) : Type 0 where
  pub shown : IsShown (help_text help) run ⊎ IsNotShown (help_text help) run
  pub spares : run.after ≡ with_output_of run.after run.before

-- The run of words that mean nothing: a message, with some lines of the argument parser, and status 2. No device is
-- touched but standard error.
pub record IsUsageRun (words : List (List ℕ)) (run : Run) : Type 0 where
  pub said : List (List ℕ)
  pub reported : Reports (usage_text said words) run
  pub status_is : run.status ≡ 2
  pub spares : run.after ≡ run.before

-- The run of words for which memory does not suffice: it ends with that fault, which has status 1. No device is touched
-- but standard error.
pub record IsMemoryRun (run : Run) : Type 0 where
  pub ends : EndsByFault SetupOutOfMemory run
  pub spares : run.after ≡ run.before

-- ---- all runs

-- The run of words that name this job if any, otherwise request this help if any.
abbrev pub IsRunOf : ReadsFile → Option Job → Option Help → List (List ℕ) → Run → Type 0
IsRunOf gives (Some job) help words run = IsJobRun gives job run
IsRunOf gives None (Some help) words run = IsHelpRun help run
IsRunOf gives None None words run = IsUsageRun words run

-- The words of the command line, or why they are not read: one of them is no text, or memory does not suffice.
abbrev pub words_read : Result (Vec (String Global) Global) UsageFault → Result (List (List ℕ)) UsageFault
words_read (Ok words) = Ok (map string_bytes words.items)
words_read (Err fault) = Err fault

-- The run of the program on these words.
abbrev pub IsProgramRun : ReadsFile → Result (List (List ℕ)) UsageFault → Run → Type 0
IsProgramRun gives (Ok words) run = IsRunOf gives (job_of words) (help_requested words) words run ⊎ IsMemoryRun run
IsProgramRun gives (Err usage.Usage) run = IsUsageRun [] run
IsProgramRun gives (Err usage.OutOfMemory) run = IsMemoryRun run

-- The job that the words name, if they are read and name one.
abbrev pub job_read : Result (List (List ℕ)) UsageFault → Option Job
job_read (Ok words) = job_of words
job_read (Err fault) = None

-- There is no job, or it shows no progress.
abbrev pub ShowsNoProgress : Option Job → Type 0
ShowsNoProgress None = Unit {0}
ShowsNoProgress (Some job) = (requests_of job).shows_progress ≡ false
