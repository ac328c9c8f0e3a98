-- How a task on a floor ends: a design is opened, its teams are worked on by commands, and the results
-- are written. What a work does is one record of relations.
use Rattle.std.specs.Prelude.{◌≡◌, ◌⊎◌, ◌+◌, ℕ, List, Option, is_some, length, map}
use Rattle.lf_cli.specs.Command.{RepairPaths, repair_paths}
use Rattle.lf_def.specs.Document.{Document}
use Rattle.lf_floorplan.specs.declared.limits.Limits.{Limits}
use Rattle.lf_floorplan.specs.declared.loaded.Loaded.{Loaded}
use Rattle.lf_rules.specs.Legalizer.{Legalizer}
use Rattle.lf_io.specs.Shelf.{Put}
use Rattle.lf_floor_model.specs.Designs.{initial_floor}
use Rattle.lf_floor_model.specs.States.{FloorState}
use Rattle.lf_task_faults.specs.declared.faults.Fault.{Fault}
use Rattle.lf_task_designs.specs.Designs.{AreKept, IsOpened, ReadsFile}
use Rattle.lf_task_files.specs.Inputs.{path_of}
use Rattle.lf_task_run.specs.declared.task.Begun.{Begun}
use Rattle.lf_task_run.specs.declared.task.Job.{Job}
use Rattle.lf_task_run.specs.Commands.{IsKeptRun, initial_lines}
use Rattle.lf_task_run.specs.Outputs.{IsFileOutputFault, IsNotPut, IsPut, is_text_requested}
use Rattle.lf_task_run.specs.Teams.{AreKnown, IsStatusOf, IsUnknown, OnlySelectedChange}

-- ---- what is requested

-- what is requested: the files of a design and the state with which the work begins, the selected
-- teams, the files to write, and the limits of the design
pub record Request : Type 0 where
  pub limits : Limits
  pub def : List ℕ
  pub lefs : List (List ℕ)
  pub state : Option (List ℕ)
  pub teams : List (List ℕ)
  pub files : RepairPaths

abbrev pub request_of : Job → Request
request_of job = record {
  limits = job.input.limits;
  def = job.input.def.now;
  lefs = map (λ lef. lef.now) job.input.lefs.now;
  state = path_of job.input.state;
  teams = map (λ team. team.now) job.teams.now;
  files = repair_paths job.files;
}

-- ---- a work

-- what is opened for a task: the text, its document, the loaded design, the floor with which the work
-- begins, and what is opened besides them
abbrev pub Opens : Type 0 → Type 1
Opens Opened = ReadsFile → Request → List ℕ → Document → Loaded → FloorState → Opened → Type 0

-- What a work means:
-- - `opens` says what is opened
-- - `refuses` says why nothing is opened
-- - `fails` says why the work ends early, given the names of the selected teams and the floor before it
-- - `does` holds for the names of the selected teams, what is opened, the floor before and after the
--   work, and the report
pub record Means (Opened : Type 0) : Type 1 where
  pub opens : Opens Opened
  pub refuses : ReadsFile → Request → Fault → Type 0
  pub fails : List (List ℕ) → FloorState → Fault → Type 0
  pub does : List (List ℕ) → Opened → FloorState → FloorState → List ℕ → Type 0

-- the design is opened, with the floor with which the work begins; its DEF text is kept if and only if
-- a requested file is made from it
pub record IsBegun {Opened : Type 0} (opens : Opens Opened) (gives : ReadsFile) (job : Request) (begun : Begun Opened)
    : Type 0 where
  pub text : List ℕ
  pub document : Document
  pub loaded : Loaded
  pub opened : IsOpened job.limits gives job.def job.lefs text document loaded
  pub begins : opens gives job text document loaded begun.floor begun.opened
  pub whole : length begun.floor.teams ≡ length begun.floor.frame.teams + 1
  pub components : begun.floor.components ≡ (initial_floor loaded).components
  pub are : AreKept begun.original text document
  pub kept : is_some begun.original ≡ is_text_requested job.files

-- the first floor became this one: each requested name is a team's; accepted commands lead from the
-- first floor to this one, and they are the lines that are kept; only selected teams change; the report
-- is that of the work; and the status says whether the committed design is fully legal
pub record IsWorkDone {Opened : Type 0} (work : Means Opened) (job : Request) (with : Opened) (begin floor : FloorState)
    (kept : Option (List ℕ)) (report : List ℕ) (status : ℕ) : Type 0 where
  pub known : AreKnown begin.frame job.teams
  pub run : (l : Legalizer) → IsKeptRun l begin (initial_lines job.files.lines) kept floor
  pub only : OnlySelectedChange job.teams begin floor
  pub does : work.does job.teams with begin floor report
  pub committed_checked : IsStatusOf floor status

-- ---- how a task ends

-- the design was opened and worked on; then the report was written, and the requested files
pub record IsTaskDone {Opened : Type 0} (work : Means Opened) (gives : ReadsFile) (job : Request)
    (before after : Option (List ℕ)) (old_puts new_puts : Option (List Put)) (status : ℕ) : Type 0 where
  pub text : List ℕ
  pub document : Document
  pub loaded : Loaded
  pub opened : IsOpened job.limits gives job.def job.lefs text document loaded
  pub begin : FloorState
  pub with : Opened
  pub begins : work.opens gives job text document loaded begin with
  pub floor : FloorState
  pub kept : Option (List ℕ)
  pub report : List ℕ
  pub done : IsWorkDone work job with begin floor kept report status
  pub put : IsPut job.files text document floor kept report before after old_puts new_puts

-- why no work is done on this floor: a requested name is not a team's; a requested file cannot be
-- written; or the work ends early
abbrev pub IsWorkFault : {Opened : Type 0} → Means Opened → FloorState → Request → Fault → Type 0
IsWorkFault {Opened} work begin job fault = IsUnknown begin.frame job.teams fault
    ⊎ (IsFileOutputFault job.files fault ⊎ work.fails job.teams begin fault)

-- the design was opened; no work was done and nothing was written; or the work was done, and the report
-- or the requested files were not written
pub record IsTaskStopped {Opened : Type 0} (work : Means Opened) (gives : ReadsFile) (job : Request)
    (before after : Option (List ℕ)) (old_puts new_puts : Option (List Put)) (fault : Fault) : Type 0 where
  pub text : List ℕ
  pub document : Document
  pub loaded : Loaded
  pub opened : IsOpened job.limits gives job.def job.lefs text document loaded
  pub begin : FloorState
  pub with : Opened
  pub begins : work.opens gives job text document loaded begin with
  pub why : (IsWorkFault work begin job fault × (after ≡ before) × (new_puts ≡ old_puts))
      ⊎ ((floor : FloorState) × (kept : Option (List ℕ)) × (report : List ℕ) × (status : ℕ)
      × IsWorkDone work job with begin floor kept report status
      × IsNotPut job.files text document floor kept report before after old_puts new_puts fault)

-- why a task is not done: nothing is opened, and nothing is written; or the design was opened, and the
-- task stopped
abbrev pub IsTaskNotDone : {Opened : Type 0} → Means Opened → ReadsFile → Request → Option (List ℕ) → Option (List ℕ)
    → Option (List Put) → Option (List Put) → Fault → Type 0
IsTaskNotDone {Opened} work gives job before after old_puts new_puts fault =
    (work.refuses gives job fault × (after ≡ before) × (new_puts ≡ old_puts))
    ⊎ IsTaskStopped work gives job before after old_puts new_puts fault
