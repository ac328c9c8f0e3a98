-- How a task ends: what is written, and which device is to blame.
use Rattle.std.proofs.Common.{◌≡◌, inl, inr, ℕ, List, true, false, Option, Some, None, is_some, refl, ap, sym, ◌∙◌, subst}
use Rattle.std.specs.Prelude.{◌||◌}
use Rattle.lf_floorplan.specs.declared.frame.Frame.{Frame}
use Rattle.lf_task_faults.specs.declared.faults.Fault.{Fault}
use Rattle.lf_task_faults.specs.declared.faults.Fault.TheVariants.{Refused, File, RefusedState, RefusedJournal, NoTeam, RefusedTeam, TeamDiffers, SliceDiffers, ReadFault, WriteFault, TooManyLines, OutOfMemory, Output, Bind, Accept, Hub, NotWritten, SetupOutOfMemory, OutputOutOfMemory}
use Rattle.lf_task_faults.specs.Faults.{BlamesDevices, IsEarly, IsOfWriter}
use Rattle.lf_task_faults.specs.declared.faults.OutputKind.{OutputKind}
use Rattle.lf_task_files.specs.Faults.{IsOutputFault}
use Rattle.lf_task_designs.specs.declared.opening.SourceText.{SourceText}
use Rattle.lf_cli.specs.Command.{RepairPaths}
use Rattle.lf_task_run.specs.Teams.{IsUnknown}
use Rattle.lf_task_run.specs.Outputs.{WritesNoText, is_text_requested, IsNotPut}
use Rattle.lf_io.specs.Shelf.{Put}
use Rattle.lf_task_designs.specs.Designs.{ReadsFile}
use Rattle.lf_task_run.specs.declared.task.Begun.{Begun}
use Rattle.lf_floor_model.specs.States.{FloorState}
use Rattle.lf_task_run.specs.Tasks.{IsBegun, IsTaskNotDone, IsWorkDone, IsWorkFault, Means, Request}

-- ---- what is written

-- a file that is not requested cannot fail
pub none_fails : (kind : OutputKind) (path : Option (List ℕ)) (fault : Fault) → path ≡ None → IsOutputFault kind path fault → ⊥
none_fails kind path fault none is = subst (λ (p : Option (List ℕ)). IsOutputFault kind p fault) none is

neither : (a b : Option (List ℕ)) → false ≡ (is_some a || is_some b) → (a ≡ None) × (b ≡ None)
neither None None requested = (refl, refl)
neither (Some a) b requested = absurd (clash requested) where
  clash : false ≡ true → ⊥
  clash e = cc
neither None (Some b) requested = absurd (clash requested) where
  clash : false ≡ true → ⊥
  clash e = cc

-- if no text is kept, but one is kept if it is requested, none is requested
pub no_text : (original : Option SourceText) (files : RepairPaths) → is_some original ≡ is_text_requested files → original ≡ None → WritesNoText files
no_text original files kept none =
    let both = neither files.export files.working (sym (ap is_some none) ∙ kept) in
    record { export = both.0; working = both.1 }

-- an unknown name is reported when nothing is written yet
pub unknown_early : (f : Frame) (teams : List (List ℕ)) (fault : Fault) → IsUnknown f teams fault → IsEarly fault
unknown_early f teams (Refused file its) is = absurd is
unknown_early f teams (File file why) is = absurd is
unknown_early f teams (RefusedState path its) is = absurd is
unknown_early f teams (RefusedJournal path its) is = absurd is
unknown_early f teams (NoTeam name) is = tt
unknown_early f teams (RefusedTeam name cause) is = absurd is
unknown_early f teams (TeamDiffers differing team) is = absurd is
unknown_early f teams SliceDiffers is = absurd is
unknown_early f teams ReadFault is = absurd is
unknown_early f teams WriteFault is = absurd is
unknown_early f teams TooManyLines is = absurd is
unknown_early f teams OutOfMemory is = absurd is
unknown_early f teams Output is = absurd is
unknown_early f teams (Bind port why) is = absurd is
unknown_early f teams Accept is = absurd is
unknown_early f teams (Hub folder failure) is = absurd is
unknown_early f teams (NotWritten its_kind path why) is = absurd is
unknown_early f teams SetupOutOfMemory is = absurd is
unknown_early f teams OutputOutOfMemory is = absurd is

-- a report that is not written blames the writer
pub output_blames : (kept reader writer export service sound : Type 0) (fault : Fault) → fault ≡ Output → writer → BlamesDevices fault kept reader writer export service sound
output_blames kept reader writer export service sound fault is failed =
    subst (λ (f : Fault). BlamesDevices f kept reader writer export service sound) (sym is) (record {
      early = λ of. absurd of;
      reading = λ same. absurd (subst IsOfWriter same tt);
      writing = λ _. failed;
      exporting = λ of. absurd of;
      serving = λ of. absurd of;
      sparing = λ of. absurd of;
    })

-- a design was opened, and no work was done on it
pub no_work : {Opened : Type 0} (work : Means Opened) (gives : ReadsFile) (job : Request) (begun : Begun Opened) → IsBegun work.opens gives job begun
    → (before after : Option (List ℕ)) (old_puts new_puts : Option (List Put)) (fault : Fault) → IsWorkFault work begun.floor job fault → after ≡ before → new_puts ≡ old_puts
    → IsTaskNotDone work gives job before after old_puts new_puts fault
no_work work gives job begun is before after old_puts new_puts fault why same unput = inr record {
  text = is.text;
  document = is.document;
  loaded = is.loaded;
  opened = is.opened;
  begin = begun.floor;
  with = begun.opened;
  begins = is.begins;
  why = inl (why, same, unput);
}

-- the work was done, and its results were not written
pub not_put : {Opened : Type 0} (work : Means Opened) (gives : ReadsFile) (job : Request) (begun : Begun Opened) (is : IsBegun work.opens gives job begun)
    (before after : Option (List ℕ)) (old_puts new_puts : Option (List Put)) (fault : Fault) (floor : FloorState) (kept : Option (List ℕ)) (report : List ℕ) (status : ℕ)
    → IsWorkDone work job begun.opened begun.floor floor kept report status
    → IsNotPut job.files is.text is.document floor kept report before after old_puts new_puts fault
    → IsTaskNotDone work gives job before after old_puts new_puts fault
not_put work gives job begun is before after old_puts new_puts fault floor kept report status done unput = inr record {
  text = is.text;
  document = is.document;
  loaded = is.loaded;
  opened = is.opened;
  begin = begun.floor;
  with = begun.opened;
  begins = is.begins;
  why = inr (floor, kept, report, status, done, unput);
}
