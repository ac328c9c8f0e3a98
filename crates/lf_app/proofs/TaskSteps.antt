-- Tasks over a loaded design.
use Rattle.std.proofs.Common.{◌≡◌, ◌⊎◌, ◌∙◌, arith, ap, inl, inr, map, subst, sym, Bool, List, Option, ℕ}
use Rattle.std.specs.Prelude.{IfErr, IfOk, Result}
use Rattle.std.proofs.lemmas.Result.{IfErr-weaker}
use Rattle.lf_cli.specs.declared.parse.Task.{Task}
use Rattle.lf_cli.specs.declared.parse.Task.TheVariants.{Demo, Replay, Serve, Hub as HubTask, Check, Describe, Improve, Repair, Wirelength}
use Rattle.lf_cli.specs.Command.{Job, ReadsNone, RepairPaths, repair_paths, as_job, check, demo, describe, hub, improve, repair, replay, serve, wirelength}
use Rattle.lf_task_faults.specs.declared.faults.Fault.{Fault}
use Rattle.lf_task_faults.specs.declared.faults.Fault.TheVariants.{Refused, File, RefusedState, RefusedJournal, NoTeam, RefusedTeam, TeamDiffers, SliceDiffers, ReadFault, WriteFault, TooManyLines, OutOfMemory, Output, Bind, Accept, Hub, NotWritten, SetupOutOfMemory, OutputOutOfMemory}
use Rattle.lf_task_designs.specs.Designs.{ReadsFile}
use Rattle.lf_task_faults.specs.Faults.{BlamesDevices, status_of}
use Rattle.lf_app.specs.Exits.{IsJobOutcome}
use Rattle.lf_task_serve.specs.Exits.{IsUndone, Streams}
use Rattle.lf_task_serve.specs.Surroundings.{Io, IsSound}
use Rattle.lf_task_files.specs.Faults.{IsDone, IsFailure}
use Rattle.std.specs.Borrow.{Bor}
use Rattle.lf_floorplan.specs.declared.limits.Limits.{Limits}
use Rattle.lf_floor_model.specs.States.{FloorState}
use Rattle.lf_io.specs.Shelf.{Put}
use Rattle.lf_task_files.specs.Inputs.{path_of}
use Rattle.lf_task_files.proofs.WorkSteps.{early_blames}
use Rattle.lf_task_hub.specs.Hubs.{IsFailure as IsHubFailure, IsOfHub}
use Rattle.lf_task_files.specs.declared.inputs.DesignInput.{DesignInput}
use Rattle.lf_task_run.specs.Tasks.{IsTaskDone, IsTaskNotDone, Means, Request, request_of}
use Rattle.lf_task_run.specs.Outputs.{BlamesOutputs}
use Rattle.lf_task_run.specs.declared.task.Job.{Job as FloorJob}
use Rattle.lf_app.specs.Requests.{IsInputAt, request_at}

-- The status of a fault is that of a task that failed.
pub failing : (fault : Fault) (status : ℕ) → status ≡ status_of fault → IsFailure status
failing (Refused file refusal) status is = inl is
failing (File file why) status is = inr is
failing (RefusedState path refusal) status is = inl is
failing (RefusedJournal path refusal) status is = inl is
failing (NoTeam name) status is = inl is
failing (RefusedTeam name cause) status is = inl is
failing (TeamDiffers differing team) status is = inl is
failing SliceDiffers status is = inl is
failing ReadFault status is = inr is
failing WriteFault status is = inr is
failing TooManyLines status is = inr is
failing OutOfMemory status is = inr is
failing Output status is = inr is
failing (Bind port why) status is = inr is
failing Accept status is = inr is
failing (Hub folder failure) status is = inr is
failing (NotWritten its_kind path why) status is = inr is
failing SetupOutOfMemory status is = inl is
failing OutputOutOfMemory status is = inl is

-- No task both succeeds and fails.
pub not_both : (status : ℕ) → IsDone status → IsFailure status → ⊥
not_both status (inl is) (inl fails) = omega (arith, is, fails)
not_both status (inl is) (inr fails) = omega (arith, is, fails)
not_both status (inr is) (inl fails) = omega (arith, is, fails)
not_both status (inr is) (inr fails) = omega (arith, is, fails)

-- The status of the outcome of a job is that of a task that succeeded.
pub succeeds : (gives : ReadsFile) (job : Job) (io : Streams) (status : ℕ) → IsJobOutcome gives job io status → IsDone status
succeeds gives demo io status (limits, slots, is) = inl is.3
succeeds gives (replay def lefs state number journal lines save export) io status (limits, slots, is) = inl is.1
succeeds gives (serve def lefs state number port connections save export) io status (limits, slots, is) = inl is.1
succeeds gives (hub def lefs begin number teams sockets journal) io status (limits, slots, is) = inl is.1
succeeds gives (check def lefs state number committed) io status (limits, slots, is) = is.2.done
succeeds gives (describe def lefs state number) io status (limits, slots, is) = is.shown.2.done
succeeds gives (wirelength def lefs state number) io status (limits, slots, is) = inl is.3
succeeds gives (repair def lefs state number teams options files) io status (limits, slots, is) = is.done.committed_checked.done
succeeds gives (improve def lefs number teams within options files) io status (limits, slots, is) = is.done.committed_checked.done

-- An outcome with this status is one with an equal status.
pub ends_with_status : (gives : ReadsFile) (job : Job) (io : Streams) (given status : ℕ) → status ≡ given → IsJobOutcome gives job io given → IsJobOutcome gives job io status
ends_with_status gives job io given status same is = subst (λ (n : ℕ). IsJobOutcome gives job io n) (sym same) is

-- Only a check, a description, a repair or an improvement has status 4.
pub checked : (gives : ReadsFile) (task : Task) (io : Streams) (status : ℕ) → IsJobOutcome gives (as_job task) io status → status ≡ 4 → ReadsNone task
checked gives Demo io status (limits, slots, is) four = let zero : status ≡ 0 = is.3 in absurd (omega (arith, zero, four))
checked gives (Replay def lefs state number journal lines save export) io status (limits, slots, is) four =
    let zero : status ≡ 0 = is.1 in absurd (omega (arith, zero, four))
checked gives (Serve def lefs state number port connections save export) io status (limits, slots, is) four =
    let zero : status ≡ 0 = is.1 in absurd (omega (arith, zero, four))
checked gives (HubTask def lefs begin number teams sockets journal) io status (limits, slots, is) four =
    let zero : status ≡ 0 = is.1 in absurd (omega (arith, zero, four))
checked gives (Check def lefs state number committed) io status is four = tt
checked gives (Describe def lefs state number) io status is four = tt
checked gives (Wirelength def lefs state number) io status is four = tt
checked gives (Repair def lefs state number teams options files) io status is four = tt
checked gives (Improve def lefs number teams within options files) io status is four = tt

-- A task that only writes touches nothing if it writes nothing.
pub stops_untouched : (r : Result ℕ Fault) (nothing work also more : Fault → Type 0) (same untouched : Type 0)
    → IfErr r (λ fault. ((nothing fault × same) ⊎ work fault) × also fault) → (same → untouched) → ((fault : Fault) → also fault → more fault)
    → IfErr r (λ fault. ((nothing fault × untouched) ⊎ work fault) × more fault)
stops_untouched r nothing work also more same untouched is keeps gives =
    IfErr-weaker r _ _ (λ fault both. (by fault both.0, gives fault both.1)) is
  where
    by : (fault : Fault) → (nothing fault × same) ⊎ work fault → (nothing fault × untouched) ⊎ work fault
    by fault (inl none) = inl (none.0, keeps none.1)
    by fault (inr some) = inr some

-- ---- jobs on lines

-- Why a job on lines fails, with equal limits and paths.
pub undone_at : (limits limits' : Limits) (gives : ReadsFile) (def def' : List ℕ) (lefs lefs' : List (List ℕ)) (state state' journal save save' export export' : Option (List ℕ))
    (why : FloorState → Fault → Streams → Type 0) (Work : FloorState → FloorState → Streams → Type 0) (io : Streams) (r : Result ℕ Fault) (also : Fault → Type 0)
    → def ≡ def' → lefs ≡ lefs' → state ≡ state' → limits ≡ limits' → save ≡ save' → export ≡ export'
    → IfErr r (λ fault. IsUndone limits gives def lefs state journal save export why Work fault io × also fault)
    → IfErr r (λ fault. IsUndone limits' gives def' lefs' state' journal save' export' why Work fault io × also fault)
undone_at limits limits' gives def def' lefs lefs' state state' journal save save' export export' why Work io r also same_def same_lefs same_state same_limits same_save same_export fails =
    subst (λ (it : Limits). IfErr r (λ fault. IsUndone it gives def' lefs' state' journal save' export' why Work fault io × also fault)) same_limits
    (subst (λ (it : List ℕ). IfErr r (λ fault. IsUndone limits gives it lefs' state' journal save' export' why Work fault io × also fault)) same_def
    (subst (λ (it : List (List ℕ)). IfErr r (λ fault. IsUndone limits gives def it state' journal save' export' why Work fault io × also fault)) same_lefs
    (subst (λ (it : Option (List ℕ)). IfErr r (λ fault. IsUndone limits gives def lefs it journal save' export' why Work fault io × also fault)) same_state
    (subst (λ (it : Option (List ℕ)). IfErr r (λ fault. IsUndone limits gives def lefs state journal it export' why Work fault io × also fault)) same_save
    (subst (λ (it : Option (List ℕ)). IfErr r (λ fault. IsUndone limits gives def lefs state journal save it why Work fault io × also fault)) same_export fails)))))

-- ---- hubs

-- A failure of a hub blames none of these devices.
failure_blames : (kept reader writer export service sound : Type 0) (fault : Fault) → IsHubFailure fault
    → BlamesDevices fault kept reader writer export service sound
failure_blames kept reader writer export service sound (Refused file its) is = absurd is
failure_blames kept reader writer export service sound (File file why) is = absurd is
failure_blames kept reader writer export service sound (RefusedState path its) is = absurd is
failure_blames kept reader writer export service sound (RefusedJournal path its) is = absurd is
failure_blames kept reader writer export service sound (NoTeam name) is = absurd is
failure_blames kept reader writer export service sound (RefusedTeam name cause) is = absurd is
failure_blames kept reader writer export service sound (TeamDiffers differing team) is = absurd is
failure_blames kept reader writer export service sound SliceDiffers is = absurd is
failure_blames kept reader writer export service sound ReadFault is = absurd is
failure_blames kept reader writer export service sound WriteFault is = absurd is
failure_blames kept reader writer export service sound TooManyLines is = absurd is
failure_blames kept reader writer export service sound OutOfMemory is = absurd is
failure_blames kept reader writer export service sound Output is = absurd is
failure_blames kept reader writer export service sound (Bind port why) is = absurd is
failure_blames kept reader writer export service sound Accept is = absurd is
failure_blames kept reader writer export service sound (Hub folder why) is = record {
  early = λ of. absurd of;
  reading = λ same. absurd (subst IsHubFailure same tt);
  writing = λ of. absurd of;
  exporting = λ of. absurd of;
  serving = λ of. absurd of;
  sparing = λ of. absurd of;
}
failure_blames kept reader writer export service sound (NotWritten its_kind path why) is = absurd is
failure_blames kept reader writer export service sound SetupOutOfMemory is = absurd is
failure_blames kept reader writer export service sound OutputOutOfMemory is = absurd is

-- Nor does a fault before a client is served.
pub hub_blames : (kept reader writer export service sound : Type 0) (fault : Fault) → kept → sound → IsOfHub fault
    → BlamesDevices fault kept reader writer export service sound
hub_blames kept reader writer export service sound fault keeps sounds (inl early) =
    early_blames kept reader writer export service sound fault keeps sounds early
hub_blames kept reader writer export service sound fault keeps sounds (inr failure) =
    failure_blames kept reader writer export service sound fault failure

-- ---- jobs on a floor

-- A job on the files of an input requests them.
pub requested_at : (limits : Limits) (def : List ℕ) (lefs : List (List ℕ)) (state : Option (List ℕ)) (teams : List (List ℕ)) (files : RepairPaths) (input : DesignInput)
    (names : List (Bor (List ℕ))) (job : FloorJob) → IsInputAt limits def lefs state input → job.input ≡ input → job.teams.now ≡ names → map (λ team. team.now) names ≡ teams
    → repair_paths job.files ≡ files → request_of job ≡ request_at limits def lefs state teams files
requested_at limits def lefs state teams files input names job i same listed named written =
    ap (λ (x : DesignInput). request_at x.limits x.def.now (map (λ lef. lef.now) x.lefs.now) (path_of x.state) (map (λ team. team.now) job.teams.now) (repair_paths job.files)) same
    ∙ ap (λ (x : Limits). request_at x input.def.now (map (λ lef. lef.now) input.lefs.now) (path_of input.state) (map (λ team. team.now) job.teams.now) (repair_paths job.files)) i.limits_are
    ∙ ap (λ (x : List ℕ). request_at limits x (map (λ lef. lef.now) input.lefs.now) (path_of input.state) (map (λ team. team.now) job.teams.now) (repair_paths job.files)) i.def_is
    ∙ ap (λ (x : List (List ℕ)). request_at limits def x (path_of input.state) (map (λ team. team.now) job.teams.now) (repair_paths job.files)) i.lefs_are
    ∙ ap (λ (x : Option (List ℕ)). request_at limits def lefs x (map (λ team. team.now) job.teams.now) (repair_paths job.files)) i.state_is
    ∙ ap (λ (x : List (Bor (List ℕ))). request_at limits def lefs state (map (λ team. team.now) x) (repair_paths job.files)) listed
    ∙ ap (λ (x : List (List ℕ)). request_at limits def lefs state x (repair_paths job.files)) named
    ∙ ap (λ (x : RepairPaths). request_at limits def lefs state teams x) written

-- A task is done if it is for an equal request.
pub done_at : {Opened : Type 0} (work : Means Opened) (gives : ReadsFile) (a b : Request) → a ≡ b → (r : Result ℕ Fault) (before after : Option (List ℕ))
    (old new : Option (List Put)) → IfOk r (IsTaskDone work gives a before after old new) → IfOk r (IsTaskDone work gives b before after old new)
done_at work gives a b same r before after old new is = subst (λ (q : Request). IfOk r (IsTaskDone work gives q before after old new)) same is

-- The same for a task that is not done, with a further claim about its fault.
pub not_done_at : {Opened : Type 0} (work : Means Opened) (gives : ReadsFile) (a b : Request) → a ≡ b → (r : Result ℕ Fault) (before after : Option (List ℕ))
    (old new : Option (List Put)) (kept : Type 0) (write_before write_now file_before file_now : Bool)
    → IfErr r (λ fault. IsTaskNotDone work gives a before after old new fault × BlamesOutputs fault kept write_before write_now file_before file_now)
    → IfErr r (λ fault. IsTaskNotDone work gives b before after old new fault × BlamesOutputs fault kept write_before write_now file_before file_now)
not_done_at work gives a b same r before after old new kept write_before write_now file_before file_now is =
    IfErr-weaker r _ _ (λ fault both. (subst (λ (q : Request). IsTaskNotDone work gives q before after old new fault) same both.0, both.1)) is

-- No device has failed if none of these has.
pub sound_by : (old new : Io) → new.put_failed ≡ old.put_failed → new.service_failed ≡ old.service_failed → new.read_failed ≡ old.read_failed
    → new.write_failed ≡ old.write_failed → IsSound old new
sound_by old new puts services reads writes = record { exports = puts; services = services; reader = reads; writer = writes }
