-- A task over std's reader and writers, which its devices hold.
use Rattle.std.proofs.Common.{◌≡◌, Bool, ℕ, List, Option, ap, false, not, sym}
use Rattle.lf_cli.specs.Command.{Job}
use Rattle.lf_task_faults.specs.declared.faults.TaskExit.{TaskExit}
use Rattle.lf_task_designs.specs.Designs.{ReadsFile}
use Rattle.lf_task_faults.specs.Faults.{BlamesDevices, IsEarly}
use Rattle.lf_app.specs.Exits.{EndsTask, IsJobFault, IsJobOutcome}
use Rattle.lf_task_serve.specs.Exits.{streams_alone}

-- A fault of a job over devices is a fault over the readers and writers that they hold.
pub std_fault : (gives : ReadsFile) (job : Job) (a a' b b' c c' d d' e e' f f' : Option (List ℕ)) (kept kept' reader writer export service sound : Type 0)
    (failed : Bool) (exit : TaskExit)
    → EndsTask (λ fault. IsJobFault gives job fault (streams_alone a b c d) × BlamesDevices fault kept reader writer export service sound) e f failed exit
    → a ≡ a' → b ≡ b' → c ≡ c' → d ≡ d' → e ≡ e' → f ≡ f' → (kept → kept')
    → EndsTask (λ fault. IsJobFault gives job fault (streams_alone a' b' c' d') × (IsEarly fault → kept')) e' f' (not exit.is_printed) exit
std_fault gives job a a' b b' c c' d d' e e' f f' kept kept' reader writer export service sound failed exit ends a_is b_is c_is d_is e_is f_is keeps = (
  ends.0,
  (rw (sym a_is, sym b_is, sym c_is, sym d_is) ends.1.0, λ early. keeps (ends.1.1.early early)),
  record { status = ends.2.status; reported = rw (sym e_is, sym f_is) ends.2.reported; unreported = λ (none : exit.is_printed ≡ false). ap not none },
)

-- An outcome over devices is an outcome over the readers and writers that they hold.
pub std_outcome : (gives : ReadsFile) (job : Job) (a a' b b' c c' d d' : Option (List ℕ)) (status : ℕ) → IsJobOutcome gives job (streams_alone a b c d) status
    → a ≡ a' → b ≡ b' → c ≡ c' → d ≡ d' → IsJobOutcome gives job (streams_alone a' b' c' d') status
std_outcome gives job a a' b b' c c' d d' status is a_is b_is c_is d_is = rw (sym a_is, sym b_is, sym c_is, sym d_is) is

-- The same for the end of a task with a fault.
pub std_ends : (gives : ReadsFile) (job : Job) (a a' b b' c c' d d' e e' f f' : Option (List ℕ)) (kept kept' : Type 0) (failed : Bool) (exit : TaskExit)
    → EndsTask (λ fault. IsJobFault gives job fault (streams_alone a b c d) × (IsEarly fault → kept)) e f failed exit
    → a ≡ a' → b ≡ b' → c ≡ c' → d ≡ d' → e ≡ e' → f ≡ f' → (kept → kept')
    → EndsTask (λ fault. IsJobFault gives job fault (streams_alone a' b' c' d') × (IsEarly fault → kept')) e' f' failed exit
std_ends gives job a a' b b' c c' d d' e e' f f' kept kept' failed exit ends a_is b_is c_is d_is e_is f_is keeps = (
  ends.0,
  (rw (sym a_is, sym b_is, sym c_is, sym d_is) ends.1.0, λ early. keeps (ends.1.1 early)),
  record { status = ends.2.status; reported = rw (sym e_is, sym f_is) ends.2.reported; unreported = ends.2.unreported },
)
