-- Tasks over a loaded design.
use Rattle.std.proofs.Common.{◌⊎◌, inr, ℕ}
use Rattle.std.specs.Prelude.{IfErr, IfOk, Result}
use Rattle.std.proofs.lemmas.Result.{IfErr-weaker, IfOk-weaker}
use Rattle.lf_floorplan.specs.declared.loaded.Loaded.{Loaded}
use Rattle.lf_task_faults.specs.declared.faults.Fault.{Fault}

-- The outcome after loading is the outcome of a task over a design.
module _ (IsDesign : Loaded → Type 0) (loaded : Loaded) (design : IsDesign loaded) (r : Result ℕ Fault) where
  pub comes_of : (Comes : Loaded → ℕ → Type 0) → IfOk r (Comes loaded) → IfOk r (λ status. (l : Loaded) × IsDesign l × Comes l status)
  comes_of Comes = IfOk-weaker r (Comes loaded) (λ status. (l : Loaded) × IsDesign l × Comes l status) (λ status is. (loaded, design, is))

  -- A fault after loading is a fault of the whole task.
  pub fails : (no_design also : Fault → Type 0) (why : Loaded → Fault → Type 0) → IfErr r (λ fault. why loaded fault × also fault)
      → IfErr r (λ fault. (no_design fault ⊎ ((l : Loaded) × IsDesign l × why l fault)) × also fault)
  fails no_design also why = IfErr-weaker r (λ fault. why loaded fault × also fault)
      (λ fault. (no_design fault ⊎ ((l : Loaded) × IsDesign l × why l fault)) × also fault)
      (λ fault both. (inr (loaded, design, both.0), both.1))
