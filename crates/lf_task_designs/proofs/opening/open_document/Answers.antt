use Rattle.std.proofs.Common.{inl, refl}
use Rattle.lf_def.specs.Contents.{contents}
use Rattle.lf_task_faults.specs.declared.faults.TextKind.TheVariants.{Def}
use Rattle.lf_frame.specs.Conflicts.{no_fence}
use Rattle.lf_task_designs.specs.Designs.{IsLoadRefusal}
use Rattle.lf_task_designs.proofs.DesignSteps.{reported_as}
use Rattle.lf_task_designs.proofs.opening.open_document.Goals as goal

pub returns-in-Err-clause-err : goal.returns-in-Err-clause-err
returns-in-Err-clause-err c =
    reported_as Def c.args.path.now c.args.text.now (IsLoadRefusal c.args.limits c.args.library.now (contents c.args.document.now)) c.into_load_fault-fault.result no_fence c.text_refusal.result
    (rw (c.def_file.ensures.kind, c.def_file.ensures.path) at c.text_refusal.ensures) (inl c.into_load_fault-fault.ensures, rw c.into_load_fault-fault.ensures refl) (inl refl, refl)
