use Rattle.std.proofs.Common.{inl, refl}
use Rattle.lf_def.specs.Contents.{contents}
use Rattle.lf_task_faults.specs.declared.faults.TextKind.TheVariants.{Def}
use Rattle.lf_task_designs.specs.Designs.{IsLoadRefusal}
use Rattle.lf_task_designs.proofs.DesignSteps.{reported_as}
use Rattle.lf_task_designs.proofs.loading.load_document.Goals as goal

pub returns-in-Err-clause-err : goal.returns-in-Err-clause-err
returns-in-Err-clause-err c =
    let overlapping_one = c.load_fault.ensures in
    reported_as Def c.args.path.now c.args.text.now (IsLoadRefusal c.args.limits c.args.library.now (contents c.args.document.now)) c.in-Err.fault overlapping_one.0 c.load_fault.result
    overlapping_one.2 (c.in-Err.ensures.err, overlapping_one.1) (inl refl, refl)
