use Rattle.std.proofs.Common.{inl, refl}
use Rattle.lf_lef.specs.Library.{RefusesLef, library_after}
use Rattle.lf_task_faults.specs.declared.faults.TextKind.TheVariants.{Lef}
use Rattle.lf_task_designs.proofs.DesignSteps.{reported_for}
use Rattle.lf_task_designs.proofs.loading.add_text.Goals as goal

pub returns-in-Err-clause-err : goal.returns-in-Err-clause-err
returns-in-Err-clause-err c =
    reported_for Lef c.args.path.now c.args.text.now (λ refusal. RefusesLef refusal (library_after c.args.library.now c.args.text.now)) c.in-Err.fault c.text_refusal.result
    (rw (c.lef_file.ensures.kind, c.lef_file.ensures.path) at c.text_refusal.ensures) c.in-Err.ensures.fault (inl refl)
