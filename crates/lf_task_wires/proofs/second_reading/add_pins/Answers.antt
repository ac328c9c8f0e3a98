use Rattle.std.proofs.Common.{inl, refl}
use Rattle.lf_wire_nets.specs.LibraryPins.{RefusesPins, pins_after}
use Rattle.lf_task_faults.specs.declared.faults.TextKind.TheVariants.{Lef}
use Rattle.lf_task_designs.proofs.DesignSteps.{reported_for}
use Rattle.lf_task_wires.proofs.second_reading.add_pins.Goals as goal

pub returns-in-Err-clause-err : goal.returns-in-Err-clause-err
returns-in-Err-clause-err c =
    reported_for Lef c.args.path.now c.args.text.now (λ refusal. RefusesPins refusal (pins_after c.args.macros.now c.args.text.now)) c.in-Err.fault c.text_refusal.result
    (rw (c.lef_file.ensures.kind, c.lef_file.ensures.path) at c.text_refusal.ensures) c.in-Err.ensures.fault (inl refl)
