use Rattle.std.proofs.Common.{inl, refl}
use Rattle.lf_wire_nets.specs.NetTexts.{RefusesNets, nets_of}
use Rattle.lf_task_faults.specs.declared.faults.TextKind.TheVariants.{Def}
use Rattle.lf_task_designs.proofs.DesignSteps.{reported_for}
use Rattle.lf_task_wires.proofs.second_reading.nets_in.Goals as goal

pub returns-in-Err-clause-err : goal.returns-in-Err-clause-err
returns-in-Err-clause-err c =
    reported_for Def c.args.path.now c.args.text.now (λ refusal. RefusesNets refusal (nets_of c.args.text.now)) c.in-Err.fault c.text_refusal.result
    (rw (c.def_file.ensures.kind, c.def_file.ensures.path) at c.text_refusal.ensures) c.in-Err.ensures.fault (inl refl)
