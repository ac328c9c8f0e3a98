use Rattle.std.proofs.Common.{refl}
use Rattle.lf_app.proofs.Running.{by_fault}
use Rattle.lf_app.proofs.program.refuse_for_memory.Goals as goal

pub returns-clause-run : goal.returns-clause-run
returns-clause-run g c = record {
  ends = by_fault _ _ _ _ _ _ c.report_fault-exit.result c.report_fault-exit.ensures.ends;
  spares = refl;
}
