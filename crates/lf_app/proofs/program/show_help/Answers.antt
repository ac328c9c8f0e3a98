use Rattle.std.proofs.Common.{inl, inr, refl}
use Rattle.lf_app.proofs.Running.{by_fault}
use Rattle.lf_app.proofs.program.show_help.Goals as goal

pub returns-in-Ok-clause-run : goal.returns-in-Ok-clause-run
returns-in-Ok-clause-run g c = record {
  shown = inl (record { written = c.in-Ok.ensures.ok; silent = refl; status_is = refl });
  spares = rw c.in-Ok.ensures.held refl;
}

pub returns-in-Err-clause-run : goal.returns-in-Err-clause-run
returns-in-Err-clause-run g c = record {
  shown = inr (record {
    size = c.in-Err.ensures.prefix.0;
    written = c.in-Err.ensures.prefix.1;
    failed = c.in-Err.ensures.failed;
    ends = by_fault _ _ _ _ _ _ c.report_fault-exit.result c.report_fault-exit.ensures.ends;
  });
  spares = rw c.in-Err.ensures.held refl;
}
