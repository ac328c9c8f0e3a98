use Rattle.std.proofs.Common.{ℕ, subst, map}
use Rattle.std.specs.Prelude.{IfOk}
use Rattle.lf_floorplan.specs.declared.frame.Frame.{Frame}
use Rattle.lf_reports.specs.Reports.{AreVerdicts, with_byte_name}
use Rattle.lf_describe.proofs.counts.verdicts_of.Goals as goal

pub returns-clause-each : goal.returns-clause-each
returns-clause-each c = λ l.
    subst (λ (n : ℕ). IfOk c.verdicts_with_plan.result (λ verdicts. AreVerdicts l c.args.frame.now n (map with_byte_name c.args.cells.now) verdicts.items)) c.none.ensures
    (subst (λ (f : Frame). IfOk c.verdicts_with_plan.result (λ verdicts. AreVerdicts l f c.none.result.sites (map with_byte_name c.args.cells.now) verdicts.items)) c.new.ensures
    (c.verdicts_with_plan.ensures.each l))
