use Rattle.std.proofs.Common.{ℕ, map, subst, sym}
use Rattle.std.specs.Prelude.{All, IfOk}
use Rattle.lf_floorplan.specs.declared.frame.Frame.{Frame}
use Rattle.lf_reports.specs.Reports.{AreVerdicts, IsListed, with_byte_name}
use Rattle.lf_reports.proofs.verdicts.verdicts_over.Goals as goal

pub verdicts_with_plan-requires-clause-listed : goal.verdicts_with_plan-requires-clause-listed
verdicts_with_plan-requires-clause-listed c = subst (λ (f : Frame). All (λ x. IsListed f (with_byte_name x)) c.args.cells.now) (sym c.new.ensures) c.requires.listed

pub returns-clause-each : goal.returns-clause-each
returns-clause-each c = λ l.
    subst (λ (n : ℕ). IfOk c.verdicts_with_plan.result (λ verdicts. AreVerdicts l c.args.frame.now n (map with_byte_name c.args.cells.now) verdicts.items)) c.none.ensures
    (subst (λ (f : Frame). IfOk c.verdicts_with_plan.result (λ verdicts. AreVerdicts l f c.none.result.sites (map with_byte_name c.args.cells.now) verdicts.items)) c.new.ensures
    (c.verdicts_with_plan.ensures.each l))
