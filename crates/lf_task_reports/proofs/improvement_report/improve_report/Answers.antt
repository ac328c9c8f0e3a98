use Rattle.std.proofs.Common.{◌≡◌, false, refl, subst, sym}
use Rattle.serde_json.specs.Data.{Data}
use Rattle.serde_json.specs.Written.{has_float}
use Rattle.lf_task_reports.proofs.improvement_report.improve_report.Goals as goal

pub push_line-requires : goal.push_line-requires
push_line-requires c = subst (λ (line : Data). has_float line ≡ false) (sym c.in_ok-value.ensures) refl
