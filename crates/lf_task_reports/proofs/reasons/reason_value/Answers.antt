use Rattle.std.proofs.Common.{◌∙◌, ap, sym}
use Rattle.std.proofs.lemmas.Result.{IfOk-weaker}
use Rattle.serde_json.specs.Data.{string}
use Rattle.lf_task_reports.specs.RepairReports.{reason_data}
use Rattle.lf_task_reports.proofs.reasons.reason_value.Goals as goal

pub returns-in-Some : goal.returns-in-Some
returns-in-Some c =
    IfOk-weaker c.text_value.result _ _ (λ v is. is ∙ ap string c.words_of.ensures ∙ sym (ap reason_data c.in-Some.is))
    c.text_value.ensures
