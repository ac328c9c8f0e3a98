use Rattle.std.proofs.Common.{◌∙◌, ap}
use Rattle.std.proofs.lemmas.Result.{IfOk-weaker}
use Rattle.serde_json.specs.Written.{has_float, compact_text}
use Rattle.lf_proto.proofs.Reports.{no_float}
use Rattle.lf_proto.proofs.report_text.violation_string.Goals as goal

pub returns : goal.returns
returns c =
    let is = c.in_ok-violation_value.ensures in
    IfOk-weaker c.to_string.result _ _ (λ text h. h (ap has_float is ∙ no_float c.args.violation.now.cell c.args.violation.now.other c.args.violation.now.rule) ∙ ap compact_text is) c.to_string.ensures.text
