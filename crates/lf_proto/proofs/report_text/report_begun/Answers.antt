use Rattle.std.proofs.Common.{◌∙◌, ap, arith}
use Rattle.serde_json.specs.Written.{has_float, compact_text}
use Rattle.lf_proto.proofs.Reports.{without_brackets}
use Rattle.lf_proto.proofs.report_text.report_begun.Goals as goal

pub returns : goal.returns
returns c =
    let is = c.in_ok-empty_value.ensures in
    c.truncate.ensures.items ∙ without_brackets c.into_bytes-text.result.items c.len.result c.args.cells c.args.unplaced (omega (arith, c.len.ensures, c.into_bytes-text.result.ok))
    (ap (λ v. v.items) c.into_bytes-text.ensures.value ∙ (c.in_ok-to_string.ensures.text (ap has_float is) ∙ ap compact_text is))
