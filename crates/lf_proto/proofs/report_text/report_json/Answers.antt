use Rattle.std.proofs.Common.{◌∙◌, ◌++◌, ◌∷◌, [], sym, append_assoc}
use Rattle.std.proofs.lemmas.Result.{IfOk-weaker}
use Rattle.lf_proto.proofs.Reports.{in_parts}
use Rattle.lf_proto.proofs.report_text.report_json.Goals as goal

pub returns : goal.returns
returns c =
    let written = c.put_violations.new.text.items in
    IfOk-weaker c.report_closed.result _ _
    (λ closed is. in_parts c.args.report.now c.as_slice.result.now c.in_ok-text.text.items (written ++ 93 ∷ []) closed c.as_slice.ensures
    c.in_ok-text.ensures c.in_ok-put_violations.ensures (is ∙ sym (append_assoc written (93 ∷ []) (125 ∷ []))))
    c.report_closed.ensures
