use Rattle.std.proofs.Common.{◌≡◌, ◌++◌, false, drop}
use Rattle.lf_proto.specs.ReportText.{violations_text}
use Rattle.lf_proto.proofs.report_text.put_violations.Given as goal

-- the text written so far, followed by the text of the remaining violations
abbrev pub invariant-loop-violation : goal.invariant-loop-violation
invariant-loop-violation l =
    l.text.items ++ violations_text l.later (drop l.violation-index l.violations) ≡ l.fn.text.items ++ violations_text false l.violations
