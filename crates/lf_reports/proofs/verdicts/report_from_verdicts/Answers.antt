use Rattle.std.proofs.Common.{◌≡◌, ◌∙◌, List, sym, subst, length, map}
use Rattle.std.specs.Prelude.{All}
use Rattle.std.proofs.Math.ListN.{length-map}
use Rattle.lf_rules.specs.declared.report_types.Violation.{Violation}
use Rattle.lf_rules.specs.Reports.{HasPrintableNames}
use Rattle.lf_reports.specs.Reports.{with_byte_name}
use Rattle.lf_reports.proofs.CleanLemmas.{all_named, all_reported, report_is}
use Rattle.lf_reports.proofs.verdicts.report_from_verdicts.Goals as goal

pub returns-clause-report : goal.returns-clause-report
returns-clause-report c = λ l f padding verdicts.
    let cells = map with_byte_name c.args.cells.now in
    let count : length c.args.cells.now ≡ length cells = sym (length-map c.args.cells.now with_byte_name) in
    report_is l f padding cells (length c.args.cells.now) c.unplaced_in.result c.from_vec.result count c.unplaced_in.ensures (c.from_vec.ensures ∙ c.in_ok-violations.ensures {u = tt} l f padding verdicts)

pub returns-clause-reported : goal.returns-clause-reported
returns-clause-reported c = λ l f padding verdicts listed.
    let cells = map with_byte_name c.args.cells.now in
    subst (λ (violations : List Violation). All HasPrintableNames violations) (sym (c.from_vec.ensures ∙ c.in_ok-violations.ensures {u = tt} l f padding verdicts)) (all_reported l f padding cells (all_named f c.args.cells.now listed))
