use Rattle.std.proofs.Common.{◌≡◌, ◌++◌, List, false}
use Rattle.std.specs.Prelude.{filter_map}
use Rattle.std.specs.List.{range_with_len}
use Rattle.lf_rules.specs.declared.report_types.Violation.{Violation}
use Rattle.lf_proto.specs.ReportText.{violations_text}
use Rattle.lf_task_designs.proofs.Reporting.{reported_by}
use Rattle.lf_task_designs.proofs.check_report.put_cells.Given as goal

-- The text so far, followed by the text of any other violations, is the text of the violations of
-- the cells so far and of the others.
abbrev pub invariant-loop-own : goal.invariant-loop-own
invariant-loop-own l =
    (rest : List Violation) → l.text.items ++ violations_text l.later rest
    ≡ l.fn.text.items ++ violations_text false (filter_map (reported_by l.loaded.cells l.verdicts) (range_with_len 0 l.own) ++ rest)
