use Rattle.std.proofs.Common.{◌≡◌, ◌++◌, List, false}
use Rattle.std.specs.Prelude.{filter_map}
use Rattle.std.specs.List.{range_with_len}
use Rattle.lf_rules.specs.declared.report_types.Violation.{Violation}
use Rattle.lf_rules.specs.Legalizer.{Legalizer}
use Rattle.lf_cells.specs.Cells.{cells_of}
use Rattle.lf_proto.specs.ReportText.{violations_text}
use Rattle.lf_floor_model.specs.Teams.{team_rules}
use Rattle.lf_floor_verbs.specs.Reporting.{violation_where}
use Rattle.lf_floor_verbs.proofs.report.put_cells.Given as goal

-- the text written so far, followed by the text of any others, is the text of the violations of the
-- cells so far and then the others
abbrev pub invariant-loop-id : goal.invariant-loop-id
invariant-loop-id l =
    (lz : Legalizer) (rest : List Violation) → l.text.items ++ violations_text l.later rest
    ≡ l.fn.text.items ++ violations_text false
    (filter_map (violation_where (team_rules lz l.placement.frame l.number l.padding.sites) (cells_of l.placement.cells l.number)) (range_with_len 0 l.id-index) ++ rest)
