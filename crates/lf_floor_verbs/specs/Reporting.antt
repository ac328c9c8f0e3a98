-- The violations of a team's cells, one by one; no public clause cites it.
use Rattle.std.specs.Prelude.{ℕ, List, Option, map, option_and_then}
use Rattle.lf_rules.specs.declared.report_types.Violation.{Violation}
use Rattle.lf_cells.specs.declared.cell.Cell.{Cell}
use Rattle.lf_proto.specs.ReportText.{violation_in}
use Rattle.lf_floor_model.specs.Teams.{TeamRules}
use Rattle.lf_floor_model.specs.Changes.{broken_where}

-- the names of a team's cells
abbrev pub names_of : List Cell → List (List ℕ)
names_of cells = map (λ c. c.name) cells

-- the violation of the cell at that position at its working place; None if it breaks no rule or is
-- unplaced
abbrev pub violation_where : TeamRules → List Cell → ℕ → Option Violation
violation_where t cells own = option_and_then (violation_in (names_of cells) own) (broken_where t cells own)
