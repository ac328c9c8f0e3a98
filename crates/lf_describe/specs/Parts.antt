-- The parts of a description, by what the program found of the design.
use Rattle.std.specs.Prelude.{◌≡◌, ℕ, List, [], ◌∷◌, length, map, flat_map, is_none, is_some, count_by}
use Rattle.std.specs.List.{enumerate_from}
use Rattle.serde_json.specs.Data.{Data}
use Rattle.lf_rules.specs.declared.report_types.Listed.{Listed}
use Rattle.lf_rules.specs.declared.report_types.Report.{Report}
use Rattle.lf_reports.specs.Reports.{with_byte_name, verdict_at}
use Rattle.lf_describe.specs.declared.described.DescribedDesign.{DescribedDesign}
use Rattle.lf_describe.specs.declared.line_kinds.TheConstants.{PARTS}
use Rattle.lf_describe.specs.declared.line_kinds.Part.{Part}
use Rattle.lf_describe.specs.declared.line_kinds.Part.TheVariants.{Design, Rows, Fences, Obstacles, Soft, Cells, Density, Total}
use Rattle.lf_describe.specs.Description.{cell_data, density_data, design_data, fence_data, line_text, obstacle_lines, row_data, soft_data, total_data}

-- The names of the FIXED components.
abbrev pub fixed_component_names : DescribedDesign → List (List ℕ)
fixed_component_names reported = map (λ n. n.now) reported.names.now

-- The movable cells.
abbrev pub described_cells : DescribedDesign → List (Listed (List ℕ))
described_cells reported = map with_byte_name reported.cells.now

-- The lines of a part.
abbrev pub part_lines : DescribedDesign → Part → List Data
part_lines reported Design = design_data reported.frame.now ∷ []
part_lines reported Rows = map (row_data reported.frame.now) reported.frame.now.rows
part_lines reported Fences = map fence_data reported.frame.now.teams
part_lines reported Obstacles = obstacle_lines (fixed_component_names reported) reported.frame.now.obstacles
part_lines reported Soft = map soft_data reported.frame.now.soft
part_lines reported Cells = map (λ e. cell_data reported.frame.now (described_cells reported) e.1
    (verdict_at reported.verdicts.now e.0)) (enumerate_from 0 (described_cells reported))
part_lines reported Density = density_data reported.density ∷ []
part_lines reported Total = total_data reported.frame.now (length (described_cells reported))
    (count_by is_some reported.verdicts.now) (count_by (λ c. is_none c.place) (described_cells reported)) ∷ []

-- The text of a part.
abbrev pub part_text : DescribedDesign → Part → List ℕ
part_text reported part = flat_map line_text (part_lines reported part)

-- The text of all parts, in order.
unfoldable pub parts_text : DescribedDesign → List ℕ
parts_text reported = flat_map (part_text reported) PARTS

-- The report has the same count of unplaced cells, and a violation for each verdict that names a
-- broken rule.
pub record Counts (reported : DescribedDesign) (report : Report) : Type 0 where
  pub illegal : count_by is_some reported.verdicts.now ≡ length report.violations
  pub unplaced : count_by (λ c. is_none c.place) (described_cells reported) ≡ report.unplaced
