-- The content of a report on a design: when it finds no fault in the cells, and the names that it
-- gives cells.
use Rattle.std.specs.Prelude.{◌≡◌, []}
use Rattle.std.specs.Option.{ForSome}
use Rattle.lf_floorplan.specs.Bounds.{IsDesignName}
use Rattle.lf_rules.specs.declared.report_types.Violation.{Violation}
use Rattle.lf_rules.specs.declared.report_types.Report.{Report}

-- The names in the violation are names of a text.
pub record HasPrintableNames (v : Violation) : Type 0 where
  pub cell_printed : IsDesignName v.cell
  pub other_printed : ForSome v.other IsDesignName

-- The report finds no fault in the cells: no cell is unplaced, and no cell breaks a rule.
pub record IsClean (r : Report) : Type 0 where
  pub all_placed : r.unplaced ≡ 0
  pub none_broken : r.violations ≡ []
