-- What a check of a design writes.
use Rattle.std.specs.Prelude.{ℕ, List, [], ◌∷◌, ◌++◌, Option, map, take}
use Rattle.std.specs.Io.KnownBytes.{Appends}
use Rattle.lf_floorplan.specs.declared.loaded.LoadedCell.{LoadedCell}
use Rattle.lf_floorplan.specs.declared.loaded.Loaded.{Loaded}
use Rattle.lf_floorplan.specs.declared.place.Place.{Place}
use Rattle.lf_rules.specs.declared.report_types.Report.{Report}
use Rattle.lf_rules.specs.FullyLegal.{IsFullyLegal, design_cells_at}
use Rattle.lf_rules.specs.Legalizer.{Legalizer}
use Rattle.lf_reports.specs.Reports.{listed_at, report_of}
use Rattle.lf_proto.specs.ReportText.{report_text}
use Rattle.lf_task_faults.specs.declared.faults.Fault.{Fault}
use Rattle.lf_task_faults.specs.Faults.{IsReportFault}

-- The cells' places in the DEF text, in loading order; `None` if a cell is unplaced there.
abbrev pub def_places : List LoadedCell → List (Option Place)
def_places cells = map (λ cell. cell.place) cells

-- The report of the cells of all teams, each at its place in the DEF text.
abbrev pub design_report : Legalizer → Loaded → Report
design_report l loaded = report_of l loaded.frame 0 (listed_at loaded.cells (def_places loaded.cells))

-- What a check writes: the text of the report, and a line feed.
abbrev pub report_line : Legalizer → Loaded → List ℕ
report_line l loaded = report_text (design_report l loaded) ++ 10 ∷ []

-- The design is fully legal at the places of its DEF text.
abbrev pub IsLegalDesign : Loaded → Type 0
IsLegalDesign loaded = IsFullyLegal loaded.frame (design_cells_at loaded.cells (def_places loaded.cells))

-- A report of the design is not written, or only a front of it.
pub record IsNotReported (loaded : Loaded) (before after : Option (List ℕ)) (fault : Fault) : Type 0 where
  pub why : IsReportFault fault
  pub front : (l : Legalizer) → ((n : ℕ) × Appends before after (take n (report_line l loaded)))
