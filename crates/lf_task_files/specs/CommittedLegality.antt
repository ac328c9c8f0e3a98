-- The committed design of a floor as it is checked; no public clause cites it.
use Rattle.std.specs.Prelude.{ℕ, List}
use Rattle.lf_floorplan.specs.declared.frame.Frame.{Frame}
use Rattle.lf_rules.specs.declared.report_types.Listed.{Listed}
use Rattle.lf_rules.specs.Team.{Member, IsLegalCell}
use Rattle.lf_cells.specs.declared.cell.Cell.{Cell}

-- The cell of the team of this number, as listed at its committed place.
abbrev pub committed_listed : ℕ → Cell → Listed (List ℕ)
committed_listed number c = record { name = c.name; team = number; mac = c.mac; place = c.committed }

-- Each cell of the team is placed, and team-legal among the team's other cells; padding is ignored.
abbrev pub AreAllLegal : Frame → ℕ → List Member → Type 0
AreAllLegal f team cells = (own : ℕ) → IsLegalCell f team 0 cells own
