use Rattle.std.proofs.Common.{take}
use Rattle.lf_cells.specs.Cells.{cells_of}
use Rattle.lf_repair_bounds.specs.Gaps.{AreGaps, place_at, placed_team}
use Rattle.lf_repair_bounds.proofs.gaps.widest_gaps.Given as goal

-- the gaps of the cells so far
abbrev pub invariant-loop-own : goal.invariant-loop-own
invariant-loop-own l =
    AreGaps (placed_team l.placement.frame l.team l.padding.sites (cells_of l.placement.cells l.team)) (place_at l.places) (take l.own-index l.owns) l.gaps.items
