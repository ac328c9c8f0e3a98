-- A cell whose best place is searched for.
use Rattle.std.specs.Prelude.{ℕ, List}
use Rattle.lf_floorplan.specs.declared.frame.Frame.{Frame}
use Rattle.lf_floorplan.specs.declared.macros.Macro.{Macro}
use Rattle.lf_units.specs.declared.placed.Placed.{Placed}
use Rattle.lf_rules.specs.Choice.{PlacementQuery}

-- the cell of a team with this padding, in core sites, by its macro, regarded as unplaced among the
-- team's other placed cells
abbrev pub query_without : Frame → ℕ → ℕ → Macro → List Placed → PlacementQuery
query_without f team padding m others = record { frame = f; team = team; padding = padding; mac = m; others = others }
