use Rattle.std.proofs.Common.{ℕ, ◌<◌}
use Rattle.lf_floorplan.specs.declared.parts.Row.{Row}
use Rattle.lf_floorplan.specs.RowSupport.{Supports}
use Rattle.lf_rules.proofs.rows.is_supported.Given as goal

abbrev pub invariant-loop-sites : goal.invariant-loop-sites
invariant-loop-sites g l = (j : ℕ) → j < l.sites → (s : Row) × Supports (g.N.FrameQuery.of l.near) l.rect l.bottom j s
