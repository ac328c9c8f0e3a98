use Rattle.std.proofs.Common.{ℕ, ◌<◌, get_or}
use Rattle.std.specs.Prelude.{All}
use Rattle.lf_units.specs.Area.{SharesPoint}
use Rattle.lf_floorplan.specs.declared.parts.Team.{Team}
use Rattle.lf_rules.proofs.overlap.is_in_open_ground.Given as goal

abbrev pub invariant-loop-team : goal.invariant-loop-team
invariant-loop-team l = (k : ℕ) (d : Team) → k < l.team-index → All (λ r. SharesPoint l.rect r → ⊥) (get_or l.teams k d).rects
