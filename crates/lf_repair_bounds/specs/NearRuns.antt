-- Runs in rows near a point. No public clause cites this module.
use Rattle.std.specs.Prelude.{◌≡◌, ◌⊎◌, ℕ, ◌+◌, ◌≤◌, ◌-ℤ◌, List, [], All, Any}
use Rattle.std.specs.Int.RustNames.{unsigned_abs}
use Rattle.lf_units.specs.declared.geometry.Point.{Point}
use Rattle.lf_repair_bounds.specs.declared.near_runs.RowRun.{RowRun}

-- the distance of the row from the point along y
abbrev pub run_distance : Point → RowRun → ℕ
run_distance target run = unsigned_abs (run.y -ℤ target.y)

-- the least of the distances
pub record IsLeastDistance (target : Point) (runs : List RowRun) (least : ℕ) : Type 0 where
  pub is_one : (runs ≡ []) ⊎ Any (λ run. run_distance target run ≡ least) runs
  pub no_less : All (λ run. least ≤ run_distance target run) runs

-- no row is nearer by more than `far`
abbrev pub IsNearRowRun : Point → ℕ → List RowRun → RowRun → Type 0
IsNearRowRun target far runs run = All (λ other. run_distance target run ≤ (run_distance target other + far)) runs

-- the widest of the near runs; 0 if there is none
pub record IsWidestNear (target : Point) (far : ℕ) (runs : List RowRun) (widest : ℕ) : Type 0 where
  pub is_one : (widest ≡ 0) ⊎ Any (λ run. IsNearRowRun target far runs run × (run.width ≡ widest)) runs
  pub no_wider : All (λ run. IsNearRowRun target far runs run → run.width ≤ widest) runs
