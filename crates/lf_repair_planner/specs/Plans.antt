-- What makes a plan safe to follow. Lengths are in database units, from the first site of a span.
use Rattle.std.specs.Prelude.{◌≡◌, ◌≢◌, ◌⊎◌, ℕ, ◌+◌, ◌*◌, ◌≤◌, ◌<◌, List, Option, Some, map, length, slice_get, slice_index_or}
use Rattle.lf_repair_planner.specs.declared.free_rows.FreeSpan.{FreeSpan}
use Rattle.lf_repair_planner.specs.declared.plan.PlannedSite.{PlannedSite}
use Rattle.lf_repair_planner.specs.declared.plan.PlannerCell.{PlannerCell}

-- the length of the span of a spot
abbrev pub room_at : List FreeSpan → PlannedSite → ℕ
room_at spans spot = slice_index_or (map (λ s. s.count * s.step) spans) spot.span 0

-- where a cell at this spot begins
abbrev pub start_at : List FreeSpan → PlannedSite → ℕ
start_at spans spot = spot.at * slice_index_or (map (λ s. s.step) spans) spot.span 0

-- where the cell at this position ends if it is at this spot
abbrev pub end_at : List FreeSpan → List PlannerCell → ℕ → PlannedSite → ℕ
end_at spans wishes own spot = start_at spans spot + slice_index_or (map (λ w. w.width) wishes) own 0

-- each cell that has a spot lies there within the span, and two cells of one span lie apart
pub record IsPlan (spans : List FreeSpan) (wishes : List PlannerCell) (spots : List (Option PlannedSite)) : Type 0 where
  pub spanned : (own : ℕ) (spot : PlannedSite) → slice_get spots own ≡ Some (Some spot) → spot.span < length spans
  pub within : (own : ℕ) (spot : PlannedSite) → slice_get spots own ≡ Some (Some spot)
      → end_at spans wishes own spot ≤ room_at spans spot
  pub apart :
      (a b : ℕ) (spot other : PlannedSite) → a ≢ b → slice_get spots a ≡ Some (Some spot)
      → slice_get spots b ≡ Some (Some other) → spot.span ≡ other.span
      → (end_at spans wishes a spot ≤ start_at spans other) ⊎ (end_at spans wishes b other ≤ start_at spans spot)

-- a plan so far, whose spots lie in earlier spans, or in this one and end no later than `free`
pub record IsFilledTo (spans : List FreeSpan) (wishes : List PlannerCell) (span free : ℕ)
    (spots : List (Option PlannedSite)) : Type 0 where
  pub plan : IsPlan spans wishes spots
  pub before :
      (own : ℕ) (spot : PlannedSite) → slice_get spots own ≡ Some (Some spot)
      → (spot.span < span) ⊎ ((spot.span ≡ span) × (end_at spans wishes own spot ≤ free))
