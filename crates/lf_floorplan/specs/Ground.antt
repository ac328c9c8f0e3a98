-- Teams, their ground and the obstacles (DEF REGIONS, BLOCKAGES).
use Rattle.std.specs.Prelude.{◌≡◌, ◌≢◌, ℕ, ℤ, ◌≤◌, All, Any, length, slice_get, MatchOption}
use Rattle.lf_units.specs.declared.geometry.Rect.{Rect}
use Rattle.lf_units.specs.Area.{Covers, SharesPoint, CoveredBy}
use Rattle.lf_floorplan.specs.declared.frame.Frame.{Frame}
use Rattle.lf_floorplan.specs.Bounds.{IsNearDefRect}

-- A team by its number: a fence, or the ground team, whose number is the number of fences.
abbrev pub IsTeam : Frame → ℕ → Type 0
IsTeam f team = team ≤ length f.teams

-- The point is ground of the team. A fence's ground is what its rectangles cover; the ground team's
-- is what no fence covers. A greater number is no team and has no ground.
abbrev pub InGround : Frame → ℕ → ℤ → ℤ → Type 0
InGround f team x y =
    MatchOption (slice_get f.teams team)
    ((team ≡ length f.teams) × All (λ fence. CoveredBy fence.rects x y → ⊥) f.teams)
    (λ fence. CoveredBy fence.rects x y)

-- Every point of the box is ground of the team.
abbrev pub StaysInGround : Frame → ℕ → Rect → Type 0
StaysInGround f team box = (x y : ℤ) → Covers box x y → InGround f team x y

-- No point of the box is in an obstacle.
abbrev pub IsClear : Frame → Rect → Type 0
IsClear f box = All (λ obstacle. SharesPoint box obstacle → ⊥) f.obstacles

-- The box shares a point with a soft blockage.
abbrev pub OverlapsSoft : Frame → Rect → Type 0
OverlapsSoft f box = Any (λ r. SharesPoint box r) f.soft

-- Each point is ground of exactly one team.
pub record PointHasOneTeam : Type 0 where
  pub some_team : (f : Frame) (x y : ℤ) → (team : ℕ) × InGround f team x y
  pub one_team : (f : Frame) (s t : ℕ) (x y : ℤ) → InGround f s x y → InGround f t x y → s ≡ t

-- Boxes that stay in the grounds of different teams share no point.
abbrev pub TeamsStayApart : Type 0
TeamsStayApart = (f : Frame) (s t : ℕ) (a b : Rect) → s ≢ t → StaysInGround f s a → StaysInGround f t b
    → SharesPoint a b → ⊥

-- An obstacle has its lower left corner in the range of DEF coordinates, and reaches past the
-- largest by at most a macro's largest size.
abbrev pub ObstaclesAreBounded : Type 0
ObstaclesAreBounded = (f : Frame) → All IsNearDefRect f.obstacles
