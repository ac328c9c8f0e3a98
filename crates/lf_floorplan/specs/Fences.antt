-- Fences (DEF REGIONS with TYPE FENCE), and the facts that a frame keeps about them.
use Rattle.std.specs.Prelude.{◌≢◌, ℕ, ℤ, ◌<◌, List, [], ◌∷◌, length, All, AllPairs}
use Rattle.lf_units.specs.Area.{CoveredBy}
use Rattle.lf_floorplan.specs.Bounds.{IsDefRect}
use Rattle.lf_floorplan.specs.declared.parts.Team.{Team}

-- The name of the ground team, `-`.
abbrev pub ground_name : List ℕ
ground_name = 45 ∷ []

-- A fence does not have the ground team's name, and has at least one rectangle.
pub record IsFence (t : Team) : Type 0 where
  pub named : t.name ≢ ground_name
  pub has_rect : 0 < length t.rects
  pub rects_in_def : All IsDefRect t.rects

-- No two fences have the same name.
abbrev pub FencesNamed : List Team → Type 0
FencesNamed teams = AllPairs (λ a b. a.name ≢ b.name) teams

-- The two fences share no point.
pub record AreApart (a b : Team) : Type 0 where
  pub no_point : (x y : ℤ) → CoveredBy a.rects x y → CoveredBy b.rects x y → ⊥

-- No two fences share a point.
abbrev pub FencesApart : List Team → Type 0
FencesApart teams = AllPairs AreApart teams
