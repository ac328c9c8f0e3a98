-- The results of the rules as functions: the first broken rule, and the best place.
use Rattle.std.specs.Prelude.{◌≡◌, Option, MatchOption}
use Rattle.lf_units.specs.declared.geometry.Point.{Point}
use Rattle.lf_floorplan.specs.Boxes.{IsSized}
use Rattle.lf_rules.specs.declared.rule.Broken.{Broken}
use Rattle.lf_rules.specs.Legality.{Candidate, IsTeamLegal, IsFirstBroken}
use Rattle.lf_rules.specs.Choice.{SpotPlace, PlacementQuery, IsChoice}

-- The verdict on a candidate: the first broken rule, and `None` if and only if the place is
-- team-legal.
abbrev pub IsVerdict : Candidate → Option Broken → Type 0
IsVerdict t verdict = MatchOption verdict (IsTeamLegal t) (λ b. IsFirstBroken t b)

-- A legalizer gives the first broken rule of each candidate and the best place of each cell, if the
-- macro is whole in database units. By the laws of this crate there is one, and each result is
-- unique.
pub record Legalizer : Type 0 where
  pub first_broken : Candidate → Option Broken
  pub best_place : PlacementQuery → Point → Option SpotPlace
  pub finds_first_broken : (t : Candidate) → IsSized t.frame t.mac → IsVerdict t (first_broken t)
  pub finds_best_place : (c : PlacementQuery) (target : Point) → IsSized c.frame c.mac
      → IsChoice c target (best_place c target)

-- A candidate has one verdict.
abbrev pub VerdictIsUnique : Type 0
VerdictIsUnique = (t : Candidate) (a b : Option Broken) → IsVerdict t a → IsVerdict t b → a ≡ b

-- Each candidate of a macro of whole size has a verdict.
abbrev pub VerdictExists : Type 0
VerdictExists = (t : Candidate) → IsSized t.frame t.mac → (verdict : Option Broken) × IsVerdict t verdict
