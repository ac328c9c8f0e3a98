-- The names and limits of a design.
use Rattle.std.specs.Prelude.{ℕ, List, [], slice_index_or}
use Rattle.lf_floorplan.specs.declared.limits.Limits.{Limits}

-- the name of a team, and the names of its cells, in loading order
pub record NamedTeam : Type 0 where
  pub name : List ℕ
  pub cells : List (List ℕ)

-- the teams of a design, in the floor's order, and its limits
pub record NamedDesign : Type 0 where
  pub teams : List NamedTeam
  pub limits : Limits

-- the team of that number; empty if there is none
abbrev pub named_team_of : NamedDesign → ℕ → NamedTeam
named_team_of design team = slice_index_or design.teams team record { name = []; cells = [] }
