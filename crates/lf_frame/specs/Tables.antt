-- Tables of the names of regions and groups.
use Rattle.std.specs.Prelude.{ℕ, List, map, Contains, IsSomeAnd}
use Rattle.lf_def.specs.declared.regions.Region.{Region}
use Rattle.lf_def.specs.declared.groups.Group.{Group}

-- Holds if two lists have the same names, in any order and number.
pub record HoldSameNames (first second : List (List ℕ)) : Type 0 where
  pub forth : (name : List ℕ) → Contains first name → Contains second name
  pub back : (name : List ℕ) → Contains second name → Contains first name

-- The names of regions.
abbrev pub region_names : List Region → List (List ℕ)
region_names regions = map (λ r. r.name) regions

-- Holds if a group has a region that is not among these names.
abbrev pub IsOutside : List (List ℕ) → Group → Type 0
IsOutside names g = IsSomeAnd g.region (λ name. Contains names name → ⊥)
