-- The fences, and the team of each component that teams may move (DEF REGIONS, GROUPS, COMPONENTS).
use Rattle.std.specs.Prelude.{◌≡◌, ℕ, true, ◌⊎◌, List, length, filter, map, Some, Any}
use Rattle.lf_names.specs.Names.{position_of}
use Rattle.lf_names.specs.Pattern.{Matches}
use Rattle.lf_def.specs.Kinds.{is_fence}
use Rattle.lf_def.specs.declared.regions.Region.{Region}
use Rattle.lf_def.specs.declared.groups.Group.{Group}

-- The fences, in the order of the text.
abbrev pub fences : List Region → List Region
fences regions = filter is_fence regions

-- The names of the fences, in the order of the text.
abbrev pub fence_names : List Region → List (List ℕ)
fence_names regions = map (λ r. r.name) (fences regions)

-- Holds if the name matches a pattern of the group.
abbrev pub NamedBy : Group → List ℕ → Type 0
NamedBy group name = Any (λ pattern. Matches pattern name) group.patterns

-- Holds if the group is bound to the fence, and names the component.
pub record Claims (regions : List Region) (group : Group) (name fence : List ℕ) : Type 0 where
  pub bound : group.region ≡ Some fence
  pub fence_there : Any (λ r. (is_fence r ≡ true) × (r.name ≡ fence)) regions
  pub named : NamedBy group name

-- Holds if a group that is bound to the fence names the component.
abbrev pub IsClaimed : List Region → List Group → List ℕ → List ℕ → Type 0
IsClaimed regions groups name fence = Any (λ g. Claims regions g name fence) groups

-- Holds if no fence claims the name.
abbrev pub IsUnclaimed : List Region → List Group → List ℕ → Type 0
IsUnclaimed regions groups name = (fence : List ℕ) → IsClaimed regions groups name fence → ⊥

-- Holds if the fence with this number claims the name, and no other fence does. The first of
-- several fences with one name counts.
pub record IsClaimedBy (regions : List Region) (groups : List Group) (name : List ℕ) (team : ℕ) : Type 0 where
  pub fence : List ℕ
  pub place : position_of (fence_names regions) fence ≡ Some team
  pub claimed : IsClaimed regions groups name fence
  pub only : (other : List ℕ) → IsClaimed regions groups name other → other ≡ fence

-- The team of a movable component: the only fence that claims it, or the ground team, whose number
-- is the number of fences.
abbrev pub IsTeamOfComponent : List Region → List Group → List ℕ → ℕ → Type 0
IsTeamOfComponent regions groups name team = IsClaimedBy regions groups name team
    ⊎ (IsUnclaimed regions groups name × (team ≡ length (fences regions)))
