-- Components that loading refuses for their names: one that has the name of an earlier one, and one
-- that two fences claim (DEF REGIONS, GROUPS, COMPONENTS).
use Rattle.std.specs.Prelude.{◌≡◌, ◌≢◌, ℕ, true, List, Any}
use Rattle.lf_def.specs.declared.regions.Region.{Region}
use Rattle.lf_def.specs.declared.groups.Group.{Group}
use Rattle.lf_def.specs.declared.components.Component.{Component}
use Rattle.lf_def.specs.Kinds.{is_movable}
use Rattle.lf_frame.specs.Teams.{IsClaimed}

-- SecondName: the component has the name of an earlier one.
abbrev pub HasEarlierName : List Component → Component → Type 0
HasEarlierName earlier c = Any (λ e. e.name ≡ c.name) earlier

-- Holds if two different fences claim the name.
pub record HasTwoFences (regions : List Region) (groups : List Group) (name : List ℕ) : Type 0 where
  pub first : List ℕ
  pub second : List ℕ
  pub differ : first ≢ second
  pub by_first : IsClaimed regions groups name first
  pub by_second : IsClaimed regions groups name second

-- TwoFences: groups of two different fences name a component that is neither FIXED nor COVER.
abbrev pub IsClaimedTwice : List Region → List Group → List Component → Component → Type 0
IsClaimedTwice regions groups earlier c = (is_movable c ≡ true) × HasTwoFences regions groups c.name
