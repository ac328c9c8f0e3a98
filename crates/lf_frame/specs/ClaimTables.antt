-- The facts in a table of claims, and when they hold of components, by the groups and regions of a
-- document (DEF REGIONS, GROUPS, COMPONENTS).
use Rattle.std.specs.Prelude.{◌≡◌, ◌↔◌, ℕ, ◌<◌, Bool, IsTrue, List, [], length, Option, Some, unwrap_or, slice_get, slice_index_or}
use Rattle.lf_def.specs.declared.regions.Region.{Region}
use Rattle.lf_def.specs.declared.groups.Group.{Group}
use Rattle.lf_def.specs.declared.components.Component.{Component}
use Rattle.lf_frame.specs.declared.claim.Claim.{Claim}
use Rattle.lf_frame.specs.declared.claim.Claim.TheVariants.{Unclaimed, ByOne, ByTwo}
use Rattle.lf_frame.specs.Teams.{fences, IsUnclaimed, IsClaimedBy, IsTeamOfComponent}
use Rattle.lf_frame.specs.Entries.{NoneBreaks, FirstIs}
use Rattle.lf_frame.specs.ClaimRefusals.{HasTwoFences, HasEarlierName, IsClaimedTwice}

-- The facts in a table: the component that has the name of an earlier one, the claims on the
-- components by their numbers, and the number of the ground team.
pub record ClaimFacts : Type 0 where
  pub second : Option ℕ
  pub claims : List Claim
  pub ground : ℕ

-- Holds if the claim is right: no fence claims the name, one does, or two different ones do.
abbrev pub IsClaimOf : List Region → List Group → List ℕ → Claim → Type 0
IsClaimOf regions groups name Unclaimed = IsUnclaimed regions groups name
IsClaimOf regions groups name (ByOne team) = IsClaimedBy regions groups name team
IsClaimOf regions groups name ByTwo = HasTwoFences regions groups name

-- The claim at a number.
abbrev pub claim_at : List Claim → ℕ → Claim
claim_at claims number = unwrap_or (slice_get claims number) Unclaimed

-- Holds if each component has the claim at its number.
abbrev pub AreClaimsOf : List Region → List Group → List Component → List Claim → Type 0
AreClaimsOf regions groups components claims =
    (k : ℕ) (d : Component) → k < length components
    → IsClaimOf regions groups (slice_index_or components k d).name (claim_at claims k)

-- Holds if the table has the first component with the name of an earlier one, and the number of the
-- ground team. If there is no such component, it also has the claims on all components.
pub record IsTableOf (regions : List Region) (groups : List Group) (components : List Component)
    (table : ClaimFacts) : Type 0 where
  pub second : FirstIs HasEarlierName components table.second
  pub claims : NoneBreaks HasEarlierName components → AreClaimsOf regions groups components table.claims
  pub ground : table.ground ≡ length (fences regions)

-- Holds if, for any components of the table, the result is the first of them with the name of an
-- earlier one.
abbrev pub FindsDuplicate : ClaimFacts → Option ℕ → Type 0
FindsDuplicate table found =
    (regions : List Region) (groups : List Group) (components : List Component)
    → IsTableOf regions groups components table
    → FirstIs HasEarlierName components found

-- Holds if, for any components of the table whose names differ, the team is that of the component
-- with this number, unless two fences claim it.
abbrev pub FindsTeam : ClaimFacts → ℕ → ℕ → Type 0
FindsTeam table number team =
    (regions : List Region) (groups : List Group) (components : List Component)
    → IsTableOf regions groups components table
    → NoneBreaks HasEarlierName components → (c : Component) → slice_get components number ≡ Some c
    → (HasTwoFences regions groups c.name → ⊥) → IsTeamOfComponent regions groups c.name team

-- Holds if, for any regions and groups that make this claim on the component, the result is true if
-- and only if two fences claim it.
abbrev pub FindsClaimedTwice : Claim → Component → Bool → Type 0
FindsClaimedTwice claim c answer =
    (regions : List Region) (groups : List Group) → IsClaimOf regions groups c.name claim
    → (IsTrue answer ↔ IsClaimedTwice regions groups [] c)

-- Holds if, for any regions and groups with this table for these components, whose names differ,
-- the result is the first of them that two fences claim.
abbrev pub FindsFirstClaimedTwice : ClaimFacts → List Component → Option ℕ → Type 0
FindsFirstClaimedTwice table components found =
    (regions : List Region) (groups : List Group) → NoneBreaks HasEarlierName components
    → IsTableOf regions groups components table
    → FirstIs (IsClaimedTwice regions groups) components found
