-- The fences with which a refused fence or component conflicts (DEF REGIONS, GROUPS).
use Rattle.std.specs.Prelude.{◌≡◌, ◌≢◌, ◌&&◌, ℕ, true, List, Option, Some, None, MatchOption, bytes_eq}
use Rattle.std.specs.Option.{option_copied}
use Rattle.std.specs.List.{find}
use Rattle.lf_lex.specs.declared.fault.FaultNumber.{FaultNumber}
use Rattle.lf_lex.specs.declared.fault.FaultNumber.TheVariants.{FencesOverlap, TwoFences}
use Rattle.lf_lex.specs.declared.fault.LoadFault.{LoadFault}
use Rattle.lf_def.specs.declared.regions.Region.{Region}
use Rattle.lf_def.specs.declared.groups.Group.{Group}
use Rattle.lf_def.specs.Kinds.{is_fence}
use Rattle.lf_frame.specs.Teams.{Claims}
use Rattle.lf_frame.specs.declared.conflicts.FenceConflict.{FenceConflict}
use Rattle.lf_frame.specs.Refusals.{SharePoint}
use Rattle.lf_frame.specs.Findings.{NameOfFirst, region_name}

-- The names of the fences that a fault is about: one, two or none.
pub record Conflict : Type 0 where
  pub first : Option (List ℕ)
  pub second : Option (List ℕ)

-- The names, as values.
abbrev pub conflict_in : FenceConflict → Conflict
conflict_in fences = record { first = option_copied fences.first; second = option_copied fences.second }

abbrev pub no_fence : Conflict
no_fence = record { first = None; second = None }

-- The first fence with this name.
abbrev pub fence_named : List Region → List ℕ → Option Region
fence_named regions name = find (λ r. is_fence r && bytes_eq r.name name) regions

-- Holds if a fence of another name shares a point with the fence.
abbrev pub OverlapsFence : Region → List Region → Region → Type 0
OverlapsFence fence earlier r = (is_fence r ≡ true) × (r.name ≢ fence.name) × SharePoint r.rects fence.rects

-- Holds if this is the name of the first other fence that shares a point with the fence of this
-- name.
abbrev pub IsOverlappedBy : List Region → List ℕ → Option (List ℕ) → Type 0
IsOverlappedBy regions name found =
    MatchOption (fence_named regions name) (found ≡ None)
    (λ fence. NameOfFirst (λ r. r.name) (OverlapsFence fence) regions found)

-- Holds if the group is bound to a fence other than `reported`, and names the component.
abbrev pub ClaimsBut : List Region → List ℕ → Option (List ℕ) → List Group → Group → Type 0
ClaimsBut regions name reported earlier g = (fence : List ℕ) × Claims regions g name fence × (reported ≢ Some fence)

-- The first fence that claims the component, and the first other fence that does, in the order of
-- the groups.
pub record AreClaimers (regions : List Region) (groups : List Group) (name : List ℕ)
    (overlapping_one : Conflict) : Type 0 where
  pub first : NameOfFirst region_name (ClaimsBut regions name None) groups overlapping_one.first
  pub second : NameOfFirst region_name (ClaimsBut regions name overlapping_one.first) groups overlapping_one.second

-- The fences with which the entry that this refusal finds conflicts: for FencesOverlap the fence
-- that overlaps it, for TwoFences the fences that claim the component.
abbrev pub ConflictsBy : List Region → List Group → FaultNumber → List ℕ → Conflict → Type 0
ConflictsBy regions groups FencesOverlap name overlapping_one = IsOverlappedBy regions name overlapping_one.first
    × (overlapping_one.second ≡ None)
ConflictsBy regions groups TwoFences name overlapping_one = AreClaimers regions groups name overlapping_one
ConflictsBy regions groups _ name overlapping_one = overlapping_one ≡ no_fence

-- The fences with which the entry in a fault of loading conflicts.
abbrev pub ConflictsWith : List Region → List Group → LoadFault → Conflict → Type 0
ConflictsWith regions groups fault overlapping_one = MatchOption fault.name (overlapping_one ≡ no_fence)
    (λ name. ConflictsBy regions groups fault.number name.now overlapping_one)
