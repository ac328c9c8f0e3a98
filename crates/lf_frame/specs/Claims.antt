-- The fences that claim a component, by the patterns of all groups (DEF GROUPS).
use Rattle.std.specs.Prelude.{◌≡◌, ◌≢◌, ℕ, ◌<◌, ◌≤◌, ◌==◌, ◌⊎◌, ◌↔◌, if◌then◌else◌, List, [], ◌∷◌, ◌++◌, length, map, Option, None, Some, Any}
use Rattle.std.specs.Prelude.{slice_get, slice_index_or, slice_set, Contains, Vec}
use Rattle.std.specs.List.{flat_map}
use Rattle.std.specs.Global.{Global}
use Rattle.std.specs.Option.{option_and_then}
use Rattle.lf_names.specs.Names.{position_of}
use Rattle.lf_names.specs.Pattern.{Matches}
use Rattle.lf_names.specs.Labels.{Labelled}
use Rattle.lf_names.specs.declared.partitioned.Match.{Match}
use Rattle.lf_def.specs.declared.regions.Region.{Region}
use Rattle.lf_def.specs.declared.groups.Group.{Group}
use Rattle.lf_def.specs.declared.components.Component.{Component}
use Rattle.lf_frame.specs.declared.claim.Claim.{Claim}
use Rattle.lf_frame.specs.declared.claim.Claim.TheVariants.{Unclaimed, ByOne, ByTwo}
use Rattle.lf_frame.specs.declared.star_patterns.FencePattern.{FencePattern}
use Rattle.lf_frame.specs.declared.star_patterns.PatternsAtEnd.{PatternsAtEnd}
use Rattle.lf_frame.specs.declared.star_patterns.StarredPatterns.{StarredPatterns}
use Rattle.lf_frame.specs.declared.pattern_index.PatternIndex.{PatternIndex}
use Rattle.lf_frame.specs.declared.name_map.NameMap.{NameMap}
use Rattle.lf_frame.specs.NameMaps.{value_of_name, HasAllValues}
use Rattle.lf_frame.specs.Teams.{fence_names}
use Rattle.lf_frame.specs.Entries.{NoneBreaks}
use Rattle.lf_frame.specs.ClaimRefusals.{HasEarlierName}
use Rattle.lf_frame.specs.ClaimTables.{claim_at}
use Rattle.lf_frame.specs.Ends.{key_of, name_part_at}

-- The claim with this fence added.
abbrev pub claim_with : Claim → ℕ → Claim
claim_with Unclaimed fence = ByOne fence
claim_with (ByOne other) fence = if other == fence then ByOne other else ByTwo
claim_with ByTwo fence = ByTwo

-- The union of two claims.
abbrev pub merged : Claim → Claim → Claim
merged claim Unclaimed = claim
merged claim (ByOne fence) = claim_with claim fence
merged claim ByTwo = ByTwo

-- Holds if the claim counts the fences of a set: none, exactly one, or two different ones.
abbrev pub CountsFences : (ℕ → Type 0) → Claim → Type 0
CountsFences claims Unclaimed = (fence : ℕ) → claims fence → ⊥
CountsFences claims (ByOne one) = claims one × ((other : ℕ) → claims other → other ≡ one)
CountsFences claims ByTwo = (first : ℕ) × (second : ℕ) × (first ≢ second) × claims first × claims second

-- Holds if the name matches a pattern that is bound to the fence with this number.
abbrev pub ClaimsBy : List FencePattern → List ℕ → ℕ → Type 0
ClaimsBy bounds name fence = Any (λ b. (b.fence ≡ fence) × Matches b.pattern name) bounds

-- Holds if the pattern's fence is added to the claim when the name matches. Otherwise the claim is
-- unchanged.
abbrev pub AddsPattern : FencePattern → List ℕ → Claim → Claim → Type 0
AddsPattern b name claim after = (Matches b.pattern name × (after ≡ claim_with claim b.fence))
    ⊎ ((Matches b.pattern name → ⊥) × (after ≡ claim))

-- Holds if the name is in the list with this label.
abbrev pub Labels : List Labelled → List ℕ → ℕ → Type 0
Labels names name label = Contains names (record { label = label; name = name })

-- Holds if a match pairs the name of this number with a requested name of this label.
abbrev pub IsMatched : List Match → ℕ → ℕ → Type 0
IsMatched matches number label = Contains matches (record { own = number; requested = label })

-- Holds if the pattern matches its own bytes and no others.
abbrev pub MatchesItselfAlone : List ℕ → Type 0
MatchesItselfAlone pattern = (name : List ℕ) → (Matches pattern name ↔ (name ≡ pattern))

-- Patterns that are bound to one fence. Empty if there is no fence.
abbrev pub bound_to : Option ℕ → List (List ℕ) → List FencePattern
bound_to None patterns = []
bound_to (Some fence) patterns = map (λ p. record { pattern = p; fence = fence }) patterns

-- The patterns of a group, bound to its fence. Empty if the group has no fence.
abbrev pub group_bounds : List Region → Group → List FencePattern
group_bounds regions g = bound_to (option_and_then (position_of (fence_names regions)) g.region) g.patterns

-- The patterns of all groups.
abbrev pub all_bounds : List Region → List Group → List FencePattern
all_bounds regions groups = flat_map (group_bounds regions) groups

-- The patterns at a place, if there is such a place.
abbrev pub bounds_there : Option (Vec FencePattern Global) → List FencePattern
bounds_there None = []
bounds_there (Some bounds) = bounds.items

-- The patterns that are stored under a key.
abbrev pub kept_under : PatternsAtEnd → List ℕ → List FencePattern
kept_under kept key = bounds_there (option_and_then (slice_get kept.bounds.items) (position_of kept.keys key))

-- Holds if a pattern that is stored under this number of the name's bytes at this end claims the
-- name.
abbrev pub ClaimsUnder : PatternsAtEnd → List ℕ → ℕ → ℕ → Type 0
ClaimsUnder kept name count fence = (count ≤ length name)
    × ClaimsBy (kept_under kept (name_part_at kept.end count name)) name fence

-- Holds if these patterns are stored. If one of them claims a name, some pattern that is stored
-- under the name's bytes at this end, with one of the listed lengths, claims it. The stored
-- patterns claim nothing else. Each length is that of a key.
pub record HasAtEnd (kept : PatternsAtEnd) (bounds : List FencePattern) : Type 0 where
  pub whole : length kept.keys ≡ length kept.bounds.items
  pub found : (name : List ℕ) (fence : ℕ) → ClaimsBy bounds name fence
      → Any (λ count. ClaimsUnder kept name count fence) kept.lengths.items
  pub own : (key name : List ℕ) (fence : ℕ) → ClaimsBy (kept_under kept key) name fence → ClaimsBy bounds name fence
  pub needed : (count : ℕ) → Contains kept.lengths.items count
      → Any (λ b. length (key_of kept.end b.pattern) ≡ count) bounds

-- Holds if the pattern is appended to those at a place, if there is such a place. Patterns at other
-- places are unchanged.
abbrev pub AppendsThere : List (Vec FencePattern Global) → List (Vec FencePattern Global) → ℕ → FencePattern → Type 0
AppendsThere old new place bound =
    (before : Vec FencePattern Global) → slice_get old place ≡ Some before
    → (after : Vec FencePattern Global) × (after.items ≡ before.items ++ bound ∷ []) × (new ≡ slice_set old place after)

-- Holds if the pattern is appended to those of the key. The patterns of other keys, the lengths and
-- the end are unchanged.
pub record AddsUnderKey (old new : PatternsAtEnd) (key : List ℕ) (bound : FencePattern) : Type 0 where
  pub whole : length new.keys ≡ length new.bounds.items
  pub there : kept_under new key ≡ kept_under old key ++ bound ∷ []
  pub others : (other : List ℕ) → other ≢ key → kept_under new other ≡ kept_under old other
  pub lengths : new.lengths ≡ old.lengths
  pub end : new.end ≡ old.end

-- Holds if these patterns are stored, some at the front and the others at the back. The two lists
-- together claim exactly what the patterns claim.
pub record HasStarred (starred : StarredPatterns) (bounds : List FencePattern) : Type 0 where
  pub fronts : List FencePattern
  pub backs : List FencePattern
  pub by_front : HasAtEnd starred.fronts fronts
  pub by_back : HasAtEnd starred.backs backs
  pub together : (name : List ℕ) (fence : ℕ) → ClaimsBy bounds name fence
      ↔ (ClaimsBy fronts name fence ⊎ ClaimsBy backs name fence)

-- Holds if the index has these patterns: literal ones as names, labelled with the fence's number,
-- the others by the bytes of their names at an end.
pub record IndexesPatterns (index : PatternIndex) (bounds : List FencePattern) : Type 0 where
  pub starred : List FencePattern
  pub tried : HasStarred index.starred starred
  pub forth : (name : List ℕ) (fence : ℕ) → ClaimsBy bounds name fence
      → Labels index.literals name fence ⊎ ClaimsBy starred name fence
  pub back : (name : List ℕ) (fence : ℕ) → Labels index.literals name fence ⊎ ClaimsBy starred name fence
      → ClaimsBy bounds name fence

-- Holds if the new index has the patterns of the old one and then these.
abbrev pub ExtendsIndex : PatternIndex → PatternIndex → List FencePattern → Type 0
ExtendsIndex old new more = (bounds : List FencePattern) → IndexesPatterns old bounds
    → IndexesPatterns new (bounds ++ more)

-- Holds if the map has the position of each name of the list. If a name is in the list twice, it
-- has the first position.
abbrev pub NumbersNames : List (List ℕ) → NameMap ℕ → Type 0
NumbersNames names numbers = (name : List ℕ) → value_of_name numbers name ≡ position_of names name

-- Holds if the new map numbers the names that the old map numbers, and then this name.
pub record NumbersOneMore (old new : NameMap ℕ) (number : ℕ) (name : List ℕ) : Type 0 where
  pub whole : HasAllValues new
  pub numbers : (names : List (List ℕ)) → number ≡ length names → NumbersNames names old
      → NumbersNames (names ++ name ∷ []) new

-- Holds if each component has the claim at its number, by the fences that its name determines.
abbrev pub AreClaimsByName : (List ℕ → ℕ → Type 0) → List Component → List Claim → Type 0
AreClaimsByName claims components reported = (k : ℕ) (d : Component) → k < length components
    → CountsFences (claims (slice_index_or components k d).name) (claim_at reported k)

-- Holds if each component has its claim when all names differ. There are no claims if and only if
-- two components have the same name.
abbrev pub AreClaimsWhereDistinct : (List ℕ → ℕ → Type 0) → List Component → Option (List Claim) → Type 0
AreClaimsWhereDistinct claims components (Some reported) = NoneBreaks HasEarlierName components
    × AreClaimsByName claims components reported
AreClaimsWhereDistinct claims components None = NoneBreaks HasEarlierName components → ⊥

-- Holds if the new claims add those of the starred patterns of the index to the old claims, which
-- are by literal patterns. This is for any such patterns.
abbrev pub AddStarred : StarredPatterns → List Component → List Claim → List Claim → Type 0
AddStarred index components old new =
    (literals : List Labelled) (starred : List FencePattern) → HasStarred index starred → length old ≡ length components
    → AreClaimsByName (Labels literals) components old
    → AreClaimsByName (λ name fence. Labels literals name fence ⊎ ClaimsBy starred name fence) components new
