-- The fences that claim a name, by their groups and by the patterns that are bound to their
-- numbers.
use Rattle.std.proofs.Common.{◌≡◌, ℕ, ◌+◌, ◌<◌, inl, inr, true, List, [], ◌∷◌, ◌++◌, length, take, get_or, Option, Some, None, refl, sym, ◌∙◌, ap}
use Rattle.std.specs.Prelude.{Any}
use Rattle.std.specs.Option.{option_and_then}
use Rattle.std.proofs.lemmas.List.{append-nil}
use Rattle.std.proofs.lemmas.List.Concat.{flat_map-append}
use Rattle.std.proofs.lemmas.Option.{slice_get_within, get_or_from_slice_get}
use Rattle.lf_names.specs.Names.{position_of}
use Rattle.lf_names.specs.Pattern.{Matches}
use Rattle.lf_names.proofs.Positions.{is_found_there, has_no_place}
use Rattle.lf_def.specs.declared.regions.Region.{Region}
use Rattle.lf_def.specs.declared.groups.Group.{Group}
use Rattle.lf_frame.specs.declared.claim.Claim.{Claim}
use Rattle.lf_frame.specs.declared.claim.Claim.TheVariants.{Unclaimed, ByOne, ByTwo}
use Rattle.lf_frame.specs.declared.star_patterns.FencePattern.{FencePattern}
use Rattle.lf_frame.specs.declared.name_map.NameMap.{NameMap}
use Rattle.lf_frame.specs.NameMaps.{value_of_name}
use Rattle.lf_def.specs.Kinds.{is_fence}
use Rattle.lf_frame.specs.Teams.{fence_names, Claims, IsClaimed, IsUnclaimed, IsClaimedBy}
use Rattle.lf_frame.specs.ClaimRefusals.{HasTwoFences}
use Rattle.lf_frame.specs.Claims.{CountsFences, ClaimsBy, NumbersNames, bound_to, group_bounds, all_bounds}
use Rattle.lf_frame.specs.ClaimTables.{IsClaimOf}
use Rattle.lf_frame.proofs.Named.{fence_known, fence_borne}
use Rattle.lf_frame.proofs.ClaimCounts.{one_bound_more}
use Rattle.lf_frame.proofs.MapLemmas.{one_at_place}
use Rattle.lf_units.proofs.Any.{any_first, any_later, any_cases, none_of_nothing, any_parts, any_left, any_right, any_mapped, any_map}

-- A fence with this number that claims the name.
pub record Claimant (regions : List Region) (groups : List Group) (name : List ℕ) (n : ℕ) : Type 0 where
  pub fence : List ℕ
  pub place : position_of (fence_names regions) fence ≡ Some n
  pub claimed : IsClaimed regions groups name fence

-- The same for one group.
record GroupClaimant (regions : List Region) (g : Group) (name : List ℕ) (n : ℕ) : Type 0 where
  fence : List ℕ
  place : position_of (fence_names regions) fence ≡ Some n
  claims : Claims regions g name fence

there_is_fence : (regions : List Region) (fence : List ℕ) (n : ℕ) → position_of (fence_names regions) fence ≡ Some n →
    Any (λ r. (is_fence r ≡ true) × (r.name ≡ fence)) regions
there_is_fence regions fence n place =
    let names = fence_names regions in
    let is_in_place = is_found_there names fence n place in
    fence_borne regions fence (n, slice_get_within names n fence is_in_place, get_or_from_slice_get names n fence fence is_in_place)

group_claimant : (regions : List Region) (g : Group) (name : List ℕ) (n : ℕ) → ClaimsBy (group_bounds regions g) name n → GroupClaimant regions g name n
group_claimant regions g name n h = by g.region (option_and_then (position_of (fence_names regions)) g.region) refl refl h
  where
    by : (region : Option (List ℕ)) (at : Option ℕ) → g.region ≡ region → option_and_then (position_of (fence_names regions)) g.region ≡ at →
        ClaimsBy (bound_to at g.patterns) name n → GroupClaimant regions g name n
    by region None is place c = absurd (none_of_nothing (λ b. (b.fence ≡ n) × Matches b.pattern name) c)
    by None (Some m) is place c = let none : option_and_then (position_of (fence_names regions)) g.region ≡ None = ap (option_and_then (position_of (fence_names regions))) is in cc
    by (Some fence) (Some m) is place c =
        let at : position_of (fence_names regions) fence ≡ Some m = sym (ap (option_and_then (position_of (fence_names regions))) is) ∙ place in
        let named : Any (λ p. (m ≡ n) × Matches p name) g.patterns =
        any_mapped (λ p. let b : FencePattern = record { pattern = p; fence = m } in b) (λ b. (b.fence ≡ n) × Matches b.pattern name) g.patterns c in
        record {
          fence = fence;
          place = at ∙ ap Some named.4.0;
          claims = record { bound = is; fence_there = there_is_fence regions fence m at; named = (named.0, named.1, named.2, named.3, named.4.1) };
        }

pub claimant_of : (regions : List Region) (groups : List Group) (name : List ℕ) (n : ℕ) → ClaimsBy (all_bounds regions groups) name n →
    Claimant regions groups name n
claimant_of regions [] name n h = absurd (none_of_nothing (λ b. (b.fence ≡ n) × Matches b.pattern name) h)
claimant_of regions (g ∷ groups) name n h =
    elim (any_parts (λ b. (b.fence ≡ n) × Matches b.pattern name) (group_bounds regions g) (all_bounds regions groups) h) [
      | inl own ↦
          let c : GroupClaimant regions g name n = group_claimant regions g name n own in
          record { fence = c.fence; place = c.place; claimed = any_first (λ q. Claims regions q name c.fence) g groups c.claims }
      | inr rest ↦
          let c : Claimant regions groups name n = claimant_of regions groups name n rest in
          record { fence = c.fence; place = c.place; claimed = any_later (λ q. Claims regions q name c.fence) g groups c.claimed }
    ]

group_claims : (regions : List Region) (g : Group) (name fence : List ℕ) (n : ℕ) → position_of (fence_names regions) fence ≡ Some n →
    Claims regions g name fence → ClaimsBy (group_bounds regions g) name n
group_claims regions g name fence n place claims =
    let at : option_and_then (position_of (fence_names regions)) g.region ≡ Some n = ap (option_and_then (position_of (fence_names regions))) claims.bound ∙ place in
    let is : group_bounds regions g ≡ bound_to (Some n) g.patterns = ap (λ o. bound_to o g.patterns) at in
    let named = claims.named in
    rw is (
    any_map (λ p. let b : FencePattern = record { pattern = p; fence = n } in b) (λ b. (b.fence ≡ n) × Matches b.pattern name) g.patterns
    (named.0, named.1, named.2, named.3, (refl, named.4))
    )

claims_of : (regions : List Region) (groups : List Group) (name fence : List ℕ) (n : ℕ) → position_of (fence_names regions) fence ≡ Some n →
    IsClaimed regions groups name fence → ClaimsBy (all_bounds regions groups) name n
claims_of regions [] name fence n place h = absurd (none_of_nothing (λ q. Claims regions q name fence) h)
claims_of regions (g ∷ groups) name fence n place h = elim (any_cases (λ q. Claims regions q name fence) g groups h) [
  | inl own ↦ any_left (λ b. (b.fence ≡ n) × Matches b.pattern name) (group_bounds regions g) (all_bounds regions groups) (group_claims regions g name fence n place own)
  | inr rest ↦ any_right (λ b. (b.fence ≡ n) × Matches b.pattern name) (group_bounds regions g) (all_bounds regions groups) (claims_of regions groups name fence n place rest)
]

-- The number of a fence that claims the name.
record Numbered (regions : List Region) (groups : List Group) (name fence : List ℕ) : Type 0 where
  n : ℕ
  place : position_of (fence_names regions) fence ≡ Some n
  claims : ClaimsBy (all_bounds regions groups) name n

numbered : (regions : List Region) (groups : List Group) (name fence : List ℕ) → IsClaimed regions groups name fence → Numbered regions groups name fence
numbered regions groups name fence h = by (position_of (fence_names regions) fence) refl
  where
    by : (at : Option ℕ) → position_of (fence_names regions) fence ≡ at → Numbered regions groups name fence
    by None e = absurd (has_no_place (fence_names regions) fence e (fence_known regions fence h.4.fence_there))
    by (Some n) e = record { n = n; place = e; claims = claims_of regions groups name fence n e h }

-- A claim that counts the numbers of fences counts the fences.
pub claim_says : (regions : List Region) (groups : List Group) (name : List ℕ) (claim : Claim) → CountsFences (ClaimsBy (all_bounds regions groups) name) claim →
    IsClaimOf regions groups name claim
claim_says regions groups name Unclaimed none = λ fence claimed. let q : Numbered regions groups name fence = numbered regions groups name fence claimed in none q.n q.claims
claim_says regions groups name (ByOne one) h =
    let c : Claimant regions groups name one = claimant_of regions groups name one h.0 in
    record {
      fence = c.fence;
      place = c.place;
      claimed = c.claimed;
      only = λ other claimed.
          let q : Numbered regions groups name other = numbered regions groups name other claimed in
          one_at_place (fence_names regions) other c.fence one (q.place ∙ ap Some (h.1 q.n q.claims)) c.place;
    }
claim_says regions groups name ByTwo (a, b, differ, in_a, in_b) =
    let c : Claimant regions groups name a = claimant_of regions groups name a in_a in
    let d : Claimant regions groups name b = claimant_of regions groups name b in_b in
    record {
      first = c.fence;
      second = d.fence;
      differ = λ same. differ (one_number a b (sym c.place ∙ ap (position_of (fence_names regions)) same ∙ d.place));
      by_first = c.claimed;
      by_second = d.claimed;
    }
  where
    one_number : (m n : ℕ) → Some m ≡ Some n → m ≡ n
    one_number m n e = cc

-- A name that no fence claims, or only one, does not have two fences.
pub unclaimed_once : (regions : List Region) (groups : List Group) (name : List ℕ) → IsUnclaimed regions groups name → HasTwoFences regions groups name → ⊥
unclaimed_once regions groups name none h = none h.first h.by_first

pub claimed_once : (regions : List Region) (groups : List Group) (name : List ℕ) (team : ℕ) → IsClaimedBy regions groups name team →
    HasTwoFences regions groups name → ⊥
claimed_once regions groups name team one h = h.differ (one.only h.first h.by_first ∙ sym (one.only h.second h.by_second))

-- The patterns of one more group.
pub bounds_more : (regions : List Region) (groups : List Group) (n : ℕ) (g : Group) → n < length groups → g ≡ get_or groups n g →
    all_bounds regions (take (n + 1) groups) ≡ all_bounds regions (take n groups) ++ group_bounds regions g
bounds_more regions groups n g within is =
    ap (all_bounds regions) (sym (one_bound_more groups n g within is)) ∙ flat_map-append (group_bounds regions) (take n groups) (g ∷ [])
    ∙ ap (λ l. all_bounds regions (take n groups) ++ l) (append-nil (group_bounds regions g))

pub bounds_by_number : (regions : List Region) (numbers : NameMap ℕ) (g : Group) → NumbersNames (fence_names regions) numbers →
    bound_to (option_and_then (value_of_name numbers) g.region) g.patterns ≡ group_bounds regions g
bounds_by_number regions numbers g numbered = by g.region
  where
    by : (region : Option (List ℕ)) →
        bound_to (option_and_then (value_of_name numbers) region) g.patterns ≡ bound_to (option_and_then (position_of (fence_names regions)) region) g.patterns
    by None = refl
    by (Some fence) = ap (λ o. bound_to o g.patterns) (numbered fence)
