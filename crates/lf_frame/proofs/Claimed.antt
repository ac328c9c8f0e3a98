-- The claims of all components, by their numbers.
use Rattle.std.proofs.Common.{◌≡◌, ◌≢◌, ℕ, zero, suc, ◌+◌, ◌<◌, ◌≤◌, ◌⊎◌, inl, inr, Bool, true, false, eqb, Some, refl, sym, ◌∙◌, ap, subst, arith}
use Rattle.std.proofs.Common.{List, [], ◌∷◌, ◌++◌, length, take, get_or, set, slice_get}
use Rattle.std.specs.Prelude.{unwrap_or, replicate}
use Rattle.std.proofs.lemmas.Bool.{eqb-true, eqb-false}
use Rattle.std.proofs.lemmas.Grind.{common_steps}
use Rattle.std.proofs.lemmas.List.{get_or_default}
use Rattle.std.proofs.lemmas.Option.{slice_get_within, get_or_from_slice_get}
use Rattle.std.proofs.lemmas.List.Elements.{Contains-append_left, Contains-push, Contains-push_cases}
use Rattle.lf_names.specs.Labels.{Labelled, IsMatch, AreMatches}
use Rattle.lf_names.specs.declared.partitioned.Match.{Match}
use Rattle.lf_def.specs.declared.regions.Region.{Region}
use Rattle.lf_def.specs.declared.groups.Group.{Group}
use Rattle.lf_def.specs.declared.components.Component.{Component}
use Rattle.lf_frame.specs.declared.claim.Claim.{Claim}
use Rattle.lf_frame.specs.declared.claim.Claim.TheVariants.{Unclaimed}
use Rattle.lf_frame.specs.declared.star_patterns.FencePattern.{FencePattern}
use Rattle.lf_frame.specs.declared.pattern_index.PatternIndex.{PatternIndex}
use Rattle.lf_frame.specs.ComponentNames.{numbered_names}
use Rattle.lf_frame.specs.Claims.{claim_with, CountsFences, ClaimsBy, Labels, IsMatched, all_bounds, IndexesPatterns, AreClaimsByName}
use Rattle.lf_frame.specs.ClaimTables.{IsClaimOf, claim_at, AreClaimsOf}
use Rattle.lf_frame.proofs.MapLemmas.{get_set, get_set_other}
use Rattle.lf_frame.proofs.Numbered.{numbered_has, numbered_is}
use Rattle.lf_frame.proofs.ClaimCounts.{reports_joined, reports_same}
use Rattle.lf_frame.proofs.Claimants.{claim_says}

-- One more match: its fence is added to the claim at its number, and the other claims are
-- unchanged.
matched_more : (matches : List Match) (m : Match) (claims : List Claim) (number : ℕ) → number < length claims →
    CountsFences (IsMatched matches number) (claim_at claims number) →
    CountsFences (IsMatched (matches ++ m ∷ []) number) (claim_at (set claims m.own (claim_with (claim_at claims m.own) m.requested)) number)
matched_more matches m claims number within reported = by (eqb m.own number) refl
  where
    old : (fence : ℕ) → IsMatched matches number fence → IsMatched (matches ++ m ∷ []) number fence
    old fence h = Contains-append_left matches (m ∷ []) (record { own = number; requested = fence }) h

    by : (t : Bool) → eqb m.own number ≡ t →
        CountsFences (IsMatched (matches ++ m ∷ []) number) (claim_at (set claims m.own (claim_with (claim_at claims m.own) m.requested)) number)
    by true e =
        let same : m.own ≡ number = eqb-true m.own number e in
        let claim : claim_at (set claims m.own (claim_with (claim_at claims m.own) m.requested)) number ≡ claim_with (claim_at claims number) m.requested =
        ap (λ k. claim_at (set claims k (claim_with (claim_at claims k) m.requested)) number) same ∙ ap (λ o. unwrap_or o Unclaimed) (get_set claims number (claim_with (claim_at claims number) m.requested) within) in
        let new : IsMatched (matches ++ m ∷ []) number m.requested = rw (← same) (Contains-push matches m) in
        rw claim (
        reports_joined (IsMatched matches number) (IsMatched (matches ++ m ∷ []) number) (claim_at claims number) m.requested old new
        (λ fence h. elim (Contains-push_cases matches m (record { own = number; requested = fence }) h) [ inl early ↦ inl early | inr here ↦ inr (sym (ap (λ (q : Match). q.requested) here)) ]) reported
        )
    by false e =
        let other : number ≢ m.own = λ same. eqb-false m.own number e (sym same) in
        let claim : claim_at (set claims m.own (claim_with (claim_at claims m.own) m.requested)) number ≡ claim_at claims number =
        ap (λ o. unwrap_or o Unclaimed) (get_set_other claims m.own number (claim_with (claim_at claims m.own) m.requested) other) in
        rw claim (
        reports_same (IsMatched matches number) (IsMatched (matches ++ m ∷ []) number) (claim_at claims number) old
        (λ fence h. elim (Contains-push_cases matches m (record { own = number; requested = fence }) h) [ inl early ↦ early | inr here ↦ absurd (other (sym (ap (λ (q : Match). q.own) here))) ]) reported
        )

-- The first `count` names have the claims of these matches.
abbrev pub MatchesFound : List Match → ℕ → List Claim → Type 0
MatchesFound matches count claims = (number : ℕ) → number < count → CountsFences (IsMatched matches number) (claim_at claims number)

pub no_match_reported : (count : ℕ) (claims : List Claim) → ((number : ℕ) → claim_at claims number ≡ Unclaimed) → MatchesFound [] count claims
no_match_reported count claims nothing number within = rw (nothing number) (λ fence h. omega (arith, h.1))

pub matches_reported_more : (matches : List Match) (n : ℕ) (m : Match) (count : ℕ) (claims : List Claim) → n < length matches → m ≡ get_or matches n m →
    length claims ≡ count → MatchesFound (take n matches) count claims →
    MatchesFound (take (n + 1) matches) count (set claims m.own (claim_with (claim_at claims m.own) m.requested))
matches_reported_more matches n m count claims within is long before number below =
    let more : take (n + 1) matches ≡ take n matches ++ m ∷ [] = grind (arith, common_steps) in
    rw more (matched_more (take n matches) m claims number (omega arith) (before number below))

-- The label of a name that is matched.
pub matches_label : (components : List Component) (literals : List Labelled) (matches : List Match) (k : ℕ) (d : Component) (fence : ℕ) →
    k < length components → AreMatches (numbered_names components) literals matches →
    IsMatched matches k fence → Labels literals (get_or components k d).name fence
matches_label components literals matches k d fence within are h =
    let one : IsMatch (numbered_names components) literals (record { own = k; requested = fence }) = (are (record { own = k; requested = fence })).0 h in
    rw (← numbered_is components k d one.name within one.is_own) one.is_requested

pub label_matches : (components : List Component) (literals : List Labelled) (matches : List Match) (k : ℕ) (d : Component) (fence : ℕ) →
    k < length components → AreMatches (numbered_names components) literals matches →
    Labels literals (get_or components k d).name fence → IsMatched matches k fence
label_matches components literals matches k d fence within are h =
    (are (record { own = k; requested = fence })).1 (record { name = (get_or components k d).name; is_own = numbered_has components k d within; is_requested = h })

pub reported_by_matches : (components : List Component) (literals : List Labelled) (matches : List Match) (claims : List Claim) →
    AreMatches (numbered_names components) literals matches → MatchesFound matches (length components) claims → AreClaimsByName (Labels literals) components claims
reported_by_matches components literals matches claims are reported k d within =
    reports_same (IsMatched matches k) (Labels literals (get_or components k d).name) (claim_at claims k) (λ fence. matches_label components literals matches k d fence within are) (λ fence. label_matches components literals matches k d fence within are)
    (reported k within)

-- The components below n have their claims.
abbrev pub ClaimedBelow : (List ℕ → ℕ → Type 0) → List Component → List Claim → ℕ → Type 0
ClaimedBelow claims components reported n = (k : ℕ) (d : Component) → k < n → CountsFences (claims (get_or components k d).name) (claim_at reported k)

-- The component at n has a new claim, and the others keep theirs.
pub reported_put : (claims : List ℕ → ℕ → Type 0) (components : List Component) (reported : List Claim) (n : ℕ) (c : Component) (claim : Claim) → n < length reported →
    n < length components → c ≡ get_or components n c → CountsFences (claims c.name) claim →
    ClaimedBelow claims components reported n → ClaimedBelow claims components (set reported n claim) (n + 1)
reported_put claims components reported n c claim there within is one before k d below = by (grind arith)
  where
    by : (k < n) ⊎ (k ≡ n) → CountsFences (claims (get_or components k d).name) (claim_at (set reported n claim) k)
    by (inl less) =
        let other : k ≢ n = λ e. omega (arith, less, e) in
        let same : claim_at (set reported n claim) k ≡ claim_at reported k = ap (λ o. unwrap_or o Unclaimed) (get_set_other reported n k claim other) in
        rw same (before k d less)
    by (inr last) =
        let item : get_or components k d ≡ c = ap (λ i. get_or components i d) last ∙ sym (is ∙ get_or_default components n c d within) in
        let here : claim_at (set reported n claim) k ≡ claim = ap (claim_at (set reported n claim)) last ∙ ap (λ o. unwrap_or o Unclaimed) (get_set reported n claim there) in
        rw (here, item) one

-- From n on, each component has its old claim.
abbrev pub SameFrom : ℕ → List Claim → List Claim → Type 0
SameFrom n old new = (k : ℕ) → n ≤ k → claim_at new k ≡ claim_at old k

pub same_from_put : (old new : List Claim) (n : ℕ) (claim : Claim) → SameFrom n old new → SameFrom (n + 1) old (set new n claim)
same_from_put old new n claim same k from =
    let other : k ≢ n = λ e. omega (arith, from, e) in
    ap (λ o. unwrap_or o Unclaimed) (get_set_other new n k claim other) ∙ same k (omega arith)

-- Without patterns to try, nothing is added.
pub reported_without_starred : (reported : List ℕ → ℕ → Type 0) (starred : List FencePattern) (components : List Component) (claims : List Claim) → starred ≡ [] →
    AreClaimsByName reported components claims → AreClaimsByName (λ name fence. reported name fence ⊎ ClaimsBy starred name fence) components claims
reported_without_starred reported starred components claims empty h k d within =
    let name : List ℕ = (get_or components k d).name in
    let none : length starred ≡ 0 = ap length empty in
    reports_same (reported name) (λ fence. reported name fence ⊎ ClaimsBy starred name fence) (claim_at claims k) (λ fence s. inl s)
    (λ fence u. elim u [ inl s ↦ s | inr c ↦ absurd (omega (arith, c.2)) ]) (h k d within)

-- All patterns of the index claim what literal and starred patterns claim together.
pub reported_by_index : (index : PatternIndex) (bounds : List FencePattern) (components : List Component) (claims : List Claim) (h : IndexesPatterns index bounds) →
    AreClaimsByName (λ name fence. Labels index.literals name fence ⊎ ClaimsBy h.starred name fence) components claims →
    AreClaimsByName (ClaimsBy bounds) components claims
reported_by_index index bounds components claims h reported k d within =
    let name : List ℕ = (get_or components k d).name in
    reports_same (λ fence. Labels index.literals name fence ⊎ ClaimsBy h.starred name fence) (ClaimsBy bounds name) (claim_at claims k) (h.back name)
    (h.forth name) (reported k d within)

-- The claims of all groups.
pub claims_made : (regions : List Region) (groups : List Group) (components : List Component) (claims : List Claim) →
    AreClaimsByName (ClaimsBy (all_bounds regions groups)) components claims → AreClaimsOf regions groups components claims
claims_made regions groups components claims reported k d within = claim_says regions groups (get_or components k d).name (claim_at claims k) (reported k d within)

-- The claim on a component at a number.
pub claim_there : (regions : List Region) (groups : List Group) (components : List Component) (claims : List Claim) (k : ℕ) (c : Component) →
    k < length components → c ≡ get_or components k c → AreClaimsOf regions groups components claims → IsClaimOf regions groups c.name (claim_at claims k)
claim_there regions groups components claims k c within is all = subst (λ (e : Component). IsClaimOf regions groups e.name (claim_at claims k)) (sym is) (all k c within)

-- The claim on the component with a number.
pub claim_known : (regions : List Region) (groups : List Group) (components : List Component) (claims : List Claim) (k : ℕ) (c : Component) →
    slice_get components k ≡ Some c →
    AreClaimsOf regions groups components claims → IsClaimOf regions groups c.name (claim_at claims k)
claim_known regions groups components claims k c at =
    claim_there regions groups components claims k c (slice_get_within components k c at) (sym (get_or_from_slice_get components k c c at))

-- A claim that is read.
pub claim_read : (all borrowed_view : List Claim) (number : ℕ) (claim : Claim) → borrowed_view ≡ all → claim ≡ claim_at borrowed_view number → claim_at all number ≡ claim
claim_read all borrowed_view number claim same is = sym (is ∙ ap (λ claims. claim_at claims number) same)

pub claim_is : (regions : List Region) (groups : List Group) (name : List ℕ) (old claim : Claim) → old ≡ claim → IsClaimOf regions groups name old →
    IsClaimOf regions groups name claim
claim_is regions groups name old claim same is = subst (λ c. IsClaimOf regions groups name c) same is

-- In a list without claims, no name is claimed.
pub all_unclaimed : (count number : ℕ) → claim_at (replicate count Unclaimed) number ≡ Unclaimed
all_unclaimed zero number = refl
all_unclaimed (suc count) zero = refl
all_unclaimed (suc count) (suc number) = all_unclaimed count number
