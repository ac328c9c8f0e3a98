-- Patterns with a star, stored by their keys at one end: adding one, and what they claim.
use Rattle.std.proofs.Common.{◌≡◌, ℕ, ◌+◌, ◌<◌, ◌≤◌, ◌⊎◌, inl, inr, ◌↔◌, zero, suc, Bool, true, false, List, [], ◌∷◌, ◌++◌, length, take, get_or, set, Option, None, Some, slice_get, refl, sym, subst, ap, ◌∙◌, arith}
use Rattle.std.specs.Prelude.{Any, Contains, Vec}
use Rattle.std.specs.Global.{Global}
use Rattle.std.specs.Option.{option_and_then}
use Rattle.std.specs.Str.{bytes_eq}
use Rattle.std.proofs.lemmas.Bool.{false≢true}
use Rattle.std.proofs.lemmas.List.{get_or_default, length_push, length-set}
use Rattle.std.proofs.lemmas.Slice.Eq.{bytes_eq-Decides}
use Rattle.std.proofs.lemmas.Option.{slice_get_within}
use Rattle.lf_names.specs.Names.{position_of}
use Rattle.lf_names.specs.Pattern.{Part, byte, star, parts_of, Becomes, Matches}
use Rattle.lf_names.proofs.Positions.{is_found_there}
use Rattle.lf_frame.specs.declared.claim.Claim.{Claim}
use Rattle.lf_frame.specs.declared.star_patterns.FencePattern.{FencePattern}
use Rattle.lf_frame.specs.declared.star_patterns.PatternsAtEnd.{PatternsAtEnd}
use Rattle.lf_frame.specs.Ends.{key_of, name_part_at}
use Rattle.lf_frame.specs.Claims.{merged, CountsFences, ClaimsBy, bounds_there, kept_under, ClaimsUnder, HasAtEnd, AddsUnderKey}
use Rattle.lf_frame.proofs.EndLemmas.{part_is_key}
use Rattle.lf_frame.proofs.MapLemmas.{new_there, new_others, old_there, old_others}
use Rattle.lf_frame.proofs.ClaimCounts.{one_bound_more, claims_parts, claims_old, claims_new, reports_same, reports_merged}
use Rattle.lf_units.proofs.Any.{any_first, none_of_nothing, any_parts, any_left, any_right, any_one, has_item, any_more}

-- Parts become some bytes.
becomes_some : (parts : List Part) → (name : List ℕ) × Becomes parts name
becomes_some [] = ([], refl)
becomes_some (byte c ∷ parts) = let rest = becomes_some parts in (c ∷ rest.0, (rest.0, refl, rest.1))
becomes_some (star ∷ parts) = let rest = becomes_some parts in (rest.0, ([], rest.0, refl, rest.1))

-- A list of patterns that claims nothing is empty.
pub no_claim_no_pattern : (bounds : List FencePattern) → ((name : List ℕ) (fence : ℕ) → ClaimsBy bounds name fence → ⊥) → bounds ≡ []
no_claim_no_pattern [] none = refl
no_claim_no_pattern (b ∷ bounds) none =
    let name = becomes_some (parts_of b.pattern) in
    absurd (none name.0 b.fence (any_first (λ c. (c.fence ≡ b.fence) × Matches c.pattern name.0) b bounds (refl, name.1)))

-- There are no lengths if and only if there are no patterns.
pub no_length_no_pattern : (kept : PatternsAtEnd) (bounds : List FencePattern) → length kept.lengths.items ≡ 0 → HasAtEnd kept bounds → bounds ≡ []
no_length_no_pattern kept bounds none h = no_claim_no_pattern bounds (λ name fence c. let found = h.found name fence c in omega (arith, found.2))

pub no_pattern_no_length : (kept : PatternsAtEnd) (bounds : List FencePattern) → bounds ≡ [] → HasAtEnd kept bounds → length kept.lengths.items ≡ 0
no_pattern_no_length kept bounds none h = by kept.lengths.items h.needed
  where
    by : (lengths : List ℕ) → ((count : ℕ) → Contains lengths count → Any (λ b. length (key_of kept.end b.pattern) ≡ count) bounds) → length lengths ≡ 0
    by [] needed = refl
    by (n ∷ lengths) needed = absurd (none_of_nothing (λ b. length (key_of kept.end b.pattern) ≡ n) (rw none at (needed n (0, omega arith, refl))))

-- Adding a pattern with a new key.
pub keeps_new : (old new : PatternsAtEnd) (key : List ℕ) (b : FencePattern) (own : Vec FencePattern Global) → length old.keys ≡ length old.bounds.items →
    position_of old.keys key ≡ None → own.items ≡ b ∷ [] →
    new.keys ≡ old.keys ++ key ∷ [] → new.bounds.items ≡ old.bounds.items ++ own ∷ [] → new.lengths ≡ old.lengths → new.end ≡ old.end → AddsUnderKey old new key b
keeps_new old new key b own whole absent alone keys bounds lengths end = record {
  whole = rw (keys, bounds) (omega (arith, length_push old.keys key, length_push old.bounds.items own));
  there =
      let before : kept_under old key ≡ [] = ap (λ at. bounds_there (by_place at)) absent in
      let after : kept_under new key ≡ own.items = rw (keys, bounds) (ap bounds_there (new_there old.keys old.bounds.items key own whole absent)) in
      after ∙ alone ∙ ap (λ l. l ++ b ∷ []) (sym before);
  others = λ other apart. rw (keys, bounds) (ap bounds_there (new_others old.keys old.bounds.items key own whole other apart));
  lengths = lengths;
  end = end;
}
  where
    by_place : Option ℕ → Option (Vec FencePattern Global)
    by_place at = option_and_then (slice_get old.bounds.items) at

-- Adding a pattern with a known key.
pub keeps_old : (old new : PatternsAtEnd) (key : List ℕ) (b : FencePattern) (place : ℕ) (before after : Vec FencePattern Global) →
    length old.keys ≡ length old.bounds.items → position_of old.keys key ≡ Some place → slice_get old.bounds.items place ≡ Some before →
    after.items ≡ before.items ++ b ∷ [] → new.keys ≡ old.keys → new.bounds.items ≡ set old.bounds.items place after → new.lengths ≡ old.lengths →
    new.end ≡ old.end → AddsUnderKey old new key b
keeps_old old new key b place before after whole known there more keys bounds lengths end = record {
  whole = rw (keys, bounds) (omega (arith, length-set old.bounds.items place after));
  there =
      let was : kept_under old key ≡ before.items = ap (λ at. bounds_there (option_and_then (slice_get old.bounds.items) at)) known ∙ ap bounds_there there in
      let is : kept_under new key ≡ after.items = rw (keys, bounds) (ap bounds_there (old_there old.keys old.bounds.items key place after whole known)) in
      is ∙ more ∙ ap (λ l. l ++ b ∷ []) (sym was);
  others = λ other apart. rw (keys, bounds) (ap bounds_there (old_others old.keys old.bounds.items key place after known other apart));
  lengths = lengths;
  end = end;
}

-- Each known key has patterns of its own.
pub bounds_hold : (kept : PatternsAtEnd) (key : List ℕ) (place : ℕ) → length kept.keys ≡ length kept.bounds.items →
    position_of kept.keys key ≡ Some place → (before : Vec FencePattern Global) × (slice_get kept.bounds.items place ≡ Some before)
bounds_hold kept key place whole known =
    let within : place < length kept.keys = slice_get_within kept.keys place key (is_found_there kept.keys key place known) in
    at kept.bounds.items place (omega arith)
  where
    at : (all : List (Vec FencePattern Global)) (k : ℕ) → k < length all → (before : Vec FencePattern Global) × (slice_get all k ≡ Some before)
    at [] k within = absurd (omega arith)
    at (x ∷ all) zero within = (x, refl)
    at (x ∷ all) (suc k) within = at all k (omega arith)

-- The stored patterns after one is added.
module _ (old new : PatternsAtEnd) (key : List ℕ) (b : FencePattern) (keeps : AddsUnderKey old new key b) (own : key ≡ key_of old.end b.pattern) where
  still_claims : (q name : List ℕ) (fence : ℕ) → ClaimsBy (kept_under old q) name fence → ClaimsBy (kept_under new q) name fence
  still_claims q name fence h = by (bytes_eq q key) refl
    where
      by : (t : Bool) → bytes_eq q key ≡ t → ClaimsBy (kept_under new q) name fence
      by true e =
          let same : q ≡ key = (bytes_eq-Decides q key).0 e in
          let is : kept_under new q ≡ kept_under old q ++ b ∷ [] = ap (kept_under new) same ∙ keeps.there ∙ ap (λ p. kept_under old p ++ b ∷ []) (sym same) in
          rw is (claims_old (kept_under old q) b name fence h)
      by false e =
          rw (keeps.others q (λ same. false≢true (sym e ∙ (bytes_eq-Decides q key).1 same))) h

  claims_so : (q name : List ℕ) (fence : ℕ) → ClaimsBy (kept_under new q) name fence →
      ClaimsBy (kept_under old q) name fence ⊎ ((b.fence ≡ fence) × Matches b.pattern name)
  claims_so q name fence h = by (bytes_eq q key) refl
    where
      by : (t : Bool) → bytes_eq q key ≡ t → ClaimsBy (kept_under old q) name fence ⊎ ((b.fence ≡ fence) × Matches b.pattern name)
      by true e =
          let same : q ≡ key = (bytes_eq-Decides q key).0 e in
          let is : kept_under new q ≡ kept_under old q ++ b ∷ [] = ap (kept_under new) same ∙ keeps.there ∙ ap (λ p. kept_under old p ++ b ∷ []) (sym same) in
          claims_parts (kept_under old q) b name fence (rw is at h)
      by false e =
          inl (rw (keeps.others q (λ same. false≢true (sym e ∙ (bytes_eq-Decides q key).1 same))) at h)

  -- The pattern claims a name by the name's bytes at this end.
  claims_by_own : (name : List ℕ) → Matches b.pattern name → ClaimsUnder new name (length key) b.fence
  claims_by_own name h =
      let is : key_of new.end b.pattern ≡ key = ap (λ e. key_of e b.pattern) keeps.end ∙ sym own in
      let part = rw is at (part_is_key new.end b.pattern name h) in
      let there : kept_under new (name_part_at new.end (length key) name) ≡ kept_under old key ++ b ∷ [] = ap (kept_under new) part.1 ∙ keeps.there in
      (part.0, rw there (claims_new (kept_under old key) b name h))

  pub has_one_more : (lengths : Vec ℕ Global) → ((n : ℕ) → Contains lengths.items n ↔ (Contains new.lengths.items n ⊎ (n ≡ length key))) →
      (bounds : List FencePattern) → HasAtEnd old bounds → HasAtEnd (record { end = new.end; keys = new.keys; bounds = new.bounds; lengths = lengths }) (bounds ++ b ∷ [])
  has_one_more lengths added bounds h = record {
    whole = keeps.whole;
    found = λ name fence claims. elim (claims_parts bounds b name fence claims) [
      | inl early ↦ any_more (λ count. ClaimsUnder old name count fence) (λ count. ClaimsUnder new name count fence) old.lengths.items lengths.items
          (λ n there. (grown n).1 (inl there)) (λ count under. (under.0, still_under name count fence under.1)) (h.found name fence early)
      | inr here ↦ rw (← here.0) (has_item (λ count. ClaimsUnder new name count b.fence) lengths.items (length key)
          ((grown (length key)).1 (inr refl)) (claims_by_own name here.1))
    ];
    own = λ other name fence claims. elim (claims_so other name fence claims) [
      | inl early ↦ claims_old bounds b name fence (h.own other name fence early)
      | inr here ↦ rw (← here.0) (claims_new bounds b name here.1)
    ];
    needed = λ count there. subst (λ e. Any (λ c. length (key_of e c.pattern) ≡ count) (bounds ++ b ∷ [])) (sym keeps.end) (elim ((grown count).0 there) [
      | inl early ↦ any_left (λ c. length (key_of old.end c.pattern) ≡ count) bounds (b ∷ []) (h.needed count early)
      | inr last ↦ any_right (λ c. length (key_of old.end c.pattern) ≡ count) bounds (b ∷ [])
          (any_first (λ c. length (key_of old.end c.pattern) ≡ count) b [] (sym (last ∙ ap length own)))
    ]);
  }
    where
      grown : (n : ℕ) → Contains lengths.items n ↔ (Contains old.lengths.items n ⊎ (n ≡ length key))
      grown n = rw keeps.lengths at (added n)

      still_under : (name : List ℕ) (count fence : ℕ) → ClaimsBy (kept_under old (name_part_at old.end count name)) name fence →
          ClaimsBy (kept_under new (name_part_at new.end count name)) name fence
      still_under name count fence c =
          subst (λ e. ClaimsBy (kept_under new (name_part_at e count name)) name fence) (sym keeps.end) (still_claims (name_part_at old.end count name) name fence c)

-- The claim with the claims of the patterns of one more length.
pub reports_length_more : (kept : PatternsAtEnd) (name : List ℕ) (lengths : List ℕ) (count : ℕ) (claim more : Claim) →
    CountsFences (λ fence. Any (λ n. ClaimsUnder kept name n fence) lengths) claim → CountsFences (ClaimsUnder kept name count) more →
    CountsFences (λ fence. Any (λ n. ClaimsUnder kept name n fence) (lengths ++ count ∷ [])) (merged claim more)
reports_length_more kept name lengths count claim more h g =
    reports_same (λ fence. Any (λ n. ClaimsUnder kept name n fence) lengths ⊎ ClaimsUnder kept name count fence)
    (λ fence. Any (λ n. ClaimsUnder kept name n fence) (lengths ++ count ∷ [])) (merged claim more)
    (λ fence u. elim u [
      | inl early ↦ any_left (λ n. ClaimsUnder kept name n fence) lengths (count ∷ []) early
      | inr last ↦ any_right (λ n. ClaimsUnder kept name n fence) lengths (count ∷ []) (any_first (λ n. ClaimsUnder kept name n fence) count [] last)
    ])
    (λ fence a. elim (any_parts (λ n. ClaimsUnder kept name n fence) lengths (count ∷ []) a) [
      | inl early ↦ inl early
      | inr last ↦ inr (any_one (λ n. ClaimsUnder kept name n fence) count last)
    ])
    (reports_merged (λ fence. Any (λ n. ClaimsUnder kept name n fence) lengths) (ClaimsUnder kept name count) claim more h g)

-- All patterns claim what the patterns of all lengths claim.
pub reports_all : (kept : PatternsAtEnd) (name : List ℕ) (claim : Claim) →
    CountsFences (λ fence. Any (λ n. ClaimsUnder kept name n fence) kept.lengths.items) claim → (bounds : List FencePattern) → HasAtEnd kept bounds →
    CountsFences (ClaimsBy bounds name) claim
reports_all kept name claim reported bounds h =
    reports_same (λ fence. Any (λ n. ClaimsUnder kept name n fence) kept.lengths.items) (ClaimsBy bounds name) claim
    (λ fence a. h.own (name_part_at kept.end a.1 name) name fence a.4.1) (λ fence. h.found name fence) reported

pub reports_next_length : (kept : PatternsAtEnd) (name read : List ℕ) (index : ℕ) (claim more : Claim) → read ≡ kept.lengths.items → index < length read →
    CountsFences (λ fence. Any (λ n. ClaimsUnder kept name n fence) (take index kept.lengths.items)) claim →
    CountsFences (ClaimsUnder kept name (get_or read index 0)) more → CountsFences (λ fence. Any (λ n. ClaimsUnder kept name n fence) (take (index + 1) kept.lengths.items)) (merged claim more)
reports_next_length kept name read index claim more same within h g =
    let lengths : List ℕ = kept.lengths.items in
    let inside : index < length lengths = rw same at within in
    let count : ℕ = get_or lengths index 0 in
    let one : take index lengths ++ count ∷ [] ≡ take (index + 1) lengths = one_bound_more lengths index count inside (get_or_default lengths index 0 count inside) in
    rw (← one) (reports_length_more kept name (take index lengths) count claim more h (rw same at g))

-- The patterns of a key that the name has at this end.
pub reports_under : (kept : PatternsAtEnd) (name part : List ℕ) (count : ℕ) (claim : Claim) → count ≤ length name → part ≡ name_part_at kept.end count name →
    CountsFences (ClaimsBy (kept_under kept part) name) claim → CountsFences (ClaimsUnder kept name count) claim
reports_under kept name part count claim within is h =
    reports_same (ClaimsBy (kept_under kept (name_part_at kept.end count name)) name) (ClaimsUnder kept name count) claim
    (λ fence one. (within, one)) (λ fence one. one.1) (rw is at h)
