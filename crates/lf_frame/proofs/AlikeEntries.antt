-- Lists of components that differ only in the places of the movable ones: the same entry is the
-- first to break a rule.
use Rattle.std.proofs.Common.{◌≡◌, ℕ, ◌<◌, Bool, false, List, [], ◌∷◌, length, map, take, get_or, Option, None, Some, refl, sym, ◌∙◌, ap, subst, arith}
use Rattle.std.specs.Prelude.{slice_get, option_map, IsSomeAnd}
use Rattle.std.proofs.lemmas.List.{take-map, get_or-map, length-map}
use Rattle.std.proofs.lemmas.Option.{slice_get-map}
use Rattle.lf_def.specs.declared.regions.Region.{Region}
use Rattle.lf_def.specs.declared.groups.Group.{Group}
use Rattle.lf_def.specs.declared.components.Component.{Component}
use Rattle.lf_def.specs.declared.components.PlacementClause.{PlacementClause}
use Rattle.lf_def.specs.declared.components.PlacementKind.{PlacementKind}
use Rattle.lf_def.specs.declared.components.PlacementKind.TheVariants.{Fixed, Cover, Placed, Unplaced}
use Rattle.lf_def.specs.declared.components.Location.{Location}
use Rattle.lf_def.specs.Laws.{without_places}
use Rattle.lf_lef.specs.Contents.{Contents}
use Rattle.lf_frame.specs.Entries.{FirstIs}
use Rattle.lf_def.specs.Kinds.{is_fixed_kind, is_cover_kind, has_kind, is_fixed, is_cover, is_movable}
use Rattle.lf_frame.specs.Loading.{at_place, macro_named, has_size, IsWholeSize}
use Rattle.lf_frame.specs.ClaimRefusals.{HasEarlierName, HasTwoFences, IsClaimedTwice}
use Rattle.lf_frame.specs.Refusals.{HasNoMacro, HasNoSize, HasPartUnits, IsComponentTooMany}
use Rattle.lf_frame.specs.Findings.{NameOfFirst}
use Rattle.lf_frame.specs.Alike.{without_movable_place}
use Rattle.lf_units.proofs.Any.{name_of_any, any_of_name}

-- Holds if the components are the same, except for the place of a movable one.
abbrev pub Same : Component → Component → Type 0
Same a b = without_movable_place a ≡ without_movable_place b

-- Holds if the components are the same, except for the places of movable ones.
abbrev pub SameAll : List Component → List Component → Type 0
SameAll xs ys = map without_movable_place xs ≡ map without_movable_place ys

-- A fact about every component holds of every component that is the same.

abbrev settled_placement : Option PlacementClause → Option PlacementClause
settled_placement p = (without_movable_place (record { name = []; mac = []; placement = p; semicolon = 0 })).placement

says_settled : (is_kind : PlacementKind → Bool) → is_kind Placed ≡ false → is_kind Unplaced ≡ false → (p : Option PlacementClause)
    → has_kind is_kind (settled_placement p) ≡ has_kind is_kind p
says_settled is_kind placed unplaced None = refl
says_settled is_kind placed unplaced (Some p) = by p.kind p.place p.start p.stop
  where
    by : (kind : PlacementKind) (place : Option Location) (start stop : ℕ) →
        has_kind is_kind (settled_placement (Some (record { kind = kind; place = place; start = start; stop = stop }))) ≡ is_kind kind
    by Fixed place start stop = refl
    by Cover place start stop = refl
    by Placed place start stop = sym placed
    by Unplaced place start stop = sym unplaced

-- A component without its positions is the same.
pub settled_without : (c : Component) → without_movable_place (without_places c) ≡ without_movable_place c
settled_without c = by c.placement
  where
    by : (p : Option PlacementClause) → without_movable_place (without_places (record c { placement = p })) ≡ without_movable_place (record c { placement = p })
    by None = refl
    by (Some p) = kinds p.kind p.place p.start p.stop
      where
        kinds : (kind : PlacementKind) (place : Option Location) (start stop : ℕ) →
            without_movable_place (without_places (record c { placement = Some (record { kind = kind; place = place; start = start; stop = stop }) }))
            ≡ without_movable_place (record c { placement = Some (record { kind = kind; place = place; start = start; stop = stop }) })
        kinds Fixed place start stop = refl
        kinds Cover place start stop = refl
        kinds Placed place start stop = refl
        kinds Unplaced place start stop = refl

pub name_same : (a b : Component) → Same a b → a.name ≡ b.name
name_same a b same = ap (λ c. c.name) same

pub mac_same : (a b : Component) → Same a b → a.mac ≡ b.mac
mac_same a b same = ap (λ c. c.mac) same

pub fixed_same : (a b : Component) → Same a b → is_fixed a ≡ is_fixed b
fixed_same a b same = sym (says_settled is_fixed_kind refl refl a.placement) ∙ ap is_fixed same ∙ says_settled is_fixed_kind refl refl b.placement

pub cover_same : (a b : Component) → Same a b → is_cover a ≡ is_cover b
cover_same a b same = sym (says_settled is_cover_kind refl refl a.placement) ∙ ap is_cover same ∙ says_settled is_cover_kind refl refl b.placement

pub movable_same : (a b : Component) → Same a b → is_movable a ≡ is_movable b
movable_same a b same = rw (fixed_same a b same, cover_same a b same)

-- Lists that are the same have the same component at each place.

pub length_same : (xs ys : List Component) → SameAll xs ys → length xs ≡ length ys
length_same xs ys same = sym (length-map xs without_movable_place) ∙ ap length same ∙ length-map ys without_movable_place

take_same : (xs ys : List Component) (k : ℕ) → SameAll xs ys → SameAll (take k xs) (take k ys)
take_same xs ys k same = sym (take-map without_movable_place k xs) ∙ ap (take k) same ∙ take-map without_movable_place k ys

entry_same : (xs ys : List Component) (k : ℕ) (d : Component) → SameAll xs ys → k < length ys → Same (get_or xs k d) (get_or ys k d)
entry_same xs ys k d same within =
    let there : k < length xs = omega (arith, length_same xs ys same) in
    sym (get_or-map without_movable_place xs k d d there) ∙ ap (λ l. get_or l k d) same ∙ get_or-map without_movable_place ys k d d within

-- The names of components.
names_same : (name_of : Component → List ℕ) → ((c : Component) → name_of (without_movable_place c) ≡ name_of c) → (xs ys : List Component) → SameAll xs ys →
    map name_of xs ≡ map name_of ys
names_same name_of without xs ys same = of_map xs ∙ ap (map name_of) same ∙ sym (of_map ys)
  where
    of_map : (cs : List Component) → map name_of cs ≡ map name_of (map without_movable_place cs)
    of_map [] = refl
    of_map (c ∷ cs) = rw (without c, of_map cs)

-- Holds if the places of movable components do not affect whether an entry breaks the rule.
abbrev pub Respects : (List Component → Component → Type 0) → Type 0
Respects breaks = (xs ys : List Component) (a b : Component) → SameAll xs ys → Same a b → breaks xs a → breaks ys b

broken_same : (breaks : List Component → Component → Type 0) → Respects breaks → (xs ys : List Component) → SameAll xs ys → (k : ℕ) (d : Component) →
    k < length ys → breaks (take k xs) (get_or xs k d) → breaks (take k ys) (get_or ys k d)
broken_same breaks respects xs ys same k d within = respects (take k xs) (take k ys) (get_or xs k d) (get_or ys k d) (take_same xs ys k same)
    (entry_same xs ys k d same within)

-- The same entry is the first to break the rule.
first_alike : (breaks : List Component → Component → Type 0) → Respects breaks → (xs ys : List Component) → SameAll xs ys → (place : Option ℕ) →
    FirstIs breaks xs place → FirstIs breaks ys place
first_alike breaks respects xs ys same None none = λ k d within broken.
    let there : k < length xs = omega (arith, length_same xs ys same) in
    none k d there (broken_same breaks respects ys xs (sym same) k d there broken)
first_alike breaks respects xs ys same (Some n) first =
    let long : length xs ≡ length ys = length_same xs ys same in
    record {
      within = rw (← long) first.within;
      breaking = λ d. broken_same breaks respects xs ys same n d (rw (← long) first.within) (first.breaking d);
      none_before = λ k d before broken.
          let there : k < length xs = omega arith in
          first.none_before k d before (broken_same breaks respects ys xs (sym same) k d there broken);
    }

named_alike : (name_of : Component → List ℕ) → ((c : Component) → name_of (without_movable_place c) ≡ name_of c) → (xs ys : List Component) → SameAll xs ys →
    (place : Option ℕ) → option_map name_of (at_place xs place) ≡ option_map name_of (at_place ys place)
named_alike name_of without xs ys same None = refl
named_alike name_of without xs ys same (Some n) =
    sym (slice_get-map name_of xs n) ∙ ap (λ l. slice_get l n) (names_same name_of without xs ys same) ∙ slice_get-map name_of ys n

-- The first component that breaks a rule has the same name.
pub name_alike : (name_of : Component → List ℕ) → ((c : Component) → name_of (without_movable_place c) ≡ name_of c) → (breaks : List Component → Component → Type 0) →
    Respects breaks →
    (xs ys : List Component) → SameAll xs ys → (found : Option (List ℕ)) → NameOfFirst name_of breaks xs found → NameOfFirst name_of breaks ys found
name_alike name_of without breaks respects xs ys same found n = record {
  place = n.place;
  first = first_alike breaks respects xs ys same n.place n.first;
  name = n.name ∙ named_alike name_of without xs ys same n.place;
}

-- No rule for components depends on the places of movable components.

pub no_macro_respects : (library : Contents) → Respects (HasNoMacro library)
no_macro_respects library xs ys a b all same h = (sym (cover_same a b same) ∙ h.0, subst (λ m. macro_named library m ≡ None) (mac_same a b same) h.1)

pub no_size_respects : (library : Contents) → Respects (HasNoSize library)
no_size_respects library xs ys a b all same h =
    (sym (cover_same a b same) ∙ h.0, subst (λ name. IsSomeAnd (macro_named library name) (λ m. has_size m.size ≡ false)) (mac_same a b same) h.1)

pub part_units_respects : (library : Contents) (units : ℕ) → Respects (HasPartUnits library units)
part_units_respects library units xs ys a b all same h =
    (sym (cover_same a b same) ∙ h.0, subst (λ name. IsSomeAnd (macro_named library name) (λ m. IsWholeSize units m.size → ⊥)) (mac_same a b same) h.1)

pub earlier_name_respects : Respects HasEarlierName
earlier_name_respects xs ys a b all same h =
    let names : map (λ c. c.name) xs ≡ map (λ c. c.name) ys = names_same (λ c. c.name) (λ c. refl) xs ys all in
    any_of_name (λ c. c.name) ys b.name (rw (names, name_same a b same) at (name_of_any (λ c. c.name) xs a.name h))

pub claimed_twice_respects : (regions : List Region) (groups : List Group) → Respects (IsClaimedTwice regions groups)
claimed_twice_respects regions groups xs ys a b all same h = (sym (movable_same a b same) ∙ h.0, subst (HasTwoFences regions groups) (name_same a b same) h.1)

pub too_many_respects : (limit : ℕ) → Respects (IsComponentTooMany limit)
too_many_respects limit xs ys a b all same h = omega (arith, length_same xs ys all)
