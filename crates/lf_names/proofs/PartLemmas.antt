-- Lists of labelled names in parts.
use Rattle.std.proofs.Common.{◌≡◌, ◌≢◌, ◌↔◌, ℕ, zero, suc, ◌<◌, inl, inr, Bool, true, false, cond, List, [], ◌∷◌, ◌++◌, length, map, get_or, set, Option, None, Some, All, Contains, slice_get, refl, sym, subst, ◌∙◌, ap, arith}
use Rattle.std.proofs.lemmas.Bool.{eq-eqb, eqb-true}
use Rattle.std.proofs.lemmas.List.{length-set, get_or-set_same, get_or-set_other, append-nil}
use Rattle.std.proofs.lemmas.List.Elements.{Contains-get_or, Contains-append_left, Contains-append_right, Contains-append_cases, filter-append}
use Rattle.std.proofs.lemmas.List.Kept.{AllPairs-cons, AllPairs-filter}
use Rattle.std.proofs.lemmas.List.Sorted.{IsPermutation-sym, Contains-permutation}
use Rattle.std.proofs.lemmas.Option.{slice_get-map, slice_get_within, slice_get-get_or, get_or_from_slice_get}
use Rattle.std.specs.List.{cons_option, filter, filter_map}
use Rattle.std.specs.List.Sorted.{IsPermutation}
use Rattle.std.specs.Option.{option_map, option_and_then}
use Rattle.std.specs.Prelude.{◌==◌}
use Rattle.lf_names.specs.Names.{position_of}
use Rattle.lf_names.specs.Labels.{Labelled, Differ, IsMatch, AreMatches, label_in, labels_of, match_of, matches_of}
use Rattle.lf_names.specs.NameParts.{StoresNames, ArePartsOf, names_of_part, part_of, part_count}
use Rattle.lf_names.specs.declared.partitioned.Match.{Match}
use Rattle.lf_names.specs.declared.partitioned.LabelledNames.{LabelledNames}
use Rattle.lf_names.proofs.Gathered.{gathered, all_gathered, filter_map_same}
use Rattle.lf_names.proofs.LabelledLemmas.{differ_names}
use Rattle.lf_names.proofs.Positions.{is_found_there, found_there}

-- A part is one of the parts.
pub part_within : (name : List ℕ) → part_of name < part_count
unfolding part_of
part_within name = omega arith

one_alone : {X : Type 0} (x y : X) → Contains (x ∷ []) y → x ≡ y
one_alone x y (zero, within, is) = is
one_alone x y (suc k, within, is) = absurd (omega arith)

-- The elements that a filter keeps.
module _ {X : Type 0} (p : X → Bool) where
  kept : (xs : List X) (x : X) → p x ≡ true → Contains xs x → Contains (filter p xs) x
  kept [] x passes there = let none : there.0 < 0 = there.1 in absurd (omega arith)
  kept (y ∷ xs) x passes (zero, within, is) = subst (λ t. Contains (cond t (y ∷ filter p xs) (filter p xs)) x) (sym (ap p is ∙ passes)) (0, omega arith, is)
  kept (y ∷ xs) x passes (suc k, within, is) = after_it (p y) (kept xs x passes (k, omega arith, is))
    where
      after_it : (t : Bool) → Contains (filter p xs) x → Contains (cond t (y ∷ filter p xs) (filter p xs)) x
      after_it true there = Contains-append_right (y ∷ []) (filter p xs) x there
      after_it false there = there

  original_place : (xs : List X) (x : X) → Contains (filter p xs) x → Contains xs x
  original_place [] x there = there
  original_place (y ∷ xs) x there = by (p y) there (original_place xs x)
    where
      by : (t : Bool) → Contains (cond t (y ∷ filter p xs) (filter p xs)) x → (Contains (filter p xs) x → Contains xs x) → Contains (y ∷ xs) x
      by true there more = elim (Contains-append_cases (y ∷ []) (filter p xs) x there) [
        | inl one ↦ Contains-append_left (y ∷ []) xs x one
        | inr later ↦ Contains-append_right (y ∷ []) xs x (more later)
      ]
      by false there more = Contains-append_right (y ∷ []) xs x (more there)

-- The values of a list of options.
module _ {X Y : Type 0} (f : X → Option Y) (y : Y) where
  given : (xs : List X) → Contains (filter_map f xs) y → (x : X) × Contains xs x × (f x ≡ Some y)
  given [] there = let none : there.0 < 0 = there.1 in absurd (omega arith)
  given (x ∷ xs) there = by (f x) refl there (given xs)
    where
      by : (o : Option Y) → f x ≡ o → Contains (cons_option o (filter_map f xs)) y → (Contains (filter_map f xs) y → (w : X) × Contains xs w × (f w ≡ Some y)) → (w : X) × Contains (x ∷ xs) w × (f w ≡ Some y)
      by None e there more = let w = more there in (w.0, Contains-append_right (x ∷ []) xs w.0 w.1, w.2)
      by (Some z) e there more = elim (Contains-append_cases (z ∷ []) (filter_map f xs) y there) [
        | inl one ↦ (x, (0, omega arith, refl), e ∙ ap Some (one_alone z y one))
        | inr later ↦ let w = more later in (w.0, Contains-append_right (x ∷ []) xs w.0 w.1, w.2)
      ]

  gives : (xs : List X) (x : X) → Contains xs x → f x ≡ Some y → Contains (filter_map f xs) y
  gives [] x there e = let none : there.0 < 0 = there.1 in absurd (omega arith)
  gives (w ∷ xs) x (zero, within, is) e = subst (λ o. Contains (cons_option o (filter_map f xs)) y) (sym (ap f is ∙ e)) (0, omega arith, refl)
  gives (w ∷ xs) x (suc k, within, is) e = after_it (f w) (gives xs x (k, omega arith, is) e)
    where
      after_it : (o : Option Y) → Contains (filter_map f xs) y → Contains (cons_option o (filter_map f xs)) y
      after_it None there = there
      after_it (Some z) there = Contains-append_right (z ∷ []) (filter_map f xs) y there

-- Names that differ have one label each.
named : (o : Option Labelled) (name : List ℕ) → option_map (λ n. n.name) o ≡ Some name → (n : Labelled) × (o ≡ Some n) × (n.name ≡ name)
named None name e = absurd (cc)
named (Some n) name e = (n, refl, cc)

has_label : (names : List Labelled) (name : List ℕ) (label : ℕ) → label_in names name ≡ Some label → Contains names (record { label = label; name = name })
has_label names name label e = by (position_of (map (λ n. n.name) names) name) refl
  where
    label_there : (n : Labelled) (i : ℕ) → position_of (map (λ m. m.name) names) name ≡ Some i → slice_get names i ≡ Some n → n.label ≡ label
    label_there n i known there =
        let own : label_in names name ≡ Some n.label = ap (option_and_then (λ at. option_map (λ (m : Labelled). m.label) (slice_get names at))) known ∙ ap (option_map (λ (m : Labelled). m.label)) there in
        let some : Some n.label ≡ Some label = sym own ∙ e in
        cc

    by : (o : Option ℕ) → position_of (map (λ n. n.name) names) name ≡ o → Contains names (record { label = label; name = name })
    by None known =
        let none : None ≡ Some label = sym (ap (option_and_then (λ at. option_map (λ (n : Labelled). n.label) (slice_get names at))) known) ∙ e in
        absurd (cc)
    by (Some i) known =
        let there = named (slice_get names i) name (sym (slice_get-map (λ n. n.name) names i) ∙ is_found_there (map (λ n. n.name) names) name i known) in
        let same : there.0.label ≡ label = label_there there.0 i known there.1 in
        let is : ◌≡◌ {A = Labelled} there.0 (record { label = label; name = name }) = ap (λ l. record { label = l; name = there.0.name }) same ∙ ap (λ m. record { label = label; name = m }) there.2 in
        subst (Contains names) is (i, slice_get_within names i there.0 there.1, get_or_from_slice_get names i there.0 there.0 there.1)

label_is : (names : List Labelled) → Differ names → (n : Labelled) → Contains names n → label_in names n.name ≡ Some n.label
label_is names differ n there =
    let at : slice_get names there.0 ≡ Some n = slice_get-get_or names there.0 n there.1 ∙ ap Some there.2 in
    let named_there : slice_get (map (λ (m : Labelled). m.name) names) there.0 ≡ Some n.name = slice_get-map (λ m. m.name) names there.0 ∙ ap (option_map (λ (m : Labelled). m.name)) at in
    let known : position_of (map (λ (m : Labelled). m.name) names) n.name ≡ Some there.0 = found_there (map (λ m. m.name) names) n.name there.0 (differ_names names differ) named_there in
    ap (option_and_then (λ i. option_map (λ (m : Labelled). m.label) (slice_get names i))) known ∙ ap (option_map (λ (m : Labelled). m.label)) at

-- The matches of one part whose names differ.
matched : (names requested : List Labelled) → Differ names → (m : Match) → Contains (matches_of names requested) m ↔ IsMatch names requested m
matched names requested differ m = (forth, back)
  where
    forth : Contains (matches_of names requested) m → IsMatch names requested m
    forth there = let q = given (match_of names) m requested there in by q.0 q.1 (label_in names q.0.name) refl q.2
      where
        by : (q : Labelled) → Contains requested q → (o : Option ℕ) → label_in names q.name ≡ o → match_of names q ≡ Some m → IsMatch names requested m
        by q is_in_place None e is = let none : None ≡ Some m = sym (ap (option_map (labels_of q.label)) e) ∙ is in absurd (cc)
        by q is_in_place (Some own) e is =
            let some : Some (labels_of q.label own) ≡ Some m = sym (ap (option_map (labels_of q.label)) e) ∙ is in
            let same : labels_of q.label own ≡ m = cc in
            record {
              name = q.name;
              is_own = has_label names q.name m.own (e ∙ ap (λ (l : Match). Some l.own) same);
              is_requested = subst (λ l. Contains requested (record { label = l; name = q.name })) (ap (λ (l : Match). l.requested) same) is_in_place;
            }

    back : IsMatch names requested m → Contains (matches_of names requested) m
    back is = gives (match_of names) m requested (record { label = m.requested; name = is.name }) is.is_requested (ap (option_map (labels_of m.requested)) (label_is names differ (record { label = m.own; name = is.name }) is.is_own))

-- Names differ if and only if they differ in each part.
pub differ_in_part : (names : List Labelled) (part : ℕ) → Differ names → Differ (names_of_part part names)
differ_in_part names part differ = AllPairs-filter (λ n later. n.name ≢ later.name) (λ n. part_of n.name == part) names differ

after_differ : (n : Labelled) (names : List Labelled) (t : Bool) → Differ (cond t (n ∷ names) names) → Differ names
after_differ n names true differ = λ i j d less within. differ (suc i) (suc j) d (omega arith) (omega arith)
after_differ n names false differ = differ

-- A name that differs from the later names of its part differs from all later names.
differs_from : (n : Labelled) (names : List Labelled) (part : ℕ) → part_of n.name ≡ part → Differ (names_of_part part (n ∷ names)) → All (λ later. n.name ≢ later.name) names
differs_from n names part is differ k d within same =
    let later : Labelled = get_or names k d in
    let own : Differ (n ∷ names_of_part part names) = subst (λ t. Differ (cond t (n ∷ names_of_part part names) (names_of_part part names))) (eq-eqb (part_of n.name) part is) differ in
    let there = kept (λ m. part_of m.name == part) names later (eq-eqb (part_of later.name) part (ap part_of (sym same) ∙ is)) (Contains-get_or names k d within) in
    let inside : there.0 < length (names_of_part part names) = there.1 in
    own 0 (suc there.0) later (omega arith) (omega arith) (same ∙ ap (λ (m : Labelled). m.name) (sym there.2))

pub all_differ : (names : List Labelled) → ((k : ℕ) → k < part_count → Differ (names_of_part k names)) → Differ names
all_differ [] parts = λ i j d less within. absurd (omega arith)
all_differ (n ∷ names) parts =
    AllPairs-cons (λ m later. m.name ≢ later.name) n names
    (differs_from n names (part_of n.name) refl (parts (part_of n.name) (part_within n.name)))
    (all_differ names (λ k below. after_differ n (names_of_part k names) (part_of n.name == k) (parts k below)))

-- If names differ, a name has the label that it has in its part.
label_in_part : (names : List Labelled) → Differ names → (name : List ℕ) → label_in (names_of_part (part_of name) names) name ≡ label_in names name
label_in_part names differ name = by (label_in names name) refl (label_in (names_of_part (part_of name) names) name) refl
  where
    by : (o : Option ℕ) → label_in names name ≡ o → (p : Option ℕ) → label_in (names_of_part (part_of name) names) name ≡ p → label_in (names_of_part (part_of name) names) name ≡ label_in names name
    by (Some label) e p inside =
        let n : Labelled = record { label = label; name = name } in
        let there : Contains (names_of_part (part_of name) names) n = kept (λ m. part_of m.name == part_of name) names n (eq-eqb (part_of name) (part_of name) refl) (has_label names name label e) in
        label_is (names_of_part (part_of name) names) (differ_in_part names (part_of name) differ) n there ∙ sym e
    by None e None inside = inside ∙ sym e
    by None e (Some label) inside =
        let n : Labelled = record { label = label; name = name } in
        let there : Contains names n = original_place (λ m. part_of m.name == part_of name) names n (has_label (names_of_part (part_of name) names) name label inside) in
        let known : label_in names name ≡ Some label = label_is names differ n there in
        absurd (cc)

-- The matches of the parts below this one, part by part.
abbrev pub matches_below : List Labelled → List Labelled → ℕ → List Match
matches_below names requested part = gathered (λ q. part_of q.name) (λ k. match_of (names_of_part k names)) part requested

-- All parts together have the matches of the requested names.
pub all_matched : (names requested : List Labelled) (matches : List Match) (part : ℕ) → part ≡ part_count → ((k : ℕ) → k < part → Differ (names_of_part k names)) → matches ≡ matches_below names requested part → IsPermutation (matches_of names requested) matches
all_matched names requested matches part many parts are =
    let differ : Differ names = all_differ names (subst (λ n. (k : ℕ) → k < n → Differ (names_of_part k names)) many parts) in
    let all : matches ≡ matches_below names requested part_count = are ∙ ap (matches_below names requested) many in
    let inside : Labelled → Option Match = λ q. match_of (names_of_part (part_of q.name) names) q in
    let same : filter_map inside requested ≡ matches_of names requested = filter_map_same inside (match_of names) requested (λ q. ap (option_map (labels_of q.label)) (label_in_part names differ q.name)) in
    let found : IsPermutation (matches_below names requested part_count) (filter_map inside requested) = all_gathered (λ q. part_of q.name) (λ k. match_of (names_of_part k names)) part_count requested (λ q. part_within q.name) in
    IsPermutation-sym matches (matches_of names requested) (subst (λ ms. IsPermutation ms (matches_of names requested)) (sym all) (subst (IsPermutation (matches_below names requested part_count)) same found))

-- A list that has the matches of the requested names has no others.
pub are_matches : (names requested : List Labelled) (matches : List Match) → Differ names → IsPermutation (matches_of names requested) matches → AreMatches names requested matches
are_matches names requested matches differ same m = (
  λ there. (matched names requested differ m).0 (Contains-permutation matches (matches_of names requested) m (IsPermutation-sym (matches_of names requested) matches same) there),
  λ is. Contains-permutation (matches_of names requested) matches m same ((matched names requested differ m).1 is),
)

-- One more name, in its part.
part_more : (names : List Labelled) (n : Labelled) (part : ℕ) (t : Bool) → (part_of n.name == part) ≡ t → names_of_part part (names ++ n ∷ []) ≡ names_of_part part names ++ cond t (n ∷ []) []
part_more names n part t is = filter-append (λ m. part_of m.name == part) names (n ∷ []) ∙ ap (λ b. names_of_part part names ++ cond b (n ∷ []) []) is

module _ (names : List Labelled) (n : Labelled) (old new : List LabelledNames) (d store : LabelledNames) (before : ArePartsOf names old)
    (keeps : (own : List Labelled) → StoresNames (get_or old (part_of n.name) d) own → StoresNames store (own ++ n ∷ [])) (parts : new ≡ set old (part_of n.name) store)
  where
    within : part_of n.name < length old
    within = let below : part_of n.name < part_count = part_within n.name in let many : length old ≡ part_count = before.many in omega arith

    after : (part : ℕ) (e : LabelledNames) → part < part_count → (t : Bool) → (part_of n.name == part) ≡ t →
        StoresNames (get_or (set old (part_of n.name) store) part e) (names_of_part part (names ++ n ∷ []))
    after part e below true is =
        let same : part ≡ part_of n.name = sym (eqb-true (part_of n.name) part is) in
        let here : get_or (set old (part_of n.name) store) part e ≡ store = ap (λ k. get_or (set old (part_of n.name) store) k e) same
        ∙ get_or-set_same old (part_of n.name) store e within in
        let own : StoresNames store (names_of_part part names ++ n ∷ []) = keeps (names_of_part part names)
        (subst (λ k. StoresNames (get_or old k d) (names_of_part part names)) same (before.each part d below)) in
        rw here (subst (StoresNames store) (sym (part_more names n part true is)) own)
    after part e below false is =
        let other : part ≢ part_of n.name = λ same. let yes : (part_of n.name == part) ≡ true = eq-eqb (part_of n.name) part (sym same) in cc in
        let kept_names : names_of_part part (names ++ n ∷ []) ≡ names_of_part part names = part_more names n part false is
        ∙ append-nil (names_of_part part names) in
        rw (get_or-set_other old (part_of n.name) part store e other) (subst (StoresNames (get_or old part e)) (sym kept_names) (before.each part e below))

    pub pushed : ArePartsOf (names ++ n ∷ []) new
    pushed = record {
      many = ap length parts ∙ length-set old (part_of n.name) store ∙ before.many;
      each = λ part e below. rw parts (after part e below (part_of n.name == part) refl);
    }

-- The part of a number has the same names, in a store of its own.
pub kept_in_part : (names : List Labelled) (number : ℕ) (old new : List LabelledNames) (d store : LabelledNames) → ArePartsOf names old →
    number < part_count → ((own : List Labelled) → StoresNames (get_or old number d) own → StoresNames store own) →
    new ≡ set old number store → ArePartsOf names new
kept_in_part names number old new d store before below keeps parts = record {
  many = ap length parts ∙ length-set old number store ∙ before.many;
  each = λ part e within. rw parts (after part e within (number == part) refl);
}
  where
    after : (part : ℕ) (e : LabelledNames) → part < part_count → (t : Bool) → (number == part) ≡ t →
        StoresNames (get_or (set old number store) part e) (names_of_part part names)
    after part e within true is =
        let same : part ≡ number = sym (eqb-true number part is) in
        let many : length old ≡ part_count = before.many in
        let here : get_or (set old number store) part e ≡ store = ap (λ k. get_or (set old number store) k e) same
        ∙ get_or-set_same old number store e (omega arith) in
        let own : StoresNames store (names_of_part number names) = keeps (names_of_part number names) (before.each number d below) in
        rw (here, same) own
    after part e within false is =
        let other : part ≢ number = λ same. let yes : (number == part) ≡ true = eq-eqb number part (sym same) in cc in
        rw (get_or-set_other old number part store e other) (before.each part e within)
