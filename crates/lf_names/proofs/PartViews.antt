-- The names of all parts as one list.
use Rattle.std.proofs.Common.{◌≡◌, ◌≢◌, ℕ, zero, suc, ◌+◌, ◌<◌, ◌≤◌, ◌⊎◌, inl, inr, Bool, true, false, cond, List, [], ◌∷◌, ◌++◌, length, take, drop, map}
use Rattle.std.proofs.Common.{get_or, Some, refl, sym, subst, ◌∙◌, ap, append_assoc, arith}
use Rattle.std.proofs.Math.Seq.{take-append_seam, drop-append_seam}
use Rattle.std.proofs.lemmas.Bool.{eqb-true, ne_eqb}
use Rattle.std.proofs.lemmas.List.{append-nil, take_more, take_all}
use Rattle.std.proofs.lemmas.List.Elements.{filter-append}
use Rattle.std.proofs.lemmas.List.Sorted.{IsPermutation-sym}
use Rattle.std.specs.List.{filter, filter_map, flat_map}
use Rattle.std.specs.List.Sorted.{IsPermutation}
use Rattle.std.specs.Prelude.{◌==◌}
use Rattle.lf_names.specs.Labels.{Labelled}
use Rattle.lf_names.specs.NameParts.{StoresNames, ArePartsOf, AreParted, part_of, part_count, stored_bytes, entry_of, cut_names, names_of_part, names_of_parts}
use Rattle.lf_names.specs.declared.partitioned.LabelledNames.{LabelledNames}
use Rattle.lf_names.proofs.Gathered.{gathered, all_gathered}
use Rattle.lf_names.proofs.PartLemmas.{part_within}

-- The entries cut the joined bytes of names into these names.
cut_joined : (names : List Labelled) → cut_names (map entry_of names) (stored_bytes names) ≡ names
cut_joined [] = refl
cut_joined (n ∷ names) =
    ap (λ bytes. record { label = n.label; name = bytes } ∷ cut_names (map entry_of names) (drop (length n.name) (stored_bytes (n ∷ names))))
    (take-append_seam n.name (stored_bytes names))
    ∙ ap (λ bytes. n ∷ cut_names (map entry_of names) bytes) (drop-append_seam n.name (stored_bytes names))
    ∙ ap (λ ns. n ∷ ns) (cut_joined names)

cut_kept : (store : LabelledNames) (names : List Labelled) → StoresNames store names → cut_names store.entries store.bytes.items ≡ names
cut_kept store names keeps = ap (λ bytes. cut_names store.entries bytes) keeps.bytes ∙ ap (λ entries. cut_names entries (stored_bytes names)) keeps.entries ∙
    cut_joined names

-- The names of the parts below this one, part by part.
abbrev pub parted : ℕ → List Labelled → List Labelled
parted zero names = []
parted (suc k) names = parted k names ++ names_of_part k names

nothing_parted : (k : ℕ) → parted k [] ≡ []
nothing_parted zero = refl
nothing_parted (suc k) = ap (λ ns. ns ++ []) (nothing_parted k)

one_more : {X Y : Type 0} (f : X → List Y) (xs : List X) (x : X) → flat_map f (xs ++ x ∷ []) ≡ flat_map f xs ++ f x
one_more f [] x = append-nil (f x)
one_more f (y ∷ xs) x = ap (λ ys. f y ++ ys) (one_more f xs x) ∙ sym (append_assoc (f y) (flat_map f xs) (f x))

head : {X : Type 0} (xs : List X) → 0 < length xs → X
head [] some = absurd (omega arith)
head (x ∷ xs) some = x

parted_below : (names : List Labelled) (parts : List LabelledNames) → ArePartsOf names parts → (k : ℕ) → k ≤ part_count →
    names_of_parts (take k parts) ≡ parted k names
parted_below names parts are zero below = refl
parted_below names parts are (suc k) below =
    let many : length parts ≡ part_count = are.many in
    let d : LabelledNames = head parts (omega arith) in
    let p : LabelledNames = get_or parts k d in
    let next : suc k ≡ k + 1 = omega arith in
    let front : take (suc k) parts ≡ take k parts ++ p ∷ [] = ap (λ n. take n parts) next ∙ take_more parts k d (omega arith) in
    ap names_of_parts front ∙ one_more (λ s. cut_names s.entries s.bytes.items) (take k parts) p
    ∙ ap (λ ns. ns ++ cut_names p.entries p.bytes.items) (parted_below names parts are k (omega arith))
    ∙ ap (λ ns. parted k names ++ ns) (cut_kept p (names_of_part k names) (are.each k d (omega arith)))

-- The list of the names of the parts depends only on the names.
pub view_parted : (names : List Labelled) (parts : List LabelledNames) → ArePartsOf names parts → names_of_parts parts ≡ parted part_count names
view_parted names parts are =
    let many : length parts ≡ part_count = are.many in
    ap names_of_parts (sym (take_all part_count parts (omega arith))) ∙ parted_below names parts are part_count (omega arith)

-- The parts of an empty list have no name.
pub view_empty : (parts : List LabelledNames) → ArePartsOf [] parts → names_of_parts parts ≡ []
view_empty parts are = view_parted [] parts are ∙ nothing_parted part_count

-- Two stores of the same names are seen as one list.
pub view_same : (names : List Labelled) (parts more : List LabelledNames) → ArePartsOf names parts → ArePartsOf names more →
    names_of_parts more ≡ names_of_parts parts
view_same names parts more first second = view_parted names more second ∙ sym (view_parted names parts first)

some_of_all : (xs : List Labelled) → filter_map (λ x. Some x) xs ≡ xs
some_of_all [] = refl
some_of_all (x ∷ xs) = ap (λ ys. x ∷ ys) (some_of_all xs)

parted_gathered : (k : ℕ) (names : List Labelled) → gathered (λ n. part_of n.name) (λ part n. Some n) k names ≡ parted k names
parted_gathered zero names = refl
parted_gathered (suc k) names = ap (λ ns. ns ++ filter_map (λ n. Some n) (names_of_part k names)) (parted_gathered k names) ∙ ap (λ ns. parted k names ++ ns)
    (some_of_all (names_of_part k names))

-- The list has each of the names, as often as they do.
pub view_permuted : (names : List Labelled) (parts : List LabelledNames) → ArePartsOf names parts → IsPermutation names (names_of_parts parts)
view_permuted names parts are =
    let all : IsPermutation (gathered (λ n. part_of n.name) (λ part n. Some n) part_count names) (filter_map (λ n. Some n) names) = all_gathered
    (λ n. part_of n.name) (λ part n. Some n) part_count names (λ n. part_within n.name) in
    let own : IsPermutation (names_of_parts parts) names =
    subst (λ ns. IsPermutation ns names) (parted_gathered part_count names ∙ sym (view_parted names parts are))
    (subst (IsPermutation (gathered (λ n. part_of n.name) (λ part n. Some n) part_count names)) (some_of_all names) all) in
    IsPermutation-sym (names_of_parts parts) names own

-- Filtering what a filter kept.
kept_twice : {X : Type 0} (p : X → Bool) (xs : List X) → filter p (filter p xs) ≡ filter p xs
kept_twice p [] = refl
kept_twice p (x ∷ xs) = by (p x) refl (kept_twice p xs)
  where
    by : (t : Bool) → p x ≡ t → filter p (filter p xs) ≡ filter p xs →
        filter p (cond t (x ∷ filter p xs) (filter p xs)) ≡ cond t (x ∷ filter p xs) (filter p xs)
    by true is same = ap (λ t. cond t (x ∷ filter p (filter p xs)) (filter p (filter p xs))) is ∙ ap (λ ys. x ∷ ys) same
    by false is same = same

none_kept : {X : Type 0} (p q : X → Bool) (xs : List X) → ((x : X) → p x ≡ true → q x ≡ false) → filter q (filter p xs) ≡ []
none_kept p q [] apart = refl
none_kept p q (x ∷ xs) apart = by (p x) refl (none_kept p q xs apart)
  where
    by : (t : Bool) → p x ≡ t → filter q (filter p xs) ≡ [] → filter q (cond t (x ∷ filter p xs) (filter p xs)) ≡ []
    by true is none = ap (λ t. cond t (x ∷ filter q (filter p xs)) (filter q (filter p xs))) (apart x is) ∙ none
    by false is none = none

other_part : (k n : ℕ) (names : List Labelled) → k ≢ n → names_of_part k (names_of_part n names) ≡ []
other_part k n names other = none_kept (λ m. part_of m.name == n) (λ m. part_of m.name == k) names
    (λ m is. ne_eqb (part_of m.name) k (λ same. other (sym same ∙ eqb-true (part_of m.name) n is)))

-- The names of a later part are not in the list.
not_yet : (n k : ℕ) (names : List Labelled) → n ≤ k → names_of_part k (parted n names) ≡ []
not_yet zero k names later = refl
not_yet (suc n) k names later =
    filter-append (λ m. part_of m.name == k) (parted n names) (names_of_part n names)
    ∙ ap (λ ns. ns ++ names_of_part k (names_of_part n names)) (not_yet n k names (omega arith))
    ∙ other_part k n names (λ same. omega arith)

-- The names of an earlier part are in the list.
there : (n k : ℕ) (names : List Labelled) → k < n → names_of_part k (parted n names) ≡ names_of_part k names
there zero k names below = absurd (omega arith)
there (suc n) k names below = filter-append (λ m. part_of m.name == k) (parted n names) (names_of_part n names) ∙ by (there n k names) (grind arith)
  where
    by : (k < n → names_of_part k (parted n names) ≡ names_of_part k names) → (k < n) ⊎ (k ≡ n) →
        names_of_part k (parted n names) ++ names_of_part k (names_of_part n names) ≡ names_of_part k names
    by before (inl less) =
        ap (λ ns. ns ++ names_of_part k (names_of_part n names)) (before less) ∙ ap (λ ns. names_of_part k names ++ ns)
        (other_part k n names (λ same. omega arith))
        ∙ append-nil (names_of_part k names)
    by before (inr last) =
        ap (λ ns. ns ++ names_of_part k (names_of_part n names)) (not_yet n k names (omega arith))
        ∙ ap (λ m. names_of_part k (names_of_part m names)) (sym last) ∙ kept_twice (λ m. part_of m.name == k) names

-- Parts of some names are parts of the names that are seen.
pub view_kept : (names : List Labelled) (parts : List LabelledNames) → ArePartsOf names parts → AreParted parts
view_kept names parts are = record {
  many = are.many;
  each = λ k d below.
      let same : names_of_part k (names_of_parts parts) ≡ names_of_part k names = ap (names_of_part k) (view_parted names parts are) ∙ there part_count k
      names below in
      subst (StoresNames (get_or parts k d)) (sym same) (are.each k d below);
}

-- Borrowed parts have the names that are seen.
pub view_borrowed : (names : List Labelled) (parts borrowed_view : List LabelledNames) → names_of_parts parts ≡ names → borrowed_view ≡ parts → AreParted parts →
    ArePartsOf names borrowed_view
view_borrowed names parts borrowed_view seen same are = subst (ArePartsOf names) (sym same) (subst (λ ns. ArePartsOf ns parts) seen are)
