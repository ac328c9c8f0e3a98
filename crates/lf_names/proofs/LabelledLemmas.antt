-- Names with labels, stored in order.
use Rattle.std.proofs.Common.{◌≡◌, ◌≢◌, ℕ, ◌+◌, ◌<◌, List, [], ◌∷◌, ◌++◌, length, take, drop, map, get_or, AllPairs, Option, slice_get, sym, ◌∙◌, ap, arith, append_assoc}
use Rattle.std.proofs.Math.Seq.{take-append_seam, drop-append_seam}
use Rattle.std.proofs.lemmas.Grind.{common_steps}
use Rattle.std.proofs.lemmas.List.{get_or-map, get_or-take, get_or_default, length-map, length-take-le}
use Rattle.std.specs.List.{cons_option}
use Rattle.std.proofs.lemmas.List.Quantifiers.{all_pairs_push}
use Rattle.std.proofs.lemmas.Option.{get_or_from_slice_get, slice_get_within}
use Rattle.std.specs.Option.{option_to_list}
use Rattle.std.specs.Prelude.{None, Some}
use Rattle.lf_names.specs.Names.{position_of}
use Rattle.lf_names.specs.Labels.{Labelled, Differ, match_of, matches_of}
use Rattle.lf_names.specs.NameParts.{StoresNames, stored_bytes, entry_of}
use Rattle.lf_names.specs.declared.entries.Entry.{Entry}
use Rattle.lf_names.specs.declared.partitioned.Match.{Match}
use Rattle.lf_names.specs.declared.partitioned.LabelledNames.{LabelledNames}
use Rattle.lf_names.proofs.Positions.{has_no_place, is_found_there}

no_name : Labelled
no_name = record { label = 0; name = [] }

-- A name between those in front of it and those after it.
pub record IsRead (names : List Labelled) (i : ℕ) (e : Entry) : Type 0 where
  pub one : Labelled
  pub entry : e ≡ entry_of one
  pub within : i < length names
  pub own : one ≡ get_or names i one
  pub left : drop i names ≡ one ∷ drop (i + 1) names
  pub known : map (λ n. n.name) (take (i + 1) names) ≡ map (λ n. n.name) (take i names) ++ one.name ∷ []

dropped : (names : List Labelled) (i : ℕ) (n : Labelled) → i < length names → n ≡ get_or names i n → drop i names ≡ n ∷ drop (i + 1) names
dropped names i n within is = grind (arith, common_steps)

taken : (names : List Labelled) (i : ℕ) (n : Labelled) → i < length names → n ≡ get_or names i n → map (λ m. m.name) (take (i + 1) names) ≡ map (λ m. m.name) (take i names) ++ n.name ∷ []
taken names i n within is = grind (arith, common_steps)

pub read : (store : LabelledNames) (names : List Labelled) (i : ℕ) (e : Entry) → StoresNames store names → i < length store.entries → e ≡ get_or store.entries i e → IsRead names i e
read store names i e keeps within is =
    let many : length store.entries ≡ length names = ap length keeps.entries ∙ length-map names entry_of in
    let inside : i < length names = omega arith in
    let own : get_or names i no_name ≡ get_or names i (get_or names i no_name) = get_or_default names i no_name (get_or names i no_name) inside in
    record {
      one = get_or names i no_name;
      entry = is ∙ ap (λ es. get_or es i e) keeps.entries ∙ get_or-map entry_of names i no_name e inside;
      within = inside;
      own = own;
      left = dropped names i (get_or names i no_name) inside own;
      known = taken names i (get_or names i no_name) inside own;
    }

-- The bytes of the name, and those after it.
pub cut_front : (names : List Labelled) (i : ℕ) (e : Entry) (r : IsRead names i e) (bytes : List ℕ) → bytes ≡ stored_bytes (drop i names) → take e.len bytes ≡ r.one.name
cut_front names i e r bytes is =
    ap (λ (f : Entry). take f.len bytes) r.entry ∙ ap (take (length r.one.name)) (is ∙ ap stored_bytes r.left) ∙ take-append_seam r.one.name (stored_bytes (drop (i + 1) names))

pub cut_back : (names : List Labelled) (i : ℕ) (e : Entry) (r : IsRead names i e) (bytes : List ℕ) → bytes ≡ stored_bytes (drop i names) → drop e.len bytes ≡ stored_bytes (drop (i + 1) names)
cut_back names i e r bytes is =
    ap (λ (f : Entry). drop f.len bytes) r.entry ∙ ap (drop (length r.one.name)) (is ∙ ap stored_bytes r.left) ∙ drop-append_seam r.one.name (stored_bytes (drop (i + 1) names))

-- A name without a position may follow names that differ.
pub differ_more : (names : List (List ℕ)) (name : List ℕ) → position_of names name ≡ None → AllPairs (λ earlier later. earlier ≢ later) names → AllPairs (λ earlier later. earlier ≢ later) (names ++ name ∷ [])
differ_more names name new differ =
    all_pairs_push (λ earlier later. earlier ≢ later) names name differ (λ k d within same. has_no_place names name new (k, within, get_or_default names k name d within ∙ same))

-- Labelled names differ if their names do.
pub differ_labelled : (names : List Labelled) → AllPairs (λ earlier later. earlier ≢ later) (map (λ n. n.name) names) → Differ names
differ_labelled names differ i j d less within same =
    let many : length (map (λ (n : Labelled). n.name) names) ≡ length names = length-map names (λ n. n.name) in
    let early : i < length names = omega arith in
    differ i j [] less (omega arith) (get_or-map (λ n. n.name) names i d [] early ∙ same ∙ sym (get_or-map (λ n. n.name) names j d [] within))

pub differ_names : (names : List Labelled) → Differ names → AllPairs (λ earlier later. earlier ≢ later) (map (λ n. n.name) names)
differ_names names differ i j d less within same =
    let many : length (map (λ (n : Labelled). n.name) names) ≡ length names = length-map names (λ n. n.name) in
    let early : i < length names = omega arith in
    let late : j < length names = omega arith in
    differ i j no_name less late (sym (get_or-map (λ n. n.name) names i no_name d early) ∙ same ∙ get_or-map (λ n. n.name) names j no_name d late)

-- A name with a position among the earlier names is in the list twice.
pub occurs_twice : (names : List Labelled) (i : ℕ) (e : Entry) (r : IsRead names i e) (at : ℕ) → position_of (map (λ n. n.name) (take i names)) r.one.name ≡ Some at → Differ names → ⊥
occurs_twice names i e r at known differ =
    let there : slice_get (map (λ n. n.name) (take i names)) at ≡ Some r.one.name = is_found_there (map (λ n. n.name) (take i names)) r.one.name at known in
    let before : at < length (map (λ (n : Labelled). n.name) (take i names)) = slice_get_within (map (λ n. n.name) (take i names)) at r.one.name there in
    let many : length (map (λ (n : Labelled). n.name) (take i names)) ≡ length (take i names) = length-map (take i names) (λ n. n.name) in
    let long : length (take i names) ≡ i = length-take-le i names (omega (arith, r.within)) in
    let early : at < i = omega arith in
    let here : get_or (map (λ (n : Labelled). n.name) (take i names)) at [] ≡ r.one.name = get_or_from_slice_get (map (λ n. n.name) (take i names)) at r.one.name [] there in
    let before_it : (get_or names at r.one).name ≡ r.one.name = ap (λ (n : Labelled). n.name) (sym (get_or-take i names at r.one early)) ∙ sym (get_or-map (λ n. n.name) (take i names) at r.one [] (omega arith)) ∙ here in
    differ at i r.one early r.within (before_it ∙ ap (λ (n : Labelled). n.name) r.own)

-- One more match.
one_first : (o : Option Match) (matches found : List Match) → matches ++ cons_option o found ≡ (matches ++ option_to_list o) ++ found
one_first None matches found = sym (append_assoc matches [] found)
one_first (Some m) matches found = sym (append_assoc matches (m ∷ []) found)

pub matched_more : (own names : List Labelled) (i : ℕ) (e : Entry) (r : IsRead names i e) (matches : List Match) →
    (matches ++ option_to_list (match_of own r.one)) ++ matches_of own (drop (i + 1) names) ≡ matches ++ matches_of own (drop i names)
matched_more own names i e r matches =
    sym (one_first (match_of own r.one) matches (matches_of own (drop (i + 1) names))) ∙ sym (ap (λ ns. matches ++ matches_of own ns) r.left)
