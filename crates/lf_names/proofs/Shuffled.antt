-- Labelled names in another order: they still differ, and have the same matches. A caller's proof
-- may cite these.
use Rattle.std.proofs.Common.{◌≡◌, ℕ, Bool, true, false, List, map, refl, sym}
use Rattle.std.proofs.lemmas.List.Sorted.{IsPermutation-map, IsPermutation-sym, Contains-permutation}
use Rattle.std.proofs.lemmas.Map.Keys.{IsDistinct-IsPermutation}
use Rattle.std.proofs.lemmas.Map.Made.{AllPairs-from_IsDistinct, IsDistinct-from_AllPairs}
use Rattle.std.proofs.lemmas.Slice.Eq.{bytes_eq-Decides}
use Rattle.std.specs.List.Sorted.{IsPermutation}
use Rattle.std.specs.Str.{bytes_eq}
use Rattle.lf_names.specs.Labels.{Labelled, Differ, IsMatch, AreMatches}
use Rattle.lf_names.specs.declared.partitioned.Match.{Match}
use Rattle.lf_names.proofs.LabelledLemmas.{differ_labelled, differ_names}

flips : (a b : List ℕ) → bytes_eq a b ≡ bytes_eq b a
flips a b = by (bytes_eq a b) refl (bytes_eq b a) refl
  where
    by : (s : Bool) → bytes_eq a b ≡ s → (t : Bool) → bytes_eq b a ≡ t → bytes_eq a b ≡ bytes_eq b a
    by true is true back = cc
    by false is false back = cc
    by true is false back = let same : bytes_eq b a ≡ true = (bytes_eq-Decides b a).1 (sym ((bytes_eq-Decides a b).0 is)) in cc
    by false is true back = let same : bytes_eq a b ≡ true = (bytes_eq-Decides a b).1 (sym ((bytes_eq-Decides b a).0 back)) in cc

-- Names that differ do so in any order.
pub differ_shuffled : (names shuffled : List Labelled) → IsPermutation names shuffled → Differ names → Differ shuffled
differ_shuffled names shuffled same differ =
    differ_labelled shuffled
    (AllPairs-from_IsDistinct bytes_eq-Decides (map (λ n. n.name) shuffled)
    (IsDistinct-IsPermutation bytes_eq flips (map (λ n. n.name) names) (map (λ n. n.name) shuffled) (IsPermutation-map (λ n. n.name) names shuffled same)
    (IsDistinct-from_AllPairs bytes_eq-Decides (map (λ n. n.name) names) (differ_names names differ))))

-- The matches of names are those of the names in any order.
pub matches_shuffled : (names shuffled requested : List Labelled) (matches : List Match) → IsPermutation names shuffled → AreMatches shuffled requested matches →
    AreMatches names requested matches
matches_shuffled names shuffled requested matches same are m = (
  λ there. let one : IsMatch shuffled requested m = (are m).0 there in record
      { name = one.name; is_own = Contains-permutation shuffled names _ (IsPermutation-sym names shuffled same) one.is_own; is_requested = one.is_requested },
  λ one. (are m).1 (record { name = one.name; is_own = Contains-permutation names shuffled _ same one.is_own; is_requested = one.is_requested }),
)
