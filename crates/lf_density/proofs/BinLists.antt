-- Lists by the numbers of bins.
use Rattle.std.proofs.Common.{◌≡◌, ◌∙◌, ℕ, ◌+◌, List, [], ◌∷◌, ◌++◌, map, refl, ap, sym, zero-add}
use Rattle.std.specs.Prelude.{flat_map}
use Rattle.std.specs.List.{range_with_len}
use Rattle.std.proofs.lemmas.Grind.{flat_map-append}
use Rattle.std.proofs.lemmas.List.{append-nil}
use Rattle.std.proofs.lemmas.List.FromFn.{map-range_with_len_more}

each_same : (ks : List ℕ) → map (λ (k : ℕ). k) ks ≡ ks
each_same [] = refl
each_same (k ∷ ks) = ap (λ (rest : List ℕ). k ∷ rest) (each_same ks)

range_more : (k : ℕ) → range_with_len 0 (k + 1) ≡ range_with_len 0 k ++ k ∷ []
range_more k =
    sym (each_same (range_with_len 0 (k + 1))) ∙ map-range_with_len_more (λ (n : ℕ). n) 0 k k (zero-add k) ∙ ap (λ (ns : List ℕ). ns ++ k ∷ []) (each_same (range_with_len 0 k))

pub one_bin_more : (f : ℕ → List ℕ) (k : ℕ) → flat_map f (range_with_len 0 (k + 1)) ≡ flat_map f (range_with_len 0 k) ++ f k
one_bin_more f k =
    ap (λ (ks : List ℕ). flat_map f ks) (range_more k) ∙ flat_map-append f (range_with_len 0 k) (k ∷ []) ∙ ap (λ (ns : List ℕ). flat_map f (range_with_len 0 k) ++ ns) (append-nil (f k))
