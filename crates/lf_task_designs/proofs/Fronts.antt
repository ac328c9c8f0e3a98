-- Fronts of written bytes.
use Rattle.std.proofs.Common.{◌∙◌, ◌+◌, ℕ, arith, min, subst, sym, take, Err, List, ◌++◌, length, Ok, Option}
use Rattle.std.specs.Prelude.{OnErr, Result}
use Rattle.std.proofs.lemmas.List.{take-append-le, take_min}
use Rattle.std.proofs.Math.Seq.{take-append-add}
use Rattle.std.specs.Io.KnownBytes.{Appends}
use Rattle.lf_io.proofs.Known.{Appends-more}

-- A front of the bytes was written.
abbrev Front : Option (List ℕ) → Option (List ℕ) → List ℕ → Type 0
Front a b bytes = (n : ℕ) × Appends a b (take n bytes)

-- A front of the first part is a front of the whole.
pub front_first : {T E : Type 0} (r : Result T E) (a b : Option (List ℕ)) (x y : List ℕ) → Front a b x → OnErr r (Front a b (x ++ y))
front_first (Ok t) a b x y front = tt
front_first (Err e) a b x y (n, written) =
    (min n (length x), subst (Appends a b) (sym (take-append-le (min n (length x)) x y (omega arith) ∙ take_min n x)) written)

-- The first part and a front of the second are a front of the whole.
pub front_after : {T E : Type 0} (r : Result T E) (a b c : Option (List ℕ)) (x y : List ℕ) → Appends a b x → OnErr r (Front b c y)
    → OnErr r (Front a c (x ++ y))
front_after (Ok t) a b c x y first front = tt
front_after (Err e) a b c x y first (n, written) =
    (length x + n, subst (Appends a c) (sym (take-append-add x y n)) (Appends-more a b c x (take n y) first written))
