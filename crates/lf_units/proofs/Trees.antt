-- A run and its halves.
use Rattle.std.proofs.Common.{◌≡◌, ℕ, ◌/◌, List, [], ◌∷◌, ◌++◌, length, take, drop, subst, arith}
use Rattle.std.specs.Prelude.{All}
use Rattle.std.proofs.Math.Seq.{take-append_seam, drop-append_seam}
use Rattle.lf_units.specs.Packed.{IsBound, IsTree, divided, undivided}
use Rattle.lf_units.specs.declared.placed.Placed.{Placed}
use Rattle.lf_units.specs.declared.bound.Bound.{Bound}

-- The first bound of a divided run bounds the run.
bounds_run : (boxes : List Placed) (bound : Bound) (below : List Bound) → IsTree boxes (bound ∷ below) → All (IsBound bound) boxes
bounds_run boxes bound below (divided _ _ _ all first last) = all

pub bounded_by_first : (boxes : List Placed) (bounds : List Bound) (bound : Bound) (below : List Bound) → bounds ≡ bound ∷ below → IsTree boxes bounds →
    All (IsBound bound) boxes
bounded_by_first boxes bounds bound below are tree = bounds_run boxes bound below (subst (IsTree boxes) are tree)

-- A run without bounds is not divided.
pub without_bounds : (boxes : List Placed) (bounds : List Bound) → length bounds ≡ 0 → IsTree boxes bounds
without_bounds boxes [] none = undivided boxes
without_bounds boxes (bound ∷ below) none = absurd (omega (arith, none))

-- A bound of a run, and the bounds of its halves.
pub joined_tree : (boxes : List Placed) (bound : Bound) (first last : List Bound) → All (IsBound bound) boxes →
    length first ≡ length (first ++ last) / 2 → IsTree (take (length boxes / 2) boxes) first → IsTree (drop (length boxes / 2) boxes) last →
    IsTree boxes (bound ∷ (first ++ last))
joined_tree boxes bound first last all half before after_it =
    let First : ℕ → Type 0 = λ n. IsTree (take (length boxes / 2) boxes) (take n (first ++ last)) in
    let Last : ℕ → Type 0 = λ n. IsTree (drop (length boxes / 2) boxes) (drop n (first ++ last)) in
    divided boxes bound (first ++ last) all (subst First half (rw take-append_seam before)) (subst Last half (rw drop-append_seam after_it))
