-- The boxes near a rectangle, from those of a list's parts.
use Rattle.std.proofs.Common.{◌≡◌, ℕ, ◌+◌, ◌<◌, List, [], ◌∷◌, ◌++◌, length, get_or, take, drop, sym, ap, subst, ◌∙◌, append_assoc, append-nil}
use Rattle.std.specs.Prelude.{All, Contains, IsPermutation}
use Rattle.std.proofs.lemmas.List.{take_more, take-append-drop}
use Rattle.std.proofs.lemmas.List.Elements.{All-append, All-weaker, All-nil, All-cons, All-contains_itself, Contains-append_left, Contains-get_or}
use Rattle.std.proofs.lemmas.List.Sorted.{IsPermutation-refl, IsPermutation-sym, IsPermutation-trans, All-permutation, Contains-permutation}
use Rattle.std.proofs.lemmas.List.Sorted.{IsPermutation-append, IsPermutation-append_left, IsPermutation-append_right, IsPermutation-append_comm}
use Rattle.lf_units.specs.Area.{SharesPoint}
use Rattle.lf_units.specs.declared.geometry.Rect.{Rect}
use Rattle.lf_units.specs.Near.{AreAllOverlapping}
use Rattle.lf_units.specs.Packed.{IsBound, AddsNear}
use Rattle.lf_units.specs.declared.placed.Placed.{Placed}
use Rattle.lf_units.specs.declared.bound.Bound.{Bound}
use Rattle.lf_units.proofs.TreeBounds.{shares_with_bound}

-- Partitions of two lists make a partition of their concatenation.
parted_along : (xs ys found others more rest : List Placed) → IsPermutation xs (found ++ others) → IsPermutation ys (more ++ rest) →
    IsPermutation (xs ++ ys) ((found ++ more) ++ (others ++ rest))
parted_along xs ys found others more rest first second =
    let all : List Placed = found ++ (others ++ (more ++ rest)) in
    let middle : IsPermutation ((others ++ more) ++ rest) (more ++ (others ++ rest)) =
    subst (IsPermutation ((others ++ more) ++ rest)) (append_assoc more others rest)
    (IsPermutation-append_left rest (others ++ more) (more ++ others) (IsPermutation-append_comm others more)) in
    let after_it : IsPermutation (others ++ (more ++ rest)) (more ++ (others ++ rest)) = subst (λ zs. IsPermutation zs (more ++ (others ++ rest)))
    (append_assoc others more rest) middle in
    let both : IsPermutation (xs ++ ys) all = subst (IsPermutation (xs ++ ys)) (append_assoc found others (more ++ rest))
    (IsPermutation-append xs (found ++ others) ys (more ++ rest) first second) in
    let last : IsPermutation all ((found ++ more) ++ (others ++ rest)) =
    subst (IsPermutation all) (sym (append_assoc found more (others ++ rest)))
    (IsPermutation-append_right found (others ++ (more ++ rest)) (more ++ (others ++ rest)) after_it) in
    IsPermutation-trans (xs ++ ys) all ((found ++ more) ++ (others ++ rest)) both last

-- The near boxes of two lists, one after the other, are those of their concatenation.
pub near_along : (xs ys : List Placed) (rect : Rect) (front back : List Placed) → AreAllOverlapping xs rect front → AreAllOverlapping ys rect back →
    AreAllOverlapping (xs ++ ys) rect (front ++ back)
near_along xs ys rect front back first second = record {
  others = first.others ++ second.others;
  parted = parted_along xs ys front first.others back second.others first.parted second.parted;
  near = All-append (λ p. SharesPoint rect p.rect) front back first.near second.near;
  far = All-append (λ p. SharesPoint rect p.rect → ⊥) first.others second.others first.far second.far;
}

-- If no box shares a point with the rectangle, no box is near.
pub none_near : (xs : List Placed) (rect : Rect) → All (λ p. SharesPoint rect p.rect → ⊥) xs → AreAllOverlapping xs rect []
none_near xs rect far = record { others = xs; parted = IsPermutation-refl xs; near = All-nil (λ p. SharesPoint rect p.rect); far = far }

-- One box that shares no point, and one that does.
pub far_box : (p : Placed) (rect : Rect) → (SharesPoint rect p.rect → ⊥) → AreAllOverlapping (p ∷ []) rect []
far_box p rect apart = let Apart : Placed → Type 0 = λ q. SharesPoint rect q.rect → ⊥ in none_near (p ∷ []) rect (All-cons Apart p [] apart (All-nil Apart))

pub near_box : (p : Placed) (rect : Rect) → SharesPoint rect p.rect → AreAllOverlapping (p ∷ []) rect (p ∷ [])
near_box p rect shares = record {
  others = [];
  parted = subst (IsPermutation (p ∷ [])) (sym (append-nil (p ∷ []))) (IsPermutation-refl (p ∷ []));
  near = All-cons (λ q. SharesPoint rect q.rect) p [] shares (All-nil (λ q. SharesPoint rect q.rect));
  far = All-nil (λ q. SharesPoint rect q.rect → ⊥);
}

-- Each near box is found, and only those. A caller's proof may cite these.
pub each_near : (boxes : List Placed) (rect : Rect) (found : List Placed) → AreAllOverlapping boxes rect found →
    All (λ p. SharesPoint rect p.rect → Contains found p) boxes
each_near boxes rect found are =
    let Found : Placed → Type 0 = λ p. SharesPoint rect p.rect → Contains found p in
    All-permutation Found (found ++ are.others) boxes (IsPermutation-sym boxes (found ++ are.others) are.parted)
    (All-append Found found are.others (All-weaker (Contains found) Found (λ p there shares. there) found (All-contains_itself found))
    (All-weaker (λ p. SharesPoint rect p.rect → ⊥) Found (λ p apart shares. absurd (apart shares)) are.others are.far))

pub only_near : (boxes : List Placed) (rect : Rect) (found : List Placed) → AreAllOverlapping boxes rect found →
    All (λ p. Contains boxes p × SharesPoint rect p.rect) found
only_near boxes rect found are k d within = (
  Contains-permutation (found ++ are.others) boxes (get_or found k d) (IsPermutation-sym boxes (found ++ are.others) are.parted)
      (Contains-append_left found are.others (get_or found k d) (Contains-get_or found k d within)),
  are.near k d within,
)

-- Boxes found in one list and then in another are those found in both.
adds_along : (xs ys : List Placed) (rect : Rect) (old middle new : List Placed) → AddsNear xs rect old middle → AddsNear ys rect middle new →
    AddsNear (xs ++ ys) rect old new
adds_along xs ys rect old middle new first second = record {
  found = first.found ++ second.found;
  is = second.is ∙ ap (λ (zs : List Placed). zs ++ second.found) first.is ∙ append_assoc old first.found second.found;
  near = near_along xs ys rect first.found second.found first.near second.near;
}

-- If no box shares a point with the rectangle, no box is found.
adds_none : (xs : List Placed) (rect : Rect) (old : List Placed) → All (λ p. SharesPoint rect p.rect → ⊥) xs → AddsNear xs rect old old
adds_none xs rect old far = record { found = []; is = sym (append-nil old); near = none_near xs rect far }

-- One box that shares no point with the rectangle, and one that does.
pub adds_no_box : (p : Placed) (rect : Rect) (old : List Placed) → (SharesPoint rect p.rect → ⊥) → AddsNear (p ∷ []) rect old old
adds_no_box p rect old apart = record { found = []; is = sym (append-nil old); near = far_box p rect apart }

pub adds_box : (p : Placed) (rect : Rect) (old new : List Placed) → new ≡ old ++ p ∷ [] → SharesPoint rect p.rect → AddsNear (p ∷ []) rect old new
adds_box p rect old new is shares = record { found = p ∷ []; is = is; near = near_box p rect shares }

-- Boxes within a bound that is apart from the rectangle.
pub adds_nothing : (bound : Bound) (boxes : List Placed) (rect : Rect) (old : List Placed) → All (IsBound bound) boxes →
    (SharesPoint rect bound.rect → ⊥) → AddsNear boxes rect old old
adds_nothing bound boxes rect old within apart =
    adds_none boxes rect old
    (All-weaker (IsBound bound) (λ p. SharesPoint rect p.rect → ⊥) (λ p held shares. apart (shares_with_bound rect bound p held shares)) boxes within)

-- One box more.
pub adds_one_more : (boxes : List Placed) (n : ℕ) (d : Placed) (rect : Rect) (old middle new : List Placed) → n < length boxes →
    AddsNear (take n boxes) rect old middle → AddsNear (get_or boxes n d ∷ []) rect middle new → AddsNear (take (n + 1) boxes) rect old new
adds_one_more boxes n d rect old middle new within first second =
    subst (λ (xs : List Placed). AddsNear xs rect old new) (sym (take_more boxes n d within))
    (adds_along (take n boxes) (get_or boxes n d ∷ []) rect old middle new first second)

-- The front of a list and then the rest.
pub adds_of_halves : (boxes : List Placed) (n : ℕ) (rect : Rect) (old middle new : List Placed) → AddsNear (take n boxes) rect old middle →
    AddsNear (drop n boxes) rect middle new → AddsNear boxes rect old new
adds_of_halves boxes n rect old middle new first second =
    subst (λ (xs : List Placed). AddsNear xs rect old new) (take-append-drop n boxes)
    (adds_along (take n boxes) (drop n boxes) rect old middle new first second)
