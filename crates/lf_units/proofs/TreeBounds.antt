-- Boxes within a bound.
use Rattle.std.proofs.Common.{ℕ, ◌+◌, ◌<◌, List, [], ◌∷◌, sym, subst, length, get_or, take, drop, arith}
use Rattle.std.specs.Prelude.{All}
use Rattle.std.proofs.lemmas.Int.{ints}
use Rattle.std.proofs.lemmas.List.Elements.{All-append, All-cons, All-nil, All-weaker}
use Rattle.std.proofs.lemmas.List.{take_more, take-append-drop}
use Rattle.lf_units.specs.Area.{SharesPoint}
use Rattle.lf_units.specs.declared.geometry.Rect.{Rect}
use Rattle.lf_units.specs.Packed.{IsBound}
use Rattle.lf_units.specs.declared.placed.Placed.{Placed}
use Rattle.lf_units.specs.declared.bound.Bound.{Bound}

-- A rectangle that shares a point with a box shares it with the box's bound.
pub shares_with_bound : (rect : Rect) (bound : Bound) (p : Placed) → IsBound bound p → SharesPoint rect p.rect → SharesPoint rect bound.rect
shares_with_bound rect bound p within s = record {
  x = s.x;
  y = s.y;
  in_first = s.in_first;
  in_second = record { left = omega (arith, ints); right = omega (arith, ints); bottom = omega (arith, ints); top = omega (arith, ints) };
}

-- A bound of one box more.
pub bounds_more : (old new : Bound) (boxes : List Placed) (n : ℕ) (d : Placed) → n < length boxes → All (IsBound old) (take n boxes) →
    IsBound new (get_or boxes n d) → ((p : Placed) → IsBound old p → IsBound new p) → All (IsBound new) (take (n + 1) boxes)
bounds_more old new boxes n d within before here wider =
    subst (All (IsBound new)) (sym (take_more boxes n d within))
    (All-append (IsBound new) (take n boxes) (get_or boxes n d ∷ []) (All-weaker (IsBound old) (IsBound new) wider (take n boxes) before)
    (All-cons (IsBound new) (get_or boxes n d) [] here (All-nil (IsBound new))))

-- A bound of both parts of a list bounds the list.
pub bounds_both : (first last both : Bound) (boxes : List Placed) (n : ℕ) → All (IsBound first) (take n boxes) → All (IsBound last) (drop n boxes) →
    ((p : Placed) → IsBound first p → IsBound both p) → ((p : Placed) → IsBound last p → IsBound both p) → All (IsBound both) boxes
bounds_both first last both boxes n before after_it wider wider_last =
    subst (All (IsBound both)) (take-append-drop n boxes)
    (All-append (IsBound both) (take n boxes) (drop n boxes) (All-weaker (IsBound first) (IsBound both) wider (take n boxes) before)
    (All-weaker (IsBound last) (IsBound both) wider_last (drop n boxes) after_it))
