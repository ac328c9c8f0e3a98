-- Rectangles that hold rows.
use Rattle.std.proofs.Common.{◌≡◌, ◌⊎◌, inl, inr, ℕ, ℤ, pos, negsuc, ◌+◌, ◌≤◌, ◌<◌, ◌+ℤ◌, ◌≤ℤ◌}
use Rattle.std.proofs.Common.{◌<ℤ◌, arith, List, length, get_or, ◌*◌, ◌*ℤ◌, sym, ap, ◌∙◌, subst, slice_get, Some}
use Rattle.std.specs.Prelude.{All}
use Rattle.std.proofs.lemmas.Int.{ints, clamps}
use Rattle.std.proofs.lemmas.Option.{slice_get-get_or}
use Rattle.lf_units.specs.declared.geometry.Point.{Point}
use Rattle.lf_units.specs.declared.geometry.Rect.{Rect}
use Rattle.lf_floorplan.specs.Bounds.{IsNearDefRect}
use Rattle.lf_floorplan.specs.Rows.{IsCoreRow, row_area}
use Rattle.lf_floorplan.specs.declared.parts.Row.{Row}
use Rattle.lf_floorplan.proofs.SizeBounds.{IsSmall}
use Rattle.lf_segments.specs.Indexes.{IsInside, hull}

-- A rectangle that holds two others, and is as near the coordinates of DEF as they are.
pub record IsHull (a b new : Rect) : Type 0 where
  pub first : IsInside a new
  pub second : IsInside b new
  pub near : IsNearDefRect a → IsNearDefRect b → IsNearDefRect new

-- The hull of two rectangles.
pub hull_holds : (a b : Rect) → IsHull a b (hull a b)
hull_holds a b = record {
  first = record {
    left = omega (arith, ints, clamps);
    lower = omega (arith, ints, clamps);
    right = omega (arith, ints, clamps);
    upper = omega (arith, ints, clamps);
  };
  second = record {
    left = omega (arith, ints, clamps);
    lower = omega (arith, ints, clamps);
    right = omega (arith, ints, clamps);
    upper = omega (arith, ints, clamps);
  };
  near = λ p q. record {
    across = record {
      from = record {
        above = omega (arith, ints, clamps, p.across.from.above, q.across.from.above);
        most = omega (arith, ints, clamps, p.across.from.most, q.across.from.most);
      };
      to = omega (arith, ints, clamps, p.across.to, q.across.to);
      in_order = omega (arith, ints, clamps, p.across.in_order, q.across.in_order);
    };
    up = record {
      from = record {
        above = omega (arith, ints, clamps, p.up.from.above, q.up.from.above);
        most = omega (arith, ints, clamps, p.up.from.most, q.up.from.most);
      };
      to = omega (arith, ints, clamps, p.up.to, q.up.to);
      in_order = omega (arith, ints, clamps, p.up.in_order, q.up.in_order);
    };
  };
}

abbrev rect_of : ℤ → ℤ → ℤ → ℤ → Rect
rect_of x1 y1 x2 y2 = record { x1 = x1; y1 = y1; x2 = x2; y2 = y2 }

-- Rectangles of the same edges.
pub same_rect : (x1 y1 x2 y2 a b d e : ℤ) → x1 ≡ a → y1 ≡ b → x2 ≡ d → y2 ≡ e → rect_of x1 y1 x2 y2 ≡ rect_of a b d e
same_rect x1 y1 x2 y2 a b d e p q r s = cc

-- Containment of rectangles is transitive.
pub inside_through : (a b d : Rect) → IsInside a b → IsInside b d → IsInside a d
inside_through a b d p q = record {
  left = omega (arith, ints, p.left, q.left);
  lower = omega (arith, ints, p.lower, q.lower);
  right = omega (arith, ints, p.right, q.right);
  upper = omega (arith, ints, p.upper, q.upper);
}

-- A row of the frame begins at a coordinate of DEF, and ends near those.
pub area_near : (pitch : Point) (r : Row) → IsSmall pitch → IsCoreRow pitch r → IsNearDefRect (row_area pitch r)
area_near pitch r small h = record {
  across = record { from = h.x_in_def; to = omega (arith, ints, h.ends); in_order = wider pitch.x r.sites small.wide };
  up = record { from = h.y_in_def; to = omega (arith, ints, h.y_in_def.most, small.y_small); in_order = omega (arith, ints, small.high) };
}
  where
    wider : (p : ℤ) (n : ℕ) → pos 0 <ℤ p → r.x ≤ℤ (r.x +ℤ (pos n *ℤ p))
    wider (pos m) n positive = let least : 0 ≤ n * m = omega arith in omega (arith, ints)
    wider (negsuc m) n positive = absurd (omega (arith, ints))

-- Each of the first rows lies inside the rectangle.
abbrev pub HoldsFirst : Point → List Row → ℕ → Rect → Type 0
HoldsFirst pitch rows n extent = (k : ℕ) (r : Row) → k < n → slice_get rows k ≡ Some r → IsInside (row_area pitch r) extent

-- One more row.
pub one_more : (pitch : Point) (rows : List Row) (n : ℕ) (r : Row) (area old new : Rect) → slice_get rows n ≡ Some r → area ≡ row_area pitch r →
    IsHull old area new → HoldsFirst pitch rows n old → HoldsFirst pitch rows (n + 1) new
one_more pitch rows n r area old new there is hull inside k s less here =
    let order : (k < n) ⊎ (k ≡ n) = grind arith in
    elim order [
      | inl before ↦ inside_through (row_area pitch s) old new (inside k s before here) hull.first
      | inr same ↦
          let e : r ≡ s = same_some (sym there ∙ ap (slice_get rows) (sym same) ∙ here) in
          subst (λ (x : Row). IsInside (row_area pitch x) new) e (subst (λ (a : Rect). IsInside a new) is hull.second)
    ]
  where
    same_some : {a b : Row} → Some a ≡ Some b → a ≡ b
    same_some e = cc

-- All rows.
pub all_rows : (pitch : Point) (rows : List Row) (extent : Rect) → HoldsFirst pitch rows (length rows) extent →
    All (λ r. IsInside (row_area pitch r) extent) rows
all_rows pitch rows extent holds k d within = holds k (get_or rows k d) within (slice_get-get_or rows k d within)
