-- Two rectangles share a point iff their edges say so.
use Rattle.std.proofs.Common.{ℤ, ◌≤ℤ◌, ◌<ℤ◌, arith}
use Rattle.std.proofs.lemmas.Int.{ints, by_lt_z}
use Rattle.lf_units.specs.declared.geometry.Rect.{Rect}
use Rattle.lf_units.specs.Area.{Covers, SharesPoint}

-- The order of the edges of two rectangles that share a point.
pub record EdgesCross (a b : Rect) : Type 0 where
  pub wide_first : a.x1 <ℤ a.x2
  pub wide_second : b.x1 <ℤ b.x2
  pub high_first : a.y1 <ℤ a.y2
  pub high_second : b.y1 <ℤ b.y2
  pub left : a.x1 <ℤ b.x2
  pub right : b.x1 <ℤ a.x2
  pub below : a.y1 <ℤ b.y2
  pub above : b.y1 <ℤ a.y2

pub edges_of_shared : (a b : Rect) → SharesPoint a b → EdgesCross a b
edges_of_shared a b s = record {
  wide_first = omega (arith, ints);
  wide_second = omega (arith, ints);
  high_first = omega (arith, ints);
  high_second = omega (arith, ints);
  left = omega (arith, ints);
  right = omega (arith, ints);
  below = omega (arith, ints);
  above = omega (arith, ints);
}

-- A number in both of two spans.
record InBoth (a1 a2 b1 b2 : ℤ) : Type 0 where
  at : ℤ
  low_first : a1 ≤ℤ at
  high_first : at <ℤ a2
  low_second : b1 ≤ℤ at
  high_second : at <ℤ b2

in_both : (a1 a2 b1 b2 : ℤ) → a1 <ℤ a2 → b1 <ℤ b2 → a1 <ℤ b2 → b1 <ℤ a2 → InBoth a1 a2 b1 b2
in_both a1 a2 b1 b2 wa wb l r =
    by_lt_z a1 b1
    (λ h. record { at = b1; low_first = omega (arith, ints); high_first = r; low_second = omega (arith, ints); high_second = wb })
    (λ h. record { at = a1; low_first = omega (arith, ints); high_first = wa; low_second = h; high_second = l })

pub shared_of_edges : (a b : Rect) → EdgesCross a b → SharesPoint a b
shared_of_edges a b e =
    let h : InBoth a.x1 a.x2 b.x1 b.x2 = in_both a.x1 a.x2 b.x1 b.x2 e.wide_first e.wide_second e.left e.right in
    let v : InBoth a.y1 a.y2 b.y1 b.y2 = in_both a.y1 a.y2 b.y1 b.y2 e.high_first e.high_second e.below e.above in
    record {
      x = h.at;
      y = v.at;
      in_first = record { left = h.low_first; right = h.high_first; bottom = v.low_first; top = v.high_first };
      in_second = record { left = h.low_second; right = h.high_second; bottom = v.low_second; top = v.high_second };
    }

-- A point lies in a rectangle, by its edges.
pub covers_by_edges : (r : Rect) (x y : ℤ) → r.x1 ≤ℤ x → x <ℤ r.x2 → r.y1 ≤ℤ y → y <ℤ r.y2 → Covers r x y
covers_by_edges r x y a b c d = record { left = a; right = b; bottom = c; top = d }

pub ruleset edges = (ints, edges_of_shared, shared_of_edges, covers_by_edges)
