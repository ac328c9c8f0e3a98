-- The part of a rectangle that another one covers.
use Rattle.std.proofs.Common.{◌≡◌, ℤ, ap, ◌∙◌, arith}
use Rattle.std.specs.Int.{int_max, int_min}
use Rattle.std.proofs.lemmas.Int.{ints, clamps}
use Rattle.lf_units.specs.declared.geometry.Rect.{Rect}
use Rattle.lf_occupancy.specs.MarkLists.{IsPart, part_in}

abbrev rect_at : ℤ → ℤ → ℤ → ℤ → Rect
rect_at x1 y1 x2 y2 = record { x1 = x1; y1 = y1; x2 = x2; y2 = y2 }

pub part_same : (a b part : Rect) → part.x1 ≡ int_max a.x1 b.x1 → part.y1 ≡ int_max a.y1 b.y1 → part.x2 ≡ int_min a.x2 b.x2 → part.y2 ≡ int_min a.y2 b.y2 →
    part ≡ part_in a b
part_same a b part left bottom right top =
    ap (λ (v : ℤ). rect_at v part.y1 part.x2 part.y2) left
    ∙ ap (λ (v : ℤ). rect_at (int_max a.x1 b.x1) v part.x2 part.y2) bottom
    ∙ ap (λ (v : ℤ). rect_at (int_max a.x1 b.x1) (int_max a.y1 b.y1) v part.y2) right
    ∙ ap (λ (v : ℤ). rect_at (int_max a.x1 b.x1) (int_max a.y1 b.y1) (int_min a.x2 b.x2) v) top

pub part_is : (a b part : Rect) → part.x1 ≡ int_max a.x1 b.x1 → part.y1 ≡ int_max a.y1 b.y1 → part.x2 ≡ int_min a.x2 b.x2 → part.y2 ≡ int_min a.y2 b.y2 →
    IsPart a b part
part_is a b part left bottom right top = record {
  points = λ x y. (
    λ c. (
      record {
        left = let h = c.left in omega (arith, ints, clamps, left, h);
        right = let h = c.right in omega (arith, ints, clamps, right, h);
        bottom = let h = c.bottom in omega (arith, ints, clamps, bottom, h);
        top = let h = c.top in omega (arith, ints, clamps, top, h);
      },
      record {
        left = let h = c.left in omega (arith, ints, clamps, left, h);
        right = let h = c.right in omega (arith, ints, clamps, right, h);
        bottom = let h = c.bottom in omega (arith, ints, clamps, bottom, h);
        top = let h = c.top in omega (arith, ints, clamps, top, h);
      },
    ),
    λ both.
        let p = both.0 in
        let q = both.1 in
        record {
          left = let h = p.left in let g = q.left in omega (arith, ints, clamps, left, h, g);
          right = let h = p.right in let g = q.right in omega (arith, ints, clamps, right, h, g);
          bottom = let h = p.bottom in let g = q.bottom in omega (arith, ints, clamps, bottom, h, g);
          top = let h = p.top in let g = q.top in omega (arith, ints, clamps, top, h, g);
        },
  );
  left = omega (arith, ints, clamps, left);
  right = omega (arith, ints, clamps, right);
}
