-- Legal places lie in the extent of a frame's rows. Their distances from a target and from the
-- extent's point nearest to it all differ by the same number.
use Rattle.std.proofs.Common.{◌≡◌, inl, inr, ℕ, ℤ, pos, negsuc, ◌+◌, ◌≤◌, ◌+ℤ◌, ◌-ℤ◌, ◌≤ℤ◌, ◌<ℤ◌, arith, sym, ap, ◌∙◌, subst, Option, Some, None, get_or}
use Rattle.std.specs.Prelude.{unsigned_abs}
use Rattle.std.proofs.lemmas.Int.{ints}
use Rattle.lf_units.specs.declared.geometry.Point.{Point}
use Rattle.lf_units.specs.declared.geometry.Rect.{Rect}
use Rattle.lf_floorplan.specs.declared.frame.Frame.{Frame}
use Rattle.lf_floorplan.specs.declared.parts.Row.{Row}
use Rattle.lf_floorplan.specs.Bounds.{IsNearDefRect}
use Rattle.lf_floorplan.specs.Boxes.{IsSized, size_of}
use Rattle.lf_floorplan.specs.Rows.{row_area}
use Rattle.lf_floorplan.specs.Sizes.{box_at, turned}
use Rattle.lf_floorplan.specs.RowSupport.{IsBottomRow, IsSitesHigh}
use Rattle.lf_floorplan.proofs.SizeBounds.{IsSmall, small_pitch, turned_small, sized_pitch}
use Rattle.lf_rules.specs.declared.rule.Rule.TheVariants.{Height, Row as RowRule}
use Rattle.lf_rules.specs.Legality.{Holds}
use Rattle.lf_rules.specs.Choice.{SpotPlace, PlacementQuery, IsLegalAt, IsAllowedPlace, IsChoice, Precedes, distance, candidate_at}
use Rattle.lf_rules.proofs.SiteLemmas.{legal_upright}
use Rattle.lf_segments.specs.Indexes.{IsInside, IsExtentOf}
use Rattle.lf_legalize.specs.Extents.{IsNearestPoint, IsNearDefPoint, IsWithin}
use Rattle.lf_legalize.specs.Indexes.{IsHeightOf}
use Rattle.lf_legalize.proofs.Rounds.{upright_size}

-- the point lies in the rectangle, or at its right or upper edge
pub record LiesIn (extent : Rect) (p : SpotPlace) : Type 0 where
  pub left : extent.x1 ≤ℤ p.x
  pub right : p.x ≤ℤ extent.x2
  pub lower : extent.y1 ≤ℤ p.y
  pub upper : p.y ≤ℤ extent.y2

row_inside : (f : Frame) (size : Point) (extent : Rect) (p : SpotPlace) (r : Row) → IsSmall size → pos 0 <ℤ f.pitch.y → IsBottomRow f (box_at size p.x p.y) r →
    IsInside (row_area f.pitch r) extent → LiesIn extent p
row_inside f size extent p r small high bottom inside =
    let level = bottom.at_bottom.at_level in
    record {
      left = omega (arith, ints, bottom.at_bottom.left, inside.left);
      right = omega (arith, ints, bottom.at_bottom.right, inside.right, small.wide);
      lower = omega (arith, ints, level, inside.lower);
      upper = omega (arith, ints, level, inside.upper, high);
    }

-- a legal place lies in the extent of the rows
pub lies_in : (cell : PlacementQuery) (extent : Rect) (p : SpotPlace) → IsSized cell.frame cell.mac → IsExtentOf cell.frame extent → IsLegalAt cell p → LiesIn extent p
lies_in cell extent p sized of legal =
    let held : Holds (candidate_at cell p) RowRule = legal RowRule in
    let bottom = held.1 in
    let small : IsSmall (turned (size_of cell.frame cell.mac) p.orient) = turned_small _ _ (small_pitch _ _ _ (sized_pitch _ _ sized)) in
    let inside : IsInside (row_area cell.frame.pitch (get_or cell.frame.rows bottom.core_ones.0 held.0)) extent = of.rows bottom.core_ones.0 held.0 bottom.core_ones.1 in
    row_inside cell.frame (turned (size_of cell.frame cell.mac) p.orient) extent p held.0 small cell.frame.pitch_whole.high bottom
    (subst (λ (r : Row). IsInside (row_area cell.frame.pitch r) extent) bottom.core_ones.2 inside)

-- the distance of two numbers of a range
abs_under : (v w : ℤ) → (pos 0 -ℤ w) ≤ℤ v → v ≤ℤ w → unsigned_abs v ≤ unsigned_abs w
abs_under (pos m) (pos n) a b = omega (arith, ints)
abs_under (negsuc m) (pos n) a b = omega (arith, ints)
abs_under (pos m) (negsuc n) a b = omega (arith, ints)
abs_under (negsuc m) (negsuc n) a b = omega (arith, ints)

-- no legal place is farther from a point of the extent than its opposite corners are from each
-- other
pub within_extent : (extent : Rect) (target near : Point) (p : SpotPlace) (farthest : ℕ) → IsNearestPoint extent target near →
    farthest ≡ unsigned_abs (extent.x2 -ℤ extent.x1) + unsigned_abs (extent.y2 -ℤ extent.y1) → LiesIn extent p → IsWithin near farthest p
within_extent extent target near p farthest of is lies =
    let x : unsigned_abs (p.x -ℤ near.x) ≤ unsigned_abs (extent.x2 -ℤ extent.x1) =
    abs_under (p.x -ℤ near.x) (extent.x2 -ℤ extent.x1) (omega (arith, ints, lies.left, of.across.high)) (omega (arith, ints, lies.right, of.across.low)) in
    let y : unsigned_abs (p.y -ℤ near.y) ≤ unsigned_abs (extent.y2 -ℤ extent.y1) =
    abs_under (p.y -ℤ near.y) (extent.y2 -ℤ extent.y1) (omega (arith, ints, lies.lower, of.up.high)) (omega (arith, ints, lies.upper, of.up.low)) in
    omega (arith, x, y, is)

-- a distance in the extent is within the bounds of the search
pub farthest_small : (extent : Rect) (farthest : ℕ) → IsNearDefRect extent →
    farthest ≡ unsigned_abs (extent.x2 -ℤ extent.x1) + unsigned_abs (extent.y2 -ℤ extent.y1) → farthest ≤ 68719476736
farthest_small extent farthest near is =
    let x : unsigned_abs (extent.x2 -ℤ extent.x1) ≤ unsigned_abs (pos 24294967294) =
    abs_under (extent.x2 -ℤ extent.x1) (pos 24294967294)
    (omega (arith, ints, near.across.in_order)) (omega (arith, ints, near.across.from.above, near.across.to)) in
    let y : unsigned_abs (extent.y2 -ℤ extent.y1) ≤ unsigned_abs (pos 24294967294) =
    abs_under (extent.y2 -ℤ extent.y1) (pos 24294967294) (omega (arith, ints, near.up.in_order)) (omega (arith, ints, near.up.from.above, near.up.to)) in
    omega (arith, x, y, is)

-- the nearest point of the extent is near the coordinates of DEF
pub nearest_near : (extent : Rect) (target near : Point) → IsNearDefRect extent → IsNearestPoint extent target near → IsNearDefPoint near
nearest_near extent target near range of = record {
  across = record { low = omega (arith, ints, range.across.from.above, of.across.low); high = omega (arith, ints, range.across.to, of.across.high) };
  up = record { low = omega (arith, ints, range.up.from.above, of.up.low); high = omega (arith, ints, range.up.to, of.up.high) };
}

-- how much farther from the target the places of the extent are
abbrev farther : Point → Point → ℕ
farther target near = unsigned_abs (near.x -ℤ target.x) + unsigned_abs (near.y -ℤ target.y)

distance_splits : (extent : Rect) (target near : Point) (p : SpotPlace) → IsNearestPoint extent target near → LiesIn extent p →
    distance target p ≡ distance near p + farther target near
distance_splits extent target near p of lies =
    let x : unsigned_abs (p.x -ℤ target.x) ≡ unsigned_abs (p.x -ℤ near.x) + unsigned_abs (near.x -ℤ target.x) = of.across.apart p.x lies.left lies.right in
    let y : unsigned_abs (p.y -ℤ target.y) ≡ unsigned_abs (p.y -ℤ near.y) + unsigned_abs (near.y -ℤ target.y) = of.up.apart p.y lies.lower lies.upper in
    omega (arith, x, y)

-- if a place precedes another for the nearest point of the extent, it does for the target
same_order : (target near : Point) (p q : SpotPlace) (more : ℕ) → distance target p ≡ distance near p + more → distance target q ≡ distance near q + more →
    Precedes near p q → Precedes target p q
same_order target near p q more d e (inl less) = inl (omega (arith, d, e, less))
same_order target near p q more d e (inr same) = inr (d ∙ ap (λ (n : ℕ). n + more) same.0 ∙ sym e, same.1)

-- the choice for the nearest point of the extent is that for the target
pub choice_for : (cell : PlacementQuery) (extent : Rect) (target near : Point) (found : Option SpotPlace) → IsNearestPoint extent target near →
    ((p : SpotPlace) → IsAllowedPlace cell p → LiesIn extent p) → IsChoice cell near found → IsChoice cell target found
choice_for cell extent target near None of all choice = choice
choice_for cell extent target near (Some b) of all choice = record {
  may_go = choice.may_go;
  least = λ p may. elim (choice.least p may) [
    | inl same ↦ inl same
    | inr after ↦ inr (same_order target near b p (farther target near) (distance_splits extent target near b of (all b choice.may_go))
        (distance_splits extent target near p of (all p may)) after)
  ];
}

-- if the macro is not from 1 to 8 core sites high, no place is legal
pub none_legal : (cell : PlacementQuery) (p : SpotPlace) → ((k : ℕ) → IsHeightOf cell.frame cell.mac k → ⊥) → IsLegalAt cell p → ⊥
none_legal cell p none legal =
    let held : Holds (candidate_at cell p) Height = legal Height in
    let upright : turned (size_of cell.frame cell.mac) p.orient ≡ size_of cell.frame cell.mac = upright_size _ p.orient (legal_upright cell p legal) in
    let sites : IsSitesHigh cell.frame (box_at (size_of cell.frame cell.mac) p.x p.y) held.0 =
    subst (λ (z : Point). IsSitesHigh cell.frame (box_at z p.x p.y) held.0) upright held.1 in
    none held.0 record { least = sites.least; most = sites.most; high = taller p.y (size_of cell.frame cell.mac).y _ sites.high }
  where
    taller : (y h k : ℤ) → (y +ℤ h) ≡ (y +ℤ k) → h ≡ k
    taller y h k e = omega (arith, ints, e)
