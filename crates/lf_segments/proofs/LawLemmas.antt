-- A box on rows is legal iff it lies in segments.
use Rattle.std.proofs.Common.{◌≡◌, ◌⊎◌, inl, inr, ℕ, zero, suc, ℤ, pos, negsuc, ◌*◌, ◌<◌, ◌+ℤ◌, ◌*ℤ◌}
use Rattle.std.proofs.Common.{◌≤ℤ◌, ◌<ℤ◌, List, Some, slice_get, sym, ap, subst, ◌∙◌, arith}
use Rattle.std.specs.Prelude.{All, Contains}
use Rattle.std.proofs.Math.Nat.{suc-mul}
use Rattle.std.proofs.lemmas.Int.{ints}
use Rattle.std.proofs.lemmas.Option.{slice_get-get_or}
use Rattle.lf_units.specs.declared.geometry.Rect.{Rect}
use Rattle.lf_units.specs.Area.{Covers, SharesPoint}
use Rattle.lf_units.specs.Spans.{HoldsNumber}
use Rattle.lf_floorplan.specs.declared.frame.Frame.{Frame}
use Rattle.lf_floorplan.specs.declared.parts.Row.{Row}
use Rattle.lf_floorplan.specs.Rows.{row_area}
use Rattle.lf_floorplan.specs.Ground.{StaysInGround}
use Rattle.lf_floorplan.specs.RowSupport.{IsSitesHigh, IsBottomRow, IsRowOfBox, Supports, RestsOnRows}
use Rattle.lf_segments.specs.declared.segment.Segment.{Segment}
use Rattle.lf_segments.specs.Segments.{IsOpen, IsCutBeside, LiesInSegment}
use Rattle.lf_segments.specs.Boxes.{x_extent}
use Rattle.lf_segments.specs.Laws.{LiesInSegments}

-- One height more.
one_more : (k : ℕ) (p : ℤ) → pos 0 <ℤ p → (pos (suc k) *ℤ p) ≡ ((pos k *ℤ p) +ℤ p)
one_more k (pos n) high = ap (λ (m : ℕ). pos m) (suc-mul k n)
one_more k (negsuc n) high = absurd (omega (arith, ints))

-- More heights are higher.
rises : (p : ℤ) → pos 0 <ℤ p → (j k : ℕ) → j < k → ((pos j *ℤ p) +ℤ p) ≤ℤ (pos k *ℤ p)
rises p high j zero less = absurd (omega arith)
rises p high j (suc k) less = elim order [
  | inl below ↦ let before = rises p high j k below in let more = one_more k p high in omega (arith, ints, before, more, high)
  | inr same ↦
      let more = one_more k p high in
      let At : ℕ → Type 0 = λ n. ((pos n *ℤ p) +ℤ p) ≤ℤ (pos (suc k) *ℤ p) in
      subst At (sym same) (omega (arith, ints, more))
]
  where
    order : (j < k) ⊎ (j ≡ k)
    order = grind arith

above : (p : ℤ) → pos 0 <ℤ p → (j : ℕ) → pos 0 ≤ℤ (pos j *ℤ p)
above (pos n) high j = omega (arith, ints)
above (negsuc n) high j = absurd (omega (arith, ints))

-- One of several adjacent heights holds y.
record Level (p low y : ℤ) (k : ℕ) : Type 0 where
  j : ℕ
  less : j < k
  from : (low +ℤ (pos j *ℤ p)) ≤ℤ y
  below : y <ℤ ((low +ℤ (pos j *ℤ p)) +ℤ p)

level_of : (p low y : ℤ) → pos 0 <ℤ p → (k : ℕ) → low ≤ℤ y → y <ℤ (low +ℤ (pos k *ℤ p)) → Level p low y k
level_of p low y high zero from below = absurd (nothing p high below)
  where
    nothing : (q : ℤ) → pos 0 <ℤ q → y <ℤ (low +ℤ (pos 0 *ℤ q)) → ⊥
    nothing (pos n) h b = let none : 0 * n ≡ 0 = omega arith in omega (arith, ints, b, none, from)
    nothing (negsuc n) h b = omega (arith, ints, h)
level_of p low y high (suc k) from below = elim order [
  | inl less ↦ let l = level_of p low y high k from less in record { j = l.j; less = let h = l.less in omega (arith, h); from = l.from; below = l.below }
  | inr over ↦ record { j = k; less = omega arith; from = over; below = let more = one_more k p high in omega (arith, ints, below, more) }
]
  where
    order : (y <ℤ (low +ℤ (pos k *ℤ p))) ⊎ ((low +ℤ (pos k *ℤ p)) ≤ℤ y)
    order = grind (arith, ints)

-- The points of a row that carries the box, over the box's x range, are points of the box.
point_of_row : (f : Frame) (box : Rect) (k j : ℕ) (r : Row) (x y : ℤ) → IsSitesHigh f box k → j < k → IsRowOfBox f box j r → HoldsNumber (x_extent box) x →
    Covers (row_area f.pitch r) x y → Covers box x y
point_of_row f box k j r x y high less at holds covers =
    let p : ℤ = f.pitch.y in
    let up : pos 0 <ℤ p = f.pitch_whole.high in
    let low = above p up j in
    let top = rises p up j k less in
    let level : r.y ≡ box.y1 +ℤ (pos j *ℤ p) = at.at_level in
    let whole : box.y2 ≡ box.y1 +ℤ (pos k *ℤ p) = high.high in
    let bottom : r.y ≤ℤ y = covers.bottom in
    let under : y <ℤ (r.y +ℤ p) = covers.top in
    record { left = holds.low; right = holds.high; bottom = omega (arith, ints, low, level, bottom); top = omega (arith, ints, top, level, whole, under) }

-- The points of the box in a row that carries it are points of the row.
point_in_row : (f : Frame) (box : Rect) (j : ℕ) (r : Row) (x y : ℤ) → IsRowOfBox f box j r → Covers box x y → (box.y1 +ℤ (pos j *ℤ f.pitch.y)) ≤ℤ y →
    y <ℤ ((box.y1 +ℤ (pos j *ℤ f.pitch.y)) +ℤ f.pitch.y) → Covers (row_area f.pitch r) x y
point_in_row f box j r x y at covers from below =
    let left = at.left in
    let right = at.right in
    let level = at.at_level in
    record {
      left = let h = covers.left in omega (arith, ints, left, h);
      right = let h = covers.right in omega (arith, ints, right, h);
      bottom = omega (arith, ints, level, from);
      top = omega (arith, ints, level, below);
    }

-- A row of core sites by its position.
row_at : (f : Frame) (s : Row) → Contains f.rows s → (n : ℕ) × (slice_get f.rows n ≡ Some s)
row_at f s (n, within, is) = (n, slice_get-get_or f.rows n s within ∙ ap (λ (r : Row). Some r) is)

pub segments_hold : (f : Frame) (obstacles : List Rect) (segments : List Segment) (team : ℕ) (box : Rect) → IsCutBeside f obstacles segments → RestsOnRows f box → box.x1 <ℤ box.x2 →
    StaysInGround f team box → All (λ o. SharesPoint box o → ⊥) obstacles → LiesInSegments f segments team box
segments_hold f obstacles segments team box cut is_in_place wide ground clear k bottom j n r high at_bottom less is carries =
    (cut.exact n r team (x_extent box) is wide).1 (λ x holds. record {
      clear = record {
        left = let a = carries.at_row.left in let b = holds.low in omega (arith, ints, a, b);
        right = let a = carries.at_row.right in let b = holds.high in omega (arith, ints, a, b);
        clear = λ y covers m d within inside.
            clear m d within
            record { x = x; y = y; in_first = point_of_row f box k j r x y high less carries.at_row holds covers; in_second = inside };
      };
      ground = λ y covers. ground x y (point_of_row f box k j r x y high less carries.at_row holds covers);
    })

-- The point lies in a row with this number in which the box lies in a segment of the team.
pub record InSegment (f : Frame) (segments : List Segment) (team : ℕ) (box : Rect) (x y : ℤ) : Type 0 where
  pub number : ℕ
  pub row : Row
  pub is_in_place : slice_get f.rows number ≡ Some row
  pub lies : LiesInSegment segments number team (x_extent box)
  pub covers : Covers (row_area f.pitch row) x y

-- This holds for each point of a box that rests on rows and lies in segments.
pub in_segment : (f : Frame) (segments : List Segment) (team : ℕ) (box : Rect) → RestsOnRows f box → LiesInSegments f segments team box →
    (x y : ℤ) → Covers box x y → InSegment f segments team box x y
in_segment f segments team box is_in_place lies x y covers =
    let k = is_in_place.height.0 in
    let high : IsSitesHigh f box k = is_in_place.height.1 in
    let bottom : Row = is_in_place.row.0 in
    let at_bottom : IsBottomRow f box bottom = is_in_place.row.1 in
    let l : Level f.pitch.y box.y1 y k =
    level_of f.pitch.y box.y1 y f.pitch_whole.high k covers.bottom (subst (λ (t : ℤ). y <ℤ t) high.high covers.top) in
    let carried = is_in_place.are_placed k bottom high at_bottom l.j l.less in
    let row : Row = carried.0 in
    let carries : Supports f box bottom l.j row = carried.1 in
    let place = row_at f row carries.core_ones in
    record {
      number = place.0;
      row = row;
      is_in_place = place.1;
      lies = lies k bottom l.j place.0 row high at_bottom l.less place.1 carries;
      covers = point_in_row f box l.j row x y carries.at_row covers l.from l.below;
    }

-- At each point of a box that lies in segments the team may use a row.
record OpenPoint (f : Frame) (obstacles : List Rect) (team : ℕ) (x y : ℤ) : Type 0 where
  row : Row
  there : IsOpen f obstacles row team x
  covers : Covers (row_area f.pitch row) x y

open_point : (f : Frame) (obstacles : List Rect) (segments : List Segment) (team : ℕ) (box : Rect) → IsCutBeside f obstacles segments → RestsOnRows f box → box.x1 <ℤ box.x2 →
    LiesInSegments f segments team box → (x y : ℤ) → Covers box x y → OpenPoint f obstacles team x y
open_point f obstacles segments team box cut is_in_place wide lies x y covers =
    let i = in_segment f segments team box is_in_place lies x y covers in
    record {
      row = i.row;
      there = (cut.exact i.number i.row team (x_extent box) i.is_in_place wide).0 i.lies x record { low = covers.left; high = covers.right };
      covers = i.covers;
    }

pub segments_suffice : (f : Frame) (obstacles : List Rect) (segments : List Segment) (team : ℕ) (box : Rect) → IsCutBeside f obstacles segments → RestsOnRows f box → box.x1 <ℤ box.x2 →
    LiesInSegments f segments team box → StaysInGround f team box × All (λ o. SharesPoint box o → ⊥) obstacles
segments_suffice f obstacles segments team box cut is_in_place wide lies = (
  λ x y covers. let o = open_point f obstacles segments team box cut is_in_place wide lies x y covers in o.there.ground y o.covers,
  λ m d within shares.
      let o = open_point f obstacles segments team box cut is_in_place wide lies shares.x shares.y shares.in_first in
      o.there.clear.clear shares.y o.covers m d within shares.in_second,
)
