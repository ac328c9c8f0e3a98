-- Each point of a legal box lies in a strip.
use Rattle.std.proofs.Common.{◌≡◌, ◌∙◌, ℕ, ℤ, pos, ◌≤ℤ◌, ◌<ℤ◌, List, Option, Some, ap, slice_get, subst, sym, arith}
use Rattle.std.specs.Prelude.{Any}
use Rattle.std.specs.Option.{option_map_or}
use Rattle.std.proofs.lemmas.Int.{ints}
use Rattle.lf_units.specs.declared.geometry.Rect.{Rect}
use Rattle.lf_units.specs.Area.{Covers}
use Rattle.lf_units.specs.Spans.{HoldsNumber, LiesIn}
use Rattle.lf_units.proofs.Anys.{any_weaker}
use Rattle.lf_floorplan.specs.declared.frame.Frame.{Frame}
use Rattle.lf_floorplan.specs.declared.parts.Row.{Row}
use Rattle.lf_floorplan.specs.Rows.{row_area}
use Rattle.lf_floorplan.specs.Ground.{StaysInGround, IsClear}
use Rattle.lf_floorplan.specs.RowSupport.{RestsOnRows}
use Rattle.lf_segments.specs.declared.segment.Segment.{Segment}
use Rattle.lf_segments.specs.Segments.{IsOf}
use Rattle.lf_segments.specs.Boxes.{x_extent}
use Rattle.lf_segments.specs.Indexes.{IsIndexOf}
use Rattle.lf_segments.specs.Strips.{row_y, strip_of}
use Rattle.lf_segments.proofs.LawLemmas.{InSegment, in_segment, segments_hold}
use Rattle.lf_segments.specs.declared.strip.Strip.{Strip}
use Rattle.lf_rules.specs.Padding.{wider}
use Rattle.lf_occupancy.specs.Views.{Occupied, reach}
use Rattle.lf_occupancy.proofs.Lists.{any_made}
use Rattle.lf_occupancy.proofs.Padded.{NearIn, nearest_in}

-- the y of the row of this number
row_y_is : (f : Frame) (n : ℕ) (r : Row) → slice_get f.rows n ≡ Some r → row_y f n ≡ r.y
row_y_is f n r is = ap (λ (o : Option Row). option_map_or (λ r. r.y) o (pos 0)) is

-- the strip of a segment covers the points of the segment's row over it
covers_in_strip : (f : Frame) (g : Segment) (r : Row) (x y : ℤ) → slice_get f.rows g.row ≡ Some r → HoldsNumber g.span x → Covers (row_area f.pitch r) x y →
    Covers (strip_of f g).area x y
covers_in_strip f g r x y is_in_place holds covers =
    let is = row_y_is f g.row r is_in_place in
    record {
      left = holds.low;
      right = holds.high;
      bottom = let h = covers.bottom in omega (arith, ints, is, h);
      top = let h = covers.top in omega (arith, ints, is, h);
    }

module _ (f : Frame) (o : Occupied) (team : ℕ) (box : Rect) (plan : IsIndexOf f o.index) (is_in_place : RestsOnRows f box)
    (ground : StaysInGround f team box) (clear : IsClear f box) (x y : ℤ) (covers : Covers box x y) where
  wide : box.x1 <ℤ box.x2
  wide = let low = covers.left in let high = covers.right in omega (arith, ints, low, high)

  in_one : InSegment f o.index.segments team box x y
  in_one = in_segment f o.index.segments team box is_in_place (segments_hold f f.obstacles o.index.segments team box plan.segments is_in_place wide ground clear) x y covers

  abbrev Found : Strip → Type 0
  Found g = (g.team ≡ team) × Covers g.area x y

  made : (g : Segment) → IsOf in_one.number team g × LiesIn (x_extent box) g.span → Found (strip_of f g)
  made g is = (
    is.0.of_team,
    covers_in_strip f g in_one.row x y (ap (λ (n : ℕ). slice_get f.rows n) is.0.in_row ∙ in_one.is_in_place)
        (is.1 x record { low = covers.left; high = covers.right }) in_one.covers,
  )

  pub strips_hold : Any Found o.index.strips
  strips_hold = subst (λ (list : List Strip). Any Found list) (sym plan.strips)
      (any_made Found (strip_of f) o.index.segments
      (any_weaker (λ g. IsOf in_one.number team g × LiesIn (x_extent box) g.span) (λ g. Found (strip_of f g)) made o.index.segments in_one.lies))

-- each point of a legal box, widened, lies in a widened strip
pub widened_strips_cover_all : (f : Frame) (o : Occupied) (team : ℕ) (box : Rect) (by : ℤ) → IsIndexOf f o.index → RestsOnRows f box → StaysInGround f team box →
    IsClear f box → box.x1 <ℤ box.x2 → pos 0 ≤ℤ by → by ≤ℤ reach o → (x y : ℤ) → Covers (wider by box) x y →
    Any (λ g. (g.team ≡ team) × Covers (wider (reach o) g.area) x y) o.index.strips
widened_strips_cover_all f o team box by plan is_in_place ground clear filled some most x y covers =
    any_weaker (λ g. (g.team ≡ team) × Covers g.area at.z y) (λ g. (g.team ≡ team) × Covers (wider (reach o) g.area) x y) around o.index.strips
    (strips_hold f o team box plan is_in_place ground clear at.z y record { left = at.low; right = at.high; bottom = covers.bottom; top = covers.top })
  where
    at : NearIn box.x1 box.x2 by x
    at = nearest_in box.x1 box.x2 by x filled covers.left covers.right some

    around : (g : Strip) → (g.team ≡ team) × Covers g.area at.z y → (g.team ≡ team) × Covers (wider (reach o) g.area) x y
    around g (of_team, c) = (
      of_team,
      record {
        left = let l = c.left in let h = at.from in omega (arith, ints, l, h, most);
        right = let r = c.right in let h = at.to in omega (arith, ints, r, h, most);
        bottom = c.bottom;
        top = c.top;
      },
    )
