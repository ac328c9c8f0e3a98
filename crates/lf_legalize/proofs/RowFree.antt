-- If a cell's box is free at each level over a bottom row, the place is allowed.
use Rattle.std.proofs.Common.{◌≡◌, ◌⊎◌, inl, inr, ℕ, zero, suc, ℤ, pos, negsuc, ◌+◌, ◌-◌, ◌*◌, ◌<◌, ◌≤◌, ◌%◌, ◌+ℤ◌, ◌-ℤ◌, ◌*ℤ◌, ◌≤ℤ◌, ◌<ℤ◌}
use Rattle.std.proofs.Common.{List, [], Some, length, get_or, map, slice_get, refl, sym, ap, subst, ◌∙◌, arith, IsTrue}
use Rattle.std.specs.Prelude.{All, Any, Contains}
use Rattle.std.specs.Option.{option_map}
use Rattle.std.proofs.Math.Nat.{mul-le-mul_right}
use Rattle.std.proofs.lemmas.Int.{ints}
use Rattle.std.proofs.lemmas.Option.{slice_get-get_or, slice_get_within, get_or_from_slice_get}
use Rattle.lf_units.proofs.Any.{any_mapped}
use Rattle.lf_units.specs.declared.geometry.Rect.{Rect}
use Rattle.lf_units.specs.Area.{Covers, SharesPoint}
use Rattle.lf_orient.specs.declared.Orient.{Orient}
use Rattle.lf_orient.specs.Orientation.{rail_below, is_allowed, EqualUnder}
use Rattle.lf_units.specs.declared.span.Span.{Span}
use Rattle.lf_units.specs.Spans.{HoldsNumber, LiesIn, LiesInOneOf}
use Rattle.lf_units.specs.Grids.{IsOnGrid, LiesInSpanFrom, grid_of}
use Rattle.lf_units.proofs.Anys.{any_weaker}
use Rattle.lf_floorplan.specs.declared.frame.Frame.{Frame}
use Rattle.lf_floorplan.specs.declared.parts.Row.{Row}
use Rattle.lf_floorplan.specs.Rows.{row_area}
use Rattle.lf_floorplan.specs.Boxes.{macro_of}
use Rattle.lf_floorplan.specs.Ground.{StaysInGround, IsClear, OverlapsSoft}
use Rattle.lf_floorplan.specs.RowSupport.{Supports, IsBottomRow, IsSupported, IsSitesHigh, RestsOnRows, rail_alternated}
use Rattle.lf_floorplan.proofs.RowSupportLemmas.{height_one, bottom_one}
use Rattle.lf_segments.specs.declared.segment.Segment.{Segment}
use Rattle.lf_segments.specs.Segments.{IsOpen}
use Rattle.lf_gaps.specs.Gaps.{FitsRows}
use Rattle.lf_rules.specs.Padding.{wider}
use Rattle.lf_rules.specs.Legality.{box_of as box_tried}
use Rattle.lf_rules.specs.Choice.{SpotPlace, IsLegalAt, IsAllowedPlace, candidate_at}
use Rattle.lf_rules.specs.Team.{box_in, boxes_beside}
use Rattle.lf_rules.proofs.BesideLemmas.{beside_hold}
use Rattle.lf_rules.proofs.LegalParts.{frame_kept, legal_by_parts}
use Rattle.lf_rules.proofs.SiteLemmas.{one_of_four}
use Rattle.lf_cells.specs.Cells.{cells_of}
use Rattle.lf_segments.specs.declared.strip.Strip.{Strip}
use Rattle.lf_occupancy.specs.Views.{IsFreeOver, IsOther, IsStripOf}
use Rattle.lf_segments.specs.Strips.{IsNear, row_y, strip_of}
use Rattle.lf_occupancy.specs.Floorplans.{IsOccupancyOf}
use Rattle.lf_legalize.specs.declared.row_search.RowSearch.{RowSearch}
use Rattle.lf_legalize.specs.Members.{member_of}
use Rattle.lf_legalize.specs.RowSearches.{IsOnRowIn, query_of_search, padding_in}
use Rattle.lf_legalize.specs.Levels.{AreLevels, IsFreeOnOne, IsFreeOnRow, IsLevelRow, IsRowOfLevel, FitsRow}
use Rattle.lf_legalize.proofs.LevelLemmas.{open_over, same_row}
use Rattle.lf_legalize.proofs.SoftLemmas.{point_soft, soft_over}
use Rattle.lf_legalize.proofs.RowLegal.{upright_box, reach, filled, sites_high, box_is, wide, is_other, row_y_is, same_rail, none_high, level_of, IsAtLevel}

-- ---- one level

-- at level j a row is free over the reach of the box at x
pub record IsHeldAt (s : RowSearch) (own : ℕ) (bottom : Row) (window : Span) (x : ℤ) (j : ℕ) : Type 0 where
  pub number : ℕ
  pub row : Row
  pub is_in_place : slice_get s.frame.now.rows number ≡ Some row
  pub own_is : j ≡ 0 → row ≡ bottom
  pub at_level : row.y ≡ bottom.y +ℤ (pos j *ℤ s.frame.now.pitch.y)
  pub rail : rail_below row.orient ≡ option_map (rail_alternated j) (rail_below bottom.orient)
  pub free : IsFreeOnRow s.occupancy.now s.id window (padding_in s) number (reach s x)

held_one : (s : RowSearch) (own : ℕ) (bottom : Row) (window : Span) (x : ℤ) (j : ℕ) → slice_get s.frame.now.rows own ≡ Some bottom →
    IsFreeOnOne (λ n. IsRowOfLevel s.frame.now own bottom j n) s.occupancy.now s.id window (padding_in s) (reach s x) → IsHeldAt s own bottom window x j
held_one s own bottom window x zero there one =
    let number : one.number ≡ own = one.among in
    let none = none_high s.frame.now.pitch.y s.frame.now.pitch_whole.high in
    record {
      number = one.number;
      row = bottom;
      is_in_place = rw number there;
      own_is = λ e. refl;
      at_level = omega (arith, ints, none);
      rail = same_rail (rail_below bottom.orient);
      free = one.free;
    }
held_one s own bottom window x (suc j) there one =
    let level : IsLevelRow s.frame.now bottom (suc j) one.number = one.among in
    record {
      number = one.number;
      row = level.row;
      is_in_place = level.is_in_place;
      own_is = λ e. absurd (omega (arith, e));
      at_level = level.at_level;
      rail = level.rail;
      free = one.free;
    }

lies_within : (s : RowSearch) (x : ℤ) (spans : List Span) → Any (λ t. LiesInSpanFrom t s.size.x x) spans → LiesInOneOf spans (reach s x)
lies_within s x spans =
    any_weaker (λ t. LiesInSpanFrom t s.size.x x) (λ t. LiesIn (reach s x) t) (λ t w v h. record {
      low = let a = w.low in let b = h.low in omega (arith, ints, a, b);
      high = let a = w.high in let b = h.high in omega (arith, ints, a, b);
    }) spans

pub held_at : (s : RowSearch) (own : ℕ) (bottom : Row) (window : Span) (lists : List (List Span)) (x : ℤ) → slice_get s.frame.now.rows own ≡ Some bottom →
    AreLevels s own bottom window s.height lists → FitsRows lists (grid_of bottom.x s.frame.now.pitch.x) s.size.x x → (j : ℕ) → j < s.height →
    IsHeldAt s own bottom window x j
held_at s own bottom window lists x there levels fits j less =
    let known : length lists ≡ s.height = levels.number in
    let lies = lies_within s x (get_or lists j []) (fits.within j [] (omega (arith, less, known))) in
    held_one s own bottom window x j there (((levels.each j less).exact (reach s x) (filled s x)).0 lies)

-- the team may use the row of the level over the reach
pub open_at : (s : RowSearch) (own : ℕ) (bottom : Row) (window : Span) (x : ℤ) (j : ℕ) → IsOccupancyOf s.frame.now s.occupied.now.cells s.occupancy.now →
    (h : IsHeldAt s own bottom window x j) → (v : ℤ) → HoldsNumber (reach s x) v → IsOpen s.frame.now s.frame.now.obstacles h.row s.id.team v
open_at s own bottom window x j held h v holds =
    let o = open_over s.frame.now s.occupancy.now s.id window (padding_in s) h.number (reach s x) held.index (filled s x) h.free in
    subst (λ (r : Row). IsOpen s.frame.now s.frame.now.obstacles r s.id.team v) (same_row s.frame.now h.number o.row h.row o.is_in_place h.is_in_place) (o.is_open v holds)

pub left_at : (s : RowSearch) (own : ℕ) (bottom : Row) (window : Span) (x : ℤ) (j : ℕ) → IsOccupancyOf s.frame.now s.occupied.now.cells s.occupancy.now →
    (h : IsHeldAt s own bottom window x j) → h.row.x ≤ℤ x
left_at s own bottom window x j held h =
    let w = wide s in
    (open_at s own bottom window x j held h x record { low = omega (arith, ints); high = omega (arith, ints, w) }).clear.left

pub right_at : (s : RowSearch) (own : ℕ) (bottom : Row) (window : Span) (x : ℤ) (j : ℕ) → IsOccupancyOf s.frame.now s.occupied.now.cells s.occupancy.now →
    (h : IsHeldAt s own bottom window x j) → (x +ℤ s.size.x) ≤ℤ (row_area s.frame.now.pitch h.row).x2
right_at s own bottom window x j held h =
    let w = wide s in
    let last = (open_at s own bottom window x j held h ((x +ℤ s.size.x) -ℤ pos 1)
    record { low = omega (arith, ints, w); high = omega (arith, ints) }).clear.right in
    omega (arith, ints, last)

-- ---- sites

site_by : (n l r : ℕ) (x o : ℤ) → (x +ℤ pos (l * n)) ≡ (o +ℤ pos (r * n)) → o ≤ℤ x → (site : ℕ) × (x -ℤ o ≡ pos (site * n))
site_by n l r x o level left = elim order [
  | inl less ↦
      let d : ℕ = r - l in
      let parts : r ≡ l + d = omega (arith, less) in
      let At : ℕ → Type 0 = λ m. m * n ≡ l * n + d * n in
      let sum : r * n ≡ l * n + d * n = subst At (sym parts) (omega arith) in
      (d, omega (arith, ints, level, sum))
  | inr more ↦
      let most : r * n ≤ l * n = mul-le-mul_right n (omega (arith, more)) in
      (0, (let none : 0 * n ≡ 0 = omega arith in omega (arith, ints, level, left, most, none)))
]
  where
    order : (l ≤ r) ⊎ (r < l)
    order = grind arith

site_at : (s x o : ℤ) (l r : ℕ) → pos 0 <ℤ s → (x +ℤ (pos l *ℤ s)) ≡ (o +ℤ (pos r *ℤ s)) → o ≤ℤ x → (site : ℕ) × (x -ℤ o ≡ pos site *ℤ s)
site_at (pos n) x o l r rising level left = site_by n l r x o level left
site_at (negsuc n) x o l r rising level left = absurd (omega (arith, ints, rising))

-- ---- the whole box

abbrev pub spot_on : Row → ℤ → Orient → SpotPlace
spot_on bottom x o = record { x = x; y = bottom.y; orient = o }

-- what is known of a place whose box is free at each level
pub record IsFreePlace (s : RowSearch) (own : ℕ) (bottom : Row) (window : Span) (x : ℤ) : Type 0 where
  pub there : slice_get s.frame.now.rows own ≡ Some bottom
  pub occupied : IsOccupancyOf s.frame.now s.occupied.now.cells s.occupancy.now
  pub on_grid : IsOnGrid (grid_of bottom.x s.frame.now.pitch.x) x
  pub held : (j : ℕ) → j < s.height → IsHeldAt s own bottom window x j

bottom_held : (s : RowSearch) (own : ℕ) (bottom : Row) (window : Span) (x : ℤ) → IsFreePlace s own bottom window x → IsHeldAt s own bottom window x 0
bottom_held s own bottom window x free = let least = s.least in free.held 0 (omega (arith, least))

pub bottom_left : (s : RowSearch) (own : ℕ) (bottom : Row) (window : Span) (x : ℤ) → IsFreePlace s own bottom window x → bottom.x ≤ℤ x
bottom_left s own bottom window x free =
    let h = bottom_held s own bottom window x free in
    subst (λ (r : Row). r.x ≤ℤ x) (h.own_is refl) (left_at s own bottom window x 0 free.occupied h)

pub bottom_right : (s : RowSearch) (own : ℕ) (bottom : Row) (window : Span) (x : ℤ) → IsFreePlace s own bottom window x →
    (x +ℤ s.size.x) ≤ℤ (row_area s.frame.now.pitch bottom).x2
bottom_right s own bottom window x free =
    let h = bottom_held s own bottom window x free in
    subst (λ (r : Row). (x +ℤ s.size.x) ≤ℤ (row_area s.frame.now.pitch r).x2) (h.own_is refl) (right_at s own bottom window x 0 free.occupied h)

row_known : (f : Frame) (n : ℕ) (r : Row) → slice_get f.rows n ≡ Some r → Contains f.rows r
row_known f n r there = (n, slice_get_within f.rows n r there, get_or_from_slice_get f.rows n r r there)

bottom_row : (s : RowSearch) (own : ℕ) (bottom : Row) (window : Span) (x : ℤ) (o : Orient) → IsFreePlace s own bottom window x →
    IsBottomRow s.frame.now (upright_box s (spot_on bottom x o)) bottom
bottom_row s own bottom window x o free =
    let left = bottom_left s own bottom window x free in
    let none = none_high s.frame.now.pitch.y s.frame.now.pitch_whole.high in
    let at = site_at s.frame.now.pitch.x x bottom.x free.on_grid.left free.on_grid.right s.frame.now.pitch_whole.wide free.on_grid.level left in
    record {
      core_ones = row_known s.frame.now own bottom free.there;
      at_bottom = record { at_level = omega (arith, ints, none); left = left; right = bottom_right s own bottom window x free };
      site = at.0;
      on_grid = at.1;
    }

pub free_is_on_row : (s : RowSearch) (own : ℕ) (bottom : Row) (window : Span) (x : ℤ) (o : Orient) → IsFreePlace s own bottom window x →
    IsOnRowIn s.frame.now s.size bottom window (spot_on bottom x o)
free_is_on_row s own bottom window x o free =
    let h = bottom_held s own bottom window x free in
    let w = wide s in
    let first = h.free.within x record { low = omega (arith, ints); high = omega (arith, ints, w) } in
    let last = h.free.within ((x +ℤ s.size.x) -ℤ pos 1) record { low = omega (arith, ints, w); high = omega (arith, ints) } in
    record {
      bottom = bottom_row s own bottom window x o free;
      left = first.low;
      right = let most = last.high in omega (arith, ints, most);
    }

carries_at : (s : RowSearch) (own : ℕ) (bottom : Row) (window : Span) (x : ℤ) (o : Orient) → IsFreePlace s own bottom window x → (j : ℕ) → j < s.height →
    (r : Row) × Supports s.frame.now (upright_box s (spot_on bottom x o)) bottom j r
carries_at s own bottom window x o free j less =
    let h = free.held j less in (
      h.row,
      record {
        core_ones = row_known s.frame.now h.number h.row h.is_in_place;
        at_row = record {
          at_level = h.at_level;
          left = left_at s own bottom window x j free.occupied h;
          right = right_at s own bottom window x j free.occupied h;
        };
        rail = h.rail;
      },
    )

carried : (s : RowSearch) (own : ℕ) (bottom : Row) (window : Span) (x : ℤ) (o : Orient) → IsFreePlace s own bottom window x →
    IsSupported s.frame.now (upright_box s (spot_on bottom x o))
carried s own bottom window x o free k r high at j less =
    let f = s.frame.now in
    let box = upright_box s (spot_on bottom x o) in
    let tall : k ≡ s.height = height_one f box k s.height high (sites_high s (spot_on bottom x o)) in
    let same : r ≡ bottom = bottom_one f box r bottom (filled s x) at (bottom_row s own bottom window x o free) in
    subst (λ (b : Row). (t : Row) × Supports f box b j t) (sym same) (carries_at s own bottom window x o free j (omega (arith, less, tall)))

-- each point of the box, or left or right of it at one of its heights, lies at the height of the
-- row of a level
record IsPointOf (s : RowSearch) (own : ℕ) (bottom : Row) (window : Span) (x px py : ℤ) : Type 0 where
  j : ℕ
  held : IsHeldAt s own bottom window x j
  from : held.row.y ≤ℤ py
  to : py <ℤ (held.row.y +ℤ s.frame.now.pitch.y)

point_at : (s : RowSearch) (own : ℕ) (bottom : Row) (window : Span) (x px py : ℤ) → IsFreePlace s own bottom window x →
    bottom.y ≤ℤ py → py <ℤ (bottom.y +ℤ s.size.y) → IsPointOf s own bottom window x px py
point_at s own bottom window x px py free from to =
    let q : ℤ = s.frame.now.pitch.y in
    let size : s.size.y ≡ pos s.height *ℤ q = s.high in
    let l : IsAtLevel q bottom.y py s.height = level_of q bottom.y py s.frame.now.pitch_whole.high s.height from (omega (arith, ints, size, to)) in
    let h = free.held l.j l.less in
    let level : h.row.y ≡ bottom.y +ℤ (pos l.j *ℤ q) = h.at_level in
    let low = l.from in
    let high = l.below in
    record { j = l.j; held = h; from = omega (arith, ints, level, low); to = omega (arith, ints, level, high) }

point_of : (s : RowSearch) (own : ℕ) (bottom : Row) (window : Span) (x : ℤ) (o : Orient) (px py : ℤ) → IsFreePlace s own bottom window x →
    Covers (upright_box s (spot_on bottom x o)) px py → IsPointOf s own bottom window x px py
point_of s own bottom window x o px py free covers = point_at s own bottom window x px py free covers.bottom covers.top

open_point : (s : RowSearch) (own : ℕ) (bottom : Row) (window : Span) (x : ℤ) (px py : ℤ) → IsOccupancyOf s.frame.now s.occupied.now.cells s.occupancy.now →
    (p : IsPointOf s own bottom window x px py) → HoldsNumber (reach s x) px →
    IsOpen s.frame.now s.frame.now.obstacles p.held.row s.id.team px × Covers (row_area s.frame.now.pitch p.held.row) px py
open_point s own bottom window x px py occupied p holds =
    let o = open_at s own bottom window x p.j occupied p.held px holds in
    (o, record { left = o.clear.left; right = o.clear.right; bottom = p.from; top = p.to })

in_ground : (s : RowSearch) (own : ℕ) (bottom : Row) (window : Span) (x : ℤ) (o : Orient) → IsFreePlace s own bottom window x →
    StaysInGround s.frame.now s.id.team (upright_box s (spot_on bottom x o))
in_ground s own bottom window x o free px py covers =
    let p = point_of s own bottom window x o px py free covers in
    let at = open_point s own bottom window x px py free.occupied p record { low = covers.left; high = covers.right } in
    at.0.ground py at.1

is_clear : (s : RowSearch) (own : ℕ) (bottom : Row) (window : Span) (x : ℤ) (o : Orient) → IsFreePlace s own bottom window x →
    IsClear s.frame.now (upright_box s (spot_on bottom x o))
is_clear s own bottom window x o free m d within shares =
    let p = point_of s own bottom window x o shares.x shares.y free shares.in_first in
    let at = open_point s own bottom window x shares.x shares.y free.occupied p record { low = shares.in_first.left; high = shares.in_first.right } in
    at.0.clear.clear shares.y at.1 m d within shares.in_second

-- the rectangle of another cell is at no level nearer to the box than the padding
overlapped_at : (s : RowSearch) (own : ℕ) (bottom : Row) (window : Span) (x px py : ℤ) (k : ℕ) (rect : Rect) → IsOccupancyOf s.frame.now s.occupied.now.cells s.occupancy.now →
    (p : IsPointOf s own bottom window x px py) → (x -ℤ padding_in s) ≤ℤ px → px <ℤ ((x +ℤ s.size.x) +ℤ padding_in s) →
    IsOther s.occupancy.now s.id k rect → Covers rect px py → ⊥
overlapped_at s own bottom window x px py k rect occupied p left right other covers =
    by (any_mapped (strip_of f) Free s.occupancy.now.index.segments (subst (Any Free) occupied.index.strips p.held.free.in_strip))
  where
    f : Frame
    f = s.frame.now

    Free : Strip → Type 0
    Free g = IsStripOf p.held.number s.id.team g × IsFreeOver s.occupancy.now s.id (padding_in s) g (reach s x)

    by : Any (λ (g : Segment). Free (strip_of f g)) s.occupancy.now.index.segments → ⊥
    by (i, g, below, is, free) =
        let number : g.row ≡ p.held.number = free.0.in_row in
        let at : row_y f g.row ≡ p.held.row.y = ap (row_y f) number ∙ row_y_is f p.held.number p.held.row p.held.is_in_place in
        let from = p.from in
        let to = p.to in
        free.1.clear k rect other record {
          x = px;
          y = py;
          in_first = record { left = left; right = right; bottom = omega (arith, ints, at, from); top = omega (arith, ints, at, to) };
          in_second = covers;
        }

is_apart : (s : RowSearch) (own : ℕ) (bottom : Row) (window : Span) (x : ℤ) (o : Orient) → IsFreePlace s own bottom window x →
    All (λ b. SharesPoint (wider (padding_in s) (upright_box s (spot_on bottom x o))) b.rect → ⊥)
    (boxes_beside s.frame.now (map member_of (cells_of s.occupied.now.cells s.id.team)) s.id.own)
is_apart s own bottom window x o free =
    beside_hold (λ rect. SharesPoint (wider (padding_in s) (upright_box s (spot_on bottom x o))) rect → ⊥)
    s.frame.now (map member_of (cells_of s.occupied.now.cells s.id.team)) s.id.own
    (λ k m q differ there placed shares.
    overlapped_at s own bottom window x shares.x shares.y k (box_in s.frame.now m.mac q) free.occupied
    (point_at s own bottom window x shares.x shares.y free shares.in_first.bottom shares.in_first.top) shares.in_first.left shares.in_first.right
    (is_other s.frame.now s.occupied.now.cells s.occupancy.now s.id k m q free.occupied.boxes differ there placed) shares.in_second)

-- no soft blockage is over the box
soft_at : (s : RowSearch) (own : ℕ) (bottom : Row) (window : Span) (x px py : ℤ) → IsOccupancyOf s.frame.now s.occupied.now.cells s.occupancy.now →
    (p : IsPointOf s own bottom window x px py) → HoldsNumber (reach s x) px → Any (λ r. Covers r px py) s.frame.now.soft → ⊥
soft_at s own bottom window x px py occupied p holds soft = by p.held.free.in_strip
  where
    f : Frame
    f = s.frame.now

    by : Any (λ g. IsStripOf p.held.number s.id.team g × IsFreeOver s.occupancy.now s.id (padding_in s) g (reach s x)) s.occupancy.now.index.strips → ⊥
    by (k, g, below, is, free) =
        let here : slice_get s.occupancy.now.index.strips k ≡ Some g = slice_get-get_or s.occupancy.now.index.strips k g below ∙ ap (λ (z : Strip). Some z) is in
        let spans = soft_over f s.occupancy.now.index k g occupied.index here in
        let inside = free.1.within px holds in
        let looked = p.held.free.within px holds in
        let left = inside.low in
        let right = inside.high in
        let low = looked.low in
        let high = looked.high in
        let at : row_y f g.row ≡ p.held.row.y = ap (row_y f) free.0.in_row ∙ row_y_is f p.held.number p.held.row p.held.is_in_place in
        let first = spans.bottom in
        let last = spans.top in
        let from = p.from in
        let to = p.to in
        let near : IsNear p.held.number s.id.team window.lo window.hi g =
        record { in_row = free.0.in_row; of_team = free.0.of_team; right = omega (arith, ints, low, right); left = omega (arith, ints, left, high) } in
        point_soft f g (get_or s.occupancy.now.index.soft k []) (reach s x) px spans inside (p.held.free.off_soft k g here near) holds record {
          y = py;
          covers = record { left = left; right = right; bottom = omega (arith, ints, first, at, from); top = omega (arith, ints, last, at, to) };
          soft = soft;
        }

off_soft : (s : RowSearch) (own : ℕ) (bottom : Row) (window : Span) (x : ℤ) (o : Orient) → IsFreePlace s own bottom window x →
    OverlapsSoft s.frame.now (upright_box s (spot_on bottom x o)) → ⊥
off_soft s own bottom window x o free (m, r, below, is, shares) =
    soft_at s own bottom window x shares.x shares.y free.occupied (point_of s own bottom window x o shares.x shares.y free shares.in_first)
    record { low = shares.in_first.left; high = shares.in_first.right } (m, r, below, is, shares.in_second)

-- ---- the rules

-- the rules, of a box
record KeepsAll (s : RowSearch) (o : Orient) (box : Rect) : Type 0 where
  is_in_place : RestsOnRows s.frame.now box
  equal : (k : ℕ) (r : Row) → IsSitesHigh s.frame.now box k → IsBottomRow s.frame.now box r → k % 2 ≡ 1 → EqualUnder s.frame.now.site.symmetry o r.orient
  rail : (k : ℕ) (r : Row) → IsSitesHigh s.frame.now box k → IsBottomRow s.frame.now box r → k % 2 ≡ 0 →
      rail_below r.orient ≡ Some (macro_of s.frame.now s.mac).rail
  ground : StaysInGround s.frame.now s.id.team box
  clear : IsClear s.frame.now box
  apart : All (λ b. SharesPoint (wider (padding_in s) box) b.rect → ⊥) (boxes_beside s.frame.now (map member_of (cells_of s.occupied.now.cells s.id.team)) s.id.own)

keeps_all : (s : RowSearch) (own : ℕ) (bottom : Row) (window : Span) (x : ℤ) (o : Orient) → FitsRow s bottom o → IsFreePlace s own bottom window x →
    KeepsAll s o (upright_box s (spot_on bottom x o))
keeps_all s own bottom window x o may free = record {
  is_in_place = record {
    height = (s.height, sites_high s (spot_on bottom x o));
    row = (bottom, bottom_row s own bottom window x o free);
    are_placed = carried s own bottom window x o free;
  };
  equal = λ k r high at odd.
      subst (λ (b : Row). EqualUnder s.frame.now.site.symmetry o b.orient) (sym (same r at)) (may.equal (let t = tall k high in rw (← t) odd));
  rail = λ k r high at even.
      subst (λ (b : Row). rail_below b.orient ≡ Some (macro_of s.frame.now s.mac).rail) (sym (same r at)) (may.rail (let t = tall k high in rw (← t) even));
  ground = in_ground s own bottom window x o free;
  clear = is_clear s own bottom window x o free;
  apart = is_apart s own bottom window x o free;
}
  where
    box : Rect
    box = upright_box s (spot_on bottom x o)

    tall : (k : ℕ) → IsSitesHigh s.frame.now box k → k ≡ s.height
    tall k high = height_one s.frame.now box k s.height high (sites_high s (spot_on bottom x o))

    same : (r : Row) → IsBottomRow s.frame.now box r → r ≡ bottom
    same r at = bottom_one s.frame.now box r bottom (filled s x) at (bottom_row s own bottom window x o free)

legal_of : (s : RowSearch) (p : SpotPlace) → IsTrue (is_allowed (macro_of s.frame.now s.mac).symmetry p.orient) →
    KeepsAll s p.orient (box_tried (candidate_at (query_of_search s) p)) → IsLegalAt (query_of_search s) p
legal_of s p allowed keeps =
    (legal_by_parts (candidate_at (query_of_search s) p)).1 (
      frame_kept (candidate_at (query_of_search s) p) record {
        is_in_place = keeps.is_in_place;
        oriented = (allowed, keeps.equal);
        on_rail = keeps.rail;
        ground = keeps.ground;
        clear = keeps.clear;
      },
      keeps.apart,
    )

pub free_place : (s : RowSearch) (own : ℕ) (bottom : Row) (window : Span) (lists : List (List Span)) (x : ℤ) → slice_get s.frame.now.rows own ≡ Some bottom →
    IsOccupancyOf s.frame.now s.occupied.now.cells s.occupancy.now → AreLevels s own bottom window s.height lists →
    FitsRows lists (grid_of bottom.x s.frame.now.pitch.x) s.size.x x → IsFreePlace s own bottom window x
free_place s own bottom window lists x there occupied levels fits = record {
  there = there;
  occupied = occupied;
  on_grid = fits.on_grid;
  held = held_at s own bottom window lists x there levels fits;
}

free_is_legal : (s : RowSearch) (own : ℕ) (bottom : Row) (window : Span) (x : ℤ) (o : Orient) → FitsRow s bottom o → IsFreePlace s own bottom window x →
    IsLegalAt (query_of_search s) (spot_on bottom x o)
free_is_legal s own bottom window x o may free =
    let p = spot_on bottom x o in
    legal_of s p may.allowed
    (subst (KeepsAll s o) (sym (box_is s p (one_of_four (macro_of s.frame.now s.mac).symmetry o may.allowed))) (keeps_all s own bottom window x o may free))

pub free_may_go : (s : RowSearch) (own : ℕ) (bottom : Row) (window : Span) (x : ℤ) (o : Orient) → FitsRow s bottom o → IsFreePlace s own bottom window x →
    IsAllowedPlace (query_of_search s) (spot_on bottom x o)
free_may_go s own bottom window x o may free = record {
  legal = free_is_legal s own bottom window x o may free;
  off_soft = subst (λ (box : Rect). OverlapsSoft s.frame.now box → ⊥) (sym (box_is s (spot_on bottom x o) (one_of_four (macro_of s.frame.now s.mac).symmetry o may.allowed)))
      (off_soft s own bottom window x o free);
}
