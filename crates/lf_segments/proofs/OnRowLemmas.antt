-- The row at a point, and whether a box on rows lies in segments.
use Rattle.std.proofs.Common.{◌≡◌, ◌⊎◌, inl, inr, ℕ, ℤ, suc, pos, negsuc, ◌*◌, ◌<◌, ◌≤◌, ◌+ℤ◌, ◌*ℤ◌, ◌≤ℤ◌, ◌<ℤ◌, refl, List, [], Option, Some, None, length}
use Rattle.std.proofs.Common.{get_or, slice_get, sym, ap, subst, ◌∙◌, arith}
use Rattle.std.specs.Prelude.{All, AllPairs, Bool, Contains, IsTrue, ◌↔◌}
use Rattle.std.specs.Option.{IsSomeAnd}
use Rattle.std.proofs.Math.ListN.{get_or-eq_default}
use Rattle.std.proofs.Math.Nat.{mul-le-mul_right}
use Rattle.std.proofs.lemmas.Int.{ints}
use Rattle.std.proofs.lemmas.List.Elements.{All-contains, All-nil}
use Rattle.std.proofs.lemmas.Option.{get_or_from_slice_get, slice_get-get_or, slice_get_within}
use Rattle.lf_units.specs.declared.geometry.Rect.{Rect}
use Rattle.lf_units.specs.Area.{SharesPoint}
use Rattle.lf_units.specs.Spans.{HoldsNumber, LiesIn}
use Rattle.lf_units.specs.Steps.{ContainsSpan}
use Rattle.lf_units.proofs.SpanEdges.{in_of_lies}
use Rattle.lf_floorplan.specs.declared.frame.Frame.{Frame}
use Rattle.lf_floorplan.specs.declared.parts.Row.{Row}
use Rattle.lf_floorplan.specs.Bounds.{IsDefNumber}
use Rattle.lf_floorplan.specs.Ground.{IsClear, StaysInGround}
use Rattle.lf_floorplan.specs.Rows.{IsCoreRow, row_area}
use Rattle.lf_floorplan.specs.RowSupport.{Supports, ExtendsOver, IsBottomRow, IsRowOfBox, IsSitesHigh, RestsOnRows}
use Rattle.lf_floorplan.proofs.RowAtLemmas.{row_at_one}
use Rattle.lf_segments.specs.declared.rows_by_y.RowEntry.{RowEntry}
use Rattle.lf_segments.specs.declared.segment.Segment.{Segment}
use Rattle.lf_segments.specs.Boxes.{x_extent}
use Rattle.lf_segments.specs.Indexes.{IsIndexOf, FrameIndexView}
use Rattle.lf_segments.specs.Laws.{CutIsUnique, LiesAt, LiesInSegments, SegmentsDecide}
use Rattle.lf_segments.specs.IndexedFrames.{IsSoftOf}
use Rattle.lf_segments.specs.RowsByY.{BeginsUpTo, IsEntryOf, IsLastAt, IsRowsByY}
use Rattle.lf_segments.specs.Segments.{ComesBefore, IsAt, IsCutBeside, LiesInSegment}
use Rattle.lf_segments.proofs.OneLemmas.{one_at}

-- ---- the row at a point

-- The entry that has a row's position has the row's corner.
record IsCorner (e : RowEntry) (r : Row) : Type 0 where
  level : e.y ≡ r.y
  left : e.x ≡ r.x

one_row : (f : Frame) (n : ℕ) (r s : Row) → slice_get f.rows n ≡ Some r → slice_get f.rows n ≡ Some s → r ≡ s
one_row f n r s p q = sym (get_or_from_slice_get f.rows n r r p) ∙ get_or_from_slice_get f.rows n s r q

corner : (f : Frame) (e : RowEntry) (r : Row) → IsEntryOf f e → slice_get f.rows e.row ≡ Some r → IsCorner e r
corner f e r known is_in_place =
    let same : known.row ≡ r = one_row f e.row known.row r known.is_in_place is_in_place in
    record {
      level = ap (λ (v : RowEntry). v.y) known.is ∙ ap (λ (q : Row). q.y) same;
      left = ap (λ (v : RowEntry). v.x) known.is ∙ ap (λ (q : Row). q.x) same;
    }

-- A row that extends over x has an entry that does not begin right of x.
record HasEntry (f : Frame) (es : List RowEntry) (y x : ℤ) (r : Row) : Type 0 where
  entry : RowEntry
  there : Contains es entry
  left : entry.x ≡ r.x
  begins : BeginsUpTo y x entry

has_entry : (f : Frame) (es : List RowEntry) (y x : ℤ) (n : ℕ) (r : Row) → IsRowsByY f es → slice_get f.rows n ≡ Some r → ExtendsOver f y x r →
    HasEntry f es y x r
has_entry f es y x n r rows is_in_place over =
    let found = rows.each n (slice_get_within f.rows n r is_in_place) in
    let e : RowEntry = found.1 in
    let there : Contains es e = (found.0, found.2, found.3) in
    let number : e.row ≡ n = found.4 in
    let here : slice_get f.rows e.row ≡ Some r = subst (λ (k : ℕ). slice_get f.rows k ≡ Some r) (sym number) is_in_place in
    let at : IsCorner e r = corner f e r (All-contains (IsEntryOf f) es e rows.known there) here in
    let same = at.left in
    let left = over.left in
    record { entry = e; there = there; left = same; begins = record { at_level = at.level ∙ over.at_level; left = omega (arith, ints, same, left) } }

pub no_row : (f : Frame) (es : List RowEntry) (y x : ℤ) → IsRowsByY f es → All (λ e. BeginsUpTo y x e → ⊥) es → All (λ r. ExtendsOver f y x r → ⊥) f.rows
no_row f es y x rows none k d within over =
    let h = has_entry f es y x k (get_or f.rows k d) rows (slice_get-get_or f.rows k d within) over in
    All-contains (λ e. BeginsUpTo y x e → ⊥) es h.entry none h.there h.begins

some_sites : (sites : ℕ) (p : ℤ) → 1 ≤ sites → pos 0 <ℤ p → pos 0 <ℤ (pos sites *ℤ p)
some_sites sites (pos n) least wide =
    let more : 1 * n ≤ sites * n = mul-le-mul_right n least in
    omega (arith, ints, more, wide)
some_sites sites (negsuc n) least wide = absurd (omega (arith, ints, wide))

-- If the last row that does not begin right of x ends by x, no row extends over x.
pub ended_row : (f : Frame) (es : List RowEntry) (y x : ℤ) (e : RowEntry) (r : Row) → IsRowsByY f es → IsLastAt es y x e → slice_get f.rows e.row ≡ Some r →
    IsCoreRow f.pitch r → (row_area f.pitch r).x2 ≤ℤ x → All (λ r. ExtendsOver f y x r → ⊥) f.rows
ended_row f es y x e r rows last is_in_place core_ones ended k d within over =
    let s : Row = get_or f.rows k d in
    let at_k : slice_get f.rows k ≡ Some s = slice_get-get_or f.rows k d within in
    let h = has_entry f es y x k s rows at_k over in
    let at : IsCorner e r = corner f e r (All-contains (IsEntryOf f) es e rows.known last.there) is_in_place in
    let beyond : h.entry.x ≤ℤ e.x = All-contains (λ o. BeginsUpTo y x o → o.x ≤ℤ e.x) es h.entry last.last h.there h.begins in
    let same = at.left in
    let other = h.left in
    let by = last.begins.left in
    let right : x <ℤ (row_area f.pitch s).x2 = over.right in
    let long : pos 0 <ℤ (pos r.sites *ℤ f.pitch.x) = some_sites r.sites f.pitch.x core_ones.has_site f.pitch_whole.wide in
    let first : ExtendsOver f y e.x r = record { at_level = sym at.level ∙ last.begins.at_level; left = omega (arith, ints, same); right = omega (arith, ints, same, long) } in
    let second : ExtendsOver f y e.x s = record { at_level = over.at_level; left = omega (arith, ints, beyond, other); right = omega (arith, ints, by, right) } in
    let number : e.row ≡ k = row_at_one f y e.x e.row k r s is_in_place at_k first second in
    let is : r ≡ s = one_row f k r s (subst (λ (n : ℕ). slice_get f.rows n ≡ Some r) number is_in_place) at_k in
    let wider : x <ℤ (row_area f.pitch r).x2 = subst (λ (q : Row). x <ℤ (row_area f.pitch q).x2) (sym is) right in
    omega (arith, ints, wider, ended)

-- ---- one segment of a row

pub at_within : (xs : List Segment) (row team n : ℕ) (x : ℤ) → ((d : Segment) → IsAt row team x (get_or xs n d)) → n < length xs
at_within xs row team n x at = elim order [
  | inl less ↦ less
  | inr past ↦
      let other : Segment = record { row = suc row; team = team; span = record { lo = x; hi = x } } in
      let is : get_or xs n other ≡ other = get_or-eq_default xs other past in
      let number : (get_or xs n other).row ≡ row = (at other).of.in_row in
      let same : (get_or xs n other).row ≡ suc row = ap (λ (g : Segment). g.row) is in
      absurd (omega (arith, number, same))
]
  where
    order : (n < length xs) ⊎ (length xs ≤ n)
    order = grind arith

-- The segment at x exists.
record IsHere (xs : List Segment) (row team : ℕ) (x : ℤ) (g : Segment) : Type 0 where
  there : Contains xs g
  at : IsAt row team x g

here_of : (xs : List Segment) (row team n : ℕ) (x : ℤ) (g : Segment) → ((d : Segment) → IsAt row team x (get_or xs n d)) → slice_get xs n ≡ Some g →
    IsHere xs row team x g
here_of xs row team n x g at is_in_place =
    let is : get_or xs n g ≡ g = get_or_from_slice_get xs n g g is_in_place in
    record { there = (n, slice_get_within xs n g is_in_place, is); at = subst (IsAt row team x) is (at g) }

pub lies_of_end : (xs : List Segment) (row team n : ℕ) (g : Segment) (box : Rect) → ((d : Segment) → IsAt row team box.x1 (get_or xs n d)) →
    slice_get xs n ≡ Some g → box.x2 ≤ℤ g.span.hi → LiesInSegment xs row team (x_extent box)
lies_of_end xs row team n g box at is_in_place ends =
    let h = here_of xs row team n box.x1 g at is_in_place in
    let from = h.at.holds.low in
    let lies : LiesIn (x_extent box) g.span =
    λ x k. let low = k.low in let high = k.high in record { low = omega (arith, ints, from, low); high = omega (arith, ints, high, ends) } in
    (h.there.0, g, h.there.1, h.there.2, (h.at.of, lies))

pub end_of_lies : (xs : List Segment) (row team n : ℕ) (g : Segment) (box : Rect) → AllPairs ComesBefore xs → box.x1 <ℤ box.x2 →
    ((d : Segment) → IsAt row team box.x1 (get_or xs n d)) → slice_get xs n ≡ Some g → LiesInSegment xs row team (x_extent box) → box.x2 ≤ℤ g.span.hi
end_of_lies xs row team n g box pairs wide at is_in_place (k, other, inside, is, both) =
    let h = here_of xs row team n box.x1 g at is_in_place in
    let of = both.0 in
    let i : ContainsSpan (x_extent box) other.span = in_of_lies (x_extent box) other.span wide both.1 in
    let low = i.low in
    let high = i.high in
    let holds : HoldsNumber other.span box.x1 = record { low = low; high = omega (arith, ints, wide, high) } in
    let one : g ≡ other =
    one_at xs g other box.x1 pairs h.there (k, inside, is) (h.at.of.in_row ∙ sym of.in_row) (h.at.of.of_team ∙ sym of.of_team) h.at.holds holds in
    let same : g.span.hi ≡ other.span.hi = ap (λ (v : Segment). v.span.hi) one in
    omega (arith, ints, same, high)

-- ---- a row of the box

record IsThere (o : Option Row) (P : Row → Type 0) : Type 0 where
  row : Row
  is : o ≡ Some row
  has : P row

there_of : (o : Option Row) (P : Row → Type 0) → IsSomeAnd o P → IsThere o P
there_of None P h = absurd h
there_of (Some r) P h = record { row = r; is = refl; has = h }

pub lies_at_row : (f : Frame) (xs : List Segment) (team n : ℕ) (box : Rect) (y : ℤ) → IsSomeAnd (slice_get f.rows n) (ExtendsOver f y box.x1) →
    LiesInSegment xs n team (x_extent box) → LiesAt f xs team box y
lies_at_row f xs team n box y some lies =
    let t = there_of (slice_get f.rows n) (ExtendsOver f y box.x1) some in
    record { number = n; row = t.row; is_in_place = t.is; extends = t.has; lies = lies }

pub at_row_lies : (f : Frame) (xs : List Segment) (team n : ℕ) (box : Rect) (y : ℤ) → IsSomeAnd (slice_get f.rows n) (ExtendsOver f y box.x1) →
    LiesAt f xs team box y → LiesInSegment xs n team (x_extent box)
at_row_lies f xs team n box y some l =
    let t = there_of (slice_get f.rows n) (ExtendsOver f y box.x1) some in
    let same : l.number ≡ n = row_at_one f y box.x1 l.number n l.row t.row l.is_in_place t.is l.extends t.has in
    subst (λ (k : ℕ). LiesInSegment xs k team (x_extent box)) same l.lies

pub no_row_lies : (f : Frame) (xs : List Segment) (team : ℕ) (box : Rect) (y : ℤ) → All (λ r. ExtendsOver f y box.x1 r → ⊥) f.rows → LiesAt f xs team box y → ⊥
no_row_lies f xs team box y none l =
    let is : get_or f.rows l.number l.row ≡ l.row = get_or_from_slice_get f.rows l.number l.row l.row l.is_in_place in
    none l.number l.row (slice_get_within f.rows l.number l.row l.is_in_place) (subst (ExtendsOver f y box.x1) (sym is) l.extends)

-- ---- all rows of the box

-- The lower edge of a box on rows is a coordinate of DEF.
pub starts_in_def : (f : Frame) (box : Rect) → RestsOnRows f box → IsDefNumber box.y1
starts_in_def f box is_in_place =
    let r : Row = is_in_place.row.0 in
    let bottom : IsBottomRow f box r = is_in_place.row.1 in
    let core_ones : IsCoreRow f.pitch r = All-contains (IsCoreRow f.pitch) f.rows r f.rows_are_core bottom.core_ones in
    let level = bottom.at_bottom.at_level in
    let above = core_ones.y_in_def.above in
    let most = core_ones.y_in_def.most in
    record { above = omega (arith, ints, level, above); most = omega (arith, ints, level, most) }

-- A row that carries a wide box extends over its left edge.
extends_of : (f : Frame) (box : Rect) (j : ℕ) (r : Row) → box.x1 <ℤ box.x2 → IsRowOfBox f box j r → ExtendsOver f (box.y1 +ℤ (pos j *ℤ f.pitch.y)) box.x1 r
extends_of f box j r wide at =
    let right = at.right in
    record { at_level = at.at_level; left = at.left; right = omega (arith, ints, wide, right) }

-- The box lies in one segment in each of the rows at these levels.
abbrev pub LiesBelow : Frame → List Segment → ℕ → Rect → ℕ → Type 0
LiesBelow f xs team box level = (j : ℕ) → j < level → LiesAt f xs team box (box.y1 +ℤ (pos j *ℤ f.pitch.y))

pub all_lie : (f : Frame) (xs : List Segment) (team : ℕ) (box : Rect) (level : ℕ) → box.x1 <ℤ box.x2 → LiesBelow f xs team box level →
    ((k : ℕ) → IsSitesHigh f box k → k ≤ level) → LiesInSegments f xs team box
all_lie f xs team box level wide lies most k bottom j n r high at_bottom less is_in_place carries =
    let bound = most k high in
    let l = lies j (omega (arith, less, bound)) in
    let same : l.number ≡ n =
    row_at_one f (box.y1 +ℤ (pos j *ℤ f.pitch.y)) box.x1 l.number n l.row r l.is_in_place is_in_place l.extends (extends_of f box j r wide carries.at_row) in
    subst (λ (m : ℕ). LiesInSegment xs m team (x_extent box)) same l.lies

-- A number of heights that is not higher is not more.
not_more : (p : ℤ) → pos 0 <ℤ p → (k n : ℕ) → (pos k *ℤ p) ≤ℤ (pos n *ℤ p) → k ≤ n
not_more (pos p) high k n most = elim order [
  | inl done ↦ done
  | inr less ↦
      let up : suc n * p ≤ k * p = mul-le-mul_right p less in
      absurd (omega (arith, ints, up, most, high))
]
  where
    order : (k ≤ n) ⊎ (suc n ≤ k)
    order = grind arith
not_more (negsuc p) high k n most = absurd (omega (arith, ints, high))

pub ends_by_level : (f : Frame) (box : Rect) (level : ℕ) → box.y2 ≤ℤ (box.y1 +ℤ (pos level *ℤ f.pitch.y)) → (k : ℕ) → IsSitesHigh f box k → k ≤ level
ends_by_level f box level ends k high =
    let whole = high.high in
    not_more f.pitch.y f.pitch_whole.high k level (omega (arith, ints, ends, whole))

-- If the row at a level below the box's height does not have it in a segment, the box does not lie
-- in segments.
pub level_lies : (f : Frame) (xs : List Segment) (team : ℕ) (box : Rect) (level : ℕ) → box.x1 <ℤ box.x2 → RestsOnRows f box →
    (box.y1 +ℤ (pos level *ℤ f.pitch.y)) <ℤ box.y2 → LiesInSegments f xs team box → LiesAt f xs team box (box.y1 +ℤ (pos level *ℤ f.pitch.y))
level_lies f xs team box level wide is_in_place under lies = elim order [
  | inl less ↦
      let carried = is_in_place.are_placed k bottom high at_bottom level less in
      let s : Row = carried.0 in
      let carries : Supports f box bottom level s = carried.1 in
      let place : Contains f.rows s = carries.core_ones in
      let there : slice_get f.rows place.0 ≡ Some s = slice_get-get_or f.rows place.0 s place.1 ∙ ap (λ (r : Row). Some r) place.2 in
      record {
        number = place.0;
        row = s;
        is_in_place = there;
        extends = extends_of f box level s wide carries.at_row;
        lies = lies k bottom level place.0 s high at_bottom less there carries;
      }
  | inr more ↦ absurd (above more)
]
  where
    k : ℕ
    k = is_in_place.height.0

    high : IsSitesHigh f box k
    high = is_in_place.height.1

    bottom : Row
    bottom = is_in_place.row.0

    at_bottom : IsBottomRow f box bottom
    at_bottom = is_in_place.row.1

    order : (level < k) ⊎ (k ≤ level)
    order = grind arith

    higher : (p : ℤ) → pos 0 <ℤ p → k ≤ level → (pos k *ℤ p) ≤ℤ (pos level *ℤ p)
    higher (pos p) up more = let product : k * p ≤ level * p = mul-le-mul_right p more in omega (arith, ints, product)
    higher (negsuc p) up more = absurd (omega (arith, ints, up))

    above : k ≤ level → ⊥
    above more =
        let up = higher f.pitch.y f.pitch_whole.high more in
        let whole = high.high in
        omega (arith, ints, up, whole, under)

-- ---- the consequences for ground and obstacles

pub ground_of : (f : Frame) (xs : List Segment) (team : ℕ) (box : Rect) (b : Bool) → SegmentsDecide → IsCutBeside f [] xs → RestsOnRows f box → box.x1 <ℤ box.x2 →
    (IsTrue b ↔ LiesInSegments f xs team box) → (IsTrue b ↔ StaysInGround f team box)
ground_of f xs team box b decide cut is_in_place wide answer =
    let both = decide f [] xs team box cut is_in_place wide in
    (λ yes. (both.1 (answer.0 yes)).0, λ inside. answer.1 (both.0 (inside, All-nil (λ o. SharesPoint box o → ⊥))))

pub clear_of : (f : Frame) (xs : List Segment) (team : ℕ) (box : Rect) (b : Bool) → SegmentsDecide → IsCutBeside f f.obstacles xs → RestsOnRows f box →
    box.x1 <ℤ box.x2 → StaysInGround f team box → (IsTrue b ↔ LiesInSegments f xs team box) → (IsTrue b ↔ IsClear f box)
clear_of f xs team box b decide cut is_in_place wide inside answer =
    let both = decide f f.obstacles xs team box cut is_in_place wide in
    (λ yes. (both.1 (answer.0 yes)).1, λ clear. answer.1 (both.0 (inside, clear)))

-- ---- soft spans by the number of a segment

past_end : (xs : List Segment) (n : ℕ) → slice_get xs n ≡ None → length xs ≤ n
past_end xs n none = elim order [
  | inl past ↦ past
  | inr less ↦
      let d : Segment = record { row = 0; team = 0; span = record { lo = pos 0; hi = pos 0 } } in
      let some : slice_get xs n ≡ Some (get_or xs n d) = slice_get-get_or xs n d less in
      absurd cc
]
  where
    order : (length xs ≤ n) ⊎ (n < length xs)
    order = grind arith

pub soft_of_ground : (f : Frame) (g : FrameIndexView) (n : ℕ) → CutIsUnique → IsIndexOf f g → IsSoftOf f n (get_or g.soft n [])
soft_of_ground f g n one is = record {
  there = λ xs s cut is_in_place.
      is.soft.each n s (subst (λ (ys : List Segment). slice_get ys n ≡ Some s) (one f f.obstacles xs g.segments cut is.segments) is_in_place);
  past = λ xs cut none.
      let same : length xs ≡ length g.segments = ap (λ (ys : List Segment). length ys) (one f f.obstacles xs g.segments cut is.segments) in
      let after_it = past_end xs n none in
      let many = is.soft.many in
      get_or-eq_default g.soft [] (omega (arith, same, after_it, many));
}
