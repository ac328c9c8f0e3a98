-- The only row that lies at a y and extends over an x is the only one that may carry a box there.
use Rattle.std.proofs.Common.{◌≡◌, ℕ, zero, suc, ℤ, pos, negsuc, ◌+ℤ◌, ◌*ℤ◌, ◌<◌, ◌<ℤ◌, length, Option, Some, None, refl, sym, ◌∙◌, ap, subst, arith, slice_get}
use Rattle.std.specs.Option.{IsSomeAnd, option_map}
use Rattle.std.proofs.lemmas.Int.{ints}
use Rattle.std.proofs.lemmas.Option.{slice_get_read, slice_get_within, get_or_from_slice_get}
use Rattle.std.proofs.lemmas.List.Elements.{All-contains}
use Rattle.lf_orient.specs.declared.Rail.{Rail}
use Rattle.lf_orient.specs.Orientation.{rail_below}
use Rattle.lf_units.specs.declared.geometry.Point.{Point}
use Rattle.lf_units.specs.declared.geometry.Rect.{Rect}
use Rattle.lf_floorplan.specs.declared.frame.Frame.{Frame}
use Rattle.lf_floorplan.specs.declared.parts.Row.{Row}
use Rattle.lf_floorplan.specs.RowSupport.{Supports, ExtendsOver, IsBottomRow, IsRowAt, IsRowOfBox, rail_alternated}
use Rattle.lf_floorplan.proofs.RowAtLemmas.{row_at_one}
use Rattle.lf_rules.specs.Solid.{IsOnlyRow}

-- ---- the only row

pub no_row : (f : Frame) (p : Point) → IsRowAt f p.y p.x None → IsOnlyRow f p None
no_row f p none s there over = All-contains (λ r. ExtendsOver f p.y p.x r → ⊥) f.rows s none there over

-- The row at this position.
there : (f : Frame) (p : Point) (n : ℕ) → IsRowAt f p.y p.x (Some n) → (r : Row) × (slice_get f.rows n ≡ Some r) × ExtendsOver f p.y p.x r
there f p n found = by (slice_get f.rows n) refl found
  where
    by : (o : Option Row) → slice_get f.rows n ≡ o → IsSomeAnd o (ExtendsOver f p.y p.x) → (r : Row) × (slice_get f.rows n ≡ Some r) × ExtendsOver f p.y p.x r
    by None at none = absurd none
    by (Some r) at over = (r, at, over)

pub row_within : (f : Frame) (p : Point) (n : ℕ) → IsRowAt f p.y p.x (Some n) → n < length f.rows
row_within f p n found = let row = there f p n found in slice_get_within f.rows n row.0 row.1

pub only_row : (f : Frame) (p : Point) (n : ℕ) (r : Row) → slice_get f.rows n ≡ Some r → IsRowAt f p.y p.x (Some n) → IsOnlyRow f p (Some r)
only_row f p n r at found = (
  (n, slice_get_within f.rows n r at, get_or_from_slice_get f.rows n r r at),
  λ s has over.
      let row = there f p n found in
      let at_s : slice_get f.rows has.0 ≡ Some s = slice_get_read f.rows (length f.rows) has.0 s refl has.1 (sym has.2) in
      let same : n ≡ has.0 = row_at_one f p.y p.x n has.0 row.0 s row.1 at_s row.2 over in
      let both : Some s ≡ Some r = sym at_s ∙ ap (slice_get f.rows) (sym same) ∙ at in
      cc,
)

-- ---- the bottom row

abbrev corner : Rect → Point
corner box = record { x = box.x1; y = box.y1 }

-- The point at the box's left edge, j site heights above its lower edge.
abbrev pub foot : Frame → Rect → ℕ → Point
foot f box j = record { x = box.x1; y = box.y1 +ℤ (pos j *ℤ f.pitch.y) }

-- A row of the box extends over the box's left edge.
extends : (f : Frame) (box : Rect) (j : ℕ) (r : Row) → box.x1 <ℤ box.x2 → IsRowOfBox f box j r → ExtendsOver f (foot f box j).y box.x1 r
extends f box j r wide of =
    let most = of.right in
    record { at_level = of.at_level; left = of.left; right = omega (arith, ints, most, wide) }

lowest : (y p : ℤ) → y +ℤ (pos 0 *ℤ p) ≡ y
lowest y (pos n) = omega (arith, ints)
lowest y (negsuc n) = omega (arith, ints)

bottom_extends : (f : Frame) (box : Rect) (r : Row) → box.x1 <ℤ box.x2 → IsBottomRow f box r → ExtendsOver f box.y1 box.x1 r
bottom_extends f box r wide b = subst (λ (y : ℤ). ExtendsOver f y box.x1 r) (lowest box.y1 f.pitch.y) (extends f box 0 r wide b.at_bottom)

pub no_bottom : (f : Frame) (box : Rect) (p : Point) → p ≡ corner box → box.x1 <ℤ box.x2 → IsOnlyRow f p None → (r : Row) → IsBottomRow f box r → ⊥
no_bottom f box p is wide none r b = (subst (λ (q : Point). IsOnlyRow f q None) is none) r b.core_ones (bottom_extends f box r wide b)

pub no_other_bottom : (f : Frame) (box : Rect) (p : Point) (r : Row) → p ≡ corner box → box.x1 <ℤ box.x2 → IsOnlyRow f p (Some r) → (IsBottomRow f box r → ⊥)
    → (s : Row) → IsBottomRow f box s → ⊥
no_other_bottom f box p r is wide only not_so s b =
    let same : s ≡ r = (subst (λ (q : Point). IsOnlyRow f q (Some r)) is only).1 s b.core_ones (bottom_extends f box s wide b) in
    not_so (subst (λ (q : Row). IsBottomRow f box q) same b)

-- ---- a row that carries the box

-- A rail that is alternated 0 times is unchanged.
not_alternated : (rail : Option Rail) → rail ≡ option_map (rail_alternated 0) rail
not_alternated None = refl
not_alternated (Some rail) = refl

-- The bottom row carries the lowest part of the box.
pub bottom_carries : (f : Frame) (box : Rect) (r : Row) → IsBottomRow f box r → (j : ℕ) → j < 1 → (s : Row) × Supports f box r j s
bottom_carries f box r b zero less =
    (r, record { core_ones = b.core_ones; at_row = b.at_bottom; rail = not_alternated (rail_below r.orient) })
bottom_carries f box r b (suc j) less = absurd (omega arith)

pub none_carries : (f : Frame) (box : Rect) (bottom : Row) (j : ℕ) (p : Point) → p ≡ foot f box j → box.x1 <ℤ box.x2 → IsOnlyRow f p None
    → (s : Row) → Supports f box bottom j s → ⊥
none_carries f box bottom j p is wide none s c = (subst (λ (q : Point). IsOnlyRow f q None) is none) s c.core_ones (extends f box j s wide c.at_row)

pub one_carries : (f : Frame) (box : Rect) (bottom : Row) (j : ℕ) (p : Point) (r : Row) → p ≡ foot f box j → box.x1 <ℤ box.x2
    → IsOnlyRow f p (Some r) → (s : Row) → Supports f box bottom j s → Supports f box bottom j r
one_carries f box bottom j p r is wide only s c =
    let same : s ≡ r = (subst (λ (q : Point). IsOnlyRow f q (Some r)) is only).1 s c.core_ones (extends f box j s wide c.at_row) in
    subst (λ (q : Row). Supports f box bottom j q) same c
