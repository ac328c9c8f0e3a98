-- The rows around a target, in a search.
use Rattle.std.proofs.Common.{◌≡◌, ◌⊎◌, inl, inr, ℕ, ℤ, pos, negsuc, ◌-◌, ◌≤◌, ◌<◌, ◌+ℤ◌}
use Rattle.std.proofs.Common.{◌-ℤ◌, ◌≤ℤ◌, arith, refl, sym, ap, ◌∙◌, subst, Option, Some, None, slice_get, List}
use Rattle.std.specs.Prelude.{unsigned_abs, IfSome}
use Rattle.std.proofs.lemmas.Int.{ints}
use Rattle.lf_units.specs.declared.geometry.Point.{Point}
use Rattle.lf_units.specs.declared.span.Span.{Span}
use Rattle.lf_floorplan.specs.declared.frame.Frame.{Frame}
use Rattle.lf_floorplan.specs.declared.parts.Row.{Row}
use Rattle.lf_floorplan.specs.Boxes.{macro_of}
use Rattle.lf_floorplan.specs.Rows.{row_area}
use Rattle.lf_floorplan.specs.Sizes.{box_at}
use Rattle.lf_floorplan.specs.RowSupport.{IsBottomRow}
use Rattle.lf_floorplan.proofs.SizeBounds.{IsSmall, small_pitch, sized_pitch}
use Rattle.lf_rules.specs.Choice.{SpotPlace, PlacementQuery, IsAllowedPlace, Precedes, distance}
use Rattle.lf_rules.specs.Scanning.{ScansPlaces, IsAsGood}
use Rattle.lf_rules.proofs.Looking.{taken_first, taken, left}
use Rattle.lf_rules.proofs.Order.{through}
use Rattle.lf_segments.specs.declared.rows_by_y.RowEntry.{RowEntry}
use Rattle.lf_segments.specs.RowsByY.{IsEntryOf}
use Rattle.lf_legalize.specs.Extents.{IsWithin, IsOnRow, IsBetter, ScansPlacesWithin, search_limit}
use Rattle.lf_legalize.specs.RowSearches.{IsOnRowIn, IsBestAmong, IsChoiceAmong}
use Rattle.lf_legalize.specs.declared.row_search.RowSearch.{RowSearch}

-- the size of a cell that is searched for
pub small_search : (s : RowSearch) → IsSmall s.size
small_search s =
    subst (λ (size : Point). IsSmall size) (sym s.size_is) (small_pitch _ _ _ (sized_pitch s.frame.now (macro_of s.frame.now s.mac) s.sized))

-- a place that is farther away does not come first
far_is_worse : (target : Point) (p b : SpotPlace) → distance target b < distance target p → Precedes target p b → ⊥
far_is_worse target p b far (inl a) = omega arith
far_is_worse target p b far (inr a) = omega arith

pub limit_below : (target : Point) (reach : ℕ) (best : Option SpotPlace) → search_limit target reach best ≤ reach
limit_below target reach None = omega arith
limit_below target reach (Some b) = omega arith

-- a place beyond the limit is not better than the best so far
beyond : (target : Point) (reach : ℕ) (best : Option SpotPlace) (p : SpotPlace) → IsWithin target reach p →
    search_limit target reach best < distance target p → IsAsGood target best p
beyond target reach None p within far = absurd (omega arith)
beyond target reach (Some b) p within far = far_is_worse target p b (omega arith)

-- the row of a place that has this row of the frame as its bottom row
pub same_row : (rows : List Row) (n : ℕ) (r s : Row) → slice_get rows n ≡ Some r → slice_get rows n ≡ Some s → r ≡ s
same_row rows n r s a b = some_same (sym a ∙ b)
  where
    some_same : {x y : Row} → Some x ≡ Some y → x ≡ y
    some_same e = cc

-- the y of a place whose box has this bottom row
pub row_level : (f : Frame) (size : Point) (r : Row) (p : SpotPlace) → IsBottomRow f (box_at size p.x p.y) r → p.y ≡ r.y
row_level f size r p bottom = let level = bottom.at_bottom.at_level in omega (arith, ints, level)

-- a row too far away along y is skipped
pub row_passed : (f : Frame) (size : Point) (cell : PlacementQuery) (target : Point) (reach : ℕ) (best : Option SpotPlace) (e : RowEntry) → IsEntryOf f e →
    search_limit target reach best < unsigned_abs (e.y -ℤ target.y) → ScansPlacesWithin (IsOnRow f size e.row) cell target reach best best
row_passed f size cell target reach best e known far = record {
  looked = record {
    may_go = λ h. h;
    kept = λ p h. h;
    seen = λ p s l. beyond target reach best p s.0 (high p s.1);
  };
  near = λ h. h;
}
  where
    high : (p : SpotPlace) → IsOnRow f size e.row p → search_limit target reach best < distance target p
    high p on =
        let same : on.row ≡ known.row = same_row f.rows e.row on.row known.row on.there known.is_in_place in
        let level : p.y ≡ on.row.y = row_level f size on.row p on.bottom in
        let at : p.y ≡ e.y = level ∙ ap (λ (r : Row). r.y) same ∙ sym (ap (λ (x : RowEntry). x.y) known.is) in
        let d : search_limit target reach best < unsigned_abs (p.y -ℤ target.y) = rw at far in
        omega (arith, d)

pub abs_above : (v : ℤ) (n : ℕ) → unsigned_abs v ≤ n → v ≤ℤ pos n
abs_above (pos m) n h = omega (arith, ints)
abs_above (negsuc m) n h = omega (arith, ints)

pub abs_below : (v : ℤ) (n : ℕ) → unsigned_abs v ≤ n → (pos 0 -ℤ pos n) ≤ℤ v
abs_below (pos m) n h = omega (arith, ints)
abs_below (negsuc m) n h = omega (arith, ints)

-- a place of the row within the limit lies in the window
in_window : (f : Frame) (size target : Point) (lim rise : ℕ) (y : ℤ) (w : Span) (r : Row) (p : SpotPlace) →
    p.y ≡ y → rise ≡ unsigned_abs (y -ℤ target.y) → rise ≤ lim →
    w.lo ≡ target.x -ℤ pos (lim - rise) → w.hi ≡ (target.x +ℤ pos (lim - rise)) +ℤ size.x →
    distance target p ≤ lim → IsBottomRow f (box_at size p.x p.y) r → IsOnRowIn f size r w p
in_window f size target lim rise y w r p at is less lo hi within bottom = record {
  bottom = bottom;
  left = left_of;
  right = right_of;
}
  where
    near : unsigned_abs (p.x -ℤ target.x) ≤ lim - rise
    near = let same : unsigned_abs (p.y -ℤ target.y) ≡ rise = rw at (sym is) in omega arith

    left_of : w.lo ≤ℤ p.x
    left_of = let h = abs_below (p.x -ℤ target.x) (lim - rise) near in omega (arith, ints)

    right_of : (p.x +ℤ size.x) ≤ℤ w.hi
    right_of = let h = abs_above (p.x -ℤ target.x) (lim - rise) near in omega (arith, ints)

-- a place of the window on a row is within the limit
in_reach : (f : Frame) (size target : Point) (lim rise : ℕ) (y : ℤ) (w : Span) (r : Row) (p : SpotPlace) →
    p.y ≡ y → rise ≡ unsigned_abs (y -ℤ target.y) → rise ≤ lim →
    w.lo ≡ target.x -ℤ pos (lim - rise) → w.hi ≡ (target.x +ℤ pos (lim - rise)) +ℤ size.x →
    IsOnRowIn f size r w p → distance target p ≤ lim
in_reach f size target lim rise y w r p at is less lo hi on =
    let same : unsigned_abs (p.y -ℤ target.y) ≡ rise = rw at (sym is) in
    let h = on.left in
    let k = on.right in
    let near : unsigned_abs (p.x -ℤ target.x) ≤ lim - rise = abs_within (p.x -ℤ target.x) (lim - rise) (omega (arith, ints)) (omega (arith, ints)) in
    omega arith
  where
    abs_within : (v : ℤ) (n : ℕ) → (pos 0 -ℤ pos n) ≤ℤ v → v ≤ℤ pos n → unsigned_abs v ≤ n
    abs_within (pos m) n a b = omega (arith, ints)
    abs_within (negsuc m) n a b = omega (arith, ints)

-- the better of two places is the best one after comparison with the second
pub better_looks : (cell : PlacementQuery) (target : Point) (best new : Option SpotPlace) (s : SpotPlace) → IsAllowedPlace cell s → IsBetter target best s new →
    ScansPlaces (λ p. p ≡ s) cell target best new
better_looks cell target None new s may (inl take) = rw take.0 (taken_first cell target s may)
better_looks cell target (Some b) new s may (inl take) = rw take.0 (taken cell target b s may take.1)
better_looks cell target None new s may (inr keep) = absurd keep.1
better_looks cell target (Some b) new s may (inr keep) = rw keep.0 (left cell target b s keep.1)

-- what lies on a row and is within the reach lies in the window, or is beyond the limit
split_row : (f : Frame) (size target : Point) (reach rise : ℕ) (best : Option SpotPlace) (e : RowEntry) (known : IsEntryOf f e) (w : Span) →
    rise ≡ unsigned_abs (e.y -ℤ target.y) → rise ≤ search_limit target reach best →
    w.lo ≡ target.x -ℤ pos (search_limit target reach best - rise) → w.hi ≡ (target.x +ℤ pos (search_limit target reach best - rise)) +ℤ size.x →
    (p : SpotPlace) → IsWithin target reach p → IsOnRow f size e.row p → IsOnRowIn f size known.row w p ⊎ IsAsGood target best p
split_row f size target reach rise best e known w is less lo hi p within on =
    let same : on.row ≡ known.row = same_row f.rows e.row on.row known.row on.there known.is_in_place in
    let bottom : IsBottomRow f (box_at size p.x p.y) known.row = subst (λ (r : Row). IsBottomRow f (box_at size p.x p.y) r) same on.bottom in
    let at : p.y ≡ e.y = row_level f size known.row p bottom ∙ sym (ap (λ (x : RowEntry). x.y) known.is) in
    let order : (distance target p ≤ search_limit target reach best) ⊎ (search_limit target reach best < distance target p) = grind arith in
    elim order [
      | inl close ↦ inl (in_window f size target (search_limit target reach best) rise e.y w known.row p at is less lo hi close bottom)
      | inr far ↦ inr (beyond target reach best p within far)
    ]

-- a row was searched, and nothing was found
pub row_empty : (f : Frame) (size : Point) (cell : PlacementQuery) (target : Point) (reach rise : ℕ) (best : Option SpotPlace)
    (e : RowEntry) (known : IsEntryOf f e) (w : Span) →
    rise ≡ unsigned_abs (e.y -ℤ target.y) → rise ≤ search_limit target reach best →
    w.lo ≡ target.x -ℤ pos (search_limit target reach best - rise) → w.hi ≡ (target.x +ℤ pos (search_limit target reach best - rise)) +ℤ size.x →
    IsChoiceAmong (IsOnRowIn f size known.row w) cell target None → ScansPlacesWithin (IsOnRow f size e.row) cell target reach best best
row_empty f size cell target reach rise best e known w is less lo hi none = record {
  looked = record {
    may_go = λ h. h;
    kept = λ p h. h;
    seen = λ p s l. elim (split_row f size target reach rise best e known w is less lo hi p s.0 s.1) [ inl on ↦ absurd (none p on l) | inr good ↦ good ];
  };
  near = λ h. h;
}

-- if one place precedes another and is no better than the best so far, the other is no better
-- either
no_better : (target : Point) (new : Option SpotPlace) (s p : SpotPlace) → IsAsGood target new s → ((p ≡ s) ⊎ Precedes target s p) → IsAsGood target new p
no_better target None s p good order = absurd good
no_better target (Some b) s p good (inl same) = subst (λ (q : SpotPlace). Precedes target q b → ⊥) (sym same) good
no_better target (Some b) s p good (inr after) = λ before. good (through target s p b after before)

better_near : (target : Point) (reach : ℕ) (best new : Option SpotPlace) (s : SpotPlace) → IsWithin target reach s → IsBetter target best s new →
    IfSome best (IsWithin target reach) → IfSome new (IsWithin target reach)
better_near target reach best new s within (inl take) near = rw take.0 within
better_near target reach best new s within (inr keep) near = rw keep.0 near

-- a row was searched, and its best place was compared with the best so far
pub row_found : (f : Frame) (size : Point) (cell : PlacementQuery) (target : Point) (reach rise : ℕ) (best new : Option SpotPlace)
    (e : RowEntry) (known : IsEntryOf f e) (w : Span) (s : SpotPlace) →
    rise ≡ unsigned_abs (e.y -ℤ target.y) → rise ≤ search_limit target reach best →
    w.lo ≡ target.x -ℤ pos (search_limit target reach best - rise) → w.hi ≡ (target.x +ℤ pos (search_limit target reach best - rise)) +ℤ size.x →
    IsBestAmong (IsOnRowIn f size known.row w) cell target s → IsBetter target best s new → ScansPlacesWithin (IsOnRow f size e.row) cell target reach best new
row_found f size cell target reach rise best new e known w s is less lo hi found better = record {
  looked = record {
    may_go = looks.may_go;
    kept = looks.kept;
    seen = λ p o l. elim (split_row f size target reach rise best e known w is less lo hi p o.0 o.1) [
      | inl on ↦ no_better target new s p (looks.seen s refl found.may_go) (found.least p on l)
      | inr good ↦ looks.kept p good
    ];
  };
  near = better_near target reach best new s close better;
}
  where
    looks : ScansPlaces (λ p. p ≡ s) cell target best new
    looks = better_looks cell target best new s found.may_go better

    level : s.y ≡ e.y
    level = row_level f size known.row s found.seen.bottom ∙ sym (ap (λ (x : RowEntry). x.y) known.is)

    close : IsWithin target reach s
    close =
        let lim = limit_below target reach best in
        let within : distance target s ≤ search_limit target reach best =
        in_reach f size target (search_limit target reach best) rise e.y w known.row s level is less lo hi found.seen in
        omega (arith, lim, within)

-- a row left or right of the window has no place over it
pub none_beside : (f : Frame) (size : Point) (r s : Row) (w : Span) (p : SpotPlace) → IsSmall size → r ≡ s →
    ((row_area f.pitch s).x2 ≤ℤ w.lo) ⊎ (w.hi ≤ℤ s.x) → IsOnRowIn f size r w p → ⊥
none_beside f size r s w p small same beside on =
    split (subst (λ (t : Row). ((row_area f.pitch t).x2 ≤ℤ w.lo) ⊎ (w.hi ≤ℤ t.x)) (sym same) beside)
  where
    split : ((row_area f.pitch r).x2 ≤ℤ w.lo) ⊎ (w.hi ≤ℤ r.x) → ⊥
    split (inl left_of) = omega (arith, ints, left_of, small.wide, on.left, on.bottom.at_bottom.right)
    split (inr right_of) = omega (arith, ints, right_of, small.wide, on.right, on.bottom.at_bottom.left)
