-- The nearest x at which a cell's box is free at each level, and the best place on its row.
use Rattle.std.proofs.Common.{◌≡◌, ◌⊎◌, inl, inr, ℕ, ℤ, pos, negsuc, ◌*◌, ◌<◌, ◌≤◌, ◌+ℤ◌, ◌-ℤ◌, ◌*ℤ◌, ◌≤ℤ◌, ◌<ℤ◌, List, [], ◌∷◌, Option, Some, None}
use Rattle.std.proofs.Common.{Vec, Global, length, get_or, map, slice_get, sym, ap, subst, arith}
use Rattle.std.specs.Prelude.{All, Any, MatchOption, unsigned_abs}
use Rattle.std.proofs.lemmas.Int.{ints}
use Rattle.std.proofs.lemmas.List.{get_or-map, get_or_default, length-map}
use Rattle.std.proofs.lemmas.List.Elements.{All-cons, All-nil}
use Rattle.lf_units.specs.declared.geometry.Point.{Point}
use Rattle.lf_orient.specs.declared.Orient.{Orient}
use Rattle.lf_units.specs.declared.grid.SiteGrid.{SiteGrid}
use Rattle.lf_units.specs.declared.span.Span.{Span}
use Rattle.lf_units.specs.Spans.{LiesIn, LiesInOneOf}
use Rattle.lf_units.specs.Grids.{FindsNearest, IsBounded, IsBoundedSpan, IsGrid, IsNearest, IsNoFarther, LiesInSpanFrom, grid_of}
use Rattle.lf_units.specs.Steps.{ContainsSpan}
use Rattle.lf_units.proofs.Anys.{any_nil, any_weaker}
use Rattle.lf_units.proofs.SpanEdges.{in_of_lies}
use Rattle.lf_floorplan.specs.declared.parts.Row.{Row}
use Rattle.lf_floorplan.specs.Bounds.{IsDefNumber}
use Rattle.lf_floorplan.specs.Rows.{row_area}
use Rattle.lf_floorplan.specs.Boxes.{macro_of, size_of}
use Rattle.lf_floorplan.proofs.SizeBounds.{sized_pitch}
use Rattle.lf_gaps.specs.declared.gap_target.GapTarget.{GapTarget}
use Rattle.lf_gaps.specs.Gaps.{FindsGap, FitsOne, FitsRows}
use Rattle.lf_gaps.proofs.Nearest.{nearest_of_same}
use Rattle.lf_rules.specs.Choice.{SpotPlace, IsAllowedPlace, Precedes, distance, rank}
use Rattle.lf_rules.proofs.Order.{same_spot}
use Rattle.lf_rules.proofs.SiteLemmas.{one_of_four, rank_decides}
use Rattle.lf_occupancy.specs.Floorplans.{IsOccupancyOf}
use Rattle.lf_occupancy.specs.Views.{IsFreeInRow}
use Rattle.lf_legalize.specs.declared.row_search.RowSearch.{RowSearch}
use Rattle.lf_legalize.specs.RowSearches.{IsBestAmong, IsOnRowIn, query_of_search, padding_in}
use Rattle.lf_legalize.specs.Levels.{AreLevels, FindsFreeX, HasBareLevel, IsFirstOrient, IsLevel, IsEquivalentTarget, FitsRow}
use Rattle.lf_legalize.proofs.LevelLemmas.{one_level, own_one, over_row}
use Rattle.lf_legalize.proofs.SoftLemmas.{open_bare}
use Rattle.lf_legalize.proofs.RunLemmas.{core_at}
use Rattle.lf_legalize.proofs.RowLegal.{filled, may_go_is_free, legal_may, legal_y, reach, wide}
use Rattle.lf_legalize.proofs.RowFree.{bottom_left, bottom_right, free_may_go, free_is_on_row, free_place, spot_on}

-- ---- bounds

-- the x is one at which the box is free at each of its levels
abbrev pub IsFit : RowSearch → Row → List (List Span) → ℤ → Type 0
IsFit s bottom lists x = FitsRows lists (grid_of bottom.x s.frame.now.pitch.x) s.size.x x

pub level_of_list : (s : RowSearch) (own : ℕ) (bottom : Row) (window : Span) (lists : List (Vec Span Global)) (k : ℕ) (d : Vec Span Global) →
    AreLevels s own bottom window s.height (map (λ v. v.items) lists) → k < length lists → IsLevel s own bottom window k (get_or lists k d).items
level_of_list s own bottom window lists k d levels within =
    let known : length (map (λ (v : Vec Span Global). v.items) lists) ≡ s.height = levels.number in
    let long : length (map (λ (v : Vec Span Global). v.items) lists) ≡ length lists = length-map lists (λ (v : Vec Span Global). v.items) in
    subst (IsLevel s own bottom window k) (get_or-map (λ (v : Vec Span Global). v.items) lists k d [] within)
    (levels.each k (omega (arith, known, long, within)))

bounded_row : (s : RowSearch) (n : ℕ) (r : Row) (t : Span) → slice_get s.frame.now.rows n ≡ Some r → t.lo <ℤ t.hi → r.x ≤ℤ t.lo →
    t.hi ≤ℤ (row_area s.frame.now.pitch r).x2 → IsBoundedSpan t
bounded_row s n r t there some left right =
    let h = core_at s.frame.now n r there in
    let low = h.x_in_def.above in
    let high = h.ends in
    record {
      low = record { low = omega (arith, ints, low, left); high = omega (arith, ints, some, right, high) };
      high = record { low = omega (arith, ints, low, left, some); high = omega (arith, ints, right, high) };
    }

pub level_bounded : (s : RowSearch) (own : ℕ) (bottom : Row) (window : Span) (j : ℕ) (spans : List Span) →
    IsOccupancyOf s.frame.now s.occupied.now.cells s.occupancy.now → IsLevel s own bottom window j spans → All IsBoundedSpan spans
level_bounded s own bottom window j spans occupied level k d within =
    let t = get_or spans k d in
    let some = level.rising.filled k d within in
    let one = (level.exact t some).0 (own_one spans k d within) in
    let at = over_row s.frame.now s.occupancy.now s.id window (padding_in s) one.number t occupied.index some one.free in
    bounded_row s one.number at.row t at.is_in_place some at.left at.right

pub grid_is : (s : RowSearch) (own : ℕ) (bottom : Row) → slice_get s.frame.now.rows own ≡ Some bottom → IsGrid (grid_of bottom.x s.frame.now.pitch.x)
grid_is s own bottom there =
    let h = core_at s.frame.now own bottom there in
    let low = h.x_in_def.above in
    let high = h.x_in_def.most in
    let small = s.frame.now.pitch_whole.x_small in
    record {
      origin = record { low = omega (arith, ints, low); high = omega (arith, ints, high) };
      rising = s.frame.now.pitch_whole.wide;
      step = omega (arith, ints, small);
    }

pub width_is : (s : RowSearch) → IsBounded s.size.x
width_is s =
    let some = wide s in
    let small = (sized_pitch s.frame.now (macro_of s.frame.now s.mac) s.sized).x_small in
    let same : s.size.x ≡ (size_of s.frame.now (macro_of s.frame.now s.mac)).x = ap (λ (p : Point). p.x) s.size_is in
    record { low = omega (arith, ints, some); high = omega (arith, ints, small, same) }

pub fit_in_def : (s : RowSearch) (own : ℕ) (bottom : Row) (window : Span) (lists : List (List Span)) (x : ℤ) → slice_get s.frame.now.rows own ≡ Some bottom →
    IsOccupancyOf s.frame.now s.occupied.now.cells s.occupancy.now → AreLevels s own bottom window s.height lists → IsFit s bottom lists x → IsDefNumber x
fit_in_def s own bottom window lists x there occupied levels fits =
    let free = free_place s own bottom window lists x there occupied levels fits in
    let h = core_at s.frame.now own bottom there in
    let left = bottom_left s own bottom window x free in
    let right = bottom_right s own bottom window x free in
    let low = h.x_in_def.above in
    let high = h.ends in
    let some = wide s in
    record { above = omega (arith, ints, low, left); most = omega (arith, ints, right, high, some) }

-- ---- the nearest

-- what is nearest to the replacement for the target is nearest to the target
pub nearest_to_target : (Fit : ℤ → Type 0) (target near : ℤ) (found : Option ℤ) → IsEquivalentTarget target near → ((x : ℤ) → Fit x → IsDefNumber x) →
    FindsNearest Fit near found → FindsNearest Fit target found
nearest_to_target Fit target near None same def none = none
nearest_to_target Fit target near (Some x) same def n = record {
  fit = n.fit;
  least = λ y g. same.same x y (def x n.fit) (def y g) (n.least y g);
}

within_of_lies : (s : RowSearch) (x : ℤ) (spans : List Span) → LiesInOneOf spans (reach s x) → Any (λ t. LiesInSpanFrom t s.size.x x) spans
within_of_lies s x spans =
    any_weaker (λ t. LiesIn (reach s x) t) (λ t. LiesInSpanFrom t s.size.x x) (λ t lies.
    let at : ContainsSpan (reach s x) t = in_of_lies (reach s x) t (filled s x) lies in
    record { low = at.low; high = at.high }) spans

on_grid_of : (s x o : ℤ) (site : ℕ) → pos 0 <ℤ s → x -ℤ o ≡ pos site *ℤ s → (x +ℤ (pos 0 *ℤ s)) ≡ (o +ℤ (pos site *ℤ s))
on_grid_of (pos n) x o site rising is = let none : 0 * n ≡ 0 = omega arith in omega (arith, ints, is, none)
on_grid_of (negsuc n) x o site rising is = absurd (omega (arith, ints, rising))

-- an allowed place is among those that are considered
pub may_go_fits : (s : RowSearch) (own : ℕ) (bottom : Row) (window : Span) (lists : List (List Span)) (p : SpotPlace) → slice_get s.frame.now.rows own ≡ Some bottom →
    IsOccupancyOf s.frame.now s.occupied.now.cells s.occupancy.now → AreLevels s own bottom window s.height lists → IsOnRowIn s.frame.now s.size bottom window p →
    IsAllowedPlace (query_of_search s) p → IsFit s bottom lists p.x
may_go_fits s own bottom window lists p there occupied levels on may = record {
  on_grid = record {
    left = 0;
    right = on.bottom.site;
    level = on_grid_of s.frame.now.pitch.x p.x bottom.x on.bottom.site s.frame.now.pitch_whole.wide on.bottom.on_grid;
  };
  within = λ k d inside.
      let known : length lists ≡ s.height = levels.number in
      let less : k < s.height = omega (arith, known, inside) in
      subst (λ (spans : List Span). Any (λ t. LiesInSpanFrom t s.size.x p.x) spans) (get_or_default lists k [] d inside)
      (within_of_lies s p.x (get_or lists k [])
      (may_go_is_free s own bottom window p k (get_or lists k []) there occupied on may less (levels.each k less)));
}

pub of_none : {X : Type 0} (P : Type 0) (Q : X → Type 0) (found : Option X) → found ≡ None → MatchOption found P Q → P
of_none P Q None is h = h
of_none P Q (Some x) is h = absurd cc

pub none_bare : (s : RowSearch) (own : ℕ) (bottom : Row) (window : Span) (p : SpotPlace) → slice_get s.frame.now.rows own ≡ Some bottom →
    IsOccupancyOf s.frame.now s.occupied.now.cells s.occupancy.now → HasBareLevel s own bottom window → IsOnRowIn s.frame.now s.size bottom window p →
    IsAllowedPlace (query_of_search s) p → ⊥
none_bare s own bottom window p there occupied bare on may =
    any_nil (λ t. LiesIn (reach s p.x) t) (may_go_is_free s own bottom window p bare.level [] there occupied on may bare.within bare.bare)

-- of two places on one row the nearer one comes first, then the left one, then the one with the
-- lesser rank
first_of : (target : Point) (a b : SpotPlace) → a.y ≡ b.y → IsNoFarther target.x a.x b.x → (rank a.orient ≡ rank b.orient → a.orient ≡ b.orient) →
    rank a.orient ≤ rank b.orient → (b ≡ a) ⊎ Precedes target a b
first_of target a b level (inl near) decides less =
    let same : unsigned_abs (a.y -ℤ target.y) ≡ unsigned_abs (b.y -ℤ target.y) = ap (λ (y : ℤ). unsigned_abs (y -ℤ target.y)) level in
    inr (inl (omega (arith, near, same)))
first_of target a b level (inr (as_near, left)) decides less = elim order [
  | inl before ↦ inr (inr (far, inr (level, inl before)))
  | inr here ↦ elim ranks [
    | inl lower ↦ inr (inr (far, inr (level, inr (here, lower))))
    | inr one ↦ inl (same_spot b a (sym here) (sym level) (sym (decides one)))
  ]
]
  where
    same : unsigned_abs (a.y -ℤ target.y) ≡ unsigned_abs (b.y -ℤ target.y)
    same = ap (λ (y : ℤ). unsigned_abs (y -ℤ target.y)) level

    far : distance target a ≡ distance target b
    far = omega (arith, as_near, same)

    order : (a.x <ℤ b.x) ⊎ (a.x ≡ b.x)
    order = grind (arith, ints, left)

    ranks : (rank a.orient < rank b.orient) ⊎ (rank a.orient ≡ rank b.orient)
    ranks = grind (arith, less)

pub best_there : (s : RowSearch) (own : ℕ) (bottom : Row) (window : Span) (lists : List (List Span)) (o : Orient) (x : ℤ) →
    slice_get s.frame.now.rows own ≡ Some bottom → IsOccupancyOf s.frame.now s.occupied.now.cells s.occupancy.now → AreLevels s own bottom window s.height lists →
    IsFirstOrient s bottom o → IsNearest (IsFit s bottom lists) s.target.now.x x →
    IsBestAmong (IsOnRowIn s.frame.now s.size bottom window) (query_of_search s) s.target.now (spot_on bottom x o)
best_there s own bottom window lists o x there occupied levels first nearest =
    let free = free_place s own bottom window lists x there occupied levels nearest.fit in
    record {
      seen = free_is_on_row s own bottom window x o free;
      may_go = free_may_go s own bottom window x o first.may free;
      least = λ p on there_may.
          let may : FitsRow s bottom p.orient = legal_may s bottom window p on there_may.legal in
          let symmetry = (macro_of s.frame.now s.mac).symmetry in
          first_of s.target.now (spot_on bottom x o) p (sym (legal_y s bottom window p on))
          (nearest.least p.x (may_go_fits s own bottom window lists p there occupied levels on there_may))
          (rank_decides o p.orient (one_of_four symmetry o first.may.allowed) (one_of_four symmetry p.orient may.allowed))
          (first.least p.orient may);
    }

-- ---- a cell of one row, without a list

fits_of_one : (s : RowSearch) (bottom : Row) (free : List Span) (x : ℤ) → FitsOne free (grid_of bottom.x s.frame.now.pitch.x) s.size.x x → IsFit s bottom (free ∷ []) x
fits_of_one s bottom free x f = record {
  on_grid = f.on_grid;
  within = All-cons (λ spans. Any (λ t. LiesInSpanFrom t s.size.x x) spans) free [] f.within (All-nil (λ spans. Any (λ t. LiesInSpanFrom t s.size.x x) spans));
}

one_of_fits : (s : RowSearch) (bottom : Row) (free : List Span) (x : ℤ) → IsFit s bottom (free ∷ []) x → FitsOne free (grid_of bottom.x s.frame.now.pitch.x) s.size.x x
one_of_fits s bottom free x f = record { on_grid = f.on_grid; within = f.within 0 [] (omega arith) }

-- the nearest place in the free spans of the row is the nearest to the target
pub found_on : (s : RowSearch) (own : ℕ) (bottom : Row) (window : Span) (wanted : GapTarget) (found : Option ℤ) → slice_get s.frame.now.rows own ≡ Some bottom →
    IsOccupancyOf s.frame.now s.occupied.now.cells s.occupancy.now → s.height ≡ 1 → ((k : ℕ) → get_or s.occupancy.now.index.soft k [] ≡ []) →
    wanted.grid ≡ grid_of bottom.x s.frame.now.pitch.x → wanted.width ≡ s.size.x → IsEquivalentTarget s.target.now.x wanted.target →
    FindsGap (IsFreeInRow s.occupancy.now own s.id window (padding_in s)) wanted found → FindsFreeX s own bottom window found
found_on s own bottom window wanted found there occupied one bare grid width same gap = record {
  free = gap.spans;
  levels = levels;
  nearest =
      nearest_to_target (IsFit s bottom (gap.spans ∷ [])) s.target.now.x wanted.target found same
      (λ x fit. fit_in_def s own bottom window (gap.spans ∷ []) x there occupied levels fit)
      (nearest_of_same (λ x. FitsOne gap.spans (grid_of bottom.x s.frame.now.pitch.x) s.size.x x) (IsFit s bottom (gap.spans ∷ [])) wanted.target found
      (fits_of_one s bottom gap.spans) (one_of_fits s bottom gap.spans)
      (subst (λ (g : SiteGrid). FindsNearest (λ x. FitsOne gap.spans g s.size.x x) wanted.target found) grid
      (subst (λ (w : ℤ). FindsNearest (λ x. FitsOne gap.spans wanted.grid w x) wanted.target found) width gap.nearest)));
}
  where
    levels : AreLevels s own bottom window s.height (gap.spans ∷ [])
    levels = one_level s own bottom window gap.spans one (open_bare s.occupancy.now own s.id window (padding_in s) gap.spans bare gap.is)
