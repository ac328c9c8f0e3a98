-- The strips of a frame's segments.
use Rattle.std.proofs.Common.{◌≡◌, ℕ, ◌<◌, ℤ, pos, ◌-ℤ◌, ◌+ℤ◌, ◌<ℤ◌, List, [], ◌∷◌, Some}
use Rattle.std.proofs.Common.{get_or, map, slice_get, refl, sym, ap, subst, ◌∙◌, arith}
use Rattle.std.specs.Prelude.{All, AllPairs, Any}
use Rattle.std.specs.Option.{option_map_or}
use Rattle.std.proofs.lemmas.Int.{ints}
use Rattle.std.proofs.lemmas.List.{get_or_default, get_or-map, length-map}
use Rattle.std.proofs.lemmas.List.Elements.{All-contains, All-map}
use Rattle.std.proofs.lemmas.Option.{slice_get-get_or}
use Rattle.lf_units.specs.Spans.{HoldsNumber}
use Rattle.lf_floorplan.specs.declared.frame.Frame.{Frame}
use Rattle.lf_floorplan.specs.declared.parts.Row.{Row}
use Rattle.lf_floorplan.specs.Rows.{IsCoreRow}
use Rattle.lf_segments.specs.declared.segment.Segment.{Segment}
use Rattle.lf_segments.specs.declared.rows_by_y.RowEntry.{RowEntry}
use Rattle.lf_segments.specs.declared.strip.Strip.{Strip}
use Rattle.lf_segments.specs.Segments.{IsCut, IsOpen, IsSegment, LiesInSegment}
use Rattle.lf_segments.specs.RowStarts.{rows_of}
use Rattle.lf_segments.specs.RowsByY.{IsEntryOf, IsRowsByY}
use Rattle.lf_segments.specs.Strips.{AreStrips, IsPlaced, LiesBefore, row_y, rows_in, strip_of}
use Rattle.lf_segments.proofs.HeightLemmas.{some_row}

no_segment : Segment
no_segment = record { row = 0; team = 0; span = record { lo = pos 0; hi = pos 0 } }

strips_in_order : (f : Frame) (segments : List Segment) → IsCut f segments → AllPairs LiesBefore (map (strip_of f) segments)
strips_in_order f segments cut i j d less within =
    let long = length-map segments (strip_of f) in
    let first = get_or-map (strip_of f) segments i no_segment d (omega (arith, long, less, within)) in
    let second = get_or-map (strip_of f) segments j no_segment d (omega (arith, long, within)) in
    subst (λ (a : Strip). LiesBefore a (get_or (map (strip_of f) segments) j d)) (sym first)
    (subst (λ (b : Strip). LiesBefore (strip_of f (get_or segments i no_segment)) b) (sym second)
    (cut.in_order i j no_segment less (omega (arith, long, within))))

strip_placed : (f : Frame) (segments : List Segment) (rows : List RowEntry) (height : ℤ) → height ≡ f.pitch.y → IsCut f segments → IsRowsByY f rows →
    All (λ g. IsPlaced rows height (strip_of f g)) segments
strip_placed f segments rows height same cut by_y k d within = record {
  wide = filled;
  x_low = let a = core_ones.x_in_def.above in let b = (open_at g.span.lo record { low = omega (arith, ints); high = filled }).clear.left in omega
      (arith, ints, a, b);
  x_high = let a = core_ones.ends in
      let b = (open_at (g.span.hi -ℤ pos 1) record { low = omega (arith, ints, filled); high = omega (arith, ints) }).clear.right in
      omega (arith, ints, a, b);
  y_low = let a = core_ones.y_in_def.above in omega (arith, ints, a, level);
  high = ap (λ (h : ℤ). row_y f g.row +ℤ h) (sym same);
  found = (found.0, found.1, found.2, found.3, (found.4, entry_level));
}
  where
    g : Segment
    g = get_or segments k d

    known : IsSegment f g
    known = cut.known k d within

    filled : g.span.lo <ℤ g.span.hi
    filled = known.filled

    row : Row
    row = get_or f.rows g.row (some_row f.rows g.row known.row_known)

    is_in_place : slice_get f.rows g.row ≡ Some row
    is_in_place = slice_get-get_or f.rows g.row (some_row f.rows g.row known.row_known) known.row_known

    core_ones : IsCoreRow f.pitch row
    core_ones = f.rows_are_core g.row (some_row f.rows g.row known.row_known) known.row_known

    lies : LiesInSegment segments g.row g.team g.span
    lies = (k, g, within, get_or_default segments k _ d within, (record { in_row = refl; of_team = refl }, λ x h. h))

    open_at : (x : ℤ) → HoldsNumber g.span x → IsOpen f f.obstacles row g.team x
    open_at x holds = (cut.exact g.row row g.team g.span is_in_place filled).0 lies x holds

    level : row_y f g.row ≡ row.y
    level = ap (λ r. option_map_or (λ (q : Row). q.y) r (pos 0)) is_in_place

    found : Any (λ e. e.row ≡ g.row) rows
    found = by_y.each g.row known.row_known

    entry_level : found.1.y ≡ row_y f g.row
    entry_level =
        let one : IsEntryOf f found.1 = All-contains (IsEntryOf f) rows found.1 by_y.known (found.0, found.2, found.3) in
        let there : row_y f found.1.row ≡ one.row.y = ap (λ r. option_map_or (λ (q : Row). q.y) r (pos 0)) one.is_in_place in
        ap (λ (e : RowEntry). e.y) one.is ∙ sym there ∙ ap (λ (n : ℕ). row_y f n) found.4

-- The strips of a frame's segments over its rows in order of y.
pub laid_out : (f : Frame) (segments : List Segment) (rows : List RowEntry) (height : ℤ) → height ≡ f.pitch.y → IsCut f segments → IsRowsByY f rows →
    AreStrips rows height (map (strip_of f) segments)
laid_out f segments rows height same cut by_y = record {
  in_order = strips_in_order f segments cut;
  placed = All-map (IsPlaced rows height) (strip_of f) segments (strip_placed f segments rows height same cut by_y);
  once = by_y.once;
  high = let h = f.pitch_whole.high in omega (arith, ints, same, h);
  small = let h = f.pitch_whole.y_small in omega (arith, ints, same, h);
}

-- The strips of a frame's segments have points.
pub strips_wide : (f : Frame) (segments : List Segment) (strips borrowed_view : List Strip) → strips ≡ map (strip_of f) segments → borrowed_view ≡ strips → IsCut f segments →
    All (λ g. g.area.x1 <ℤ g.area.x2) borrowed_view
strips_wide f segments strips borrowed_view is same cut =
    subst (All (λ (g : Strip). g.area.x1 <ℤ g.area.x2)) (sym (same ∙ is))
    (All-map (λ (g : Strip). g.area.x1 <ℤ g.area.x2) (strip_of f) segments (λ k d within. (cut.known k d within).filled))

-- A strip is of its segment's row.
pub rows_alike : (f : Frame) (gs : List Segment) → rows_in (map (strip_of f) gs) ≡ rows_of gs
rows_alike f [] = refl
rows_alike f (g ∷ gs) = ap (λ (rows : List ℕ). g.row ∷ rows) (rows_alike f gs)

-- Strips of the same edges.
pub same_strip : (row team : ℕ) (a b c d e f g h : ℤ) → a ≡ e → b ≡ f → c ≡ g → d ≡ h →
    ◌≡◌ {A = Strip} (record { row = row; team = team; area = record { x1 = a; y1 = b; x2 = c; y2 = d } })
    (record { row = row; team = team; area = record { x1 = e; y1 = f; x2 = g; y2 = h } })
same_strip row team a b c d e f g h p q r s =
    let strip : ℤ → ℤ → ℤ → ℤ → Strip = λ x1 y1 x2 y2. record { row = row; team = team; area = record { x1 = x1; y1 = y1; x2 = x2; y2 = y2 } } in
    ap (λ (v : ℤ). strip v b c d) p ∙ ap (λ (v : ℤ). strip e v c d) q ∙ ap (λ (v : ℤ). strip e f v d) r ∙ ap (λ (v : ℤ). strip e f g v) s
