-- Overlaps in the strips of a row, and in those of all rows.
use Rattle.std.proofs.Common.{◌≡◌, ◌⊎◌, inl, inr, ℕ, ◌+◌, ◌<◌, ◌≤◌, pos, ◌≤ℤ◌, ◌<ℤ◌, List, [], ◌∷◌, ◌++◌, Option, length, get_or, sym, ap, subst, ◌∙◌, arith}
use Rattle.std.specs.Prelude.{All, Any, Contains}
use Rattle.std.proofs.lemmas.Int.{ints}
use Rattle.std.proofs.lemmas.List.{get_or_default}
use Rattle.std.proofs.lemmas.List.Elements.{All-contains, Contains-append_cases}
use Rattle.lf_units.specs.declared.geometry.Rect.{Rect}
use Rattle.lf_segments.specs.declared.rows_by_y.RowEntry.{RowEntry}
use Rattle.lf_segments.specs.declared.strip.Strip.{Strip}
use Rattle.lf_segments.specs.Indexes.{FrameIndexView}
use Rattle.lf_occupancy.specs.MarkLists.{EntryIsInside, IsLeast, OverlapsOne, StripView}
use Rattle.lf_segments.specs.Strips.{AreNear, AreRowsNear}
use Rattle.lf_occupancy.specs.Strips.{AreOrderly, OverlapsAt, OverlapsInOne, OverlapsInRow}
use Rattle.lf_occupancy.proofs.Around.{IsInWidened}
use Rattle.lf_occupancy.proofs.Leasts.{least_alike, least_of_both}

-- an entry of a strip between two positions overlaps the rectangle
pub record OverlapsBetween (mark_lists : List StripView) (start n end : ℕ) (rect : Rect) (but own : ℕ) : Type 0 where
  pub m : ℕ
  pub from : start ≤ m
  pub below : m < n
  pub until : m < end
  pub does_overlap : (d : StripView) → OverlapsOne (get_or mark_lists m d).entries rect but own

pub nothing_between : (mark_lists : List StripView) (start end : ℕ) (rect : Rect) (but own : ℕ) → OverlapsBetween mark_lists start start end rect but own → ⊥
nothing_between mark_lists start end rect but own m = let a = m.from in let b = m.below in omega (arith, a, b)

-- the least over the strips visited, and over one more
pub least_further : (mark_lists : List StripView) (start n end : ℕ) (rect : Rect) (but : ℕ) (mark_list : StripView) (a b c : Option ℕ) → start ≤ n → n < end → n < length mark_lists →
    mark_list ≡ get_or mark_lists n mark_list → IsLeast (OverlapsBetween mark_lists start n end rect but) a b → IsLeast (λ own. OverlapsOne mark_list.entries rect but own) b c →
    IsLeast (OverlapsBetween mark_lists start (n + 1) end rect but) a c
least_further mark_lists start n end rect but mark_list a b c from until within is first second =
    least_alike (λ own. OverlapsBetween mark_lists start n end rect but own ⊎ OverlapsOne mark_list.entries rect but own) (OverlapsBetween mark_lists start
    (n + 1) end rect but) a c
    more less
    (least_of_both (OverlapsBetween mark_lists start n end rect but) (λ own. OverlapsOne mark_list.entries rect but own) a b c first second)
  where
    more : (own : ℕ) → OverlapsBetween mark_lists start n end rect but own ⊎ OverlapsOne mark_list.entries rect but own →
        OverlapsBetween mark_lists start (n + 1) end rect but own
    more own (inl m) = record { m = m.m; from = m.from; below = (let h = m.below in omega (arith, h)); until = m.until; does_overlap = m.does_overlap }
    more own (inr overlapping_one) = record {
      m = n;
      from = from;
      below = omega arith;
      until = until;
      does_overlap = λ d. subst (λ (l : StripView). OverlapsOne l.entries rect but own) (is ∙ get_or_default mark_lists n mark_list d within) overlapping_one;
    }

    less : (own : ℕ) → OverlapsBetween mark_lists start (n + 1) end rect but own → OverlapsBetween mark_lists start n end rect but own ⊎ OverlapsOne mark_list.entries rect
        but own
    less own m = elim order [
      | inl h ↦ inl record { m = m.m; from = m.from; below = h; until = m.until; does_overlap = m.does_overlap }
      | inr h ↦ inr
          (subst (λ (l : StripView). OverlapsOne l.entries rect but own) (sym is)
          (subst (λ (k : ℕ). OverlapsOne (get_or mark_lists k mark_list).entries rect but own) h (m.does_overlap mark_list)))
    ]
      where
        order : (m.m < n) ⊎ (m.m ≡ n)
        order = let h = m.below in grind (arith, h)

pub some_shown : (mark_lists : List StripView) (k : ℕ) → k < length mark_lists → StripView
some_shown [] k within = absurd (omega (arith, within))
some_shown (l ∷ mark_lists) k within = l

abbrev pub no_strip : Strip
no_strip = record { row = 0; team = 0; area = record { x1 = pos 0; y1 = pos 0; x2 = pos 0; y2 = pos 0 } }

-- the overlaps between the two positions found by binary search are the overlaps in the row
pub between_in_row : (xs : List Strip) (mark_lists : List StripView) (row team start n end : ℕ) (rect : Rect) (but own : ℕ) →
    AreNear xs row team rect.x1 rect.x2 start end →
    OverlapsBetween mark_lists start n end rect but own → OverlapsInRow xs mark_lists row team rect but own
between_in_row xs mark_lists row team start n end rect but own near m =
    let bound = near.within in
    let until = m.until in
    let within : m.m < length xs = omega (arith, bound, until) in (
      m.m,
      λ d. ((near.exact m.m d within).0 (m.from, until)).in_row,
      record {
        within = within;
        of_team = λ d. ((near.exact m.m d within).0 (m.from, until)).of_team;
        does_overlap = m.does_overlap;
      },
    )

-- if an entry of a strip overlaps the rectangle, so does the strip's x range
pub overlapping_overlaps : (xs : List Strip) (mark_lists : List StripView) (team : ℕ) (rect : Rect) (but own n : ℕ) (d : Strip) → AreOrderly xs mark_lists →
    (at : OverlapsAt xs mark_lists team rect but own n) → (rect.x1 <ℤ (get_or xs n d).area.x2) × ((get_or xs n d).area.x1 <ℤ rect.x2)
overlapping_overlaps xs mark_lists team rect but own n d orderly at =
    let many = orderly.many in
    let within = at.within in
    let mark_list = some_shown mark_lists n (omega (arith, many, within)) in
    let overlapping_one = at.does_overlap mark_list in
    let inside = All-contains (EntryIsInside (get_or xs n d).area) (get_or mark_lists n mark_list).entries overlapping_one.1 (orderly.inside n d mark_list within)
    (overlapping_one.0, overlapping_one.2, overlapping_one.3) in
    let s = overlapping_one.4.does_overlap in
    let a = s.in_first.left in
    let b = s.in_first.right in
    let e = s.in_second.left in
    let f = s.in_second.right in
    let l = inside.left in
    let r = inside.right in
    (omega (arith, ints, a, f, r), omega (arith, ints, b, e, l))

pub row_in_between : (xs : List Strip) (mark_lists : List StripView) (row team start n end : ℕ) (rect : Rect) (but own : ℕ) →
    AreNear xs row team rect.x1 rect.x2 start end →
    AreOrderly xs mark_lists → end ≤ n → OverlapsInRow xs mark_lists row team rect but own → OverlapsBetween mark_lists start n end rect but own
row_in_between xs mark_lists row team start n end rect but own near orderly past (m, in_row, at) =
    let o = overlapping_overlaps xs mark_lists team rect but own m no_strip orderly at in
    let both = (near.exact m no_strip at.within).1 record { in_row = in_row no_strip; of_team = at.of_team no_strip; right = o.0; left = o.1 } in
    let until = both.1 in
    record { m = m; from = both.0; below = omega (arith, until, past); until = until; does_overlap = at.does_overlap }

-- the row of a strip with an overlapping entry is among the near ones
pub row_is_near : (s : FrameIndexView) (mark_lists : List StripView) (team : ℕ) (rect : Rect) (but own n : ℕ) (run : List RowEntry) → All (IsInWidened s.rows s.height) s.strips →
    AreOrderly s.strips mark_lists →
    AreRowsNear s.rows s.height rect run → OverlapsAt s.strips mark_lists team rect but own n →
    Any (λ e. OverlapsInRow s.strips mark_lists e.row team rect but own) run
row_is_near s mark_lists team rect but own n run strips orderly rows at =
    elim (Contains-append_cases rows.part.before _ e there) [
      | inl before ↦ let h = All-contains (λ x. x.y <ℤ rows.from) rows.part.before e rows.part.below before in absurd (omega (arith, ints, h, low))
      | inr rest ↦ elim (Contains-append_cases run rows.part.after_it e rest) [
        | inl inside ↦ (inside.0, e, inside.1, inside.2, (n, λ d. here d, at))
        | inr after_it ↦ let h = All-contains (λ x. rect.y2 ≤ℤ x.y) rows.part.after_it e rows.part.above after_it in absurd (omega (arith, ints, h, high))
      ]
    ]
  where
    xs : List Strip
    xs = s.strips

    g : Strip
    g = get_or xs n no_strip

    placed : IsInWidened s.rows s.height g
    placed = strips n no_strip at.within

    e : RowEntry
    e = placed.found.1

    there : Contains (rows.part.before ++ (run ++ rows.part.after_it)) e
    there = subst (λ (es : List RowEntry). Contains es e) rows.part.parts (placed.found.0, placed.found.2, placed.found.3)

    here : (d : Strip) → (get_or xs n d).row ≡ e.row
    here d = ap (λ (x : Strip). x.row) (get_or_default xs n d no_strip at.within) ∙ sym placed.found.4.0

    mark_list : StripView
    mark_list = some_shown mark_lists n (let many = orderly.many in let within = at.within in omega (arith, many, within))

    inside : EntryIsInside g.area (at.does_overlap mark_list).1
    inside =
        let overlapping_one = at.does_overlap mark_list in
        All-contains (EntryIsInside g.area) (get_or mark_lists n mark_list).entries overlapping_one.1 (orderly.inside n no_strip mark_list at.within) (overlapping_one.0, overlapping_one.2, overlapping_one.3)

    level : e.y ≡ g.area.y1
    level = placed.found.4.1

    low : rows.from ≤ℤ e.y
    low =
        let overlapping_one = (at.does_overlap mark_list).4.does_overlap in
        let a = overlapping_one.in_first.bottom in
        let b = overlapping_one.in_second.top in
        let t = inside.top in
        let h = placed.high in
        let l = level in
        rows.reach e.y (let y = placed.y_low in omega (arith, ints, y, l)) (omega (arith, ints, a, b, t, h, l))

    high : e.y <ℤ rect.y2
    high =
        let overlapping_one = (at.does_overlap mark_list).4.does_overlap in
        let a = overlapping_one.in_first.top in
        let b = overlapping_one.in_second.bottom in
        let t = inside.bottom in
        let l = level in
        omega (arith, ints, a, b, t, l)

pub near_row_is_one : (xs : List Strip) (mark_lists : List StripView) (team : ℕ) (rect : Rect) (but own : ℕ) (run : List RowEntry) →
    Any (λ e. OverlapsInRow xs mark_lists e.row team rect but own) run → OverlapsInOne xs mark_lists team rect but own
near_row_is_one xs mark_lists team rect but own run (k, e, within, is, (n, in_row, at)) = (n, at)
