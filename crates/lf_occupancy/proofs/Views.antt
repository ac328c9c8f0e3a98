-- What marks say about the boxes of teams' cells.
use Rattle.std.proofs.Common.{refl, ◌≡◌, ◌⊎◌, inl, inr, ℕ, zero, suc, ◌<◌, ◌≤◌, ℤ, pos, ◌≤ℤ◌, ◌<ℤ◌, true, List, [], ◌∷◌, Option, Some, None, length, get_or, sym, ap, subst, ◌∙◌, arith}
use Rattle.std.specs.Prelude.{Any, Contains, IfSome, IsSomeAnd, map, slice_get}
use Rattle.std.specs.Vec.{vec_capacity, vec_len}
use Rattle.std.proofs.lemmas.Bool.Decides.{eqb_tells}
use Rattle.std.proofs.lemmas.Option.{slice_get-get_or, slice_get_past}
use Rattle.std.proofs.lemmas.Int.{ints}
use Rattle.std.proofs.lemmas.List.{get_or_default, get_or-map, length-map}
use Rattle.std.proofs.lemmas.List.Elements.{All-contains}
use Rattle.lf_units.specs.declared.geometry.Rect.{Rect}
use Rattle.lf_units.specs.Area.{Covers, SharesPoint}
use Rattle.lf_units.specs.declared.span.Span.{Span}
use Rattle.lf_units.specs.Spans.{AreDisjoint, HoldsNumber, IsFilled, LiesIn}
use Rattle.lf_units.proofs.SpanEdges.{in_of_lies}
use Rattle.lf_cells.specs.declared.cell.CellId.{CellId}
use Rattle.lf_occupancy.specs.declared.strip_marks.Entry.{Entry}
use Rattle.lf_occupancy.specs.declared.strip_marks.StripMarks.{StripMarks}
use Rattle.lf_segments.specs.declared.strip.Strip.{Strip}
use Rattle.lf_rules.specs.Padding.{wider}
use Rattle.lf_occupancy.specs.MarkLists.{ShowsBoxes, IsMarked, LiesInBox, IsLeast, StripView, widened_entry, strip_view, x_range}
use Rattle.lf_occupancy.specs.Strips.{AreFreeTo, ShowAllBoxes, AreFreeSpansOfStrip, AreShown, HaveRoom, LiesFree, IsLeftFree, OverlapsInOne, OverlapsStrip, widened_strips, capacities_in}
use Rattle.lf_occupancy.specs.Views.{AreFreeSpans, Bounds, FitIn, HasRoomFor, IsLeftOver, HasBoxExcept, boxes_of, cell_box, count_in, does_overlap}
use Rattle.lf_occupancy.specs.Views.{Occupied, IsFirstOverlappingCell, IsFreeInRow, IsFreeOver, IsOther, IsPaddingOf, IsStripOf, OverlapsInStrips, strip_extent, widened, part_over, reach}
use Rattle.lf_occupancy.proofs.Counting.{overlaps_shares, named_are_counted, shares_overlaps}
use Rattle.lf_occupancy.proofs.Finds.{no_strip, some_shown}
use Rattle.lf_occupancy.proofs.Changes.{some_mark_list}
use Rattle.lf_occupancy.proofs.Laning.{entries_many}
use Rattle.lf_occupancy.proofs.Leasts.{least_alike, least_from_none}
use Rattle.lf_occupancy.proofs.Around.{widened_at, widened_many}
use Rattle.lf_occupancy.proofs.Lists.{any_made, any_unmade, made_at, unmade_at}
use Rattle.lf_occupancy.proofs.Padded.{each_padded, nearest_in, one_padded, other_padded, others_padded}

-- the widened strips
abbrev pub felts : Occupied → List Strip
felts o = widened_strips o.site o.index.strips

-- the entries of a strip of the team
team_mark_list : (o : Occupied) (mark_lists : List StripView) (team n : ℕ) (d : Strip) (e : StripView) → AreShown (felts o) o.boxes mark_lists → n < length (felts o) →
    (get_or (felts o) n d).team ≡ team → ShowsBoxes (get_or o.boxes team []) (get_or (felts o) n d).area (get_or mark_lists n e)
team_mark_list o mark_lists team n d e are within of_team =
    let At : ℕ → Type 0 = λ t. ShowsBoxes (get_or o.boxes t []) (get_or (felts o) n d).area (get_or mark_lists n e) in
    subst At of_team (are.each n d e within)

overlapped_in_mark_lists : (o : Occupied) (mark_lists : List StripView) (id : CellId) (rect : Rect) (own : ℕ) → AreShown (felts o) o.boxes mark_lists → OverlapsInStrips o id rect own →
    OverlapsInOne (felts o) mark_lists id.team rect id.own own
overlapped_in_mark_lists o mark_lists id rect own are m =
    let strip = any_made (λ (g : Strip). (g.team ≡ id.team) × Covers g.area m.x m.y) (widened (reach o)) o.index.strips m.in_strip in
    let n = strip.0 in
    let g = strip.1 in
    let within = strip.2 in
    let is : get_or (felts o) n g ≡ g = strip.3 in
    let of_team : (get_or (felts o) n g).team ≡ id.team = ap (λ (x : Strip). x.team) is ∙ strip.4.0 in
    let covers = subst (λ (x : Strip). Covers x.area m.x m.y) (sym is) strip.4.1 in (
      n,
      record {
        within = within;
        of_team = λ d. ap (λ (x : Strip). x.team) (get_or_default (felts o) n d g within) ∙ of_team;
        does_overlap = λ d.
            let found = (team_mark_list o mark_lists id.team n g d are within of_team).held own m.x m.y
            record { box = m.box; is = m.is.is_in_place; in_area = covers; in_box = m.in_box } in (
              found.0,
              found.1,
              found.2,
              found.3,
              record {
                is = found.4.is;
                other = m.is.other;
                does_overlap = record { x = m.x; y = m.y; in_first = m.in_rect; in_second = found.4.covers };
              },
            );
      },
    )

overlapped_in_strips : (o : Occupied) (mark_lists : List StripView) (id : CellId) (rect : Rect) (own : ℕ) → AreShown (felts o) o.boxes mark_lists →
    OverlapsInOne (felts o) mark_lists id.team rect id.own own → OverlapsInStrips o id rect own
overlapped_in_strips o mark_lists id rect own are (n, at) =
    let within = at.within in
    let many = are.many in
    let mark_list = some_shown mark_lists n (omega (arith, many, within)) in
    let overlapping_one = at.does_overlap mark_list in
    let e = overlapping_one.1 in
    let m = overlapping_one.4 in
    let l = team_mark_list o mark_lists id.team n no_strip mark_list are within (at.of_team no_strip) in
    let reported = All-contains (λ z. (x y : ℤ) → Covers z.area x y → LiesInBox (get_or o.boxes id.team []) (get_or (felts o) n no_strip).area z.own x y)
    (get_or mark_lists n mark_list).entries e l.reported (overlapping_one.0, overlapping_one.2, overlapping_one.3) in
    let lies = reported m.does_overlap.x m.does_overlap.y m.does_overlap.in_second in
    let At : ℕ → Type 0 = λ k. cell_box (get_or o.boxes id.team []) k ≡ Some lies.box in
    record {
      box = lies.box;
      is = record { other = m.other; is_in_place = subst At m.is lies.is };
      x = m.does_overlap.x;
      y = m.does_overlap.y;
      in_strip = any_unmade (λ (g : Strip). (g.team ≡ id.team) × Covers g.area m.does_overlap.x m.does_overlap.y) (widened (reach o)) o.index.strips
          (n, get_or (felts o) n no_strip, within, get_or_default (felts o) n _ no_strip within, (at.of_team no_strip, lies.in_area));
      in_rect = m.does_overlap.in_first;
      in_box = lies.in_box;
    }

pub first_of_least : (o : Occupied) (mark_lists : List StripView) (id : CellId) (rect : Rect) (overlapping_one : Option ℕ) → AreShown (felts o) o.boxes mark_lists →
    IsLeast (OverlapsInOne (felts o) mark_lists id.team rect id.own) None overlapping_one → IsFirstOverlappingCell o id rect overlapping_one
first_of_least o mark_lists id rect overlapping_one are least =
    least_from_none (OverlapsInStrips o id rect) overlapping_one
    (least_alike (OverlapsInOne (felts o) mark_lists id.team rect id.own) (OverlapsInStrips o id rect) None overlapping_one (λ own m. overlapped_in_strips o mark_lists id rect own are m)
    (λ own m. overlapped_in_mark_lists o mark_lists id rect own are m) least)

-- the entries of a widened strip
widened_mark_list : (o : Occupied) (mark_lists : List StripView) (n : ℕ) (d : Strip) (e : StripView) → AreShown (felts o) o.boxes mark_lists → n < length o.index.strips →
    ShowsBoxes (get_or o.boxes (get_or o.index.strips n d).team []) (wider (reach o) (get_or o.index.strips n d).area) (get_or mark_lists n e)
widened_mark_list o mark_lists n d e are within =
    let many = widened_many o.site o.index.strips in
    let At : Strip → Type 0 = λ g. ShowsBoxes (get_or o.boxes g.team []) g.area (get_or mark_lists n e) in
    subst At (widened_at o.site o.index.strips n d d within) (are.each n d e (omega (arith, within, many)))

-- a box that shares a point with the widened part over a span of a strip has an entry in the strip,
-- and the widened entry shares a number with the span
record IsTooNear (padding : ℤ) (own : ℕ) (s : Span) (l : StripView) : Type 0 where
  e : Entry
  there : Contains l.entries e
  is : e.own ≡ own
  x : ℤ
  held : HoldsNumber s x
  taken : HoldsNumber (x_range (widened_entry padding e).area) x

too_near : (by padding : ℤ) (cells : List (Option Rect)) (g : Strip) (s : Span) (l : StripView) (own : ℕ) (box : Rect) → ShowsBoxes cells (wider by g.area) l →
    pos 0 ≤ℤ padding → padding ≤ℤ by → IsFilled s → LiesIn s (strip_extent g) → cell_box cells own ≡ Some box → SharesPoint (wider padding (part_over g s)) box →
    IsTooNear padding own s l
too_near by padding cells g s l own box mark_list some most filled within is shares =
    let inside = in_of_lies s (strip_extent g) filled within in
    let low = inside.low in
    let high = inside.high in
    let left = shares.in_first.left in
    let right = shares.in_first.right in
    let found = mark_list.held own shares.x shares.y record {
      box = box;
      is = is;
      in_area = record {
        left = omega (arith, ints, left, low, most);
        right = omega (arith, ints, right, high, most);
        bottom = shares.in_first.bottom;
        top = shares.in_first.top;
      };
      in_box = shares.in_second;
    } in
    let near = nearest_in s.lo s.hi padding shares.x filled left right some in
    record {
      e = found.1;
      there = (found.0, found.2, found.3);
      is = found.4.is;
      x = near.z;
      held = record { low = near.low; high = near.high };
      taken = record {
        low = let a = near.to in let b = found.4.covers.left in omega (arith, ints, a, b);
        high = let a = near.from in let b = found.4.covers.right in omega (arith, ints, a, b);
      };
    }

-- an entry that, widened, holds a number of a span of a strip is of a box that shares a point with
-- the widened part over the span
record HasNearBox (cells : List (Option Rect)) (padding : ℤ) (g : Strip) (s : Span) (own : ℕ) : Type 0 where
  box : Rect
  is : cell_box cells own ≡ Some box
  shares : SharesPoint (wider padding (part_over g s)) box

near_box : (by padding : ℤ) (cells : List (Option Rect)) (g : Strip) (s : Span) (l : StripView) (e : Entry) (x : ℤ) → ShowsBoxes cells (wider by g.area) l →
    pos 0 ≤ℤ padding → Contains l.entries e → HoldsNumber s x → HoldsNumber (x_range (widened_entry padding e).area) x → HasNearBox cells padding g s e.own
near_box by padding cells g s l e x mark_list some there first second =
    let whole = All-contains (λ z. (z.area.x1 <ℤ z.area.x2) × (z.area.y1 <ℤ z.area.y2)) l.entries e
    (λ k c inner. let w = mark_list.whole k c inner in (w.wide, w.high)) there in
    let high = whole.1 in
    let reported = All-contains (λ z. (x y : ℤ) → Covers z.area x y → LiesInBox cells (wider by g.area) z.own x y) l.entries e mark_list.reported there in
    let near = nearest_in e.area.x1 e.area.x2 padding x whole.0 second.low second.high some in
    let lies = reported near.z e.area.y1 record { left = near.low; right = near.high; bottom = omega (arith, ints); top = high } in
    record {
      box = lies.box;
      is = lies.is;
      shares = record {
        x = near.z;
        y = e.area.y1;
        in_first = record {
          left = let a = first.low in let b = near.to in omega (arith, ints, a, b);
          right = let a = first.high in let b = near.from in omega (arith, ints, a, b);
          bottom = lies.in_area.bottom;
          top = lies.in_area.top;
        };
        in_second = lies.in_box;
      };
    }

pub free_of_strips : (o : Occupied) (mark_lists : List StripView) (row : ℕ) (id : CellId) (window : Span) (padding : ℤ) (free : List Span) → IsPaddingOf o padding →
    AreShown (felts o) o.boxes mark_lists → AreFreeTo o.index.strips mark_lists row id.team id.own window padding (length o.index.strips) free →
    IsFreeInRow o row id window padding free
free_of_strips o mark_lists row id window padding free short are f = record {
  rising = f.rising;
  exact = λ s filled. (
    λ lies. let h = (f.exact s filled).0 lies in (h.0, to s filled h.1.0 h.1.1.1),
    λ both. (f.exact s filled).1 (both.0, back s both.1),
  );
}
  where
    xs : List Strip
    xs = o.index.strips

    mark_list_of_one : (n : ℕ) (d : Strip) (e : StripView) → n < length xs → (get_or xs n d).team ≡ id.team →
        ShowsBoxes (get_or o.boxes id.team []) (wider (reach o) (get_or xs n d).area) (get_or mark_lists n e)
    mark_list_of_one n d e within of_team =
        let At : ℕ → Type 0 = λ t. ShowsBoxes (get_or o.boxes t []) (wider (reach o) (get_or xs n d).area) (get_or mark_lists n e) in
        subst At of_team (widened_mark_list o mark_lists n d e are within)

    to : (s : Span) → IsFilled s → (n : ℕ) → LiesFree xs mark_lists row id.team id.own padding s n →
        Any (λ g. IsStripOf row id.team g × IsFreeOver o id padding g s) xs
    to s filled n l = (
      n,
      g,
      l.within,
      get_or_default xs n _ no_strip l.within,
      (
        record { in_row = l.in_row no_strip; of_team = l.of_team no_strip },
        record {
          within = l.inside no_strip;
          clear = clear;
        },
      ),
    )
      where
        g : Strip
        g = get_or xs n no_strip

        clear : (own : ℕ) (box : Rect) → IsOther o id own box → SharesPoint (wider padding (part_over g s)) box → ⊥
        clear own box other shares =
            let many = are.many in
            let widened_too = widened_many o.site xs in
            let within = l.within in
            let mark_list = some_shown mark_lists n (omega (arith, many, widened_too, within)) in
            let near = too_near (reach o) padding (get_or o.boxes id.team []) g s (get_or mark_lists n mark_list) own box
            (mark_list_of_one n no_strip mark_list within (l.of_team no_strip)) short.least short.most filled (l.inside no_strip) other.is_in_place shares in
            other_padded padding (get_or mark_lists n mark_list).entries id.own s (l.apart mark_list) near.e near.there
            (λ same. other.other (sym near.is ∙ same)) near.x near.held near.taken

    back : (s : Span) → Any (λ g. IsStripOf row id.team g × IsFreeOver o id padding g s) xs →
        (n : ℕ) × ((n < length xs) × LiesFree xs mark_lists row id.team id.own padding s n)
    back s (n, g, within, is, (strip, free_over)) = (
      n,
      (
        within,
        record {
          within = within;
          in_row = λ d. ap (λ (x : Strip). x.row) (same d) ∙ strip.in_row;
          of_team = λ d. ap (λ (x : Strip). x.team) (same d) ∙ strip.of_team;
          inside = λ d. subst (λ (x : Strip). LiesIn s (strip_extent x)) (sym (same d)) free_over.within;
          apart = λ d. others_padded padding (get_or mark_lists n d).entries id.own s (λ e there other x first second. never d e there other x first second);
        },
      ),
    )
      where
        same : (d : Strip) → get_or xs n d ≡ g
        same d = get_or_default xs n d g within ∙ is

        of_team : (get_or xs n g).team ≡ id.team
        of_team = ap (λ (x : Strip). x.team) is ∙ strip.of_team

        never : (d : StripView) (e : Entry) → Contains (get_or mark_lists n d).entries e → (e.own ≡ id.own → ⊥) → AreDisjoint s (x_range (widened_entry padding e).area)
        never d e there other x first second =
            let At : Strip → Type 0 = λ q. HasNearBox (get_or o.boxes id.team []) padding q s e.own in
            let near : At g = subst At is
            (near_box (reach o) padding (get_or o.boxes id.team []) (get_or xs n g) s (get_or mark_lists n d) e x (mark_list_of_one n g d within of_team) short.least there
            first second) in
            free_over.clear e.own near.box record { other = other; is_in_place = near.is } near.shares

-- a span of the strip of this number that shares no number with a widened entry is free there
left_over : (o : Occupied) (mark_lists : List StripView) (id : CellId) (padding : ℤ) (n : ℕ) (s : Span) → IsPaddingOf o padding → IsFilled s →
    AreShown (felts o) o.boxes mark_lists → IsLeftFree o.index.strips mark_lists id padding n s → IsLeftOver o id padding (get_or o.index.strips n no_strip) s
left_over o mark_lists id padding n s short filled are l = record { within = l.inside no_strip; clear = clear }
  where
    g : Strip
    g = get_or o.index.strips n no_strip

    clear : (own : ℕ) (box : Rect) → HasBoxExcept o id g.team own box → SharesPoint (wider padding (part_over g s)) box → ⊥
    clear own box is_in_place shares =
        let many = are.many in
        let widened_too = widened_many o.site o.index.strips in
        let within = l.within in
        let mark_list = some_shown mark_lists n (omega (arith, many, widened_too, within)) in
        let near = too_near (reach o) padding (get_or o.boxes g.team []) g s (get_or mark_lists n mark_list) own box (widened_mark_list o mark_lists n no_strip mark_list are within)
        short.least short.most filled (l.inside no_strip) is_in_place.is_in_place shares in
        elim (eqb_tells g.team id.team) [
          | inl same ↦ other_padded padding (get_or mark_lists n mark_list).entries id.own s (l.own no_strip mark_list same.1) near.e near.there
              (λ is. is_in_place.other same.1 (sym near.is ∙ is)) near.x near.held near.taken
          | inr away ↦ one_padded padding (get_or mark_lists n mark_list).entries s (l.foreign no_strip mark_list away.1) near.e near.there near.x near.held
              near.taken
        ]

over_left : (o : Occupied) (mark_lists : List StripView) (id : CellId) (padding : ℤ) (n : ℕ) (g : Strip) (s : Span) → IsPaddingOf o padding →
    AreShown (felts o) o.boxes mark_lists → n < length o.index.strips → ((d : Strip) → get_or o.index.strips n d ≡ g) → IsLeftOver o id padding g s →
    IsLeftFree o.index.strips mark_lists id padding n s
over_left o mark_lists id padding n g s short are within is left = record {
  within = within;
  inside = λ d. subst (λ (x : Strip). LiesIn s (strip_extent x)) (sym (is d)) left.within;
  own = λ d e same.
      others_padded padding (get_or mark_lists n e).entries id.own s (λ x there other. never e x there (λ team. other));
  foreign = λ d e away.
      each_padded padding (get_or mark_lists n e).entries s
      (λ x there. never e x there (λ team. absurd (away (ap (λ (q : Strip). q.team) (is d) ∙ team))));
}
  where
    never : (d : StripView) (e : Entry) → Contains (get_or mark_lists n d).entries e → (g.team ≡ id.team → e.own ≡ id.own → ⊥) →
        AreDisjoint s (x_range (widened_entry padding e).area)
    never d e there other x first second =
        let At : Strip → Type 0 = λ q. ShowsBoxes (get_or o.boxes q.team []) (wider (reach o) q.area) (get_or mark_lists n d) in
        let mark_list : At g = subst At (is no_strip) (widened_mark_list o mark_lists n no_strip d are within) in
        let near = near_box (reach o) padding (get_or o.boxes g.team []) g s (get_or mark_lists n d) e x mark_list short.least there first second in
        left.clear e.own near.box record { other = other; is_in_place = near.is } near.shares

pub spans_of_strip : (o : Occupied) (mark_lists : List StripView) (id : CellId) (padding : ℤ) (n : ℕ) (free : List Span) → IsPaddingOf o padding →
    AreShown (felts o) o.boxes mark_lists → AreFreeSpansOfStrip o.index.strips mark_lists id padding n free → AreFreeSpans o n id padding free
spans_of_strip o mark_lists id padding n free short are left = record {
  rising = left.rising;
  exact = λ s filled. (λ lies. to s filled ((left.exact s filled).0 lies), λ some. (left.exact s filled).1 (back s some));
}
  where
    to : (s : Span) → IsFilled s → IsLeftFree o.index.strips mark_lists id padding n s →
        IsSomeAnd (slice_get o.index.strips n) (λ g. IsLeftOver o id padding g s)
    to s filled l =
        subst (λ (found : Option Strip). IsSomeAnd found (λ g. IsLeftOver o id padding g s)) (sym (slice_get-get_or o.index.strips n no_strip l.within))
        (left_over o mark_lists id padding n s short filled are l)

    order : (n < length o.index.strips) ⊎ (length o.index.strips ≤ n)
    order = grind arith

    back : (s : Span) → IsSomeAnd (slice_get o.index.strips n) (λ g. IsLeftOver o id padding g s) → IsLeftFree o.index.strips mark_lists id padding n s
    back s some = elim order [
      | inl within ↦
          over_left o mark_lists id padding n (get_or o.index.strips n no_strip) s short are within (λ d. get_or_default o.index.strips n d no_strip within)
          (subst (λ (found : Option Strip). IsSomeAnd found (λ g. IsLeftOver o id padding g s)) (slice_get-get_or o.index.strips n no_strip within) some)
      | inr past ↦ absurd (subst (λ (found : Option Strip). IsSomeAnd found (λ g. IsLeftOver o id padding g s)) (slice_get_past o.index.strips n past) some)
    ]

-- a strip has an entry for each of its team's boxes that share a point with it, and no other
mark_list_is_counted : (g : Strip) (boxes : List (Option Rect)) (l : StripView) → ShowsBoxes boxes g.area l → length l.entries ≡ count_in g boxes
mark_list_is_counted g boxes l mark_list = sym (length-map items (λ (e : Entry). e.own)) ∙ named_are_counted g boxes owns once (λ own. (to own, back own))
  where
    items : List Entry
    items = l.entries

    owns : List ℕ
    owns = map (λ (e : Entry). e.own) items

    none : Entry
    none = record { own = 0; area = g.area }

    own_at : (k d : ℕ) → k < length owns → get_or owns k d ≡ (get_or items k none).own
    own_at k d within = let long = length-map items (λ (e : Entry). e.own) in get_or-map (λ (e : Entry). e.own) items k none d (omega (arith, long, within))

    once : (i j d : ℕ) → i < j → j < length owns → get_or owns i d ≡ get_or owns j d → ⊥
    once i j d less within same =
        let long = length-map items (λ (e : Entry). e.own) in
        mark_list.once i j none less (omega (arith, long, within)) (sym (own_at i d (omega (arith, less, within))) ∙ same ∙ own_at j d within)

    corner : (k : ℕ) → k < length items → LiesInBox boxes g.area (get_or items k none).own (get_or items k none).area.x1 (get_or items k none).area.y1
    corner k inner =
        let w = (mark_list.whole k none inner).wide in
        let h = (mark_list.whole k none inner).high in
        mark_list.reported k none inner (get_or items k none).area.x1 (get_or items k none).area.y1
        record { left = omega (arith, ints); right = w; bottom = omega (arith, ints); top = h }

    overlapped_at : (k : ℕ) → k < length items → does_overlap g (cell_box boxes (get_or items k none).own) ≡ true
    overlapped_at k inner =
        let lies = corner k inner in
        ap (does_overlap g) lies.is ∙ shares_overlaps g lies.box
        record { x = (get_or items k none).area.x1; y = (get_or items k none).area.y1; in_first = lies.in_area; in_second = lies.in_box }

    to : (own : ℕ) → Contains owns own → does_overlap g (cell_box boxes own) ≡ true
    to own (k, within, is) =
        let long = length-map items (λ (e : Entry). e.own) in
        let At : ℕ → Type 0 = λ m. does_overlap g (cell_box boxes m) ≡ true in
        subst At (sym (own_at k own within) ∙ is) (overlapped_at k (omega (arith, long, within)))

    some_box : (found : Option Rect) → does_overlap g found ≡ true → (box : Rect) × (found ≡ Some box)
    some_box None overlapping_one = absurd cc
    some_box (Some box) overlapping_one = (box, refl)

    back : (own : ℕ) → does_overlap g (cell_box boxes own) ≡ true → Contains owns own
    back own overlapping_one =
        let long = length-map items (λ (e : Entry). e.own) in
        let b = some_box (cell_box boxes own) overlapping_one in
        let s = overlaps_shares g b.0 (sym (ap (does_overlap g) b.1) ∙ overlapping_one) in
        let found = mark_list.held own s.x s.y record { box = b.0; is = b.1; in_area = s.in_first; in_box = s.in_second } in
        let within = found.2 in
        let inner : found.0 < length owns = omega (arith, long, within) in
        (found.0, inner, get_or-map (λ (e : Entry). e.own) items found.0 found.1 own within ∙ ap (λ (e : Entry). e.own) found.3 ∙ found.4.is)

-- the marks of a strip, in numbers
record InNumbers (g : Strip) (boxes : List (Option Rect)) (places : ℕ) (l : StripMarks) : Type 0 where
  count : vec_len l.marks ≡ count_in g boxes
  room : vec_capacity l.marks ≡ places

strip_is_within : (xs : List Strip) (n : ℕ) (g : Strip) → slice_get xs n ≡ Some g → (n < length xs) × ((d : Strip) → get_or xs n d ≡ g)
strip_is_within [] n g is = absurd cc
strip_is_within (x ∷ xs) zero g is = (omega arith, λ d. cc)
strip_is_within (x ∷ xs) (suc n) g is = let h = strip_is_within xs n g is in let less = h.0 in (omega (arith, less), h.1)

in_numbers : (xs : List Strip) (boxes : List (List (Option Rect))) (mark_lists : List StripMarks) (n : ℕ) (g : Strip) (team : ℕ) (e : StripMarks) →
    ShowAllBoxes xs boxes mark_lists → slice_get xs n ≡ Some g → g.team ≡ team → InNumbers g (get_or boxes team []) (get_or (capacities_in mark_lists) n 0) (get_or mark_lists n e)
in_numbers xs boxes mark_lists n g team e are is of_team =
    let at = strip_is_within xs n g is in
    let many = are.many in
    let within = at.0 in
    let At : Strip → Type 0 = λ q. IsMarked (get_or boxes q.team []) q.area (get_or mark_lists n e) in
    let mark_list : At g = subst At (at.1 g) (are.each n g e within) in
    let Of : ℕ → Type 0 = λ t. IsMarked (get_or boxes t []) g.area (get_or mark_lists n e) in
    let marked : IsMarked (get_or boxes team []) g.area (get_or mark_lists n e) = subst Of of_team mark_list in
    record {
      count = (get_or mark_lists n e).marks.ok.0 ∙ sym (entries_many (get_or boxes team []) g.area (get_or mark_lists n e).marks.items)
          ∙ mark_list_is_counted g (get_or boxes team []) (strip_view (get_or boxes team []) g.area (get_or mark_lists n e)) marked.mark_list;
      room = sym (get_or-map (λ (l : StripMarks). vec_capacity l.marks) mark_lists n e 0 (omega (arith, many, within)));
    }

mark_list_at : (xs : List Strip) (boxes : List (List (Option Rect))) (mark_lists : List StripMarks) (n : ℕ) (g : Strip) → ShowAllBoxes xs boxes mark_lists → slice_get xs n ≡ Some g → StripMarks
mark_list_at xs boxes mark_lists n g are is = let within = (strip_is_within xs n g is).0 in let many = are.many in some_mark_list mark_lists n (omega (arith, many, within))

-- each strip has room for the boxes that share a point with it
pub boxes_in_place_fit : (o : Occupied) (mark_lists : List StripMarks) → o.rooms ≡ capacities_in mark_lists → ShowAllBoxes (felts o) o.boxes mark_lists → (team : ℕ) →
    FitIn o team (boxes_of o team)
boxes_in_place_fit o mark_lists rooms are team n g is of_team =
    let around : Strip = widened (reach o) g in
    let at : slice_get (felts o) n ≡ Some around = made_at (widened (reach o)) o.index.strips n g is in
    let e = mark_list_at (felts o) o.boxes mark_lists n around are at in
    let numbers = in_numbers (felts o) o.boxes mark_lists n around team e are at of_team in
    let a = numbers.count in
    let b = numbers.room in
    let c = ap (λ (ns : List ℕ). get_or ns n 0) rooms in
    let most = (get_or mark_lists n e).marks.ok.1 in
    omega (arith, a, b, c, most)

-- the number of marks of each strip bounds its boxes
pub marks_bound : (o : Occupied) (mark_lists : List StripMarks) → ShowAllBoxes (felts o) o.boxes mark_lists → (team : ℕ) →
    Bounds o team (boxes_of o team) (map (λ l. vec_len l.marks) mark_lists)
marks_bound o mark_lists are team n g is of_team =
    let around : Strip = widened (reach o) g in
    let at : slice_get (felts o) n ≡ Some around = made_at (widened (reach o)) o.index.strips n g is in
    let e = mark_list_at (felts o) o.boxes mark_lists n around are at in
    let within = (strip_is_within (felts o) n around at).0 in
    let many = are.many in
    let a = (in_numbers (felts o) o.boxes mark_lists n around team e are at of_team).count in
    let b = get_or-map (λ (l : StripMarks). vec_len l.marks) mark_lists n e 0 (omega (arith, many, within)) in
    omega (arith, a, b)

-- room in strips is room in what a contract sees
pub room_is_seen : (o : Occupied) (mark_lists : List StripMarks) (team : ℕ) (rect : Rect) (more : ℕ) → o.rooms ≡ capacities_in mark_lists → ShowAllBoxes (felts o) o.boxes mark_lists →
    HaveRoom (OverlapsStrip (felts o) team rect) more mark_lists → HasRoomFor o team rect more
room_is_seen o mark_lists team rect more rooms are room n g is of_team shares =
    let around : Strip = widened (reach o) g in
    let at : slice_get (felts o) n ≡ Some around = made_at (widened (reach o)) o.index.strips n g is in
    let e = mark_list_at (felts o) o.boxes mark_lists n around are at in
    let numbers = in_numbers (felts o) o.boxes mark_lists n around team e are at of_team in
    let a = numbers.count in
    let b = numbers.room in
    let c = ap (λ (ns : List ℕ). get_or ns n 0) rooms in
    let h = room n e (subst (λ (found : Option Strip). IsSomeAnd found (λ q. (q.team ≡ team) × SharesPoint q.area rect)) (sym at) (of_team, shares)) in
    omega (arith, a, b, c, h)

pub seen_is_room : (o : Occupied) (mark_lists : List StripMarks) (team : ℕ) (rect : Rect) (more : ℕ) → o.rooms ≡ capacities_in mark_lists → ShowAllBoxes (felts o) o.boxes mark_lists →
    HasRoomFor o team rect more → HaveRoom (OverlapsStrip (felts o) team rect) more mark_lists
seen_is_room o mark_lists team rect more rooms are room n e does_overlap =
    let found = some_strip (slice_get (felts o) n) does_overlap in
    let plain = unmade_at (widened (reach o)) o.index.strips n found.0 found.1.0 in
    let At : Strip → Type 0 = λ g. (g.team ≡ team) × SharesPoint g.area rect in
    let there : At (widened (reach o) plain.0) = subst At plain.1.1 found.1.1 in
    let at : slice_get (felts o) n ≡ Some (widened (reach o) plain.0) = made_at (widened (reach o)) o.index.strips n plain.0 plain.1.0 in
    let numbers = in_numbers (felts o) o.boxes mark_lists n (widened (reach o) plain.0) team e are at there.0 in
    let a = numbers.count in
    let b = numbers.room in
    let c = ap (λ (ns : List ℕ). get_or ns n 0) rooms in
    let h = room n plain.0 plain.1.0 there.0 there.1 in
    omega (arith, a, b, c, h)
  where
    some_strip : (found : Option Strip) → IsSomeAnd found (λ q. (q.team ≡ team) × SharesPoint q.area rect) →
        (g : Strip) × ((found ≡ Some g) × ((g.team ≡ team) × SharesPoint g.area rect))
    some_strip None none = absurd none
    some_strip (Some g) m = (g, (refl, m))

pub move_is_seen : (o : Occupied) (mark_lists : List StripMarks) (team : ℕ) (to : Option Rect) (more : ℕ) → o.rooms ≡ capacities_in mark_lists → ShowAllBoxes (felts o) o.boxes mark_lists →
    IfSome to (λ rect. HaveRoom (OverlapsStrip (felts o) team rect) more mark_lists) → IfSome to (λ rect. HasRoomFor o team rect more)
move_is_seen o mark_lists team None more rooms are room = tt
move_is_seen o mark_lists team (Some rect) more rooms are room = room_is_seen o mark_lists team rect more rooms are room
