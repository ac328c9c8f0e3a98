-- The strips that a rectangle reaches, and their marks after a cell's box changes.
use Rattle.std.proofs.Common.{◌≡◌, ◌≢◌, ◌⊎◌, inl, inr, ℕ, ◌+◌, ◌<◌, ◌≤◌, ℤ, ◌≤ℤ◌, ◌<ℤ◌, List, [], ◌∷◌, ◌++◌, Option, Some, None, length, get_or}
use Rattle.std.proofs.Common.{set, refl, sym, ap, subst, ◌∙◌, arith}
use Rattle.std.specs.Prelude.{All, AllPairs, Any, Contains, IfSome, IsSomeAnd, map, not}
use Rattle.std.specs.Vec.{vec_capacity}
use Rattle.std.proofs.lemmas.Bool.Decides.{eqb_tells}
use Rattle.std.proofs.lemmas.Int.{ints}
use Rattle.std.proofs.lemmas.List.{get_or-map, get_or_past, length-map}
use Rattle.std.proofs.lemmas.Option.{slice_get-get_or, slice_get_past}
use Rattle.std.proofs.lemmas.List.{get_or_default, get_or-set_same, get_or-set_other, length-append, get_or_append_left, get_or-append-add}
use Rattle.std.proofs.lemmas.List.Elements.{All-contains, Contains-append_cases}
use Rattle.lf_units.specs.declared.geometry.Rect.{Rect}
use Rattle.lf_units.specs.Area.{Covers, SharesPoint}
use Rattle.lf_units.proofs.Anys.{any_nil, any_head, any_tail, any_cases}
use Rattle.lf_segments.specs.declared.rows_by_y.RowEntry.{RowEntry}
use Rattle.lf_occupancy.specs.declared.strip_marks.StripMarks.{StripMarks}
use Rattle.lf_segments.specs.declared.strip.Strip.{Strip}
use Rattle.lf_segments.specs.Indexes.{FrameIndexView}
use Rattle.lf_occupancy.specs.MarkLists.{AreRising, IsMarked, IsUnmarked, StripView, part_in}
use Rattle.lf_segments.specs.Strips.{AreRowsNear}
use Rattle.lf_occupancy.specs.Strips.{AreChanged, KeepMarksOf, ShowAllBoxes, AreOrderly, AreShown, OverlapsStrip}
use Rattle.lf_segments.specs.Strips.{IsNear}
use Rattle.lf_occupancy.specs.Strips.{IsReached, PutsIn, CanTake, HaveRoom, capacities_in}
use Rattle.lf_occupancy.specs.Views.{KeepsCapacities, cell_box}
use Rattle.lf_occupancy.proofs.Around.{IsInWidened}
use Rattle.lf_occupancy.proofs.Finds.{no_strip}
use Rattle.lf_occupancy.proofs.Lists.{maps_alike}
use Rattle.lf_occupancy.proofs.Parts.{part_is}
use Rattle.lf_occupancy.proofs.Changes.{room_kept, some_mark_list}
use Rattle.lf_occupancy.proofs.Laning.{marked_beside, marked_kept, marked_pruned, marked_put, marks_rise, none_is_not_some}

-- a strip that shares a point with the rectangle is reached
pub point_is_reached : (s : FrameIndexView) (rect : Rect) (run : List RowEntry) (team n : ℕ) (d : Strip) (x y : ℤ) → All (IsInWidened s.rows s.height) s.strips →
    AreRowsNear s.rows s.height rect run →
    n < length s.strips → (get_or s.strips n d).team ≡ team → Covers (get_or s.strips n d).area x y → Covers rect x y →
    IsReached s.strips run team rect n
point_is_reached s rect run team n d x y strips rows within of_team in_strip in_rect =
    elim (Contains-append_cases rows.part.before _ e there) [
      | inl before ↦ let h = All-contains (λ r. r.y <ℤ rows.from) rows.part.before e rows.part.below before in absurd (omega (arith, ints, h, low))
      | inr rest ↦ elim (Contains-append_cases run rows.part.after_it e rest) [
        | inl inside ↦ (within, (inside.0, e, inside.1, inside.2, λ c. near c))
        | inr after_it ↦ let h = All-contains (λ r. rect.y2 ≤ℤ r.y) rows.part.after_it e rows.part.above after_it in absurd (omega (arith, ints, h, high))
      ]
    ]
  where
    xs : List Strip
    xs = s.strips

    g : Strip
    g = get_or xs n d

    placed : IsInWidened s.rows s.height g
    placed = strips n d within

    e : RowEntry
    e = placed.found.1

    there : Contains (rows.part.before ++ (run ++ rows.part.after_it)) e
    there = subst (λ (es : List RowEntry). Contains es e) rows.part.parts (placed.found.0, placed.found.2, placed.found.3)

    level : e.y ≡ g.area.y1
    level = placed.found.4.1

    low : rows.from ≤ℤ e.y
    low =
        let a = in_rect.bottom in
        let b = in_strip.top in
        let h = placed.high in
        let l = level in
        let y_low = placed.y_low in
        rows.reach e.y (omega (arith, ints, y_low, l)) (omega (arith, ints, a, b, h, l))

    high : e.y <ℤ rect.y2
    high =
        let a = in_rect.top in
        let b = in_strip.bottom in
        let l = level in
        omega (arith, ints, a, b, l)

    near : (c : Strip) → IsNear e.row team rect.x1 rect.x2 (get_or xs n c)
    near c = subst (IsNear e.row team rect.x1 rect.x2) (get_or_default xs n d c within) record {
      in_row = sym placed.found.4.0;
      of_team = of_team;
      right = let a = in_rect.left in let b = in_strip.right in omega (arith, ints, a, b);
      left = let a = in_rect.right in let b = in_strip.left in omega (arith, ints, a, b);
    }

decide_any : {X : Type 0} (P : X → Type 0) → ((x : X) → P x ⊎ (P x → ⊥)) → (xs : List X) → Any P xs ⊎ (Any P xs → ⊥)
decide_any P decide [] = inr (any_nil P)
decide_any {X} P decide (x ∷ xs) = both (decide x) (decide_any P decide xs)
  where
    both : P x ⊎ (P x → ⊥) → Any P xs ⊎ (Any P xs → ⊥) → Any P (x ∷ xs) ⊎ (Any P (x ∷ xs) → ⊥)
    both (inl p) rest = inl (any_head P x xs p)
    both (inr never) (inl a) = inl (any_tail P x xs a)
    both (inr never) (inr none) = inr (λ a. elim (any_cases P x xs a) [ inl p ↦ never p | inr r ↦ none r ])

decide_near : (row team : ℕ) (lo hi : ℤ) (g : Strip) → IsNear row team lo hi g ⊎ (IsNear row team lo hi g → ⊥)
decide_near row team lo hi g = elim (eqb_tells g.row row) [
  | inr apart ↦ inr (λ near. apart.1 near.in_row)
  | inl same ↦ elim (eqb_tells g.team team) [
    | inr apart ↦ inr (λ near. apart.1 near.of_team)
    | inl also ↦ elim right [
      | inr over ↦ inr (λ near. let h = near.right in omega (arith, ints, over, h))
      | inl r ↦ elim left [
        | inr over ↦ inr (λ near. let h = near.left in omega (arith, ints, over, h))
        | inl l ↦ inl record { in_row = same.1; of_team = also.1; right = r; left = l }
      ]
    ]
  ]
]
  where
    right : (lo <ℤ g.area.x2) ⊎ (g.area.x2 ≤ℤ lo)
    right = grind (arith, ints)

    left : (g.area.x1 <ℤ hi) ⊎ (hi ≤ℤ g.area.x1)
    left = grind (arith, ints)

pub decide_reached : (xs : List Strip) (run : List RowEntry) (team : ℕ) (rect : Rect) (n : ℕ) → n < length xs →
    IsReached xs run team rect n ⊎ (IsReached xs run team rect n → ⊥)
decide_reached xs run team rect n within = elim (decide_any P decide run) [ inl a ↦ inl (within, a) | inr none ↦ inr (λ r. none r.1) ]
  where
    P : RowEntry → Type 0
    P r = (d : Strip) → IsNear r.row team rect.x1 rect.x2 (get_or xs n d)

    decide : (r : RowEntry) → P r ⊎ (P r → ⊥)
    decide r = elim (decide_near r.row team rect.x1 rect.x2 (get_or xs n no_strip)) [
      | inl near ↦ inl (λ d. subst (IsNear r.row team rect.x1 rect.x2) (get_or_default xs n no_strip d within) near)
      | inr not ↦ inr (λ all. not (all no_strip))
    ]

pub not_of_team : (xs : List Strip) (run : List RowEntry) (team : ℕ) (rect : Rect) (n : ℕ) (d : Strip) → ((get_or xs n d).team ≡ team → ⊥) →
    IsReached xs run team rect n → ⊥
not_of_team xs run team rect n d other (within, (k, r, below, is, near)) = other (near d).of_team

-- if one team's boxes change, only the marks of its strips do
pub mark_lists_of_team : (xs : List Strip) (boxes : List (List (Option Rect))) (team : ℕ) (cells : List (Option Rect)) (mark_lists new : List StripMarks) →
    team < length boxes →
    length new ≡ length mark_lists → ShowAllBoxes xs boxes mark_lists →
    ((n : ℕ) (d : Strip) (e : StripMarks) → n < length xs → (get_or xs n d).team ≡ team → IsMarked (get_or boxes team []) (get_or xs n d).area (get_or mark_lists n e) →
    IsMarked cells (get_or xs n d).area (get_or new n e)) →
    ((n : ℕ) (d : Strip) (e : StripMarks) → n < length xs → ((get_or xs n d).team ≡ team → ⊥) → get_or new n e ≡ get_or mark_lists n e) →
    ShowAllBoxes xs (set boxes team cells) new
mark_lists_of_team xs boxes team cells mark_lists new has many old own others = record {
  many = many ∙ old.many;
  each = λ n d e within.
      let g : Strip = get_or xs n d in
      let mark_list = old.each n d e within in
      elim (eqb_tells g.team team) [
        | inl same ↦
            let At : ℕ → Type 0 = λ t. IsMarked (get_or boxes t []) g.area (get_or mark_lists n e) in
            let Here : ℕ → Type 0 = λ t. IsMarked (get_or (set boxes team cells) t []) g.area (get_or new n e) in
            subst Here (sym same.1)
            (subst (λ (cs : List (Option Rect)). IsMarked cs g.area (get_or new n e)) (sym (get_or-set_same boxes team cells [] has))
            (own n d e within same.1 (subst At same.1 mark_list)))
        | inr apart ↦
            subst (λ (cs : List (Option Rect)). IsMarked cs g.area (get_or new n e)) (sym (get_or-set_other boxes team g.team cells [] apart.1))
            (subst (IsMarked (get_or boxes g.team []) g.area) (sym (others n d e within apart.1)) mark_list)
      ];
}

-- the marks after the cell's are removed from the strips that the old box reaches
pub mark_lists_out : (s : FrameIndexView) (boxes : List (List (Option Rect))) (team own : ℕ) (rect : Rect) (run : List RowEntry) (mark_lists new : List StripMarks) → All (IsInWidened s.rows s.height) s.strips →
    AreRowsNear s.rows s.height rect run → team < length boxes → own < length (get_or boxes team []) → (cell_box (get_or boxes team []) own ≡ None) ⊎ (cell_box (get_or boxes team []) own ≡ Some rect) →
    ShowAllBoxes s.strips boxes mark_lists → AreChanged (IsReached s.strips run team rect) (λ n. IsUnmarked own) mark_lists new →
    ShowAllBoxes s.strips (set boxes team (set (get_or boxes team []) own None)) new
mark_lists_out s boxes team own rect run mark_lists new strips rows has_team has at old changed =
    mark_lists_of_team s.strips boxes team (set cells own None) mark_lists new has_team changed.many old each
    (λ n d e within other. changed.others n e (inside n within) (not_of_team s.strips run team rect n d other))
  where
    cells : List (Option Rect)
    cells = get_or boxes team []

    inside : (n : ℕ) → n < length s.strips → n < length mark_lists
    inside n within = let m = old.many in omega (arith, m, within)

    same_rect : (r : Rect) → ◌≡◌ {A = Option Rect} (Some rect) (Some r) → r ≡ rect
    same_rect r e = cc

    each : (n : ℕ) (d : Strip) (e : StripMarks) → n < length s.strips → (get_or s.strips n d).team ≡ team →
        IsMarked cells (get_or s.strips n d).area (get_or mark_lists n e) → IsMarked (set cells own None) (get_or s.strips n d).area (get_or new n e)
    each n d e within of_team mark_list = elim (decide_reached s.strips run team rect n within) [
      | inl reached ↦ marked_pruned cells (get_or s.strips n d).area own (get_or mark_lists n e) (get_or new n e) has mark_list (changed.chosen n e
          (inside n within) reached)
      | inr never ↦
          subst (IsMarked (set cells own None) (get_or s.strips n d).area) (sym (changed.others n e (inside n within) never))
          (marked_beside cells (get_or s.strips n d).area own None (get_or mark_lists n e) has
          (λ x y lies. elim at [
            | inl none ↦ none_is_not_some lies.box (sym none ∙ lies.is)
            | inr is ↦ never (point_is_reached s rect run team n d x y strips rows within of_team lies.in_area
                (subst (λ (q : Rect). Covers q x y) (same_rect lies.box (sym is ∙ lies.is)) lies.in_box))
          ])
          (λ r x y same a b. nothing r same) mark_list)
    ]
      where
        nothing : (r : Rect) → ◌≡◌ {A = Option Rect} None (Some r) → ⊥
        nothing r same = cc

-- the marks after the parts of the new box are added in the strips that it reaches
pub mark_lists_in : (s : FrameIndexView) (boxes : List (List (Option Rect))) (team own : ℕ) (rect : Rect) (run : List RowEntry) (mark_lists new : List StripMarks) → All (IsInWidened s.rows s.height) s.strips →
    AreRowsNear s.rows s.height rect run → team < length boxes → own < length (get_or boxes team []) → cell_box (get_or boxes team []) own ≡ None →
    ShowAllBoxes s.strips boxes mark_lists → AreChanged (IsReached s.strips run team rect) (PutsIn s.strips own rect) mark_lists new →
    ShowAllBoxes s.strips (set boxes team (set (get_or boxes team []) own (Some rect))) new
mark_lists_in s boxes team own rect run mark_lists new strips rows has_team has is old changed =
    mark_lists_of_team s.strips boxes team (set cells own (Some rect)) mark_lists new has_team changed.many old each
    (λ n d e within other. changed.others n e (inside n within) (not_of_team s.strips run team rect n d other))
  where
    cells : List (Option Rect)
    cells = get_or boxes team []

    inside : (n : ℕ) → n < length s.strips → n < length mark_lists
    inside n within = let m = old.many in omega (arith, m, within)

    nothing : (r : Rect) → ◌≡◌ {A = Option Rect} None (Some r) → ⊥
    nothing r same = cc

    same_rect : (r : Rect) → ◌≡◌ {A = Option Rect} (Some rect) (Some r) → r ≡ rect
    same_rect r e = cc

    each : (n : ℕ) (d : Strip) (e : StripMarks) → n < length s.strips → (get_or s.strips n d).team ≡ team →
        IsMarked cells (get_or s.strips n d).area (get_or mark_lists n e) → IsMarked (set cells own (Some rect)) (get_or s.strips n d).area (get_or new n e)
    each n d e within of_team mark_list = elim (decide_reached s.strips run team rect n within) [
      | inl reached ↦
          marked_put cells (get_or s.strips n d).area own rect (get_or mark_lists n e)
          (get_or new n e) has is (strips n d within).near mark_list
          (changed.chosen n e (inside n within) reached d)
      | inr never ↦
          subst (IsMarked (set cells own (Some rect)) (get_or s.strips n d).area) (sym (changed.others n e (inside n within) never))
          (marked_beside cells (get_or s.strips n d).area own (Some rect) (get_or mark_lists n e) has (λ x y lies. nothing lies.box (sym is ∙ lies.is))
          (λ r x y same a b. never (point_is_reached s rect run team n d x y strips rows within of_team a (subst (λ (q : Rect). Covers q x y)
          (same_rect r same) b)))
          mark_list)
    ]

-- strips that keep their marks
pub mark_lists_kept : (xs : List Strip) (boxes : List (List (Option Rect))) (old new : List StripMarks) → KeepMarksOf old new → ShowAllBoxes xs boxes old → ShowAllBoxes xs boxes new
mark_lists_kept xs boxes old new kept mark_lists = record {
  many = kept.many ∙ mark_lists.many;
  each = λ n d e within.
      marked_kept _ _ (get_or old n e) (get_or new n e) (mark_lists.each n d e within) (kept.each n e (let m = mark_lists.many in omega (arith, m, within)));
}

-- the entries of strips that show their boxes are in order
pub mark_lists_orderly : (xs : List Strip) (boxes : List (List (Option Rect))) (mark_lists : List StripView) → AreShown xs boxes mark_lists → AreOrderly xs mark_lists
mark_lists_orderly xs boxes mark_lists l = record {
  many = l.many;
  each = λ n e within. (l.each n no_strip e within).orderly;
  inside = λ n d e within. (l.each n d e within).inside;
}

-- the marks of each strip are in order
pub mark_lists_rise : (xs : List Strip) (boxes : List (List (Option Rect))) (mark_lists : List StripMarks) → ShowAllBoxes xs boxes mark_lists → All (λ l. AreRising l.marks.items) mark_lists
mark_lists_rise xs boxes mark_lists l n e within =
    let many = l.many in marks_rise _ _ (get_or mark_lists n e) (l.each n no_strip e (omega (arith, many, within)))

pub rising_kept : (old new : List StripMarks) → KeepMarksOf old new → All (λ l. AreRising l.marks.items) old → All (λ l. AreRising l.marks.items) new
rising_kept old new kept rising n e within =
    let many = kept.many in
    let inner : n < length old = omega (arith, many, within) in
    subst AreRising (sym (kept.each n e inner).marks) (rising n e inner)

-- elements that differ in a list differ in its parts
pub once_in_run : (s : FrameIndexView) (rect : Rect) (run : List RowEntry) → AllPairs (λ a b. a.row ≢ b.row) s.rows → AreRowsNear s.rows s.height rect run →
    AllPairs (λ a b. a.row ≢ b.row) run
once_in_run s rect run once rows i j d less within =
    let front = rows.part.before in
    let whole : AllPairs (λ a b. a.row ≢ b.row) (front ++ (run ++ rows.part.after_it)) =
    subst (λ (es : List RowEntry). AllPairs (λ a b. a.row ≢ b.row) es) rows.part.parts once in
    let long = length-append front (run ++ rows.part.after_it) in
    let longer = length-append run rows.part.after_it in
    let a = get_or-append-add front (run ++ rows.part.after_it) i d ∙ get_or_append_left run rows.part.after_it d i (omega (arith, less, within)) in
    let b = get_or-append-add front (run ++ rows.part.after_it) j d ∙ get_or_append_left run rows.part.after_it d j within in
    λ same. whole (length front + i) (length front + j) d (omega (arith, less)) (omega (arith, long, longer, within))
    (ap (λ (r : RowEntry). r.row) a ∙ same ∙ sym (ap (λ (r : RowEntry). r.row) b))

-- strips whose marks are removed or unchanged keep their capacity
pub rooms_out : (xs : List Strip) (run : List RowEntry) (team own : ℕ) (rect : Rect) (mark_lists new : List StripMarks) → length mark_lists ≡ length xs →
    AreChanged (IsReached xs run team rect) (λ n. IsUnmarked own) mark_lists new → capacities_in new ≡ capacities_in mark_lists
rooms_out xs run team own rect mark_lists new many changed = maps_alike (λ (l : StripMarks). vec_capacity l.marks) new mark_lists changed.many each
  where
    each : (n : ℕ) (e : StripMarks) → n < length mark_lists → vec_capacity (get_or new n e).marks ≡ vec_capacity (get_or mark_lists n e).marks
    each n e within = elim (decide_reached xs run team rect n (omega (arith, within, many))) [
      | inl reached ↦ (changed.chosen n e within reached).room
      | inr never ↦ ap (λ (l : StripMarks). vec_capacity l.marks) (changed.others n e within never)
    ]

pub order_of : (n m : ℕ) → (n < m) ⊎ (m ≤ n)
order_of n m = grind arith

-- strips that get marks of a box keep their capacity
pub rooms_put : (xs : List Strip) (run : List RowEntry) (team own : ℕ) (rect : Rect) (mark_lists new : List StripMarks) → length mark_lists ≡ length xs →
    AreChanged (IsReached xs run team rect) (PutsIn xs own rect) mark_lists new → capacities_in new ≡ capacities_in mark_lists
rooms_put xs run team own rect mark_lists new many changed = maps_alike (λ (l : StripMarks). vec_capacity l.marks) new mark_lists changed.many each
  where
    each : (n : ℕ) (e : StripMarks) → n < length mark_lists → vec_capacity (get_or new n e).marks ≡ vec_capacity (get_or mark_lists n e).marks
    each n e within = elim (decide_reached xs run team rect n (omega (arith, within, many))) [
      | inl reached ↦ elim (changed.chosen n e within reached no_strip) [
        | inl both ↦ both.1.joined.room
        | inr same ↦ ap (λ (l : StripMarks). vec_capacity l.marks) same.1
      ]
      | inr never ↦ ap (λ (l : StripMarks). vec_capacity l.marks) (changed.others n e within never)
    ]

-- a reached strip takes the part of the box if the strips that share a point with the box have room
pub takes_parts : (xs : List Strip) (team : ℕ) (rect : Rect) (run : List RowEntry) (mark_lists : List StripMarks) → length mark_lists ≡ length xs →
    All (λ l. AreRising l.marks.items) mark_lists → HaveRoom (OverlapsStrip xs team rect) 1 mark_lists → CanTake xs rect (IsReached xs run team rect) mark_lists
takes_parts xs team rect run mark_lists many rising room n d e (within, (k, r, below, at, near)) = record {
  order = rising n e (omega (arith, many, within));
  room = λ whole.
      let part : Rect = part_in (get_or xs n d).area rect in
      let is = part_is (get_or xs n d).area rect part refl refl refl refl in
      let both = (is.points part.x1 part.y1).0
      record { left = omega (arith, ints); right = whole.wide; bottom = omega (arith, ints); top = whole.high } in
      let does_overlap : OverlapsStrip xs team rect n =
      subst (λ (found : Option Strip). IsSomeAnd found (λ g. (g.team ≡ team) × SharesPoint g.area rect)) (sym (slice_get-get_or xs n d within))
      ((near d).of_team, record { x = part.x1; y = part.y1; in_first = both.0; in_second = both.1 }) in
      let h = room n e does_overlap in
      omega (arith, h);
}

-- the strips that share a point with the box have room if the reached strips have room
pub room_of_overlapped : (s : FrameIndexView) (team : ℕ) (rect : Rect) (run : List RowEntry) (more : ℕ) (mark_lists : List StripMarks) → All (IsInWidened s.rows s.height) s.strips →
    AreRowsNear s.rows s.height rect run → HaveRoom (IsReached s.strips run team rect) more mark_lists →
    HaveRoom (OverlapsStrip s.strips team rect) more mark_lists
room_of_overlapped s team rect run more mark_lists strips rows room n e does_overlap = elim (order_of n (length s.strips)) [
  | inl within ↦
      let m = subst (λ (found : Option Strip). IsSomeAnd found (λ g. (g.team ≡ team) × SharesPoint g.area rect))
      (slice_get-get_or s.strips n no_strip within) does_overlap in
      room n e (point_is_reached s rect run team n no_strip m.1.x m.1.y strips rows within m.0 m.1.in_first m.1.in_second)
  | inr past ↦ absurd (subst (λ (found : Option Strip). IsSomeAnd found (λ g. (g.team ≡ team) × SharesPoint g.area rect))
      (slice_get_past s.strips n past) does_overlap)
]

-- room that was reserved stays
pub room_stays : (xs : List Strip) (team : ℕ) (rect : Rect) (more : ℕ) (old new : List StripMarks) → length old ≡ length xs → KeepMarksOf old new →
    HaveRoom (OverlapsStrip xs team rect) more old → HaveRoom (OverlapsStrip xs team rect) more new
room_stays xs team rect more old new many kept room n e does_overlap = elim (order_of n (length xs)) [
  | inl within ↦ room_kept more (get_or old n e) (get_or new n e) (kept.each n e (omega (arith, within, many))) (room n e does_overlap)
  | inr past ↦ absurd (subst (λ (found : Option Strip). IsSomeAnd found (λ g. (g.team ≡ team) × SharesPoint g.area rect))
      (slice_get_past xs n past) does_overlap)
]

pub move_stays : (xs : List Strip) (team : ℕ) (to : Option Rect) (more : ℕ) (old new : List StripMarks) → length old ≡ length xs → KeepMarksOf old new →
    IfSome to (λ rect. HaveRoom (OverlapsStrip xs team rect) more old) → IfSome to (λ rect. HaveRoom (OverlapsStrip xs team rect) more new)
move_stays xs team None more old new many kept room = tt
move_stays xs team (Some rect) more old new many kept room = room_stays xs team rect more old new many kept room

-- lists with the same capacities have the same length
pub many_still : (old new : List StripMarks) → capacities_in new ≡ capacities_in old → length new ≡ length old
many_still old new rooms =
    sym (length-map new (λ (l : StripMarks). vec_capacity l.marks)) ∙ ap (λ (ns : List ℕ). length ns) rooms ∙ length-map old (λ (l : StripMarks). vec_capacity l.marks)

-- strips that keep their marks have no less room
pub rooms_kept : (old new : List StripMarks) → KeepMarksOf old new → KeepsCapacities (capacities_in old) (capacities_in new)
rooms_kept old new kept = record {
  many = length-map new (λ (l : StripMarks). vec_capacity l.marks) ∙ kept.many ∙ sym (length-map old (λ (l : StripMarks). vec_capacity l.marks));
  each = λ n. elim (order_of n (length old)) [
    | inl within ↦
        let many = kept.many in
        let e = some_mark_list old n within in
        let a = get_or-map (λ (l : StripMarks). vec_capacity l.marks) old n e 0 within in
        let b = get_or-map (λ (l : StripMarks). vec_capacity l.marks) new n e 0 (omega (arith, within, many)) in
        let h = (kept.each n e within).room in
        omega (arith, a, b, h)
    | inr past ↦
        let long = length-map old (λ (l : StripMarks). vec_capacity l.marks) in
        let a = get_or_past (map (λ (l : StripMarks). vec_capacity l.marks) old) n 0 (omega (arith, past, long)) in
        omega (arith, a)
  ];
}
