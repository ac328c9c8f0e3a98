-- How the counts of strips change if a cell's box is at another place.
use Rattle.std.proofs.Common.{◌≡◌, ◌≢◌, ◌⊎◌, inl, inr, ℕ, zero, suc, ◌+◌, ◌<◌, ◌≤◌, ℤ, Bool, true, false, List, [], ◌∷◌, Option, Some, None, length, get_or, set, map, refl, sym, ap, subst, ◌∙◌, arith}
use Rattle.std.specs.Prelude.{All, slice_get}
use Rattle.std.specs.Vec.{vec_capacity, vec_len}
use Rattle.std.specs.Int.{int_max, int_min}
use Rattle.std.proofs.lemmas.Bool.Decides.{eqb_tells}
use Rattle.std.proofs.lemmas.List.{get_or-set_same, get_or-set_other, get_or_past, get_or-map, length-map, length-set, map-set}
use Rattle.std.proofs.lemmas.Option.{get_or_from_slice_get, slice_get_within}
use Rattle.std.proofs.lemmas.Int.{ints, clamps}
use Rattle.lf_units.specs.Area.{Covers}
use Rattle.lf_units.specs.declared.geometry.Rect.{Rect}
use Rattle.lf_segments.specs.declared.rows_by_y.RowEntry.{RowEntry}
use Rattle.lf_segments.specs.declared.strip.Strip.{Strip}
use Rattle.lf_segments.specs.Indexes.{FrameIndexView}
use Rattle.lf_segments.specs.Strips.{AreRowsNear}
use Rattle.lf_occupancy.specs.declared.strip_marks.StripMarks.{StripMarks}
use Rattle.lf_occupancy.specs.MarkLists.{HasPoints, part_in}
use Rattle.lf_occupancy.specs.Views.{Bounds, KeepsCapacities, Occupied, cell_box, count_in, widened, does_overlap, reach}
use Rattle.lf_occupancy.specs.Strips.{AreChanged, IsReached, capacities_in}
use Rattle.lf_occupancy.specs.declared.strip_counts.BoxChange.{BoxChange}
use Rattle.lf_occupancy.specs.StripCounting.{AreShifted, IsHigher, IsLess, IsLessAt, IsLower, IsMore, IsShifted, IsShiftedAt, hull_in}
use Rattle.lf_occupancy.proofs.Around.{IsInWidened}
use Rattle.lf_occupancy.proofs.Changes.{some_mark_list}
use Rattle.lf_occupancy.proofs.Counting.{both_are, overlaps_shares, of_less, one_if, one_more}
use Rattle.lf_occupancy.proofs.Finds.{no_strip}
use Rattle.lf_occupancy.proofs.Lists.{made_at}
use Rattle.lf_occupancy.proofs.Reaching.{decide_reached, not_of_team, order_of, point_is_reached}
use Rattle.lf_occupancy.proofs.Views.{felts}

-- one box in place of another: the new one is counted, and the old one is not
pub set_counts : (g : Strip) (boxes : List (Option Rect)) (own : ℕ) (to : Option Rect) →
    (count_in g (set boxes own to) + count_in g (cell_box boxes own ∷ [])) ≤ count_in g boxes + count_in g (to ∷ [])
set_counts g [] own to =
    let none = one_more g None [] in
    omega (arith, none)
set_counts g (b ∷ bs) zero to =
    let after = one_more g to bs in
    let before = one_more g b bs in
    let here = one_more g b [] in
    let there = one_more g to [] in
    omega (arith, after, before, here, there)
set_counts g (b ∷ bs) (suc own) to =
    let rest = set_counts g bs own to in
    let after = one_more g b (set bs own to) in
    let before = one_more g b bs in
    omega (arith, rest, after, before)

-- a box is counted once or not at all
yes_or_no : (b : Bool) → (b ≡ true) ⊎ (b ≡ false)
yes_or_no true = inl refl
yes_or_no false = inr refl

counted : (g : Strip) (box : Option Rect) → does_overlap g box ≡ true → count_in g (box ∷ []) ≡ 1
counted g box it_does = one_more g box [] ∙ ap (λ (b : Bool). one_if b + 0) it_does

not_counted : (g : Strip) (box : Option Rect) → does_overlap g box ≡ false → count_in g (box ∷ []) ≡ 0
not_counted g box it_does_not = one_more g box [] ∙ ap (λ (b : Bool). one_if b + 0) it_does_not

not_whole : (g : Strip) (rect : Rect) → does_overlap g (Some rect) ≡ false → HasPoints (part_in g.area rect) → ⊥
not_whole g rect it_does_not whole = clash (does_overlap g (Some rect)) (both_are _ _ (of_less _ _ whole.wide) (of_less _ _ whole.high)) it_does_not
  where
    clash : (b : Bool) → b ≡ true → b ≡ false → ⊥
    clash b a_yes a_no = cc

-- a strip counts one less if it overlaps the box
less_counts : (g : Strip) (rect : Rect) (old new : ℕ) → IsLess g.area rect old new → old ≤ new + count_in g (Some rect ∷ [])
less_counts g rect old new less = elim (yes_or_no (does_overlap g (Some rect))) [
  | inl it_does ↦ let one = counted g (Some rect) it_does in let least = less.least in omega (arith, one, least)
  | inr it_does_not ↦ let same = less.same (not_whole g rect it_does_not) in omega (arith, same)
]

-- a number past the end of both lists
past_both : (old new : List ℕ) (n : ℕ) → length new ≡ length old → length old ≤ n → get_or new n 0 ≡ get_or old n 0
past_both old new n many past = get_or_past new n 0 (omega (arith, many, past)) ∙ sym (get_or_past old n 0 past)

pub lower_of_reached : (xs : List Strip) (rows : List RowEntry) (team : ℕ) (rect : Rect) (old new : List ℕ) → length old ≡ length xs →
    AreChanged (IsReached xs rows team rect) (IsLessAt xs rect) old new → IsLower xs team (Some rect) old new
lower_of_reached xs rows team rect old new many changed = record {
  many = changed.many;
  most = λ n. elim (order_of n (length old)) [
    | inl within ↦ elim (decide_reached xs rows team rect n (omega (arith, within, many))) [
      | inl reached ↦ (changed.chosen n 0 within reached no_strip).most
      | inr never ↦ let same = changed.others n 0 within never in omega (arith, same)
    ]
    | inr past ↦ let same = past_both old new n changed.many past in omega (arith, same)
  ];
  least = λ n d within. elim (decide_reached xs rows team rect n within) [
    | inl reached ↦ less_counts (get_or xs n d) rect (get_or old n 0) (get_or new n 0) (changed.chosen n 0 (omega (arith, within, many)) reached d)
    | inr never ↦ let same = changed.others n 0 (omega (arith, within, many)) never in omega (arith, same)
  ];
  others = λ n d within other. changed.others n 0 (omega (arith, within, many)) (not_of_team xs rows team rect n d other);
}

pub higher_of_reached : (s : FrameIndexView) (rows : List RowEntry) (team : ℕ) (rect : Rect) (old new : List ℕ) → All (IsInWidened s.rows s.height) s.strips →
    AreRowsNear s.rows s.height rect rows → length old ≡ length s.strips → AreChanged (IsReached s.strips rows team rect) IsMore old new →
    IsHigher s.strips team (Some rect) old new
higher_of_reached s rows team rect old new strips near many changed = record { many = changed.many; least = least; more = more } where
  xs : List Strip
  xs = s.strips

  least : (n : ℕ) → get_or old n 0 ≤ get_or new n 0
  least n = elim (order_of n (length old)) [
    | inl within ↦ elim (decide_reached xs rows team rect n (omega (arith, within, many))) [
      | inl reached ↦ let one = changed.chosen n 0 within reached in omega (arith, one)
      | inr never ↦ let same = changed.others n 0 within never in omega (arith, same)
    ]
    | inr past ↦ let same = past_both old new n changed.many past in omega (arith, same)
  ]

  more : (n : ℕ) (d : Strip) → n < length xs → (get_or xs n d).team ≡ team →
      (get_or old n 0 + count_in (get_or xs n d) (Some rect ∷ [])) ≤ get_or new n 0
  more n d within of_team = elim (yes_or_no (does_overlap (get_or xs n d) (Some rect))) [
    | inl it_does ↦
        let shares = overlaps_shares (get_or xs n d) rect it_does in
        let reached = point_is_reached s rect rows team n d shares.x shares.y strips near within of_team shares.in_first shares.in_second in
        let next = changed.chosen n 0 (omega (arith, within, many)) reached in
        let one = counted (get_or xs n d) (Some rect) it_does in
        omega (arith, next, one)
    | inr it_does_not ↦
        let none = not_counted (get_or xs n d) (Some rect) it_does_not in
        let h = least n in
        omega (arith, none, h)
  ]

-- the count after one box is counted in place of the other
shift_counts : (g : Strip) (shift : BoxChange) (old new : ℕ) → IsShifted g.area shift old new →
    (old + count_in g (Some shift.to ∷ [])) ≤ new + count_in g (Some shift.from ∷ [])
shift_counts g shift old new s = elim (yes_or_no (does_overlap g (Some shift.to))) [
  | inl goes ↦
      let one = counted g (Some shift.to) goes in
      elim (yes_or_no (does_overlap g (Some shift.from))) [
        | inl original_place ↦ let here = counted g (Some shift.from) original_place in let most = s.goes (whole_of g shift.to goes) in omega (arith, one, here, most)
        | inr none ↦ let more = s.more (not_whole g shift.from none) (whole_of g shift.to goes) in omega (arith, one, more)
      ]
  | inr away ↦
      let zero_there = not_counted g (Some shift.to) away in
      elim (yes_or_no (does_overlap g (Some shift.from))) [
        | inl original_place ↦ let here = counted g (Some shift.from) original_place in let least = s.least in omega (arith, zero_there, here, least)
        | inr none ↦ let same = s.stays (not_whole g shift.from none) in omega (arith, zero_there, same)
      ]
]
  where
    whole_of : (g : Strip) (rect : Rect) → does_overlap g (Some rect) ≡ true → HasPoints (part_in g.area rect)
    whole_of g rect it_does =
        let shares = overlaps_shares g rect it_does in
        let a = shares.in_first in
        let b = shares.in_second in
        let l = a.left in
        let m = b.left in
        let n = a.right in
        let o = b.right in
        let p = a.bottom in
        let q = b.bottom in
        let t = a.top in
        let u = b.top in
        record { wide = omega (arith, ints, clamps, l, m, n, o); high = omega (arith, ints, clamps, p, q, t, u) }

-- a rectangle with these edges is the least one that holds both boxes
pub hull_same : (shift : BoxChange) (r : Rect) → r.x1 ≡ int_min shift.from.x1 shift.to.x1 → r.y1 ≡ int_min shift.from.y1 shift.to.y1 →
    r.x2 ≡ int_max shift.from.x2 shift.to.x2 → r.y2 ≡ int_max shift.from.y2 shift.to.y2 → r ≡ hull_in shift
hull_same shift r a b c d =
    ap (λ (v : ℤ). rect_at v r.y1 r.x2 r.y2) a
    ∙ ap (λ (v : ℤ). rect_at (int_min shift.from.x1 shift.to.x1) v r.x2 r.y2) b
    ∙ ap (λ (v : ℤ). rect_at (int_min shift.from.x1 shift.to.x1) (int_min shift.from.y1 shift.to.y1) v r.y2) c
    ∙ ap (λ (v : ℤ). rect_at (int_min shift.from.x1 shift.to.x1) (int_min shift.from.y1 shift.to.y1) (int_max shift.from.x2 shift.to.x2) v) d
  where
    rect_at : ℤ → ℤ → ℤ → ℤ → Rect
    rect_at x1 y1 x2 y2 = record { x1 = x1; y1 = y1; x2 = x2; y2 = y2 }

-- the points of the new box lie in the rectangle that holds both
in_hull : (shift : BoxChange) (x y : ℤ) → Covers shift.to x y → Covers (hull_in shift) x y
in_hull shift x y c =
    let l = c.left in
    let r = c.right in
    let b = c.bottom in
    let t = c.top in
    record {
      left = omega (arith, ints, clamps, l);
      right = omega (arith, ints, clamps, r);
      bottom = omega (arith, ints, clamps, b);
      top = omega (arith, ints, clamps, t);
    }

pub shifted_of_reached : (s : FrameIndexView) (rows : List RowEntry) (team : ℕ) (shift : BoxChange) (old new : List ℕ) → All (IsInWidened s.rows s.height) s.strips →
    AreRowsNear s.rows s.height (hull_in shift) rows → length old ≡ length s.strips →
    AreChanged (IsReached s.strips rows team (hull_in shift)) (IsShiftedAt s.strips shift) old new → AreShifted s.strips team shift old new
shifted_of_reached s rows team shift old new strips near many changed = record {
  many = changed.many;
  own = own;
  others = λ n d within other. changed.others n 0 (omega (arith, within, many)) (not_of_team s.strips rows team (hull_in shift) n d other);
}
  where
    xs : List Strip
    xs = s.strips

    own : (n : ℕ) (d : Strip) → n < length xs → (get_or xs n d).team ≡ team →
        (get_or old n 0 + count_in (get_or xs n d) (Some shift.to ∷ [])) ≤ get_or new n 0 + count_in (get_or xs n d) (Some shift.from ∷ [])
    own n d within of_team = elim (decide_reached xs rows team (hull_in shift) n within) [
      | inl reached ↦
          shift_counts (get_or xs n d) shift (get_or old n 0) (get_or new n 0) (changed.chosen n 0 (omega (arith, within, many)) reached d)
      | inr never ↦
          let same = changed.others n 0 (omega (arith, within, many)) never in
          elim (yes_or_no (does_overlap (get_or xs n d) (Some shift.to))) [
            | inl goes ↦
                let shares = overlaps_shares (get_or xs n d) shift.to goes in
                absurd (never (point_is_reached s (hull_in shift) rows team n d shares.x shares.y strips near within of_team shares.in_first
                (in_hull shift shares.x shares.y shares.in_second)))
            | inr away ↦ let none = not_counted (get_or xs n d) (Some shift.to) away in omega (arith, same, none)
          ]
    ]

-- the counts of two strips next to each other
no_less_set : (xs ys : List ℕ) (k x y : ℕ) → k < length xs → x ≤ y → KeepsCapacities xs ys → KeepsCapacities (set xs k x) (set ys k y)
no_less_set xs ys k x y within less all = record {
  many = length-set ys k y ∙ all.many ∙ sym (length-set xs k x);
  each = λ n. elim (eqb_tells n k) [
    | inl same ↦
        let many = all.many in
        let a : get_or (set xs k x) n 0 ≡ x = ap (λ (m : ℕ). get_or (set xs k x) m 0) same.1 ∙ get_or-set_same xs k x 0 within in
        let b : get_or (set ys k y) n 0 ≡ y = ap (λ (m : ℕ). get_or (set ys k y) m 0) same.1 ∙ get_or-set_same ys k y 0 (omega (arith, within, many)) in
        omega (arith, a, b, less)
    | inr apart ↦
        let a = get_or-set_other xs k n x 0 apart.1 in
        let b = get_or-set_other ys k n y 0 apart.1 in
        let h = all.each n in
        omega (arith, a, b, h)
  ];
}

-- a strip counts more, and has room for that
pub room_for_more : (counts : List ℕ) (mark_lists : List StripMarks) (k count : ℕ) (mark_list : StripMarks) → k < length counts → count ≤ vec_capacity mark_list.marks →
    KeepsCapacities counts (capacities_in mark_lists) → KeepsCapacities (set counts k count) (capacities_in (set mark_lists k mark_list))
room_for_more counts mark_lists k count mark_list within most room =
    subst (KeepsCapacities (set counts k count)) (sym (map-set (λ (l : StripMarks). vec_capacity l.marks) mark_lists k mark_list))
    (no_less_set counts (capacities_in mark_lists) k count (vec_capacity mark_list.marks) within most room)

-- counts that are lowered for one box and raised for another bound the boxes with the new one
pub bounds_own : (o : Occupied) (team : ℕ) (boxes : List (Option Rect)) (own : ℕ) (from to : Option Rect) (old mid new : List ℕ) → cell_box boxes own ≡ from →
    IsLower (felts o) team from old mid → IsHigher (felts o) team to mid new → Bounds o team boxes old → Bounds o team (set boxes own to) new
bounds_own o team boxes own from to old mid new is lower higher bounds = λ n g at of_team.
    let around : Strip = widened (reach o) g in
    let there : slice_get (felts o) n ≡ Some around = made_at (widened (reach o)) o.index.strips n g at in
    let within : n < length (felts o) = slice_get_within (felts o) n around there in
    let here : get_or (felts o) n around ≡ around = get_or_from_slice_get (felts o) n around around there in
    let less = subst (λ (x : Strip). get_or old n 0 ≤ get_or mid n 0 + count_in x (from ∷ [])) here (lower.least n around within) in
    let more = subst (λ (x : Strip). (get_or mid n 0 + count_in x (to ∷ [])) ≤ get_or new n 0) here
    (higher.more n around within (ap (λ (x : Strip). x.team) here ∙ of_team)) in
    let moved = subst (λ (b : Option Rect). (count_in around (set boxes own to) + count_in around (b ∷ [])) ≤ count_in around boxes + count_in around (to ∷ []))
    is (set_counts around boxes own to) in
    let before = bounds n g at of_team in
    omega (arith, less, more, moved, before)

-- counts that bound another team's boxes still do
pub bounds_other : (o : Occupied) (team other : ℕ) (boxes : List (Option Rect)) (from to : Option Rect) (old mid new : List ℕ) → other ≢ team →
    IsLower (felts o) team from old mid → IsHigher (felts o) team to mid new → Bounds o other boxes old → Bounds o other boxes new
bounds_other o team other boxes from to old mid new differ lower higher bounds = λ n g at of_team.
    let around : Strip = widened (reach o) g in
    let there : slice_get (felts o) n ≡ Some around = made_at (widened (reach o)) o.index.strips n g at in
    let within : n < length (felts o) = slice_get_within (felts o) n around there in
    let here : get_or (felts o) n around ≡ around = get_or_from_slice_get (felts o) n around around there in
    let same = lower.others n around within (λ is. differ (sym of_team ∙ sym (ap (λ (x : Strip). x.team) here) ∙ is)) in
    let more = higher.least n in
    let before = bounds n g at of_team in
    omega (arith, same, more, before)

-- counts with one box in place of another bound the boxes with the new one
pub bounds_shifted : (o : Occupied) (team : ℕ) (boxes : List (Option Rect)) (own : ℕ) (shift : BoxChange) (old new : List ℕ) → cell_box boxes own ≡ Some shift.from →
    AreShifted (felts o) team shift old new → Bounds o team boxes old → Bounds o team (set boxes own (Some shift.to)) new
bounds_shifted o team boxes own shift old new is shifted bounds = λ n g at of_team.
    let around : Strip = widened (reach o) g in
    let there : slice_get (felts o) n ≡ Some around = made_at (widened (reach o)) o.index.strips n g at in
    let within : n < length (felts o) = slice_get_within (felts o) n around there in
    let here : get_or (felts o) n around ≡ around = get_or_from_slice_get (felts o) n around around there in
    let more = subst (λ (x : Strip). (get_or old n 0 + count_in x (Some shift.to ∷ [])) ≤ get_or new n 0 + count_in x (Some shift.from ∷ [])) here
    (shifted.own n around within (ap (λ (x : Strip). x.team) here ∙ of_team)) in
    let moved = subst (λ (b : Option Rect). (count_in around (set boxes own (Some shift.to)) + count_in around (b ∷ [])) ≤
    count_in around boxes + count_in around (Some shift.to ∷ [])) is (set_counts around boxes own (Some shift.to)) in
    let before = bounds n g at of_team in
    omega (arith, more, moved, before)

-- counts that bound another team's boxes still do
pub bounds_beside : (o : Occupied) (team other : ℕ) (boxes : List (Option Rect)) (shift : BoxChange) (old new : List ℕ) → other ≢ team →
    AreShifted (felts o) team shift old new → Bounds o other boxes old → Bounds o other boxes new
bounds_beside o team other boxes shift old new differ shifted bounds = λ n g at of_team.
    let around : Strip = widened (reach o) g in
    let there : slice_get (felts o) n ≡ Some around = made_at (widened (reach o)) o.index.strips n g at in
    let within : n < length (felts o) = slice_get_within (felts o) n around there in
    let here : get_or (felts o) n around ≡ around = get_or_from_slice_get (felts o) n around around there in
    let same = shifted.others n around within (λ is. differ (sym of_team ∙ sym (ap (λ (x : Strip). x.team) here) ∙ is)) in
    let before = bounds n g at of_team in
    omega (arith, same, before)

-- strips have room for the marks that they have
pub marks_fit : (mark_lists : List StripMarks) → KeepsCapacities (map (λ l. vec_len l.marks) mark_lists) (capacities_in mark_lists)
marks_fit mark_lists = record {
  many = length-map mark_lists (λ (l : StripMarks). vec_capacity l.marks) ∙ sym (length-map mark_lists (λ (l : StripMarks). vec_len l.marks));
  each = λ n. elim (order_of n (length mark_lists)) [
    | inl within ↦
        let e = some_mark_list mark_lists n within in
        let a = get_or-map (λ (l : StripMarks). vec_len l.marks) mark_lists n e 0 within in
        let b = get_or-map (λ (l : StripMarks). vec_capacity l.marks) mark_lists n e 0 within in
        let most = (get_or mark_lists n e).marks.ok.1 in
        omega (arith, a, b, most)
    | inr past ↦
        let long = length-map mark_lists (λ (l : StripMarks). vec_len l.marks) in
        let a = get_or_past (map (λ (l : StripMarks). vec_len l.marks) mark_lists) n 0 (omega (arith, past, long)) in
        omega (arith, a)
  ];
}
