-- The boxes of one number among those near a row, and the points of the row that they determine.
use Rattle.std.proofs.Common.{◌≡◌, ◌⊎◌, inl, inr, ℕ, ℤ, pos, ◌+◌, ◌-◌, ◌<◌, ◌≤◌, ◌≤ℤ◌, ◌<ℤ◌, List, [], length}
use Rattle.std.proofs.Common.{map, get_or, slice_get, take, drop, Option, Some, None, refl, sym, ap, subst, ◌∙◌, arith}
use Rattle.std.specs.Prelude.{◌↔◌, All, Any, Contains, IsPermutation}
use Rattle.std.specs.List.Sorted.{IsNonDecreasingBy}
use Rattle.std.proofs.Math.ListN.{get_or-map}
use Rattle.std.proofs.lemmas.Int.{ints}
use Rattle.std.proofs.lemmas.Option.{slice_get_within}
use Rattle.std.proofs.lemmas.List.{get_or_default, get_or-take, get_or-drop, length-take, length-drop, length-map}
use Rattle.std.proofs.lemmas.List.Elements.{All-contains, All-map, Contains-get_or}
use Rattle.std.proofs.lemmas.List.Sorted.{All-permutation, Contains-permutation, IsPermutation-sym}
use Rattle.lf_units.specs.declared.geometry.Rect.{Rect}
use Rattle.lf_units.specs.Area.{Covers, SharesPoint}
use Rattle.lf_units.proofs.Any.{has_item}
use Rattle.lf_units.specs.declared.span.Span.{Span}
use Rattle.lf_units.specs.declared.placed.Placed.{Placed}
use Rattle.lf_units.specs.Spans.{HoldsNumber, IsFilled, AreDisjoint, LiesInOneOf, IsFree}
use Rattle.lf_floorplan.specs.declared.frame.Frame.{Frame}
use Rattle.lf_floorplan.specs.declared.parts.Row.{Row}
use Rattle.lf_floorplan.specs.Rows.{row_area}
use Rattle.lf_floorplan.specs.Ground.{InGround}
use Rattle.lf_floorplan.proofs.GroundLemmas.{ground_one, ground_there}
use Rattle.lf_segments.specs.Segments.{IsClearAt, IsOpen}
use Rattle.lf_segments.specs.Boxes.{x_extent, IsOverlappedAt, DetermineCover, AreBoxesOf, IsNextGroup, IsCoveredOver, AreClear, AreOpen}

-- ---- the next group of boxes in order of their numbers

pub group_at : (xs ys : List Placed) (least f c : ℕ) (e : Placed) → f ≤ length xs → ys ≡ drop f xs → 0 < length ys → IsNonDecreasingBy (λ p. p.own) ys →
    ((k : ℕ) (d : Placed) → k < f → (get_or xs k d).own < least) → ((k : ℕ) (d : Placed) → f ≤ k → k < length xs → least ≤ (get_or xs k d).own) →
    ((k : ℕ) (d : Placed) → k < c → (get_or ys k d).own ≤ (get_or ys 0 e).own) →
    ((k : ℕ) (d : Placed) → c ≤ k → k < length ys → (get_or ys 0 e).own < (get_or ys k d).own) → IsNextGroup xs least (take c ys)
group_at xs ys least f c e within same some rises below from up_to beyond = record {
  among = λ k d inside.
      let long = length-take c ys in
      let less : k < c = omega (arith, long, inside) in
      let in_ys : k < length ys = omega (arith, long, inside) in
      subst (λ (p : Placed). Contains xs p × (least ≤ p.own)) (sym (get_or-take c ys k d less)) (there k d in_ys);
  one = λ k d inside m g there_too.
      let a : (get_or (take c ys) k d).own ≡ own = number k d inside in
      let b : (get_or (take c ys) m g).own ≡ own = number m g there_too in
      b ∙ sym a;
  others = λ k d inside. elim (first_or k) [
    | inl less ↦ inl (below k d less)
    | inr more ↦
        let place : k ≡ f + (k - f) = omega (arith, more) in
        let in_ys : k - f < length ys = subst (λ (zs : List Placed). k - f < length zs) (sym same)
        (let long = length-drop f xs in omega (arith, long, inside, more)) in
        let At : ℕ → Type 0 = λ m. get_or ys (k - f) d ≡ get_or xs m d in
        let is : get_or ys (k - f) d ≡ get_or xs k d = subst At (sym place) (at_ys (k - f) d) in
        elim (group_or (k - f)) [
          | inl early ↦
              let long = length-take c ys in
              let in_group : k - f < length (take c ys) = omega (arith, long, early, in_ys) in
              let found : Contains (take c ys) (get_or ys (k - f) d) = subst (Contains (take c ys)) (get_or-take c ys (k - f) d early)
              (Contains-get_or (take c ys) (k - f) d in_group) in
              inr (inl (subst (Contains (take c ys)) is found))
          | inr late ↦
              let long = length-take c ys in
              let has_first : 0 < length (take c ys) = omega (arith, long, some, first_counts) in
              let higher : own < (get_or ys (k - f) d).own = beyond (k - f) d late in_ys in
              let higher_there : own < (get_or xs k d).own = subst (λ (p : Placed). own < p.own) is higher in
              let first : (get_or (take c ys) 0 e).own ≡ own = number 0 e has_first in
              inr (inr (has_item (λ q. q.own < (get_or xs k d).own) (take c ys) (get_or (take c ys) 0 e) (Contains-get_or (take c ys) 0 e has_first)
              (omega (arith, first, higher_there))))
        ]
  ];
}
  where
    own : ℕ
    own = (get_or ys 0 e).own

    first_or : (k : ℕ) → (k < f) ⊎ (f ≤ k)
    first_or k = grind arith

    group_or : (k : ℕ) → (k < c) ⊎ (c ≤ k)
    group_or k = grind arith

    first_counts : 0 < c
    first_counts = elim (zero_or c) [ inl none ↦ let high = beyond 0 e (omega (arith, none)) some in omega (arith, high) | inr h ↦ h ]
      where
        zero_or : (n : ℕ) → (n ≡ 0) ⊎ (0 < n)
        zero_or n = grind arith

    at_ys : (k : ℕ) (d : Placed) → get_or ys k d ≡ get_or xs (f + k) d
    at_ys k d = ap (λ (zs : List Placed). get_or zs k d) same ∙ get_or-drop f xs k d

    there : (k : ℕ) (d : Placed) → k < length ys → Contains xs (get_or ys k d) × (least ≤ (get_or ys k d).own)
    there k d in_ys =
        let long = length-drop f xs in
        let whole : k < length (drop f xs) = subst (λ (zs : List Placed). k < length zs) same in_ys in
        let in_xs : f + k < length xs = omega (arith, long, whole) in
        subst (λ (p : Placed). Contains xs p × (least ≤ p.own)) (sym (at_ys k d)) (Contains-get_or xs (f + k) d in_xs, from (f + k) d (omega arith) in_xs)

    number : (k : ℕ) (d : Placed) → k < length (take c ys) → (get_or (take c ys) k d).own ≡ own
    number k d inside =
        let long = length-take c ys in
        let less : k < c = omega (arith, long, inside) in
        let in_ys : k < length ys = omega (arith, long, inside) in
        let high : (get_or ys k d).own ≤ own = up_to k d less in
        let first : (get_or ys 0 d).own ≤ (get_or ys k d).own = rises 0 k d (omega arith) in_ys in
        let low : own ≤ (get_or ys k d).own = subst (λ (p : Placed). p.own ≤ (get_or ys k d).own) (get_or_default ys 0 d e some) first in
        let whole : (get_or ys k d).own ≡ own = omega (arith, high, low) in
        ap (λ (p : Placed). p.own) (get_or-take c ys k d less) ∙ whole

pub none_left : (xs : List Placed) (least f : ℕ) (group : List Placed) → length group ≡ 0 → length xs ≤ f →
    ((k : ℕ) (d : Placed) → k < f → (get_or xs k d).own < least) →
    IsNextGroup xs least group
none_left xs least f group none all below = record {
  among = λ k d inside. absurd (omega (arith, none, inside));
  one = λ k d inside. absurd (omega (arith, none, inside));
  others = λ k d inside. inl (below k d (omega (arith, inside, all)));
}

-- A point lies in boxes of the group's number iff a box of the group covers it.
pub group_overlapped : (near group : List Placed) (least own : ℕ) → IsNextGroup near least group → All (λ p. p.own ≡ own) group → least ≤ own → (x y : ℤ) →
    IsOverlappedAt near own x y ↔ Any (λ p. Covers p.rect x y) group
group_overlapped near group least own g number from x y = (forth, back)
  where
    forth : IsOverlappedAt near own x y → Any (λ p. Covers p.rect x y) group
    forth (k, p, within, is, (same, covers)) =
        let other = All-contains (λ q. (q.own < least) ⊎ (Contains group q ⊎ Any (λ h. h.own < q.own) group)) near p g.others (k, within, is) in
        elim other [
          | inl low ↦ absurd (omega (arith, low, same, from))
          | inr (inl inside) ↦ has_item (λ q. Covers q.rect x y) group p inside covers
          | inr (inr less) ↦
              let at : less.1.own ≡ own = All-contains (λ q. q.own ≡ own) group less.1 number (less.0, less.2, less.3) in
              let lower : less.1.own < p.own = less.4 in
              absurd (omega (arith, at, lower, same))
        ]

    back : Any (λ p. Covers p.rect x y) group → IsOverlappedAt near own x y
    back (k, p, within, is, covers) =
        let there : Contains group p = (k, within, is) in
        let same : p.own ≡ own = All-contains (λ q. q.own ≡ own) group p number there in
        let found = All-contains (λ q. Contains near q × (least ≤ q.own)) group p g.among there in
        has_item (λ q. (q.own ≡ own) × Covers q.rect x y) near p found.0 (same, covers)

-- No box has a number that is not below the least and below the group's.
pub none_overlapped : (near group : List Placed) (least u : ℕ) → IsNextGroup near least group → All (λ p. u < p.own) group → least ≤ u → (x y : ℤ) →
    IsOverlappedAt near u x y → ⊥
none_overlapped near group least u g above from x y (k, p, within, is, (same, covers)) =
    elim (All-contains (λ q. (q.own < least) ⊎ (Contains group q ⊎ Any (λ h. h.own < q.own) group)) near p g.others (k, within, is)) [
      | inl low ↦ omega (arith, low, same, from)
      | inr (inl inside) ↦ let high : u < p.own = All-contains (λ q. u < q.own) group p above inside in omega (arith, high, same)
      | inr (inr less) ↦
          let high : u < less.1.own = All-contains (λ q. u < q.own) group less.1 above (less.0, less.2, less.3) in
          let lower : less.1.own < p.own = less.4 in
          omega (arith, high, lower, same)
    ]

-- ---- the range that boxes leave free

unmapped : (P : Span → Type 0) (boxes : List Placed) → All P (map (λ p. x_extent p.rect) boxes) → All (λ p. P (x_extent p.rect)) boxes
unmapped P boxes all k d within =
    let long = length-map boxes (λ p. x_extent p.rect) in
    subst P (get_or-map (λ (p : Placed). x_extent p.rect) boxes k d) (all k (x_extent d.rect) (omega (arith, long, within)))

-- x lies in the range of the area, and no box covers a point of the area there.
pub record IsBeside (area : Rect) (boxes : List Placed) (x : ℤ) : Type 0 where
  pub left : area.x1 ≤ℤ x
  pub right : x <ℤ area.x2
  pub none : (y : ℤ) → Covers area x y → All (λ p. Covers p.rect x y → ⊥) boxes

pub free_is_beside : (area : Rect) (boxes : List Placed) (free : List Span) → All (λ p. SharesPoint area p.rect) boxes →
    IsFree (x_extent area) (map (λ p. x_extent p.rect) boxes) free → (s : Span) → IsFilled s → LiesInOneOf free s ↔ ((x : ℤ) → HoldsNumber s x → IsBeside area boxes x)
free_is_beside area boxes free near f s g = (
  λ h x holds.
      let both = (f.exact s g).0 h in
      let inside : HoldsNumber (x_extent area) x = both.0 x holds in
      record {
        left = inside.low;
        right = inside.high;
        none = λ y covers k d within over. unmapped (λ t. AreDisjoint s t) boxes both.1 k d within x holds record { low = over.left; high = over.right };
      },
  λ each. (f.exact s g).1 (
    (λ x holds. let b = each x holds in record { low = b.left; high = b.right }),
    All-map (λ t. AreDisjoint s t) (λ (p : Placed). x_extent p.rect) boxes (λ k d within x holds over.
        let b = each x holds in
        let q : SharesPoint area (get_or boxes k d).rect = near k d within in
        let in_area : Covers area x q.y = record { left = b.left; right = b.right; bottom = q.in_first.bottom; top = q.in_first.top } in
        b.none q.y in_area k d within record { left = over.low; right = over.high; bottom = q.in_second.bottom; top = q.in_second.top }),
  ),
)

-- ---- the facts that the boxes near a row determine

pub high_row : (f : Frame) (r : Row) (x : ℤ) → r.x ≤ℤ x → x <ℤ (row_area f.pitch r).x2 → Covers (row_area f.pitch r) x r.y
high_row f r x left right = let up = f.pitch_whole.high in record { left = left; right = right; bottom = omega (arith, ints); top = omega (arith, ints, up) }

pub ground_is_team : (f : Frame) (t : ℕ) (x y : ℤ) → InGround f t x y → t ≤ length f.teams
ground_is_team f t x y g = by (slice_get f.teams t) refl
  where
    by : (o : Option _) → slice_get f.teams t ≡ o → t ≤ length f.teams
    by (Some u) is = let within = slice_get_within f.teams t u is in omega (arith, within)
    by None is = let same = (rw is at g).0 in omega (arith, same)

pub moved_boxes : (f : Frame) (obstacles : List Rect) (r : Row) (boxes sorted : List Placed) → IsPermutation boxes sorted → AreBoxesOf f obstacles r boxes → AreBoxesOf f obstacles r sorted
moved_boxes f obstacles r boxes sorted moved b = record {
  known = All-permutation (λ p. p.own ≤ length f.teams) boxes sorted moved b.known;
  near = All-permutation (λ p. SharesPoint (row_area f.pitch r) p.rect) boxes sorted moved b.near;
  report_it = λ x y covers.
      let t : DetermineCover f obstacles boxes x y = b.report_it x y covers in
      record {
        fence = λ team is_fence. (
          λ ground. overlapping_one boxes sorted moved team x y ((t.fence team is_fence).0 ground),
          λ h. (t.fence team is_fence).1 (overlapping_one sorted boxes (IsPermutation-sym boxes sorted moved) team x y h),
        );
        obstacle = (
          λ a. overlapping_one boxes sorted moved (length f.teams) x y (t.obstacle.0 a),
          λ h. t.obstacle.1
              (overlapping_one sorted boxes (IsPermutation-sym boxes sorted moved) (length f.teams) x y h),
        );
      };
}
  where
    overlapping_one : (xs ys : List Placed) → IsPermutation xs ys → (own : ℕ) (x y : ℤ) → IsOverlappedAt xs own x y → IsOverlappedAt ys own x y
    overlapping_one xs ys turned own x y (k, p, within, is, e) = has_item (λ q. (q.own ≡ own) × Covers q.rect x y) ys p
        (Contains-permutation xs ys p turned (k, within, is)) e

-- The boxes of fences alone, which come first, are those of the row as if there were no obstacles.
pub fences_alone : (f : Frame) (obstacles : List Rect) (r : Row) (near : List Placed) (n teams : ℕ) → teams ≡ length f.teams → n ≤ length near →
    ((k : ℕ) (d : Placed) → k < n → (get_or near k d).own < teams) → ((k : ℕ) (d : Placed) → n ≤ k → k < length near → teams ≤ (get_or near k d).own) →
    AreBoxesOf f obstacles r near → AreBoxesOf f [] r (take n near)
fences_alone f obstacles r near n teams many within fences rest b = record {
  known = λ k d inside. let low = own_below k d inside in omega (arith, low);
  near = λ k d inside. subst (λ (p : Placed). SharesPoint (row_area f.pitch r) p.rect) (sym (at k d inside)) (b.near k d (in_near k inside));
  report_it = λ x y covers.
      let t : DetermineCover f obstacles near x y = b.report_it x y covers in
      record {
        fence = λ team is_fence. (
          λ ground. first_overlapped team x y is_fence ((t.fence team is_fence).0 ground),
          λ overlapping_one. (t.fence team is_fence).1 (overlapped_near team x y overlapping_one),
        );
        obstacle = (λ a. absurd (nothing_any a), λ overlapping_one. absurd (not_overlapped x y overlapping_one));
      };
}
  where
    front : List Placed
    front = take n near

    in_front : (k : ℕ) → k < length front → k < n
    in_front k inside = let long = length-take n near in omega (arith, long, inside)

    in_near : (k : ℕ) → k < length front → k < length near
    in_near k inside = let long = length-take n near in omega (arith, long, inside)

    at : (k : ℕ) (d : Placed) → k < length front → get_or front k d ≡ get_or near k d
    at k d inside = get_or-take n near k d (in_front k inside)

    own_below : (k : ℕ) (d : Placed) → k < length front → (get_or front k d).own < length f.teams
    own_below k d inside =
        let low = fences k d (in_front k inside) in
        subst (λ (p : Placed). p.own < length f.teams) (sym (at k d inside)) (omega (arith, low, many))

    nothing_any : {P : Rect → Type 0} → Any P [] → ⊥
    nothing_any a = let h = a.2 in omega (arith, h)

    not_overlapped : (x y : ℤ) → IsOverlappedAt front (length f.teams) x y → ⊥
    not_overlapped x y (k, p, inside, is, (own, covers)) =
        let low : p.own < length f.teams = subst (λ (q : Placed). q.own < length f.teams) is (own_below k p inside) in
        omega (arith, low, own)

    overlapped_near : (team : ℕ) (x y : ℤ) → IsOverlappedAt front team x y → IsOverlappedAt near team x y
    overlapped_near team x y (k, p, inside, is, both) = (k, p, in_near k inside, sym (at k p inside) ∙ is, both)

    first_overlapped : (team : ℕ) (x y : ℤ) → team < length f.teams → IsOverlappedAt near team x y → IsOverlappedAt front team x y
    first_overlapped team x y fence (k, p, inside, is, (own, covers)) = elim side [
      | inl early ↦
          let long = length-take n near in
          let there : k < length front = omega (arith, long, early, within) in
          (k, p, there, at k p there ∙ is, (own, covers))
      | inr late ↦
          let high : teams ≤ p.own = subst (λ (q : Placed). teams ≤ q.own) is (rest k p late inside) in
          absurd (omega (arith, high, own, fence, many))
    ]
      where
        side : (k < n) ⊎ (n ≤ k)
        side = grind arith

-- No obstacle covers a point of the row iff no box of the ground team's number does.
none_of : {P : Rect → Type 0} (rects : List Rect) → (Any P rects → ⊥) → All (λ o. P o → ⊥) rects
none_of {P} rects never k d within p = never (has_item P rects (get_or rects k d) (Contains-get_or rects k d within) p)

pub clear_spans_of : (f : Frame) (obstacles : List Rect) (r : Row) (near boxes : List Placed) (free : List Span) → AreBoxesOf f obstacles r near →
    IsNextGroup near (length f.teams) boxes →
    IsFree (x_extent (row_area f.pitch r)) (map (λ p. x_extent p.rect) boxes) free → AreClear f obstacles r free
clear_spans_of f obstacles r near boxes free b g is_free = record { rising = is_free.rising; exact = exact }
  where
    n : ℕ
    n = length f.teams

    number : All (λ p. p.own ≡ n) boxes
    number k d within =
        let p : Placed = get_or boxes k d in
        let found = g.among k d within in
        let low : n ≤ p.own = found.1 in
        let high : p.own ≤ n = All-contains (λ q. q.own ≤ n) near p b.known found.0 in
        omega (arith, low, high)

    touch : All (λ p. SharesPoint (row_area f.pitch r) p.rect) boxes
    touch k d within = All-contains (λ q. SharesPoint (row_area f.pitch r) q.rect) near (get_or boxes k d) b.near (g.among k d within).0

    overlapping_one : (x y : ℤ) → IsOverlappedAt near n x y ↔ Any (λ p. Covers p.rect x y) boxes
    overlapping_one = group_overlapped near boxes n n g number (omega arith)

    exact : (s : Span) → IsFilled s → LiesInOneOf free s ↔ ((x : ℤ) → HoldsNumber s x → IsClearAt f obstacles r x)
    exact s filled =
        let beside = free_is_beside (row_area f.pitch r) boxes free touch is_free s filled in (
          λ h x holds.
              let e : IsBeside (row_area f.pitch r) boxes x = beside.0 h x holds in
              record {
                left = e.left;
                right = e.right;
                clear = λ y covers. none_of obstacles (λ a.
                    let o = (overlapping_one x y).0 ((b.report_it x y covers).obstacle.0 a) in
                    All-contains (λ p. Covers p.rect x y → ⊥) boxes o.1 (e.none y covers) (o.0, o.2, o.3) o.4);
              },
          λ each. beside.1 (λ x holds.
              let e : IsClearAt f obstacles r x = each x holds in
              record {
                left = e.left;
                right = e.right;
                none = λ y covers k d within over.
                    let a = (b.report_it x y covers).obstacle.1 ((overlapping_one x y).1
                    (has_item (λ p. Covers p.rect x y) boxes (get_or boxes k d) (Contains-get_or boxes k d within) over)) in
                    All-contains (λ o. Covers o x y → ⊥) obstacles a.1 (e.clear y covers) (a.0, a.2, a.3) a.4;
              }),
        )

pub ground_spans_of : (f : Frame) (obstacles : List Rect) (r : Row) (near : List Placed) (free : List Span) → AreBoxesOf f obstacles r near →
    IsFree (x_extent (row_area f.pitch r)) (map (λ p. x_extent p.rect) near) free → AreOpen f obstacles r (length f.teams) free
ground_spans_of f obstacles r near free b is_free = record { rising = is_free.rising; exact = exact }
  where
    n : ℕ
    n = length f.teams

    fence_or : (t : ℕ) → t ≤ n → (t < n) ⊎ (t ≡ n)
    fence_or t h = grind arith

    ground_of : (x y : ℤ) → Covers (row_area f.pitch r) x y → All (λ p. Covers p.rect x y → ⊥) near → InGround f n x y
    ground_of x y covers none =
        let there = ground_there f x y in
        elim (fence_or there.0 (ground_is_team f there.0 x y there.1)) [
          | inl fence ↦
              let m = ((b.report_it x y covers).fence there.0 fence).0 there.1 in
              absurd (All-contains (λ p. Covers p.rect x y → ⊥) near m.1 none (m.0, m.2, m.3) m.4.1)
          | inr same ↦ subst (λ (t : ℕ). InGround f t x y) same there.1
        ]

    none_covers : (x y : ℤ) → Covers (row_area f.pitch r) x y → IsOpen f obstacles r n x → All (λ p. Covers p.rect x y → ⊥) near
    none_covers x y covers o k d within over =
        let p : Placed = get_or near k d in
        let there : Contains near p = Contains-get_or near k d within in
        elim (fence_or p.own (b.known k d within)) [
          | inl fence ↦
              let ground : InGround f p.own x y = ((b.report_it x y covers).fence p.own fence).1
              (has_item (λ q. (q.own ≡ p.own) × Covers q.rect x y) near p there (refl, over)) in
              let same : p.own ≡ n = ground_one f p.own n x y ground (o.ground y covers) in
              omega (arith, same, fence)
          | inr same ↦
              let a = (b.report_it x y covers).obstacle.1 (has_item (λ q. (q.own ≡ n) × Covers q.rect x y) near p there (same, over)) in
              All-contains (λ q. Covers q x y → ⊥) obstacles a.1 (o.clear.clear y covers) (a.0, a.2, a.3) a.4
        ]

    exact : (s : Span) → IsFilled s → LiesInOneOf free s ↔ ((x : ℤ) → HoldsNumber s x → IsOpen f obstacles r n x)
    exact s filled =
        let beside = free_is_beside (row_area f.pitch r) near free b.near is_free s filled in (
          λ h x holds.
              let e : IsBeside (row_area f.pitch r) near x = beside.0 h x holds in
              record {
                clear = record {
                  left = e.left;
                  right = e.right;
                  clear = λ y covers. none_of obstacles (λ a.
                      let m = (b.report_it x y covers).obstacle.0 a in
                      All-contains (λ p. Covers p.rect x y → ⊥) near m.1 (e.none y covers) (m.0, m.2, m.3) m.4.1);
                };
                ground = λ y covers. ground_of x y covers (e.none y covers);
              },
          λ each. beside.1 (λ x holds.
              let o : IsOpen f obstacles r n x = each x holds in
              record { left = o.clear.left; right = o.clear.right; none = λ y covers. none_covers x y covers o }),
        )

pub fence_spans_of : (f : Frame) (obstacles : List Rect) (r : Row) (near group : List Placed) (least own : ℕ) (area : Rect) (clear slice covered : List Span) → AreBoxesOf f obstacles r near →
    IsNextGroup near least group → All (λ p. p.own ≡ own) group → least ≤ own → own < length f.teams → AreClear f obstacles r clear → area ≡ row_area f.pitch r →
    slice ≡ clear →
    IsCoveredOver group area.y1 area.y2 slice covered → AreOpen f obstacles r own covered
fence_spans_of f obstacles r near group least own area clear slice covered b g number from fence cl same_area same_slice over = record
    { rising = co.rising; exact = exact }
  where
    co : IsCoveredOver group (row_area f.pitch r).y1 (row_area f.pitch r).y2 clear covered
    co =
        subst (λ (a : Rect). IsCoveredOver group a.y1 a.y2 clear covered) same_area
        (subst (λ (xs : List Span). IsCoveredOver group area.y1 area.y2 xs covered) same_slice over)

    overlapping_one : (x y : ℤ) → IsOverlappedAt near own x y ↔ Any (λ p. Covers p.rect x y) group
    overlapping_one = group_overlapped near group least own g number from

    exact : (s : Span) → IsFilled s → LiesInOneOf covered s ↔ ((x : ℤ) → HoldsNumber s x → IsOpen f obstacles r own x)
    exact s filled = (
      λ h x holds.
          let both = (co.exact s filled).0 h in
          record {
            clear = (cl.exact s filled).0 both.0 x holds;
            ground = λ y covers. ((b.report_it x y covers).fence own fence).1 ((overlapping_one x y).1 (both.1 y covers.bottom covers.top x holds));
          },
      λ each. (co.exact s filled).1 (
        (cl.exact s filled).1 (λ x holds. (each x holds).clear),
        λ y bottom top x holds.
            let o : IsOpen f obstacles r own x = each x holds in
            let covers : Covers (row_area f.pitch r) x y = record { left = o.clear.left; right = o.clear.right; bottom = bottom; top = top } in
            (overlapping_one x y).0 (((b.report_it x y covers).fence own fence).0 (o.ground y covers)),
      ),
    )

-- A team with no box near the row may use nothing of it.
pub not_open : (f : Frame) (obstacles : List Rect) (r : Row) (near group : List Placed) (least u : ℕ) → AreBoxesOf f obstacles r near → IsNextGroup near least group →
    All (λ p. u < p.own) group →
    least ≤ u → u < length f.teams → (x : ℤ) → IsOpen f obstacles r u x → ⊥
not_open f obstacles r near group least u b g above from fence x o =
    let covers = high_row f r x o.clear.left o.clear.right in
    none_overlapped near group least u g above from x r.y (((b.report_it x r.y covers).fence u fence).0 (o.ground r.y covers))

-- No box at all.
abbrev pub no_box : Placed
no_box = record { own = 0; rect = record { x1 = pos 0; y1 = pos 0; x2 = pos 0; y2 = pos 0 } }

pub first_number : (group : List Placed) → All (λ p. All (λ q. q.own ≡ p.own) group) group → 0 < length group →
    All (λ q. q.own ≡ (get_or group 0 no_box).own) group
first_number group one some = one 0 no_box some

pub above_all : (group : List Placed) (own u : ℕ) → All (λ q. q.own ≡ own) group → u < own → All (λ p. u < p.own) group
above_all group own u number less k d within = let same = number k d within in omega (arith, same, less)

pub touch_group : (f : Frame) (obstacles : List Rect) (r : Row) (near group : List Placed) (least : ℕ) (area : Rect) → AreBoxesOf f obstacles r near → IsNextGroup near least group →
    area ≡ row_area f.pitch r →
    All (λ p. SharesPoint area p.rect) group
touch_group f obstacles r near group least area b g same k d within =
    subst (λ (a : Rect). SharesPoint a (get_or group k d).rect) (sym same)
    (All-contains (λ q. SharesPoint (row_area f.pitch r) q.rect) near (get_or group k d) b.near (g.among k d within).0)

pub area_high : (f : Frame) (r : Row) (area : Rect) → area ≡ row_area f.pitch r → area.y1 <ℤ area.y2
area_high f r area same = subst (λ (a : Rect). a.y1 <ℤ a.y2) (sym same) (let up = f.pitch_whole.high in omega (arith, ints, up))

pub open_is_team : (f : Frame) (obstacles : List Rect) (r : Row) (u : ℕ) (x : ℤ) → IsOpen f obstacles r u x → u ≤ length f.teams
open_is_team f obstacles r u x o = ground_is_team f u x r.y (o.ground r.y (high_row f r x o.clear.left o.clear.right))
