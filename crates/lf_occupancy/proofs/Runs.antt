-- Entries near a range: the first found by binary search, the last by a walk.
use Rattle.std.proofs.Common.{◌≡◌, ◌⊎◌, inl, inr, ℕ, ◌+◌, ◌-◌, ◌/◌, ◌<◌, ◌≤◌, ℤ, ◌-ℤ◌, ◌≤ℤ◌, ◌<ℤ◌, true, List, ◌++◌, length, get_or, take}
use Rattle.std.proofs.Common.{drop, map, eqb, sym, ap, subst, ◌∙◌, arith}
use Rattle.std.specs.Prelude.{All, AllPairs, Contains, not}
use Rattle.std.proofs.lemmas.Int.{ints}
use Rattle.std.proofs.lemmas.Bool.Decides.{nat_tests}
use Rattle.std.proofs.lemmas.List.{get_or_default, get_or-take, get_or-drop, get_or-map, length-take, length-drop, length-map, take-append-drop}
use Rattle.std.proofs.lemmas.List.{length-append, get_or_append_left, get_or-append-add}
use Rattle.std.proofs.lemmas.List.Elements.{All-contains, All-contains_itself, All-filter, All-map, filter_passes}
use Rattle.std.proofs.lemmas.List.Elements.{Contains-append_left, Contains-append_right, Contains-append_cases, Contains-get_or}
use Rattle.lf_units.specs.declared.geometry.Rect.{Rect}
use Rattle.lf_units.specs.declared.span.Span.{Span}
use Rattle.lf_units.specs.Spans.{AreDisjoint, HoldsNumber, IsDisjointFrom, IsFreeIn, LiesIn}
use Rattle.lf_occupancy.specs.declared.strip_marks.Entry.{Entry}
use Rattle.lf_occupancy.specs.declared.strip_marks.Mark.{Mark}
use Rattle.lf_occupancy.specs.MarkLists.{AreInOrder, AreRising, IsNearRun, OverlapsOne, others_in, spans_in, x_range}
use Rattle.lf_occupancy.proofs.Lists.{contains_filter, pairs_filter}

rises : (xs : List Mark) (i j : ℕ) (d : Mark) → AreRising xs → i ≤ j → j < length xs → (get_or xs i d).left ≤ℤ (get_or xs j d).left
rises xs i j d pairs order within = elim same_or [
  | inl same ↦ let At : ℕ → Type 0 = λ n. (get_or xs i d).left ≤ℤ (get_or xs n d).left in subst At same (omega (arith, ints))
  | inr less ↦ pairs i j d less within
]
  where
    same_or : (i ≡ j) ⊎ (i < j)
    same_or = grind arith

-- the number of marks below x is from `from` up to `rest` more
pub record IsHalved (xs : List Mark) (x : ℤ) (from rest : ℕ) : Type 0 where
  pub within : from + rest ≤ length xs
  pub below : (k : ℕ) (d : Mark) → k < from → (get_or xs k d).left <ℤ x
  pub beyond : (k : ℕ) (d : Mark) → from + rest ≤ k → k < length xs → x ≤ℤ (get_or xs k d).left

-- the mark in the middle is below x
pub halved_above : (xs : List Mark) (x : ℤ) (from rest : ℕ) (e : Mark) → AreRising xs → 0 < rest →
    (get_or xs (from + (rest - rest / 2) - 1) e).left <ℤ x → IsHalved xs x from rest → IsHalved xs x (from + (rest - rest / 2)) (rest / 2)
halved_above xs x from rest e pairs some low h =
    let half : ℕ = rest / 2 in
    let within = h.within in
    let less : half ≤ rest = omega arith in
    let part : half < rest = omega (arith, some) in
    record {
      within = omega (arith, within, less);
      below = λ k d at.
          let there : (get_or xs (from + (rest - half) - 1) d).left <ℤ x =
          subst (λ (m : Mark). m.left <ℤ x) (get_or_default xs (from + (rest - half) - 1) e d (omega (arith, within, some, part))) low in
          let later = rises xs k (from + (rest - half) - 1) d pairs (omega (arith, at)) (omega (arith, within, some, part)) in
          omega (arith, ints, there, later);
      beyond = λ k d at. h.beyond k d (omega (arith, at, less));
    }

-- the mark in the middle is not below x
pub halved_below : (xs : List Mark) (x : ℤ) (from rest : ℕ) (e : Mark) → AreRising xs → 0 < rest →
    x ≤ℤ (get_or xs (from + (rest - rest / 2) - 1) e).left → IsHalved xs x from rest → IsHalved xs x from (rest / 2)
halved_below xs x from rest e pairs some high h =
    let half : ℕ = rest / 2 in
    let within = h.within in
    let less : half ≤ rest = omega arith in
    let part : half < rest = omega (arith, some) in
    let ceiling : rest - half ≤ half + 1 = omega arith in
    record {
      within = omega (arith, within, less);
      below = h.below;
      beyond = λ k d at inside.
          let there : x ≤ℤ (get_or xs (from + (rest - half) - 1) d).left =
          subst (λ (m : Mark). x ≤ℤ m.left) (get_or_default xs (from + (rest - half) - 1) e d (omega (arith, within, some, part))) high in
          let later = rises xs (from + (rest - half) - 1) k d pairs (omega (arith, at, ceiling)) inside in
          omega (arith, ints, there, later);
    }

-- if the last mark is below x, all are
pub below_last : (xs : List Mark) (x : ℤ) → AreRising xs → (e : Mark) → 0 < length xs → (get_or xs (length xs - 1) e).left <ℤ x →
    (k : ℕ) (d : Mark) → k < length xs → (get_or xs k d).left <ℤ x
below_last xs x pairs e some here k d less =
    let there = subst (λ (m : Mark). m.left <ℤ x) (get_or_default xs (length xs - 1) e d (omega arith)) here in
    let later = rises xs k (length xs - 1) d pairs (omega arith) (omega arith) in
    omega (arith, ints, there, later)

-- one more mark is below x
pub below_more : (xs : List Mark) (x : ℤ) (n : ℕ) (e : Mark) → n < length xs →
    ((k : ℕ) (d : Mark) → k < n → (get_or xs k d).left <ℤ x) → (get_or xs n e).left <ℤ x → (k : ℕ) (d : Mark) → k < n + 1 →
    (get_or xs k d).left <ℤ x
below_more xs x n e inside before here k d less = elim two [
  | inl below ↦ before k d below
  | inr same ↦
      subst (λ (m : ℕ). (get_or xs m d).left <ℤ x) (sym same) (subst (λ (m : Mark). m.left <ℤ x) (get_or_default xs n e d inside) here)
]
  where
    two : (k < n) ⊎ (k ≡ n)
    two = grind arith

-- if a mark is not below x, none from it on is
pub not_below_from : (xs : List Mark) (x : ℤ) → AreRising xs → (n : ℕ) (e : Mark) → n < length xs → x ≤ℤ (get_or xs n e).left →
    (k : ℕ) (d : Mark) → n ≤ k → k < length xs → x ≤ℤ (get_or xs k d).left
not_below_from xs x pairs n e inside here k d from within =
    let there = subst (λ (m : Mark). x ≤ℤ m.left) (get_or_default xs n e d inside) here in
    let later = rises xs n k d pairs from within in
    omega (arith, ints, there, later)

-- a binary search and a walk find the entries near a range
pub near_run : (xs ys : List Entry) (lo hi widest : ℤ) (f c : ℕ) → f ≤ length xs → ys ≡ drop f xs → All (λ e. (e.area.x2 -ℤ e.area.x1) ≤ℤ widest) xs →
    ((k : ℕ) (d : Entry) → k < f → (get_or xs k d).area.x1 <ℤ (lo -ℤ widest)) →
    ((k : ℕ) (d : Entry) → c ≤ k → k < length ys → hi ≤ℤ (get_or ys k d).area.x1) → IsNearRun xs lo hi (take c ys)
near_run xs ys lo hi widest f c bound same wide low high = record {
  before = take f xs;
  after_it = drop c ys;
  parts = sym (take-append-drop f xs) ∙ ap (λ (zs : List Entry). take f xs ++ zs) (sym same ∙ sym (take-append-drop c ys));
  left = λ k d at.
      let long = length-take f xs in
      let less : k < f = omega (arith, long, at) in
      let left = low k d less in
      let width = wide k d (omega (arith, less, bound)) in
      subst (λ (e : Entry). e.area.x2 ≤ℤ lo) (sym (get_or-take f xs k d less)) (omega (arith, ints, left, width));
  right = λ k d at.
      let long = length-drop c ys in
      subst (λ (e : Entry). hi ≤ℤ e.area.x1) (sym (get_or-drop c ys k d)) (high (c + k) d (omega arith) (omega (arith, long, at)));
}

-- an entry near the range is in the list
pub near_in : (xs near : List Entry) (lo hi : ℤ) (e : Entry) → IsNearRun xs lo hi near → Contains near e → Contains xs e
near_in xs near lo hi e run there =
    subst (λ (zs : List Entry). Contains zs e) (sym run.parts)
    (Contains-append_right run.before (near ++ run.after_it) e (Contains-append_left near run.after_it e there))

-- an entry that does not end before the range begins, and begins before the range ends, is near
pub in_near : (xs near : List Entry) (lo hi : ℤ) (e : Entry) → IsNearRun xs lo hi near → Contains xs e → lo <ℤ e.area.x2 → e.area.x1 <ℤ hi → Contains near e
in_near xs near lo hi e run there right left =
    elim (Contains-append_cases run.before (near ++ run.after_it) e (subst (λ (zs : List Entry). Contains zs e) run.parts there)) [
      | inl before ↦ let h = All-contains (λ x. x.area.x2 ≤ℤ lo) run.before e run.left before in absurd (omega (arith, ints, h, right))
      | inr rest ↦ elim (Contains-append_cases near run.after_it e rest) [
        | inl inside ↦ inside
        | inr after_it ↦ let h = All-contains (λ x. hi ≤ℤ x.area.x1) run.after_it e run.right after_it in absurd (omega (arith, ints, h, left))
      ]
    ]

-- an entry that overlaps a rectangle is near it
pub overlapped_near : (xs near : List Entry) (lo left : ℤ) (rect : Rect) (but own : ℕ) → IsNearRun xs lo rect.x2 near → All (λ e. left ≤ℤ e.area.x1) xs →
    ((x : ℤ) → rect.x1 ≤ℤ x → left ≤ℤ x → lo ≤ℤ x) → OverlapsOne xs rect but own → OverlapsOne near rect but own
overlapped_near xs near lo left rect but own run inside most (k, e, within, is, does_overlap) =
    let there : Contains xs e = (k, within, is) in
    let at = All-contains (λ x. left ≤ℤ x.area.x1) xs e inside there in
    let s = does_overlap.does_overlap in
    let a = s.in_first.left in
    let b = s.in_first.right in
    let c = s.in_second.left in
    let d = s.in_second.right in
    let low : lo ≤ℤ s.x = most s.x a (omega (arith, ints, at, c)) in
    let found = in_near xs near lo rect.x2 e run there (omega (arith, ints, low, d)) (omega (arith, ints, b, c)) in
    (found.0, e, found.1, found.2, does_overlap)

pub near_overlapped : (xs near : List Entry) (lo hi : ℤ) (rect : Rect) (but own : ℕ) → IsNearRun xs lo hi near → OverlapsOne near rect but own → OverlapsOne xs rect but own
near_overlapped xs near lo hi rect but own run (k, e, within, is, does_overlap) =
    let found = near_in xs near lo hi e run (k, within, is) in
    (found.0, e, found.1, found.2, does_overlap)

other_test : (a b : ℕ) → (a ≡ b → ⊥) → not (eqb a b) ≡ true
other_test a b apart = grind (arith, nat_tests, apart)

test_other : (a b : ℕ) → not (eqb a b) ≡ true → a ≡ b → ⊥
test_other a b t same = grind (arith, nat_tests)

-- the other cells' entries share no number with the span if and only if each of them does not
pub apart_each : (xs : List Entry) (own : ℕ) (s : Span) → IsDisjointFrom (spans_in (others_in xs own)) s → (e : Entry) → Contains xs e → (e.own ≡ own → ⊥) →
    AreDisjoint s (x_range e.area)
apart_each xs own s apart e there other =
    let kept : Contains (others_in xs own) e = contains_filter (λ x. not (eqb x.own own)) xs e there (other_test e.own own other) in
    let mapped : Contains (spans_in (others_in xs own)) (x_range e.area) = map_contains (others_in xs own) e kept in
    All-contains (λ t. AreDisjoint s t) (spans_in (others_in xs own)) (x_range e.area) apart mapped
  where
    map_contains : (ys : List Entry) (y : Entry) → Contains ys y → Contains (spans_in ys) (x_range y.area)
    map_contains ys y (k, within, is) =
        let long = length-map ys (λ z. x_range z.area) in
        (k, omega (arith, within, long), get_or-map (λ z. x_range z.area) ys k y (x_range y.area) within ∙ ap (λ (z : Entry). x_range z.area) is)

pub each_apart : (xs : List Entry) (own : ℕ) (s : Span) → ((e : Entry) → Contains xs e → (e.own ≡ own → ⊥) → AreDisjoint s (x_range e.area)) →
    IsDisjointFrom (spans_in (others_in xs own)) s
each_apart xs own s each =
    let p = λ (x : Entry). not (eqb x.own own) in
    All-map (λ t. AreDisjoint s t) (λ e. x_range e.area) (others_in xs own)
    (λ k d within.
    each (get_or (others_in xs own) k d) (All-filter p (Contains xs) xs (All-contains_itself xs) k d within)
    (test_other (get_or (others_in xs own) k d).own own (filter_passes p xs k d within)))

-- what is free in a strip within a window depends only on the entries near both
pub free_near : (xs near : List Entry) (own : ℕ) (strip window : Span) (lo hi : ℤ) (free : List Span) → IsNearRun xs lo hi near →
    ((x : ℤ) → HoldsNumber strip x → HoldsNumber window x → (lo ≤ℤ x) × (x <ℤ hi)) →
    IsFreeIn strip (spans_in (others_in near own)) window free → IsFreeIn strip (spans_in (others_in xs own)) window free
free_near xs near own strip window lo hi free run shown f = record {
  rising = f.rising;
  exact = λ s filled. (
    λ lies.
        let h = (f.exact s filled).0 lies in
        (h.0, h.1, each_apart xs own s (λ e there other. all_apart s h.0 h.1 h.2 e there other)),
    λ h.
        (f.exact s filled).1
        (h.0, h.1, each_apart near own s (λ e there other. apart_each xs own s h.2 e (near_in xs near lo hi e run there) other)),
  );
}
  where
    all_apart : (s : Span) → LiesIn s strip → LiesIn s window → IsDisjointFrom (spans_in (others_in near own)) s → (e : Entry) → Contains xs e →
        (e.own ≡ own → ⊥) → AreDisjoint s (x_range e.area)
    all_apart s in_strip in_window apart e there other x first second =
        let w = shown x (in_strip x first) (in_window x first) in
        let a = w.0 in
        let b = w.1 in
        let c = second.low in
        let d = second.high in
        let at : Contains near e = in_near xs near lo hi e run there (omega (arith, ints, a, d)) (omega (arith, ints, b, c)) in
        apart_each near own s apart e at other x first second

-- the spans of the other cells' entries are in order, and no span is wider than the widest
pub others_in_order : (xs near : List Entry) (lo hi : ℤ) (own : ℕ) → IsNearRun xs lo hi near → AreInOrder xs →
    AllPairs (λ s t. s.lo ≤ℤ t.lo) (map (λ (e : Entry). x_range e.area) (others_in near own))
others_in_order xs near lo hi own run order i j d less within =
    let ys = others_in near own in
    let long = length-map ys (λ (e : Entry). x_range e.area) in
    let kept : AreInOrder ys = pairs_filter (λ a b. a.area.x1 ≤ℤ b.area.x1) (λ e. not (eqb e.own own)) near near_order in
    let e : Entry = record { own = 0; area = record { x1 = d.lo; y1 = d.lo; x2 = d.hi; y2 = d.lo } } in
    let first = get_or-map (λ (x : Entry). x_range x.area) ys i e d (omega (arith, long, less, within)) in
    let second = get_or-map (λ (x : Entry). x_range x.area) ys j e d (omega (arith, long, within)) in
    let low : (get_or (map (λ (x : Entry). x_range x.area) ys) i d).lo ≡ (get_or ys i e).area.x1 = ap (λ (s : Span). s.lo) first in
    let high : (get_or (map (λ (x : Entry). x_range x.area) ys) j d).lo ≡ (get_or ys j e).area.x1 = ap (λ (s : Span). s.lo) second in
    let up = kept i j e less (omega (arith, long, within)) in
    omega (arith, ints, low, high, up)
  where
    near_order : AreInOrder near
    near_order = pairs_left near run.after_it (pairs_right run.before (near ++ run.after_it) (subst AreInOrder run.parts order))
      where
        pairs_left : (front back : List Entry) → AreInOrder (front ++ back) → AreInOrder front
        pairs_left front back r i j d less within =
            let long = length-append front back in
            let a = get_or_append_left front back d i (omega (arith, less, within)) in
            let b = get_or_append_left front back d j within in
            let first : (get_or (front ++ back) i d).area.x1 ≡ (get_or front i d).area.x1 = ap (λ (e : Entry). e.area.x1) a in
            let second : (get_or (front ++ back) j d).area.x1 ≡ (get_or front j d).area.x1 = ap (λ (e : Entry). e.area.x1) b in
            let up = r i j d less (omega (arith, long, within)) in
            omega (arith, ints, first, second, up)

        pairs_right : (front back : List Entry) → AreInOrder (front ++ back) → AreInOrder back
        pairs_right front back r i j d less within =
            let long = length-append front back in
            let a = get_or-append-add front back i d in
            let b = get_or-append-add front back j d in
            let first : (get_or (front ++ back) (length front + i) d).area.x1 ≡ (get_or back i d).area.x1 = ap (λ (e : Entry). e.area.x1) a in
            let second : (get_or (front ++ back) (length front + j) d).area.x1 ≡ (get_or back j d).area.x1 = ap (λ (e : Entry). e.area.x1) b in
            let up = r (length front + i) (length front + j) d (omega (arith, less)) (omega (arith, long, within)) in
            omega (arith, ints, first, second, up)

-- the spans of entries in order are in order too, and no span is wider than the widest
pub spans_in_order : (xs : List Entry) → AreInOrder xs → AllPairs (λ s t. s.lo ≤ℤ t.lo) (map (λ (e : Entry). x_range e.area) xs)
spans_in_order xs order i j d less within =
    let long = length-map xs (λ (e : Entry). x_range e.area) in
    let e : Entry = record { own = 0; area = record { x1 = d.lo; y1 = d.lo; x2 = d.hi; y2 = d.lo } } in
    let first = get_or-map (λ (x : Entry). x_range x.area) xs i e d (omega (arith, long, less, within)) in
    let second = get_or-map (λ (x : Entry). x_range x.area) xs j e d (omega (arith, long, within)) in
    let low : (get_or (map (λ (x : Entry). x_range x.area) xs) i d).lo ≡ (get_or xs i e).area.x1 = ap (λ (s : Span). s.lo) first in
    let high : (get_or (map (λ (x : Entry). x_range x.area) xs) j d).lo ≡ (get_or xs j e).area.x1 = ap (λ (s : Span). s.lo) second in
    let up = order i j e less (omega (arith, long, within)) in
    omega (arith, ints, low, high, up)

pub spans_narrow : (xs : List Entry) (widest : ℤ) → All (λ e. (e.area.x2 -ℤ e.area.x1) ≤ℤ widest) xs →
    All (λ s. (s.hi -ℤ s.lo) ≤ℤ widest) (map (λ (e : Entry). x_range e.area) xs)
spans_narrow xs widest wide = All-map (λ s. (s.hi -ℤ s.lo) ≤ℤ widest) (λ (e : Entry). x_range e.area) xs wide

-- all entries share no number with the span if and only if each of them does not
pub all_apart_each : (xs : List Entry) (s : Span) → IsDisjointFrom (spans_in xs) s → (e : Entry) → Contains xs e → AreDisjoint s (x_range e.area)
all_apart_each xs s apart e (k, within, is) =
    let long = length-map xs (λ z. x_range z.area) in
    let mapped : Contains (spans_in xs) (x_range e.area) =
    (k, omega (arith, within, long), get_or-map (λ z. x_range z.area) xs k e (x_range e.area) within ∙ ap (λ (z : Entry). x_range z.area) is) in
    All-contains (λ t. AreDisjoint s t) (spans_in xs) (x_range e.area) apart mapped

pub each_all_apart : (xs : List Entry) (s : Span) → ((e : Entry) → Contains xs e → AreDisjoint s (x_range e.area)) → IsDisjointFrom (spans_in xs) s
each_all_apart xs s each = All-map (λ t. AreDisjoint s t) (λ e. x_range e.area) xs (λ k d within. each (get_or xs k d) (Contains-get_or xs k d within))
