-- The parts that boxes cover at one y, and over a height.
use Rattle.std.proofs.Common.{◌≡◌, ◌⊎◌, inl, inr, ℕ, ℤ, ◌+◌, ◌<◌, ◌≤◌, ◌≤ℤ◌, ◌<ℤ◌, List, [], ◌∷◌, ◌++◌}
use Rattle.std.proofs.Common.{length, get_or, take, refl, sym, ap, subst, ◌∙◌, arith}
use Rattle.std.specs.Prelude.{Any, IfSome, IsPermutation, IsSomeAnd, None, Option, Some}
use Rattle.std.proofs.lemmas.Int.{ints, by_lt_z}
use Rattle.std.proofs.lemmas.List.{get_or_default, take_more}
use Rattle.std.proofs.lemmas.List.Sorted.{All-permutation, IsPermutation-sym}
use Rattle.lf_units.specs.declared.geometry.Rect.{Rect}
use Rattle.lf_units.specs.Area.{Covers, SharesPoint}
use Rattle.lf_units.proofs.Any.{any_first, any_later, any_cases, any_parts, any_left, any_right, any_one, none_of_nothing}
use Rattle.lf_units.specs.declared.span.Span.{Span}
use Rattle.lf_units.specs.declared.placed.Placed.{Placed}
use Rattle.lf_units.specs.Spans.{HoldsNumber, IsFilled, AreDisjoint, LiesInOneOf, IsRising, IsFree, IsJoin, IsMeet}
use Rattle.lf_segments.specs.Boxes.{x_extent, AreSpansAt, AreUnder, IsCoveredAt, IsCoveredOver}

-- The order of the taken spans does not change the free ones.
pub free_moved : (range : Span) (taken sorted free : List Span) → IsPermutation taken sorted → IsFree range sorted free → IsFree range taken free
free_moved range taken sorted free moved f = record {
  rising = f.rising;
  exact = λ s g. (
    (λ h. let both = (f.exact s g).0 h in (both.0, All-permutation (λ t. AreDisjoint s t) sorted taken (IsPermutation-sym taken sorted moved) both.1)),
    (λ h. (f.exact s g).1 (h.0, All-permutation (λ t. AreDisjoint s t) taken sorted moved h.1)),
  );
}

-- ---- the spans at one y

pub spans_none : (y : ℤ) → AreSpansAt [] y []
spans_none y x = (
  λ h. absurd (none_of_nothing (λ t. HoldsNumber t x) h),
  λ h. absurd (none_of_nothing (λ (p : Placed). Covers p.rect x y) h),
)

passed : (boxes : List Placed) (k : ℕ) (d : Placed) → k < length boxes → take (k + 1) boxes ≡ take k boxes ++ get_or boxes k d ∷ []
passed boxes k d within = take_more boxes k d within

pub spans_more : (boxes : List Placed) (k : ℕ) (d : Placed) (y : ℤ) (spans : List Span) → k < length boxes → AreSpansAt (take k boxes) y spans →
    (get_or boxes k d).rect.y1 ≤ℤ y → y <ℤ (get_or boxes k d).rect.y2 → AreSpansAt (take (k + 1) boxes) y (spans ++ x_extent (get_or boxes k d).rect ∷ [])
spans_more boxes k d y spans within old bottom top =
    let p : Placed = get_or boxes k d in
    let both : AreSpansAt (take k boxes ++ p ∷ []) y (spans ++ x_extent p.rect ∷ []) = λ x. (
      (λ h. elim (any_parts (λ t. HoldsNumber t x) spans (x_extent p.rect ∷ []) h) [
        | inl early ↦ any_left (λ (q : Placed). Covers q.rect x y) (take k boxes) (p ∷ []) ((old x).0 early)
        | inr late ↦
            let holds : HoldsNumber (x_extent p.rect) x = any_one (λ t. HoldsNumber t x) (x_extent p.rect) late in
            let covers : Covers p.rect x y = record { left = holds.low; right = holds.high; bottom = bottom; top = top } in
            any_right (λ (q : Placed). Covers q.rect x y) (take k boxes) (p ∷ []) (any_first (λ (q : Placed). Covers q.rect x y) p [] covers)
      ]),
      (λ h. elim (any_parts (λ (q : Placed). Covers q.rect x y) (take k boxes) (p ∷ []) h) [
        | inl early ↦ any_left (λ t. HoldsNumber t x) spans (x_extent p.rect ∷ []) ((old x).1 early)
        | inr late ↦
            let covers : Covers p.rect x y = any_one (λ (q : Placed). Covers q.rect x y) p late in
            let holds : HoldsNumber (x_extent p.rect) x = record { low = covers.left; high = covers.right } in
            any_right (λ t. HoldsNumber t x) spans (x_extent p.rect ∷ []) (any_first (λ t. HoldsNumber t x) (x_extent p.rect) [] holds)
      ]),
    ) in
    subst (λ (bs : List Placed). AreSpansAt bs y (spans ++ x_extent p.rect ∷ [])) (sym (passed boxes k d within)) both

pub spans_skip : (boxes : List Placed) (k : ℕ) (d : Placed) (y : ℤ) (spans : List Span) → k < length boxes → AreSpansAt (take k boxes) y spans →
    ((((get_or boxes k d).rect.y1 ≤ℤ y) × (y <ℤ (get_or boxes k d).rect.y2)) → ⊥) → AreSpansAt (take (k + 1) boxes) y spans
spans_skip boxes k d y spans within old apart =
    let p : Placed = get_or boxes k d in
    let both : AreSpansAt (take k boxes ++ p ∷ []) y spans = λ x. (
      (λ h. any_left (λ (q : Placed). Covers q.rect x y) (take k boxes) (p ∷ []) ((old x).0 h)),
      (λ h. elim (any_parts (λ (q : Placed). Covers q.rect x y) (take k boxes) (p ∷ []) h) [
        | inl early ↦ (old x).1 early
        | inr late ↦ let covers : Covers p.rect x y = any_one (λ (q : Placed). Covers q.rect x y) p late in absurd (apart (covers.bottom, covers.top))
      ]),
    ) in
    subst (λ (bs : List Placed). AreSpansAt bs y spans) (sym (passed boxes k d within)) both

pub covered_of : (boxes : List Placed) (y : ℤ) (free spans joined overlapping_one : List Span) → AreSpansAt boxes y spans → IsJoin spans joined → IsMeet free joined overlapping_one →
    IsCoveredAt boxes y free overlapping_one
covered_of boxes y free spans joined overlapping_one at j m = record {
  rising = m.rising;
  exact = λ s g. (
    (λ h. let both = (m.exact s g).0 h in (both.0, λ x holds. (at x).0 ((j.exact s g).0 both.1 x holds))),
    (λ h. (m.exact s g).1 (h.0, (j.exact s g).1 (λ x holds. (at x).1 (h.1 x holds)))),
  );
}

-- ---- over a height

pub record CoversSoFar (boxes : List Placed) (lower upper : ℤ) (last : Option Placed) (free covered : List Span) (k : ℕ) : Type 0 where
  pub rising : IsRising covered
  pub in_free : (s : Span) → IsFilled s → LiesInOneOf covered s → LiesInOneOf free s
  pub at_lower : (s : Span) → IsFilled s → LiesInOneOf covered s → AreUnder boxes lower s
  pub at_last : (s : Span) → IsFilled s → LiesInOneOf covered s → IfSome last (λ p. AreUnder boxes p.rect.y2 s)
  pub at_ends : (s : Span) → IsFilled s → LiesInOneOf covered s → (m : ℕ) (d : Placed) → m < k → (get_or boxes m d).rect.y2 <ℤ upper →
      AreUnder boxes (get_or boxes m d).rect.y2 s
  pub all : (s : Span) → IsFilled s → LiesInOneOf free s → ((y : ℤ) → lower ≤ℤ y → y <ℤ upper → AreUnder boxes y s) → LiesInOneOf covered s

pub covers_start : (boxes : List Placed) (lower upper : ℤ) (free covered : List Span) → lower <ℤ upper → IsCoveredAt boxes lower free covered →
    CoversSoFar boxes lower upper None free covered 0
covers_start boxes lower upper free covered high c = record {
  rising = c.rising;
  in_free = λ s g h. ((c.exact s g).0 h).0;
  at_lower = λ s g h. ((c.exact s g).0 h).1;
  at_last = λ s g h. tt;
  at_ends = λ s g h m d less. absurd (omega (arith, less));
  all = λ s g h each. (c.exact s g).1 (h, each lower (omega (arith, ints)) high);
}

below_or_at : (m k : ℕ) → m < k + 1 → (m < k) ⊎ (m ≡ k)
below_or_at m k less = grind arith

-- A box that ends at the same y as the last one.
under_last : (boxes : List Placed) (last : Option Placed) (p : Placed) (s : Span) → IsSomeAnd last (λ l. l.rect.y2 ≡ p.rect.y2) →
    IfSome last (λ l. AreUnder boxes l.rect.y2 s) → AreUnder boxes p.rect.y2 s
under_last boxes None p s same under = elim same [ ]
under_last boxes (Some l) p s same under = subst (λ (y : ℤ). AreUnder boxes y s) same under

pub covers_skip : (boxes : List Placed) (lower upper : ℤ) (last : Option Placed) (free covered : List Span) (k : ℕ) (e : Placed) → k < length boxes →
    CoversSoFar boxes lower upper last free covered k →
    (upper ≤ℤ (get_or boxes k e).rect.y2) ⊎ IsSomeAnd last (λ l. l.rect.y2 ≡ (get_or boxes k e).rect.y2) → CoversSoFar boxes lower upper last free covered (k + 1)
covers_skip boxes lower upper last free covered k e within c over = record {
  rising = c.rising;
  in_free = c.in_free;
  at_lower = c.at_lower;
  at_last = c.at_last;
  at_ends = λ s g h m d less under. elim (below_or_at m k less) [
    | inl before ↦ c.at_ends s g h m d before under
    | inr same ↦
        let End : ℕ → Type 0 = λ n. (get_or boxes n d).rect.y2 <ℤ upper in
        let Under : ℕ → Type 0 = λ n. AreUnder boxes (get_or boxes n d).rect.y2 s in
        let here : (get_or boxes k d).rect.y2 <ℤ upper = subst End same under in
        let there : (get_or boxes k e).rect.y2 <ℤ upper = subst (λ (p : Placed). p.rect.y2 <ℤ upper) (get_or_default boxes k d e within) here in
        elim over [
          | inl above ↦ absurd (omega (arith, ints, above, there))
          | inr end ↦
              let at_end : AreUnder boxes (get_or boxes k e).rect.y2 s = under_last boxes last (get_or boxes k e) s end (c.at_last s g h) in
              subst Under (sym same) (subst (λ (p : Placed). AreUnder boxes p.rect.y2 s) (get_or_default boxes k e d within) at_end)
        ]
  ];
  all = c.all;
}

pub covers_more : (boxes : List Placed) (lower upper : ℤ) (last : Option Placed) (free covered slice new : List Span) (k : ℕ) (e : Placed) → k < length boxes →
    CoversSoFar boxes lower upper last free covered k → lower ≤ℤ (get_or boxes k e).rect.y2 → (get_or boxes k e).rect.y2 <ℤ upper → slice ≡ covered →
    IsCoveredAt boxes (get_or boxes k e).rect.y2 slice new →
    CoversSoFar boxes lower upper (Some (get_or boxes k e)) free new (k + 1)
covers_more boxes lower upper last free covered slice new k e within c from under same at_slice = record {
  rising = n.rising;
  in_free = λ s g h. c.in_free s g (older s g h);
  at_lower = λ s g h. c.at_lower s g (older s g h);
  at_last = λ s g h. ((n.exact s g).0 h).1;
  at_ends = λ s g h m d less low. elim (below_or_at m k less) [
    | inl before ↦ c.at_ends s g (older s g h) m d before low
    | inr same ↦
        let Under : ℕ → Type 0 = λ i. AreUnder boxes (get_or boxes i d).rect.y2 s in
        let there : AreUnder boxes (get_or boxes k e).rect.y2 s = ((n.exact s g).0 h).1 in
        let here : AreUnder boxes (get_or boxes k d).rect.y2 s = subst (λ (p : Placed). AreUnder boxes p.rect.y2 s) (get_or_default boxes k e d within) there in
        subst Under (sym same) here
  ];
  all = λ s g h each. (n.exact s g).1 (c.all s g h each, each (get_or boxes k e).rect.y2 from under);
}
  where
    n : IsCoveredAt boxes (get_or boxes k e).rect.y2 covered new
    n = subst (λ (xs : List Span). IsCoveredAt boxes (get_or boxes k e).rect.y2 xs new) same at_slice

    older : (s : Span) → IsFilled s → LiesInOneOf new s → LiesInOneOf covered s
    older s g h = ((n.exact s g).0 h).0

-- The last of the lower edge and the ends at y or below it: no box ends between it and y.
record Last (boxes : List Placed) (lower y : ℤ) : Type 0 where
  at : ℤ
  is : (at ≡ lower) ⊎ Any (λ (p : Placed). p.rect.y2 ≡ at) boxes
  low : at ≤ℤ y
  none : Any (λ (p : Placed). (p.rect.y2 ≤ℤ y) × (at <ℤ p.rect.y2)) boxes → ⊥

last_end : (boxes : List Placed) (lower y : ℤ) → lower ≤ℤ y → Last boxes lower y
last_end [] lower y from = record { at = lower; is = inl refl; low = from; none = none_of_nothing (λ (p : Placed). (p.rect.y2 ≤ℤ y) × (lower <ℤ p.rect.y2)) }
last_end (p ∷ boxes) lower y from = with_rest (last_end boxes lower y from)
  where
    Ends : ℤ → Placed → Type 0
    Ends at q = (q.rect.y2 ≤ℤ y) × (at <ℤ q.rect.y2)

    with_rest : Last boxes lower y → Last (p ∷ boxes) lower y
    with_rest l =
        by_lt_z y p.rect.y2
        (λ over. record {
          at = l.at;
          is = later l;
          low = l.low;
          none = λ h. elim (any_cases (λ q. (q.rect.y2 ≤ℤ y) × (l.at <ℤ q.rect.y2)) p boxes h) [ inl e ↦ omega (arith, ints, over, e.0) | inr e ↦ l.none e ];
        })
        (λ ends. by_lt_z l.at p.rect.y2
        (λ above. record {
          at = p.rect.y2;
          is = inr (any_first (λ (q : Placed). q.rect.y2 ≡ p.rect.y2) p boxes refl);
          low = ends;
          none = λ h. elim (any_cases (λ q. (q.rect.y2 ≤ℤ y) × (p.rect.y2 <ℤ q.rect.y2)) p boxes h) [
            | inl e ↦ let f = e.1 in omega (arith, ints, f)
            | inr e ↦ l.none (e.0, e.1, e.2, e.3, (e.4.0, let f = e.4.1 in omega (arith, ints, f, above)))
          ];
        })
        (λ under. record {
          at = l.at;
          is = later l;
          low = l.low;
          none = λ h. elim (any_cases (λ q. (q.rect.y2 ≤ℤ y) × (l.at <ℤ q.rect.y2)) p boxes h) [
            | inl e ↦ let f = e.1 in omega (arith, ints, f, under)
            | inr e ↦ l.none e
          ];
        }))
      where
        later : (l : Last boxes lower y) → (l.at ≡ lower) ⊎ Any (λ (q : Placed). q.rect.y2 ≡ l.at) (p ∷ boxes)
        later l = elim l.is [ inl e ↦ inl e | inr e ↦ inr (any_later (λ (q : Placed). q.rect.y2 ≡ l.at) p boxes e) ]

-- If all of a span is covered at the lower edge and at each end, it is covered at each y.
at_each : (boxes : List Placed) (lower upper : ℤ) (s : Span) → AreUnder boxes lower s →
    ((m : ℕ) (d : Placed) → m < length boxes → (get_or boxes m d).rect.y2 <ℤ upper → AreUnder boxes (get_or boxes m d).rect.y2 s) →
    (y : ℤ) → lower ≤ℤ y → y <ℤ upper → AreUnder boxes y s
at_each boxes lower upper s at_lower at_ends y from below x holds =
    let l : Last boxes lower y = last_end boxes lower y from in
    let found : Any (λ (p : Placed). Covers p.rect x l.at) boxes = at_last l x holds in
    let covers : Covers found.1.rect x l.at = found.4 in
    by_lt_z y found.1.rect.y2
    (λ over. (
      found.0,
      found.1,
      found.2,
      found.3,
      record {
        left = covers.left;
        right = covers.right;
        bottom = let a = covers.bottom in let b = l.low in omega (arith, ints, a, b);
        top = over;
      },
    ))
    (λ ends. absurd (l.none (found.0, found.1, found.2, found.3, (ends, covers.top))))
  where
    at_last : (l : Last boxes lower y) → AreUnder boxes l.at s
    at_last l = elim l.is [
      | inl same ↦ subst (λ (t : ℤ). AreUnder boxes t s) (sym same) at_lower
      | inr end ↦
          let same : (get_or boxes end.0 end.1).rect.y2 ≡ l.at = ap (λ (p : Placed). p.rect.y2) end.3 ∙ end.4 in
          let low = l.low in
          let under : (get_or boxes end.0 end.1).rect.y2 <ℤ upper = omega (arith, ints, same, low, below) in
          subst (λ (t : ℤ). AreUnder boxes t s) same (at_ends end.0 end.1 end.2 under)
    ]

pub covers_end : (boxes : List Placed) (lower upper : ℤ) (last : Option Placed) (free covered : List Span) (k : ℕ) → length boxes ≤ k →
    CoversSoFar boxes lower upper last free covered k → IsCoveredOver boxes lower upper free covered
covers_end boxes lower upper last free covered k passed_all c = record {
  rising = c.rising;
  exact = λ s g. (
    (λ h. (
      c.in_free s g h,
      at_each boxes lower upper s (c.at_lower s g h)
          (λ m d within under. c.at_ends s g h m d (omega (arith, passed_all, within)) under),
    )),
    (λ h. c.all s g h.0 h.1),
  );
}

-- A rectangle that shares a point with an area ends above its lower edge.
pub below_of : (a r : Rect) → SharesPoint a r → a.y1 ≤ℤ r.y2
below_of a r s = omega (arith, ints, s.in_first.bottom, s.in_second.top)
