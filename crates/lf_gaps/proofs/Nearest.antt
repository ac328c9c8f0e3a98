-- The nearest number for a list of spans, from those for its parts.
use Rattle.std.proofs.Common.{◌≡◌, refl, ℕ, ◌+◌, ◌-◌, ◌<◌, ◌≤◌, ℤ, pos, ◌+ℤ◌, ◌-ℤ◌, ◌≤ℤ◌, ◌<ℤ◌, ◌⊎◌, inl, inr, List, [], ◌∷◌, ◌++◌, length, get_or, take, drop, Option, Some, None, Vec, Global, map, sym, ap, ◌∙◌, subst, arith}
use Rattle.std.specs.Prelude.{All, Any, IsSomeAnd}
use Rattle.std.proofs.lemmas.Int.{ints}
use Rattle.std.proofs.lemmas.List.{get_or_default, get_or-take, get_or-drop, length-take, length-drop, take_more, take_all}
use Rattle.std.proofs.lemmas.List.Elements.{All-cons, All-drop, All-nil}
use Rattle.std.proofs.lemmas.List.Quantifiers.{Any-push}
use Rattle.lf_units.specs.declared.span.Span.{Span}
use Rattle.lf_units.specs.Spans.{IsFilled, LiesIn, LiesInOneOf, IsRising, IsMeetAll}
use Rattle.lf_units.specs.Steps.{AddsFilled, ContainsSpan}
use Rattle.lf_units.proofs.Anys.{any_cases, any_head, any_tail, any_left, any_nil, any_split, any_weaker, all_at}
use Rattle.lf_units.proofs.SpanEdges.{InOne, in_of_lies, in_one_of_lies, rising_drop}
use Rattle.lf_units.proofs.Overlaps.{from_place}
use Rattle.lf_units.specs.declared.grid.SiteGrid.{SiteGrid}
use Rattle.lf_gaps.specs.declared.gap_target.GapTarget.{GapTarget}
use Rattle.lf_gaps.specs.declared.row.Target.{Target}
use Rattle.lf_units.specs.Grids.{FindsNearest, FitsSpan, IsBoundedSpan, IsNoFarther, LiesInSpanFrom, distance_to}
use Rattle.lf_gaps.specs.Gaps.{FindsGap, FitsOne, FitsRows}
use Rattle.lf_gaps.specs.Steps.{AddsGap, IsNearestSoFar, IsNearerOf, IsPast}

along : (t x y z : ℤ) → IsNoFarther t x y → IsNoFarther t y z → IsNoFarther t x z
along t x y z (inl a) (inl b) = inl (omega (arith, a, b))
along t x y z (inl a) (inr b) = inl (omega (arith, a, b.0))
along t x y z (inr a) (inl b) = inl (omega (arith, a.0, b))
along t x y z (inr a) (inr b) = inr (a.0 ∙ b.0, omega (arith, ints, a.1, b.1))

-- The nearer of two numbers, each the nearest of a set, is the nearest of both sets.
pub nearest_of_both : (F G H : ℤ → Type 0) (t : ℤ) (a b found : Option ℤ) → FindsNearest F t a → FindsNearest G t b → IsNearerOf a b t found →
    ((x : ℤ) → H x → F x ⊎ G x) → ((x : ℤ) → F x → H x) → ((x : ℤ) → G x → H x) → FindsNearest H t found
nearest_of_both F G H t None None None p q n split left right = λ x h. elim (split x h) [ inl f ↦ p x f | inr g ↦ q x g ]
nearest_of_both F G H t None None (Some z) p q n split left right = elim n.from [ inl e ↦ absurd cc | inr e ↦ absurd cc ]
nearest_of_both F G H t None (Some y) None p q n split left right = absurd n.second
nearest_of_both F G H t (Some x) b None p q n split left right = absurd n.first
nearest_of_both F G H t None (Some y) (Some z) p q n split left right = record {
  fit = elim n.from [ inl e ↦ absurd cc | inr e ↦ let same : y ≡ z = cc in subst H same (right y q.fit) ];
  least = λ w h. elim (split w h) [ inl f ↦ absurd (p w f) | inr g ↦ along t z y w n.second (q.least w g) ];
}
nearest_of_both F G H t (Some x) None (Some z) p q n split left right = record {
  fit = elim n.from [ inl e ↦ let same : x ≡ z = cc in subst H same (left x p.fit) | inr e ↦ absurd cc ];
  least = λ w h. elim (split w h) [ inl f ↦ along t z x w n.first (p.least w f) | inr g ↦ absurd (q w g) ];
}
nearest_of_both F G H t (Some x) (Some y) (Some z) p q n split left right = record {
  fit = elim n.from [
    | inl e ↦ let same : x ≡ z = cc in subst H same (left x p.fit)
    | inr e ↦ let same : y ≡ z = cc in subst H same (right y q.fit)
  ];
  least = λ w h. elim (split w h) [ inl f ↦ along t z x w n.first (p.least w f) | inr g ↦ along t z y w n.second (q.least w g) ];
}

-- Equal sets of numbers have the same nearest number.
pub nearest_of_same : (F G : ℤ → Type 0) (t : ℤ) (found : Option ℤ) → ((x : ℤ) → F x → G x) → ((x : ℤ) → G x → F x) → FindsNearest F t found →
    FindsNearest G t found
nearest_of_same F G t None to from p = λ x g. p x (from x g)
nearest_of_same F G t (Some z) to from p = record { fit = to z p.fit; least = λ w g. p.least w (from w g) }

-- Numbers farther than the best so far do not matter.
pub nearest_of_near : (F H : ℤ → Type 0) (t : ℤ) (found : Option ℤ) → ((x : ℤ) → F x → H x) → FindsNearest F t found →
    IsSomeAnd found (λ z. (x : ℤ) → H x → F x ⊎ (distance_to t z < distance_to t x)) → FindsNearest H t found
nearest_of_near F H t None to p far = absurd far
nearest_of_near F H t (Some z) to p far = record {
  fit = to z p.fit;
  least = λ w h. elim (far w h) [ inl f ↦ p.least w f | inr d ↦ inl d ];
}

-- ---- a list from left to right

of_front : {X : Type 0} (P : X → Type 0) (k : ℕ) (xs : List X) → Any P (take k xs) → Any P xs
of_front P k xs (m, x, within, is, p) =
    let below : m < k = omega (arith, within, length-take k xs) in
    (m, x, omega (arith, within, length-take k xs), sym (get_or-take k xs m x below) ∙ is, p)

in_front : {X : Type 0} (P : X → Type 0) (k : ℕ) (xs : List X) (a : Any P xs) → a.0 < k → Any P (take k xs)
in_front P k xs (m, x, within, is, p) below = (m, x, omega (arith, within, below, length-take k xs), get_or-take k xs m x below ∙ is, p)

begins_later : (xs : List Span) (k m : ℕ) (d s : Span) → IsRising xs → k < length xs → m < length xs → k ≤ m → get_or xs m s ≡ s → (get_or xs k d).lo ≤ℤ s.lo
begins_later xs k m d s r in_k in_m order is = elim same_or [
  | inl h ↦
      let At : ℕ → Type 0 = λ n. get_or xs n d ≡ s in
      let there : get_or xs k d ≡ s = subst At (sym h) (get_or_default xs m d s in_m ∙ is) in
      subst (λ (u : Span). (get_or xs k d).lo ≤ℤ u.lo) there (omega (arith, ints))
  | inr h ↦
      let filled = r.filled k d in_k in
      let apart = r.apart k m d h in_m in
      let there : (get_or xs k d).lo ≤ℤ (get_or xs m d).lo = omega (arith, ints, filled, apart) in
      subst (λ (u : Span). (get_or xs k d).lo ≤ℤ u.lo) (get_or_default xs m d s in_m ∙ is) there
]
  where
    same_or : (k ≡ m) ⊎ (k < m)
    same_or = grind arith

ends_earlier : (xs : List Span) (k m : ℕ) (d s : Span) → IsRising xs → k < length xs → m < length xs → m ≤ k → get_or xs m s ≡ s → s.hi ≤ℤ (get_or xs k d).hi
ends_earlier xs k m d s r in_k in_m order is = elim same_or [
  | inl h ↦
      let At : ℕ → Type 0 = λ n. get_or xs n d ≡ s in
      let there : get_or xs k d ≡ s = subst At h (get_or_default xs m d s in_m ∙ is) in
      subst (λ (u : Span). u.hi ≤ℤ (get_or xs k d).hi) there (omega (arith, ints))
  | inr h ↦
      let filled = r.filled k d in_k in
      let apart = r.apart m k d h in_k in
      let there : (get_or xs m d).hi ≤ℤ (get_or xs k d).hi = omega (arith, ints, filled, apart) in
      subst (λ (u : Span). u.hi ≤ℤ (get_or xs k d).hi) (get_or_default xs m d s in_m ∙ is) there
]
  where
    same_or : (m ≡ k) ⊎ (m < k)
    same_or = grind arith

fits_front : (spans : List Span) (g : SiteGrid) (width : ℤ) (k : ℕ) (x : ℤ) → FitsOne (take k spans) g width x → FitsOne spans g width x
fits_front spans g width k x f = record { on_grid = f.on_grid; within = of_front (λ s. LiesInSpanFrom s width x) k spans f.within }

-- One span more.
pub found_more : (spans : List Span) (g : SiteGrid) (width t : ℤ) (k : ℕ) (d : Span) (best next found : Option ℤ) → k < length spans →
    FindsNearest (λ x. FitsOne (take k spans) g width x) t best → FindsNearest (λ x. FitsSpan (get_or spans k d) g width x) t next → IsNearerOf best next t
    found →
    FindsNearest (λ x. FitsOne (take (k + 1) spans) g width x) t found
found_more spans g width t k d best next found within p q n =
    nearest_of_both (λ x. FitsOne (take k spans) g width x) (λ x. FitsSpan (get_or spans k d) g width x) (λ x. FitsOne (take (k + 1) spans) g width x) t
    best next found p q n split left right
  where
    parts : take (k + 1) spans ≡ take k spans ++ get_or spans k d ∷ []
    parts = take_more spans k d within

    split : (x : ℤ) → FitsOne (take (k + 1) spans) g width x → FitsOne (take k spans) g width x ⊎ FitsSpan (get_or spans k d) g width x
    split x f =
        let P : Span → Type 0 = λ s. LiesInSpanFrom s width x in
        let whole : Any P (take k spans ++ get_or spans k d ∷ []) = subst (λ (xs : List Span). Any P xs) parts f.within in
        elim (any_split P (take k spans) (get_or spans k d ∷ []) whole) [
          | inl a ↦ inl record { on_grid = f.on_grid; within = a }
          | inr a ↦ elim (any_cases P (get_or spans k d) [] a) [
            | inl h ↦ inr record { on_grid = f.on_grid; within = h }
            | inr h ↦ absurd (omega (arith, h.2))
          ]
        ]

    left : (x : ℤ) → FitsOne (take k spans) g width x → FitsOne (take (k + 1) spans) g width x
    left x f =
        let P : Span → Type 0 = λ s. LiesInSpanFrom s width x in
        record { on_grid = f.on_grid; within = subst (λ (xs : List Span). Any P xs) (sym parts) (any_left P (take k spans) (get_or spans k d ∷ []) f.within) }

    right : (x : ℤ) → FitsSpan (get_or spans k d) g width x → FitsOne (take (k + 1) spans) g width x
    right x f =
        let P : Span → Type 0 = λ s. LiesInSpanFrom s width x in
        record { on_grid = f.on_grid; within = subst (λ (xs : List Span). Any P xs) (sym parts) (Any-push P (take k spans) (get_or spans k d) f.within) }

-- The rest is too far right.
pub found_in_front : (spans : List Span) (g : SiteGrid) (width t : ℤ) (k : ℕ) (d : Span) (best : Option ℤ) → IsRising spans → k < length spans →
    FindsNearest (λ x. FitsOne (take k spans) g width x) t best → IsPast (get_or spans k d) best t → FindsNearest (λ x. FitsOne spans g width x) t best
found_in_front spans g width t k d None r within p past = absurd past
found_in_front spans g width t k d (Some z) r within p past =
    nearest_of_near (λ x. FitsOne (take k spans) g width x) (λ x. FitsOne spans g width x) t (Some z) (fits_front spans g width k) p far
  where
    below_or : (m : ℕ) → (m < k) ⊎ (k ≤ m)
    below_or m = grind arith

    far : (x : ℤ) → FitsOne spans g width x → FitsOne (take k spans) g width x ⊎ (distance_to t z < distance_to t x)
    far x f =
        let a : Any (λ s. LiesInSpanFrom s width x) spans = f.within in
        elim (below_or a.0) [
          | inl h ↦ inl record { on_grid = f.on_grid; within = in_front (λ s. LiesInSpanFrom s width x) k spans a h }
          | inr h ↦
              let begins = begins_later spans k a.0 d a.1 r within a.2 h a.3 in
              let held : LiesInSpanFrom a.1 width x = a.4 in
              inr (past x (omega (arith, ints, begins, held.low)))
        ]

pub found_all : (spans : List Span) (g : SiteGrid) (width t : ℤ) (k : ℕ) (best : Option ℤ) → length spans ≤ k →
    FindsNearest (λ x. FitsOne (take k spans) g width x) t best →
    FindsNearest (λ x. FitsOne spans g width x) t best
found_all spans g width t k best past p = subst (λ (xs : List Span). FindsNearest (λ x. FitsOne xs g width x) t best) (take_all k spans past) p

-- ---- a list from right to left

pub found_before : (spans : List Span) (g : SiteGrid) (width t : ℤ) (k : ℕ) (d : Span) (best next found : Option ℤ) → k < length spans →
    FindsNearest (λ x. FitsOne (drop (k + 1) spans) g width x) t best → FindsNearest (λ x. FitsSpan (get_or spans k d) g width x) t next → IsNearerOf best
    next t found →
    FindsNearest (λ x. FitsOne (drop k spans) g width x) t found
found_before spans g width t k d best next found within p q n =
    nearest_of_both (λ x. FitsOne (drop (k + 1) spans) g width x) (λ x. FitsSpan (get_or spans k d) g width x) (λ x. FitsOne (drop k spans) g width x) t
    best next found p q n split left right
  where
    parts : drop k spans ≡ get_or spans k d ∷ drop (k + 1) spans
    parts = from_place spans k d within

    split : (x : ℤ) → FitsOne (drop k spans) g width x → FitsOne (drop (k + 1) spans) g width x ⊎ FitsSpan (get_or spans k d) g width x
    split x f =
        let P : Span → Type 0 = λ s. LiesInSpanFrom s width x in
        let whole : Any P (get_or spans k d ∷ drop (k + 1) spans) = subst (λ (xs : List Span). Any P xs) parts f.within in
        elim (any_cases P (get_or spans k d) (drop (k + 1) spans) whole) [
          | inl h ↦ inr record { on_grid = f.on_grid; within = h }
          | inr a ↦ inl record { on_grid = f.on_grid; within = a }
        ]

    left : (x : ℤ) → FitsOne (drop (k + 1) spans) g width x → FitsOne (drop k spans) g width x
    left x f =
        let P : Span → Type 0 = λ s. LiesInSpanFrom s width x in
        record { on_grid = f.on_grid; within = subst (λ (xs : List Span). Any P xs) (sym parts) (any_tail P (get_or spans k d) (drop (k + 1) spans) f.within) }

    right : (x : ℤ) → FitsSpan (get_or spans k d) g width x → FitsOne (drop k spans) g width x
    right x f =
        let P : Span → Type 0 = λ s. LiesInSpanFrom s width x in
        record { on_grid = f.on_grid; within = subst (λ (xs : List Span). Any P xs) (sym parts) (any_head P (get_or spans k d) (drop (k + 1) spans) f.within) }

pub place_before : (spans : List Span) (g : SiteGrid) (width t : ℤ) (i : ℕ) (best : Option ℤ) → 0 < i →
    FindsNearest (λ x. FitsOne (drop i spans) g width x) t best →
    FindsNearest (λ x. FitsOne (drop (i - 1 + 1) spans) g width x) t best
place_before spans g width t i best some p =
    let At : ℕ → Type 0 = λ n. FindsNearest (λ x. FitsOne (drop n spans) g width x) t best in
    let place : i ≡ i - 1 + 1 = omega (arith, some) in
    subst At place p

of_back : {X : Type 0} (P : X → Type 0) (k : ℕ) (xs : List X) → Any P (drop k xs) → Any P xs
of_back P k xs (m, x, within, is, p) = (k + m, x, omega (arith, within, length-drop k xs), sym (get_or-drop k xs m x) ∙ is, p)

in_back : {X : Type 0} (P : X → Type 0) (k : ℕ) (xs : List X) (a : Any P xs) → k ≤ a.0 → Any P (drop k xs)
in_back {X} P k xs (m, x, within, is, p) above =
    let At : ℕ → Type 0 = λ n. get_or xs n x ≡ x in
    let place : m ≡ k + (m - k) = omega (arith, above) in
    (m - k, x, omega (arith, within, above, length-drop k xs), get_or-drop k xs (m - k) x ∙ subst At place is, p)

-- The rest is too far left.
pub found_in_back : (spans : List Span) (g : SiteGrid) (wanted : Target) (k : ℕ) (d : Span) (best : Option ℤ) → IsRising spans → k < length spans →
    FindsNearest (λ x. FitsOne (drop (k + 1) spans) g wanted.width x) wanted.target best → IsNearestSoFar (get_or spans k d) best wanted →
    FindsNearest (λ x. FitsOne spans g wanted.width x) wanted.target best
found_in_back spans g wanted k d None r within p before = absurd before
found_in_back spans g wanted k d (Some z) r within p before =
    nearest_of_near (λ x. FitsOne (drop (k + 1) spans) g wanted.width x) (λ x. FitsOne spans g wanted.width x) wanted.target (Some z)
    (λ x f. record { on_grid = f.on_grid; within = of_back (λ s. LiesInSpanFrom s wanted.width x) (k + 1) spans f.within }) p far
  where
    above_or : (m : ℕ) → (k + 1 ≤ m) ⊎ (m ≤ k)
    above_or m = grind arith

    far : (x : ℤ) → FitsOne spans g wanted.width x → FitsOne (drop (k + 1) spans) g wanted.width x ⊎ (distance_to wanted.target z < distance_to wanted.target x)
    far x f =
        let a : Any (λ s. LiesInSpanFrom s wanted.width x) spans = f.within in
        elim (above_or a.0) [
          | inl h ↦ inl record { on_grid = f.on_grid; within = in_back (λ s. LiesInSpanFrom s wanted.width x) (k + 1) spans a h }
          | inr h ↦
              let ends = ends_earlier spans k a.0 d a.1 r within a.2 h a.3 in
              let held : LiesInSpanFrom a.1 wanted.width x = a.4 in
              inr (before x (omega (arith, ints, ends, held.high)))
        ]

-- ---- the part of a list in a slice

pub rest_from : {X : Type 0} (xs : List X) (n : ℕ) → take (length xs - n) (drop n xs) ≡ drop n xs
rest_from xs n = take_all (length xs - n) (drop n xs) (omega (arith, length-drop n xs))

pub found_after : (spans : List Span) (g : SiteGrid) (width t : ℤ) (n : ℕ) (best : Option ℤ) →
    FindsNearest (λ x. FitsOne (take (length spans - n) (drop n spans)) g width x) t best →
    FindsNearest (λ x. FitsOne (drop n spans) g width x) t best
found_after spans g width t n best p = subst (λ (xs : List Span). FindsNearest (λ x. FitsOne xs g width x) t best) (rest_from spans n) p

pub rising_after_it : (spans : List Span) (n : ℕ) → IsRising spans → IsRising (take (length spans - n) (drop n spans))
rising_after_it spans n r = subst (λ (xs : List Span). IsRising xs) (sym (rest_from spans n)) (rising_drop n spans r)

pub near_after : (spans : List Span) (n : ℕ) → All IsBoundedSpan spans → All IsBoundedSpan (take (length spans - n) (drop n spans))
near_after spans n near = subst (λ (xs : List Span). All IsBoundedSpan xs) (sym (rest_from spans n)) (All-drop IsBoundedSpan n spans near)

pub found_at_last : (spans : List Span) (g : SiteGrid) (width t : ℤ) (n : ℕ) (best : Option ℤ) → n ≤ 0 →
    FindsNearest (λ x. FitsOne (drop n spans) g width x) t best →
    FindsNearest (λ x. FitsOne spans g width x) t best
found_at_last spans g width t n best none p =
    let At : ℕ → Type 0 = λ k. FindsNearest (λ x. FitsOne (drop k spans) g width x) t best in
    let zero_is : n ≡ 0 = omega (arith, none) in
    subst At zero_is p

-- ---- intersections of lists

abbrev from_on : ℤ → ℤ → Span
from_on x width = record { lo = x; hi = x +ℤ width }

lies_of_within : (s : Span) (width x : ℤ) → LiesInSpanFrom s width x → LiesIn (from_on x width) s
lies_of_within s width x w y h = record { low = omega (arith, ints, w.low, h.low); high = omega (arith, ints, w.high, h.high) }

within_of_lies : (s : Span) (width x : ℤ) → pos 0 <ℤ width → LiesIn (from_on x width) s → LiesInSpanFrom s width x
within_of_lies s width x some lies =
    let e : ContainsSpan (from_on x width) s = in_of_lies (from_on x width) s (omega (arith, ints, some)) lies in
    record { low = e.low; high = e.high }

rows_of_overlapped : (lists : List (List Span)) (overlapping_one : List Span) (g : SiteGrid) (width x : ℤ) → pos 0 <ℤ width → IsMeetAll lists overlapping_one → FitsOne overlapping_one g width x →
    FitsRows lists g width x
rows_of_overlapped lists overlapping_one g width x some m f =
    let filled : IsFilled (from_on x width) = omega (arith, ints, some) in
    let inside : LiesInOneOf overlapping_one (from_on x width) = any_weaker (λ s. LiesInSpanFrom s width x) (λ s. LiesIn (from_on x width) s) (λ s. lies_of_within s width x)
    overlapping_one f.within in
    let each : All (λ spans. LiesInOneOf spans (from_on x width)) lists = (m.exact (from_on x width) filled).0 inside in
    record {
      on_grid = f.on_grid;
      within = λ k d below. any_weaker (λ s. LiesIn (from_on x width) s) (λ s. LiesInSpanFrom s width x) (λ s. within_of_lies s width x some) (get_or lists k d)
          (each k d below);
    }

overlapped_of_rows : (lists : List (List Span)) (overlapping_one : List Span) (g : SiteGrid) (width x : ℤ) → pos 0 <ℤ width → IsMeetAll lists overlapping_one → FitsRows lists g width x →
    FitsOne overlapping_one g width x
overlapped_of_rows lists overlapping_one g width x some m f =
    let filled : IsFilled (from_on x width) = omega (arith, ints, some) in
    let each : All (λ spans. LiesInOneOf spans (from_on x width)) lists =
    λ k d below. any_weaker (λ s. LiesInSpanFrom s width x) (λ s. LiesIn (from_on x width) s) (λ s. lies_of_within s width x) (get_or lists k d)
    (f.within k d below) in
    let inside : LiesInOneOf overlapping_one (from_on x width) = (m.exact (from_on x width) filled).1 each in
    record {
      on_grid = f.on_grid;
      within = any_weaker (λ s. LiesIn (from_on x width) s) (λ s. LiesInSpanFrom s width x) (λ s. within_of_lies s width x some) overlapping_one
          inside;
    }

pub found_in_rows : (lists : List (List Span)) (overlapping_one : List Span) (g : SiteGrid) (width target w t : ℤ) (best : Option ℤ) → pos 0 <ℤ width → w ≡ width →
    t ≡ target → IsMeetAll lists overlapping_one →
    FindsNearest (λ x. FitsOne overlapping_one g w x) t best → FindsNearest (λ x. FitsRows lists g width x) target best
found_in_rows lists overlapping_one g width target w t best some same_width same_target m p =
    let first : FindsNearest (λ x. FitsOne overlapping_one g width x) t best = subst (λ (v : ℤ). FindsNearest (λ x. FitsOne overlapping_one g v x) t best) same_width p in
    let second : FindsNearest (λ x. FitsOne overlapping_one g width x) target best = subst (λ (v : ℤ). FindsNearest (λ x. FitsOne overlapping_one g width x) v best) same_target
    first in
    nearest_of_same (λ x. FitsOne overlapping_one g width x) (λ x. FitsRows lists g width x) target best
    (λ x. rows_of_overlapped lists overlapping_one g width x some m) (λ x. overlapped_of_rows lists overlapping_one g width x some m) second

-- One list alone.
pub meet_of_one : (spans : List Span) → IsRising spans → IsMeetAll (spans ∷ []) spans
meet_of_one spans rising = record {
  rising = rising;
  exact = λ s filled. (
    λ lies. All-cons (λ xs. LiesInOneOf xs s) spans [] lies (All-nil (λ xs. LiesInOneOf xs s)),
    λ all. all 0 [] (omega arith),
  );
}

pub one_list : (lists : List (Vec Span Global)) (first : Vec Span Global) → length lists ≡ 1 → first ≡ get_or lists 0 first →
    map (λ list. list.items) lists ≡ first.items ∷ []
one_list [] first one is = absurd (omega (arith, one))
one_list (v ∷ []) first one is = ap (λ (w : Vec Span Global). w.items ∷ []) (sym is)
one_list (v ∷ w ∷ vs) first one is = absurd (omega (arith, one))

-- The intersection is within the bounds of the first list.
pub near_overlapped : (lists : List (List Span)) (overlapping_one : List Span) → 0 < length lists → ((d : List Span) → All IsBoundedSpan (get_or lists 0 d)) →
    IsMeetAll lists overlapping_one → All IsBoundedSpan overlapping_one
near_overlapped lists overlapping_one some near m k d within =
    let s : Span = get_or overlapping_one k d in
    let filled : IsFilled s = m.rising.filled k d within in
    let itself : LiesInOneOf overlapping_one s = (k, s, within, get_or_default overlapping_one k s d within, λ x h. h) in
    let first : LiesInOneOf (get_or lists 0 []) s = (m.exact s filled).0 itself 0 [] some in
    let inside : InOne (get_or lists 0 []) s = in_one_of_lies s (get_or lists 0 []) filled first in
    let outer : IsBoundedSpan inside.1 = all_at IsBoundedSpan (λ t. ContainsSpan s t) (get_or lists 0 []) (near []) inside in
    let held : ContainsSpan s inside.1 = inside.4 in
    let low = outer.low in
    let high = outer.high in
    record {
      low = record { low = omega (arith, ints, low.low, held.low); high = omega (arith, ints, high.high, held.high, filled) };
      high = record { low = omega (arith, ints, low.low, held.low, filled); high = omega (arith, ints, high.high, held.high) };
    }

pub near_overlapped_of : (lists : List (Vec Span Global)) (overlapping_one : List Span) → 0 < length lists → All (λ list. All IsBoundedSpan list.items) lists →
    IsMeetAll (map (λ list. list.items) lists) overlapping_one →
    All IsBoundedSpan overlapping_one
near_overlapped_of [] overlapping_one some near m = absurd (omega (arith, some))
near_overlapped_of (v ∷ vs) overlapping_one some near m = near_overlapped (map (λ list. list.items) (v ∷ vs)) overlapping_one (omega arith) (λ d. near 0 v some) m

pub before_is : (span : Span) (best : Option ℤ) (wanted : Target) (x : ℤ) → best ≡ Some x → (span.hi -ℤ wanted.width) ≤ℤ wanted.target →
    distance_to wanted.target x < distance_to wanted.target (span.hi -ℤ wanted.width) → IsNearestSoFar span best wanted
before_is span best wanted x e left less =
    subst (λ (o : Option ℤ). IsNearestSoFar span o wanted) (sym e) (λ y h. omega (arith, ints, h, left, less))

-- ---- gap after gap

pub any_right : {X : Type 0} (P : X → Type 0) (xs ys : List X) → Any P ys → Any P (xs ++ ys)
any_right P [] ys a = a
any_right P (x ∷ xs) ys a = any_tail P x (xs ++ ys) (any_right P xs ys a)

-- A gap too narrow changes nothing.
pub narrow_gap : (gap : Span) (wanted : GapTarget) (best : Option ℤ) → (gap.hi ≤ℤ gap.lo) ⊎ ((gap.hi -ℤ gap.lo) <ℤ wanted.width) → AddsGap gap wanted best best
narrow_gap gap wanted best narrow = record { next = None; nearest = nowhere; nearer = stays best }
  where
    nowhere : (x : ℤ) → FitsSpan gap wanted.grid wanted.width x → ⊥
    nowhere x f =
        let low = f.within.low in
        let high = f.within.high in
        let some = wanted.some in
        elim narrow [ inl none ↦ omega (arith, ints, low, high, some, none) | inr less ↦ omega (arith, ints, low, high, less) ]

    stays : (b : Option ℤ) → IsNearerOf b None wanted.target b
    stays None = record { from = inl refl; first = tt; second = tt }
    stays (Some x) = record { from = inl refl; first = inr (refl, omega (arith, ints)); second = tt }

-- One gap more, if it holds a number.
pub gap_added : (free new : List Span) (gap : Span) (wanted : GapTarget) (best found : Option ℤ) → AddsFilled gap free new →
    FindsNearest (λ x. FitsOne free wanted.grid wanted.width x) wanted.target best → AddsGap gap wanted best found →
    FindsNearest (λ x. FitsOne new wanted.grid wanted.width x) wanted.target found
gap_added free new gap wanted best found (inl some) p adds =
    subst (λ (xs : List Span). FindsNearest (λ x. FitsOne xs wanted.grid wanted.width x) wanted.target found) (sym some.1)
    (nearest_of_both (λ x. FitsOne free wanted.grid wanted.width x) (λ x. FitsSpan gap wanted.grid wanted.width x)
    (λ x. FitsOne (free ++ gap ∷ []) wanted.grid wanted.width x) wanted.target best adds.next found p adds.nearest adds.nearer split left right)
  where
    split : (x : ℤ) → FitsOne (free ++ gap ∷ []) wanted.grid wanted.width x → FitsOne free wanted.grid wanted.width x ⊎ FitsSpan gap wanted.grid wanted.width x
    split x f =
        let P : Span → Type 0 = λ s. LiesInSpanFrom s wanted.width x in
        elim (any_split P free (gap ∷ []) f.within) [
          | inl a ↦ inl record { on_grid = f.on_grid; within = a }
          | inr a ↦ elim (any_cases P gap [] a) [
            | inl h ↦ inr record { on_grid = f.on_grid; within = h }
            | inr h ↦ absurd (omega (arith, h.2))
          ]
        ]

    left : (x : ℤ) → FitsOne free wanted.grid wanted.width x → FitsOne (free ++ gap ∷ []) wanted.grid wanted.width x
    left x f = record { on_grid = f.on_grid; within = any_left (λ s. LiesInSpanFrom s wanted.width x) free (gap ∷ []) f.within }

    right : (x : ℤ) → FitsSpan gap wanted.grid wanted.width x → FitsOne (free ++ gap ∷ []) wanted.grid wanted.width x
    right x f = record { on_grid = f.on_grid; within = Any-push (λ s. LiesInSpanFrom s wanted.width x) free gap f.within }
gap_added free new gap wanted best found (inr none) p adds =
    subst (λ (xs : List Span). FindsNearest (λ x. FitsOne xs wanted.grid wanted.width x) wanted.target found) (sym none.1)
    (nearest_of_both (λ x. FitsOne free wanted.grid wanted.width x) (λ x. FitsSpan gap wanted.grid wanted.width x)
    (λ x. FitsOne free wanted.grid wanted.width x) wanted.target best adds.next found p adds.nearest adds.nearer (λ x f. inl f) (λ x f. f) nowhere)
  where
    nowhere : (x : ℤ) → FitsSpan gap wanted.grid wanted.width x → FitsOne free wanted.grid wanted.width x
    nowhere x f =
        let low = f.within.low in
        let high = f.within.high in
        let some = wanted.some in
        absurd (omega (arith, ints, low, high, some, none.0))

-- The nearest number for two lists, one after the other.
pub lists_joined : (first second : List Span) (wanted : GapTarget) (a b found : Option ℤ) →
    FindsNearest (λ x. FitsOne first wanted.grid wanted.width x) wanted.target a → FindsNearest (λ x. FitsOne second wanted.grid wanted.width x) wanted.target b →
    IsNearerOf a b wanted.target found → FindsNearest (λ x. FitsOne (first ++ second) wanted.grid wanted.width x) wanted.target found
lists_joined first second wanted a b found p q n =
    nearest_of_both (λ x. FitsOne first wanted.grid wanted.width x) (λ x. FitsOne second wanted.grid wanted.width x)
    (λ x. FitsOne (first ++ second) wanted.grid wanted.width x) wanted.target a b found p q n split left right
  where
    split : (x : ℤ) → FitsOne (first ++ second) wanted.grid wanted.width x → FitsOne first wanted.grid wanted.width x ⊎ FitsOne second wanted.grid wanted.width x
    split x f = elim (any_split (λ s. LiesInSpanFrom s wanted.width x) first second f.within) [
      | inl h ↦ inl record { on_grid = f.on_grid; within = h }
      | inr h ↦ inr record { on_grid = f.on_grid; within = h }
    ]

    left : (x : ℤ) → FitsOne first wanted.grid wanted.width x → FitsOne (first ++ second) wanted.grid wanted.width x
    left x f = record { on_grid = f.on_grid; within = any_left (λ s. LiesInSpanFrom s wanted.width x) first second f.within }

    right : (x : ℤ) → FitsOne second wanted.grid wanted.width x → FitsOne (first ++ second) wanted.grid wanted.width x
    right x f = record { on_grid = f.on_grid; within = any_right (λ s. LiesInSpanFrom s wanted.width x) first second f.within }

-- Nothing fits an empty list.
pub none_fits : (wanted : GapTarget) → FindsNearest (λ x. FitsOne [] wanted.grid wanted.width x) wanted.target None
none_fits wanted x f = any_nil (λ s. LiesInSpanFrom s wanted.width x) f.within

-- What is true of the list of the found number.
pub found_weaker : (A B : List Span → Type 0) (wanted : GapTarget) (found : Option ℤ) → ((spans : List Span) → A spans → B spans) → FindsGap A wanted found →
    FindsGap B wanted found
found_weaker A B wanted found to f = record { spans = f.spans; is = to f.spans f.is; nearest = f.nearest }
