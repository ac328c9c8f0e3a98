-- Two lists of spans read in parallel: the intersection so far, and the rest of each list.
use Rattle.std.proofs.Common.{◌≡◌, ℕ, ◌+◌, ◌<◌, ◌≤◌, ◌≤ℤ◌, ◌⊎◌, inl, inr, List, [], ◌∷◌, ◌++◌, length, get_or, drop, arith, subst, sym, add-one, drop-cons, take, map, refl, ap, ◌∙◌, Some, Vec, Global}
use Rattle.std.specs.Prelude.{All}
use Rattle.std.proofs.lemmas.Int.{ints}
use Rattle.std.proofs.lemmas.List.{drop_all, take-map, map_more}
use Rattle.std.proofs.lemmas.List.Elements.{All-nil, All-cons, All-head, All-push, All-pop, All-weaker}
use Rattle.lf_units.specs.declared.span.Span.{Span}
use Rattle.lf_units.specs.Spans.{IsFilled, LiesInOneOf, IsRising, IsMeet, IsMeetAll}
use Rattle.lf_units.specs.Steps.{ContainsSpan, AddsFilled, IsOverlap}
use Rattle.lf_units.proofs.Adds.{adds_keeps, adds_new, adds_all, adds_rising}
use Rattle.lf_units.proofs.Anys.{any_nil, any_head, any_tail, any_cases, all_at}
use Rattle.lf_units.proofs.SpanEdges.{InOne, in_one_of_lies, lies_of_in_one, in_one_along, rising_tail, rising_after}

pub record Overlaps (a b overlapping_one left right : List Span) : Type 0 where
  pub rising : IsRising overlapping_one
  pub left_rising : IsRising left
  pub right_rising : IsRising right
  pub only : All (λ t. InOne a t × InOne b t) overlapping_one
  pub each : (s : Span) → IsFilled s → InOne a s → InOne b s → InOne overlapping_one s ⊎ (InOne left s × InOne right s)
  pub before : (s : Span) → IsFilled s → InOne left s → InOne right s → All (λ t. t.hi ≤ℤ s.lo) overlapping_one
  pub of_left : (s : Span) → InOne left s → InOne a s
  pub of_right : (s : Span) → InOne right s → InOne b s

swapped : (a b overlapping_one left right : List Span) → Overlaps a b overlapping_one left right → Overlaps b a overlapping_one right left
swapped a b overlapping_one left right m = record {
  rising = m.rising;
  left_rising = m.right_rising;
  right_rising = m.left_rising;
  only = All-weaker (λ t. InOne a t × InOne b t) (λ t. InOne b t × InOne a t) (λ t p. (p.1, p.0)) overlapping_one m.only;
  each = λ s f l k. elim (m.each s f k l) [ inl h ↦ inl h | inr h ↦ inr (h.1, h.0) ];
  before = λ s f l k. m.before s f k l;
  of_left = m.of_right;
  of_right = m.of_left;
}

-- What lies in the first span and in one of the others lies in the first of the others, if that one
-- ends no earlier.
in_second : (s x y : Span) (ys : List Span) → IsFilled s → ContainsSpan s x → x.hi ≤ℤ y.hi → IsRising (y ∷ ys) → InOne (y ∷ ys) s → ContainsSpan s y
in_second s x y ys filled e ends rising a = elim (any_cases (λ t. ContainsSpan s t) y ys a) [
  | inl h ↦ h
  | inr r ↦
      let begins : y.hi ≤ℤ r.1.lo = all_at (λ t. y.hi ≤ℤ t.lo) (λ t. ContainsSpan s t) ys (rising_after y ys rising) r in
      let held : ContainsSpan s r.1 = r.4 in
      absurd (omega (arith, ints, begins, held.low, e.high, ends, filled))
]

ends_before : (s x z : Span) (xs : List Span) → ContainsSpan z x → IsRising (x ∷ xs) → InOne xs s → z.hi ≤ℤ s.lo
ends_before s x z xs e rising a =
    let begins : x.hi ≤ℤ a.1.lo = all_at (λ t. x.hi ≤ℤ t.lo) (λ t. ContainsSpan s t) xs (rising_after x xs rising) a in
    let held : ContainsSpan s a.1 = a.4 in
    omega (arith, ints, begins, held.low, e.high)

pub past_first : (a b overlapping_one new : List Span) (x : Span) (xs : List Span) (y : Span) (ys : List Span) (z : Span) → Overlaps a b overlapping_one (x ∷ xs) (y ∷ ys) →
    IsOverlap x y z → AddsFilled z overlapping_one new → x.hi ≤ℤ y.hi → Overlaps a b new xs (y ∷ ys)
past_first a b overlapping_one new x xs y ys z m o adds ends =
    let in_x : InOne (x ∷ xs) z = any_head (λ t. ContainsSpan z t) x xs o.first in
    let in_y : InOne (y ∷ ys) z = any_head (λ t. ContainsSpan z t) y ys o.second in
    record {
      rising = adds_rising z overlapping_one new adds m.rising (λ filled. m.before z filled in_x in_y);
      left_rising = rising_tail x xs m.left_rising;
      right_rising = m.right_rising;
      only = adds_all (λ t. InOne a t × InOne b t) z overlapping_one new adds m.only (λ filled. (m.of_left z in_x, m.of_right z in_y));
      each = λ s f l k. elim (m.each s f l k) [
        | inl h ↦ inl (adds_keeps z overlapping_one new adds s h)
        | inr h ↦ elim (any_cases (λ t. ContainsSpan s t) x xs h.0) [
          | inl e ↦ inl (adds_new z overlapping_one new adds s f (o.greatest s e (in_second s x y ys f e ends m.right_rising h.1)))
          | inr r ↦ inr (r, h.1)
        ]
      ];
      before = λ s f l k. adds_all (λ t. t.hi ≤ℤ s.lo) z overlapping_one new adds (m.before s f (any_tail (λ t. ContainsSpan s t) x xs l) k)
          (λ filled. ends_before s x z xs o.first m.left_rising l);
      of_left = λ s l. m.of_left s (any_tail (λ t. ContainsSpan s t) x xs l);
      of_right = m.of_right;
    }

overlap_swapped : (x y z : Span) → IsOverlap x y z → IsOverlap y x z
overlap_swapped x y z o = record { first = o.second; second = o.first; greatest = λ s e f. o.greatest s f e }

-- Once one list is exhausted, the intersection is complete.
pub all_overlapped : (a b overlapping_one left right : List Span) → Overlaps a b overlapping_one left right → ((s : Span) → InOne left s → InOne right s → ⊥) → IsMeet a b overlapping_one
all_overlapped a b overlapping_one left right m none = record {
  rising = m.rising;
  exact = λ s f. (
    (λ h.
        let found : InOne overlapping_one s = in_one_of_lies s overlapping_one f h in
        let both : InOne a found.1 × InOne b found.1 = all_at (λ t. InOne a t × InOne b t) (λ t. ContainsSpan s t) overlapping_one m.only found in
        (lies_of_in_one s a (in_one_along s found.1 a found.4 both.0), lies_of_in_one s b (in_one_along s found.1 b found.4 both.1))),
    (λ h. elim (m.each s f (in_one_of_lies s a f h.0) (in_one_of_lies s b f h.1)) [
      | inl g ↦ lies_of_in_one s overlapping_one g
      | inr g ↦ absurd (none s g.0 g.1)
    ]),
  );
}

pub from_place : (xs : List Span) (n : ℕ) (d : Span) → n < length xs → drop n xs ≡ get_or xs n d ∷ drop (n + 1) xs
from_place xs n d within = cc (drop-cons xs n d within, add-one n)

pub past_first_at : (a b overlapping_one new : List Span) (i j : ℕ) (d e : Span) (z : Span) → i < length a → j < length b → Overlaps a b overlapping_one (drop i a) (drop j b) →
    IsOverlap (get_or a i d) (get_or b j e) z → AddsFilled z overlapping_one new → (get_or a i d).hi ≤ℤ (get_or b j e).hi → Overlaps a b new (drop (i + 1) a) (drop j b)
past_first_at a b overlapping_one new i j d e z in_a in_b m o adds ends =
    let first = from_place a i d in_a in
    let second = from_place b j e in_b in
    let parted : Overlaps a b overlapping_one (get_or a i d ∷ drop (i + 1) a) (get_or b j e ∷ drop (j + 1) b) =
    subst (λ (ys : List Span). Overlaps a b overlapping_one (get_or a i d ∷ drop (i + 1) a) ys) second
    (subst (λ (xs : List Span). Overlaps a b overlapping_one xs (drop j b)) first m) in
    subst (λ (ys : List Span). Overlaps a b new (drop (i + 1) a) ys) (sym second)
    (past_first a b overlapping_one new (get_or a i d) (drop (i + 1) a) (get_or b j e) (drop (j + 1) b) z parted o adds ends)

pub past_second_at : (a b overlapping_one new : List Span) (i j : ℕ) (d e : Span) (z : Span) → i < length a → j < length b → Overlaps a b overlapping_one (drop i a) (drop j b) →
    IsOverlap (get_or a i d) (get_or b j e) z → AddsFilled z overlapping_one new → (get_or b j e).hi ≤ℤ (get_or a i d).hi → Overlaps a b new (drop i a) (drop (j + 1) b)
past_second_at a b overlapping_one new i j d e z in_a in_b m o adds ends =
    swapped b a new (drop (j + 1) b) (drop i a)
    (past_first_at b a overlapping_one new j i e d z in_b in_a (swapped a b overlapping_one (drop i a) (drop j b) m) (overlap_swapped (get_or a i d) (get_or b j e) z o) adds ends)

none_after : (xs : List Span) (n : ℕ) (s : Span) → length xs ≤ n → InOne (drop n xs) s → ⊥
none_after xs n s past a = any_nil (λ t. ContainsSpan s t) (subst (λ (ys : List Span). InOne ys s) (drop_all n xs past) a)

pub first_passed : (a b overlapping_one : List Span) (i j : ℕ) → Overlaps a b overlapping_one (drop i a) (drop j b) → length a ≤ i → IsMeet a b overlapping_one
first_passed a b overlapping_one i j m past = all_overlapped a b overlapping_one (drop i a) (drop j b) m (λ s l k. none_after a i s past l)

pub second_passed : (a b overlapping_one : List Span) (i j : ℕ) → Overlaps a b overlapping_one (drop i a) (drop j b) → length b ≤ j → IsMeet a b overlapping_one
second_passed a b overlapping_one i j m past = all_overlapped a b overlapping_one (drop i a) (drop j b) m (λ s l k. none_after b j s past k)

-- ---- any number of lists

pub meet_of_one : (xs : List Span) → IsRising xs → IsMeetAll (xs ∷ []) xs
meet_of_one xs rising = record {
  rising = rising;
  exact = λ s f.
      let P : List Span → Type 0 = λ spans. LiesInOneOf spans s in
      ((λ h. All-cons P xs [] h (All-nil P)), (λ h. All-head P xs [] h));
}

pub meet_of_more : (lists : List (List Span)) (xs overlapping_one new : List Span) → IsMeetAll lists overlapping_one → IsMeet overlapping_one xs new → IsMeetAll (lists ++ xs ∷ []) new
meet_of_more lists xs overlapping_one new all m = record {
  rising = m.rising;
  exact = λ s f.
      let P : List Span → Type 0 = λ spans. LiesInOneOf spans s in (
        (λ h. let both = (m.exact s f).0 h in All-push P lists xs ((all.exact s f).0 both.0) both.1),
        (λ h. let parts = All-pop P (lists ++ xs ∷ []) lists (Some xs) refl h in (m.exact s f).1 ((all.exact s f).1 parts.0, parts.1)),
      );
}

-- The intersection of the first lists.
abbrev pub FrontOverlaps : List (Vec Span Global) → ℕ → List Span → Type 0
FrontOverlaps lists k overlapping_one = IsMeetAll (take k (map (λ list. list.items) lists)) overlapping_one

pub overlaps_next : (lists : List (Vec Span Global)) (k : ℕ) (d : Vec Span Global) (overlapping_one new : List Span) → k < length lists →
    IsMeetAll (take k (map (λ list. list.items) lists)) overlapping_one →
    IsMeet overlapping_one (get_or lists k d).items new → IsMeetAll (take (k + 1) (map (λ list. list.items) lists)) new
overlaps_next lists k d overlapping_one new within all m =
    let parts : take (k + 1) (map (λ (v : Vec Span Global). v.items) lists) ≡ take k (map (λ (v : Vec Span Global). v.items) lists) ++
    (get_or lists k d).items ∷ [] =
    take-map (λ (v : Vec Span Global). v.items) (k + 1) lists ∙ map_more (λ (v : Vec Span Global). v.items) lists k d within
    ∙ ap (λ (xs : List (List Span)). xs ++ (get_or lists k d).items ∷ []) (sym (take-map (λ (v : Vec Span Global). v.items) k lists)) in
    subst (λ (xs : List (List Span)). IsMeetAll xs new) (sym parts)
    (meet_of_more (take k (map (λ list. list.items) lists)) (get_or lists k d).items overlapping_one new all m)

pub overlaps_first : (lists : List (Vec Span Global)) (d : Vec Span Global) → 0 < length lists → IsRising (get_or lists 0 d).items →
    IsMeetAll (take 1 (map (λ list. list.items) lists)) (get_or lists 0 d).items
overlaps_first [] d some rising = absurd (omega (arith, some))
overlaps_first (x ∷ xs) d some rising = meet_of_one x.items rising
