-- The walk over the taken spans in order: the free spans so far, and the rest of the range.
use Rattle.std.proofs.Common.{◌≡◌, ℕ, ◌+◌, ◌<◌, ◌≤◌, ℤ, ◌≤ℤ◌, ◌⊎◌, inl, inr, List, length, get_or, arith, subst, sym}
use Rattle.std.specs.Prelude.{All}
use Rattle.std.proofs.lemmas.Int.{ints}
use Rattle.std.proofs.lemmas.List.Elements.{All-weaker}
use Rattle.lf_units.specs.declared.span.Span.{Span}
use Rattle.lf_units.specs.Spans.{IsFilled, LiesIn, LiesInOneOf, IsDisjointFrom, IsRising, IsInOrder, IsFree, IsMeet, IsMinus}
use Rattle.lf_units.specs.Steps.{ContainsSpan, AddsFilled, IsBefore, IsAfter}
use Rattle.lf_units.proofs.Adds.{adds_keeps, adds_new, adds_all, adds_rising}
use Rattle.lf_units.proofs.Anys.{all_at}
use Rattle.lf_units.proofs.SpanEdges.{InOne, Clear, in_of_lies, lies_of_in, in_one_of_lies, lies_of_in_one, in_along, clear_of_apart, apart_of_clear, at_default}

-- Holds if the span shares no number with any filled span of the list.
abbrev ClearOf : List Span → Span → Type 0
ClearOf taken s = All (λ u. IsFilled u → Clear s u) taken

pub record Frees (range : Span) (taken free : List Span) (rest : Span) (k : ℕ) : Type 0 where
  pub rising : IsRising free
  pub before : All (λ t. t.hi ≤ℤ rest.lo) free
  pub low : range.lo ≤ℤ rest.lo
  pub high : rest.hi ≡ range.hi
  pub only : All (λ t. ContainsSpan t range × ClearOf taken t) free
  pub each : (s : Span) → IsFilled s → ContainsSpan s range → ClearOf taken s → InOne free s ⊎ (rest.lo ≤ℤ s.lo)
  pub passed : (m : ℕ) (d : Span) → m < k → IsFilled (get_or taken m d) → (get_or taken m d).hi ≤ℤ rest.lo

pub frees_skip : (range : Span) (taken free : List Span) (rest : Span) (k : ℕ) (d : Span) → k < length taken → Frees range taken free rest k →
    (IsFilled (get_or taken k d) → ⊥) → Frees range taken free rest (k + 1)
frees_skip range taken free rest k d within f none = record {
  rising = f.rising;
  before = f.before;
  low = f.low;
  high = f.high;
  only = f.only;
  each = f.each;
  passed = λ m e less filled. elim (below_or_at m less) [
    | inl h ↦ f.passed m e h filled
    | inr h ↦
        let Filled : ℕ → Type 0 = λ n. IsFilled (get_or taken n e) in
        let there : IsFilled (get_or taken k e) = subst Filled h filled in
        let is : IsFilled (get_or taken k d) = at_default taken k e d IsFilled within there in
        absurd (none is)
  ];
}
  where
    below_or_at : (m : ℕ) → m < k + 1 → (m < k) ⊎ (m ≡ k)
    below_or_at m less = grind arith

pub frees_more : (range : Span) (taken free new : List Span) (rest next z : Span) (k : ℕ) (d : Span) → IsInOrder taken → k < length taken →
    Frees range taken free rest k → IsFilled (get_or taken k d) → IsBefore rest (get_or taken k d) z → IsAfter rest (get_or taken k d) next →
    AddsFilled z free new → Frees range taken new next (k + 1)
frees_more range taken free new rest next z k d ordered within f filled before after_it adds = record {
  rising = adds_rising z free new adds f.rising (λ g. subst (λ (x : ℤ). All (λ t. t.hi ≤ℤ x) free) (sym before.same) f.before);
  before =
      adds_all (λ t. t.hi ≤ℤ next.lo) z free new adds
      (All-weaker (λ t. t.hi ≤ℤ rest.lo) (λ t. t.hi ≤ℤ next.lo) (λ t h. omega (arith, ints, h, after_it.within)) free f.before)
      (λ g. omega (arith, ints, before.near, filled, after_it.past));
  low = omega (arith, ints, f.low, after_it.within);
  high = cc (after_it.same, f.high);
  only = adds_all (λ t. ContainsSpan t range × ClearOf taken t) z free new adds f.only (λ g. (in_range, clear_of_others));
  each = λ s g e clear. elim (f.each s g e clear) [
    | inl h ↦ inl (adds_keeps z free new adds s h)
    | inr h ↦ elim (clear k d within filled) [
      | inl ends ↦
          let high : s.hi ≤ℤ z.hi = before.greatest s.hi ends (omega (arith, ints, e.high, f.high)) in
          inl (adds_new z free new adds s g record { low = omega (arith, ints, before.same, h); high = high })
      | inr begins ↦ inr (after_it.least s.lo begins h)
    ]
  ];
  passed = λ m e less g. elim (below_or_at m less) [
    | inl h ↦ let old = f.passed m e h g in omega (arith, ints, old, after_it.within)
    | inr h ↦
        let Ends : ℕ → Type 0 = λ n. (get_or taken n e).hi ≤ℤ next.lo in
        subst Ends (sym h) (at_default taken k d e (λ u. u.hi ≤ℤ next.lo) within after_it.past)
  ];
}
  where
    below_or_at : (m : ℕ) → m < k + 1 → (m < k) ⊎ (m ≡ k)
    below_or_at m less = grind arith

    in_range : ContainsSpan z range
    in_range = record { low = omega (arith, ints, f.low, before.same); high = omega (arith, ints, f.high, before.within) }

    three : (m : ℕ) → (m < k) ⊎ ((m ≡ k) ⊎ (k < m))
    three m = grind arith

    clear_of_others : ClearOf taken z
    clear_of_others m e inside g = elim (three m) [
      | inl h ↦ let old = f.passed m e h g in inr (omega (arith, ints, old, before.same))
      | inr (inl h) ↦
          let Begins : ℕ → Type 0 = λ n. z.hi ≤ℤ (get_or taken n e).lo in
          inl (subst Begins (sym h) (at_default taken k d e (λ u. z.hi ≤ℤ u.lo) within before.near))
      | inr (inr h) ↦
          let here : z.hi ≤ℤ (get_or taken k e).lo = at_default taken k d e (λ u. z.hi ≤ℤ u.lo) within before.near in
          let later : (get_or taken k e).lo ≤ℤ (get_or taken m e).lo = ordered k m e h inside in
          inl (omega (arith, ints, here, later))
    ]

apart_through : (s t : Span) (taken : List Span) → ContainsSpan s t → ClearOf taken t → IsDisjointFrom taken s
apart_through s t taken e clear m d inside x h k =
    apart_of_clear t (get_or taken m d) (clear m d inside (omega (arith, ints, k.low, k.high))) x (lies_of_in s t e x h) k

pub frees_end : (range : Span) (taken free new : List Span) (rest : Span) (k : ℕ) → length taken ≤ k → Frees range taken free rest k → AddsFilled rest free new →
    IsFree range taken new
frees_end range taken free new rest k all f adds = record {
  rising = adds_rising rest free new adds f.rising (λ g. f.before);
  exact = λ s g. (
    (λ h.
        let found : InOne new s = in_one_of_lies s new g h in
        let both : ContainsSpan found.1 range × ClearOf taken found.1 = all_at (λ t. ContainsSpan t range × ClearOf taken t) (λ t. ContainsSpan s t) new only found in
        (lies_of_in s range (in_along s found.1 range found.4 both.0), apart_through s found.1 taken found.4 both.1)),
    (λ h.
        let e : ContainsSpan s range = in_of_lies s range g h.0 in
        elim (f.each s g e (λ m d inside u. clear_of_apart s (get_or taken m d) g u (h.1 m d inside))) [
          | inl a ↦ lies_of_in_one s new (adds_keeps rest free new adds s a)
          | inr from ↦
              let high : s.hi ≤ℤ rest.hi = omega (arith, ints, e.high, f.high) in
              lies_of_in_one s new (adds_new rest free new adds s g record { low = from; high = high })
        ]),
  );
}
  where
    only : All (λ t. ContainsSpan t range × ClearOf taken t) new
    only =
        adds_all (λ t. ContainsSpan t range × ClearOf taken t) rest free new adds f.only
        (λ g. (record { low = f.low; high = omega (arith, ints, f.high) }, λ m d inside u. inr (f.passed m d (omega (arith, inside, all)) u)))

-- A list without another is its intersection with the free spans of the other.
pub minus_of : (range : Span) (a b free left : List Span) → IsFree range b free → IsMeet a free left → All (λ t. ContainsSpan t range) a → IsMinus a b left
minus_of range a b free left f m all = record {
  rising = m.rising;
  exact = λ s g. (
    (λ h. let both = (m.exact s g).0 h in (both.0, ((f.exact s g).0 both.1).1)),
    (λ h. (m.exact s g).1 (h.0, (f.exact s g).1 (within s g h.0, h.1))),
  );
}
  where
    within : (s : Span) → IsFilled s → LiesInOneOf a s → LiesIn s range
    within s g h =
        let found : InOne a s = in_one_of_lies s a g h in
        let whole : ContainsSpan found.1 range = all_at (λ t. ContainsSpan t range) (λ t. ContainsSpan s t) a all found in
        lies_of_in s range (in_along s found.1 range found.4 whole)
