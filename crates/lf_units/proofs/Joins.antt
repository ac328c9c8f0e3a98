-- The walk over spans in order, each joined to the last one if they share a number or touch.
use Rattle.std.proofs.Common.{◌≡◌, ℕ, ◌+◌, ◌<◌, ◌≤◌, ℤ, ◌≤ℤ◌, ◌<ℤ◌, ◌⊎◌, inl, inr, List, length, get_or, arith, subst, sym, ◌∙◌}
use Rattle.std.specs.Prelude.{All, AllPairs, Any, Contains, IsPermutation}
use Rattle.std.proofs.lemmas.Int.{ints, by_lt_z}
use Rattle.std.proofs.lemmas.List.{get_or_default}
use Rattle.std.proofs.lemmas.List.Elements.{All-weaker}
use Rattle.std.proofs.lemmas.List.Sorted.{Contains-permutation, IsPermutation-sym}
use Rattle.lf_units.specs.declared.span.Span.{Span}
use Rattle.lf_units.specs.Spans.{HoldsNumber, IsFilled, HeldByOne, IsInOrder, IsJoin}
use Rattle.lf_units.specs.Steps.{ContainsSpan, AddsFilled, IsLonger}
use Rattle.lf_units.proofs.Adds.{adds_keeps, adds_new, adds_all, adds_pairs}
use Rattle.lf_units.proofs.Anys.{all_at}
use Rattle.lf_units.proofs.SpanEdges.{InOne, lies_of_in, in_one_of_lies, lies_of_in_one, in_along, at_default}

-- Holds if each number of the span lies in a span of the list.
abbrev Held : List Span → Span → Type 0
Held spans t = (x : ℤ) → HoldsNumber t x → HeldByOne spans x

pub record Joins (spans joined : List Span) (last : Span) (k : ℕ) : Type 0 where
  pub filled : All IsFilled joined
  pub apart : AllPairs (λ s t. s.hi <ℤ t.lo) joined
  pub before : All (λ t. IsFilled last × (t.hi <ℤ last.lo)) joined
  pub low : (m : ℕ) (d : Span) → k ≤ m → m < length spans → IsFilled last → last.lo ≤ℤ (get_or spans m d).lo
  pub each : (m : ℕ) (d : Span) → m < k → IsFilled (get_or spans m d) → InOne joined (get_or spans m d) ⊎ ContainsSpan (get_or spans m d) last
  pub only : All (Held spans) joined
  pub held : Held spans last

below_or_at : (k m : ℕ) → m < k + 1 → (m < k) ⊎ (m ≡ k)
below_or_at k m less = grind arith

-- What holds for each position below k and for k holds for each position up to k.
each_next : (spans : List Span) (k : ℕ) (d : Span) (P : Span → Type 0) → k < length spans →
    ((m : ℕ) (e : Span) → m < k → IsFilled (get_or spans m e) → P (get_or spans m e)) → (IsFilled (get_or spans k d) → P (get_or spans k d)) →
    (m : ℕ) (e : Span) → m < k + 1 → IsFilled (get_or spans m e) → P (get_or spans m e)
each_next spans k d P within old new m e less filled = elim (below_or_at k m less) [
  | inl h ↦ old m e h filled
  | inr h ↦
      let Q : Span → Type 0 = λ u. IsFilled u → P u in
      let R : ℕ → Type 0 = λ n. Q (get_or spans n e) in
      let there : Q (get_or spans k e) = at_default spans k d e Q within new in
      let here : Q (get_or spans m e) = subst R (sym h) there in
      here filled
]

pub joins_skip : (spans joined : List Span) (last : Span) (k : ℕ) (d : Span) → k < length spans → Joins spans joined last k →
    (IsFilled (get_or spans k d) → ⊥) → Joins spans joined last (k + 1)
joins_skip spans joined last k d within j none = record {
  filled = j.filled;
  apart = j.apart;
  before = j.before;
  low = λ m e from inside g. j.low m e (omega (arith, from)) inside g;
  each = each_next spans k d (λ u. InOne joined u ⊎ ContainsSpan u last) within j.each (λ g. absurd (none g));
  only = j.only;
  held = j.held;
}

pub joins_longer : (spans joined : List Span) (last z : Span) (k : ℕ) (d : Span) → k < length spans → Joins spans joined last k → IsFilled last →
    (get_or spans k d).lo ≤ℤ last.hi → IsLonger last (get_or spans k d) z → Joins spans joined z (k + 1)
joins_longer spans joined last z k d within j filled touches longer = record {
  filled = j.filled;
  apart = j.apart;
  before = All-weaker (λ t. IsFilled last × (t.hi <ℤ last.lo)) (λ t. IsFilled z × (t.hi <ℤ z.lo)) (λ t h. (more, omega (arith, ints, h.1, longer.same)))
      joined j.before;
  low = λ m e from inside g. let old = j.low m e (omega (arith, from)) inside filled in omega (arith, ints, old, longer.same);
  each =
      each_next spans k d (λ u. InOne joined u ⊎ ContainsSpan u z) within
      (λ m e less g. elim (j.each m e less g) [ inl a ↦ inl a | inr a ↦ inr (in_along (get_or spans m e) last z a whole) ])
      (λ g. inr record { low = omega (arith, ints, begins, longer.same); high = longer.second });
  only = j.only;
  held = λ x h. by_lt_z x last.hi
      (λ inside. j.held x record { low = omega (arith, ints, h.low, longer.same); high = inside })
      (λ past. by_lt_z x (get_or spans k d).hi
      (λ inside.
      let here : HoldsNumber (get_or spans k d) x = record { low = omega (arith, ints, touches, past); high = inside } in
      let found : get_or spans k (get_or spans k d) ≡ get_or spans k d = get_or_default spans k (get_or spans k d) d within in
      (k, get_or spans k d, within, found, here))
      (λ over. let ends = longer.least x past over in absurd (omega (arith, ints, ends, h.high))));
}
  where
    more : IsFilled z
    more = omega (arith, ints, filled, longer.same, longer.first)

    begins : last.lo ≤ℤ (get_or spans k d).lo
    begins = j.low k d (omega arith) within filled

    whole : ContainsSpan last z
    whole = record { low = omega (arith, ints, longer.same); high = longer.first }

pub joins_next : (spans joined new : List Span) (last : Span) (k : ℕ) (d : Span) → IsInOrder spans → k < length spans → Joins spans joined last k →
    IsFilled (get_or spans k d) → (IsFilled last × ((get_or spans k d).lo ≤ℤ last.hi) → ⊥) → AddsFilled last joined new → Joins spans new (get_or spans k d) (k + 1)
joins_next spans joined new last k d ordered within j filled apart adds = record {
  filled = adds_all IsFilled last joined new adds j.filled (λ g. g);
  apart = adds_pairs (λ s t. s.hi <ℤ t.lo) last joined new adds j.apart
      (λ g. All-weaker (λ t. IsFilled last × (t.hi <ℤ last.lo)) (λ t. t.hi <ℤ last.lo) (λ t h. h.1) joined j.before);
  before =
      adds_all (λ t. IsFilled (get_or spans k d) × (t.hi <ℤ (get_or spans k d).lo)) last joined new adds
      (All-weaker (λ t. IsFilled last × (t.hi <ℤ last.lo)) (λ t. IsFilled (get_or spans k d) × (t.hi <ℤ (get_or spans k d).lo))
      (λ t h. let begins = j.low k d (omega arith) within h.0 in (filled, omega (arith, ints, h.1, begins))) joined j.before)
      (λ g. (filled, by_lt_z last.hi (get_or spans k d).lo (λ h. h) (λ h. absurd (apart (g, h)))));
  low = λ m e from inside g.
      let later : (get_or spans k e).lo ≤ℤ (get_or spans m e).lo = ordered k m e (omega (arith, from)) inside in
      at_default spans k e d (λ u. u.lo ≤ℤ (get_or spans m e).lo) within later;
  each =
      each_next spans k d (λ u. InOne new u ⊎ ContainsSpan u (get_or spans k d)) within
      (λ m e less g. elim (j.each m e less g) [
        | inl a ↦ inl (adds_keeps last joined new adds (get_or spans m e) a)
        | inr a ↦ inl (adds_new last joined new adds (get_or spans m e) g a)
      ])
      (λ g. inr record { low = omega (arith, ints); high = omega (arith, ints) });
  only = adds_all (Held spans) last joined new adds j.only (λ g. j.held);
  held = λ x h.
      let found : get_or spans k (get_or spans k d) ≡ get_or spans k d = get_or_default spans k (get_or spans k d) d within in
      (k, get_or spans k d, within, found, h);
}

-- Of spans that stay apart, the one in which another ends is that one.
no_second : (joined : List Span) (t u : Span) (m n : ℕ) → AllPairs (λ s t. s.hi <ℤ t.lo) joined → m < length joined → n < length joined →
    get_or joined m t ≡ t → get_or joined n u ≡ u → IsFilled t → u.lo ≤ℤ t.hi → t.hi <ℤ u.hi → ⊥
no_second joined t u m n apart in_m in_n is_t is_u filled low high = elim (three m n) [
  | inl h ↦
      let far : (get_or joined m t).hi <ℤ (get_or joined n t).lo = apart m n t h in_n in
      let near : (get_or joined m t).hi <ℤ u.lo = subst (λ (v : Span). (get_or joined m t).hi <ℤ v.lo) (get_or_default joined n t u in_n ∙ is_u) far in
      let end : t.hi <ℤ u.lo = subst (λ (v : Span). v.hi <ℤ u.lo) is_t near in
      omega (arith, ints, end, low)
  | inr (inl h) ↦
      let R : ℕ → Type 0 = λ i. get_or joined i u ≡ u in
      let at : get_or joined m u ≡ u = subst R h is_u in
      let one : t ≡ u = sym is_t ∙ get_or_default joined m t u in_m ∙ at in
      let end : u.hi <ℤ u.hi = subst (λ (v : Span). v.hi <ℤ u.hi) one high in
      omega (arith, ints, end)
  | inr (inr h) ↦
      let far : (get_or joined n u).hi <ℤ (get_or joined m u).lo = apart n m u h in_m in
      let near : (get_or joined n u).hi <ℤ t.lo = subst (λ (v : Span). (get_or joined n u).hi <ℤ v.lo) (get_or_default joined m u t in_m ∙ is_t) far in
      let end : u.hi <ℤ t.lo = subst (λ (v : Span). v.hi <ℤ t.lo) is_u near in
      omega (arith, ints, end, high, filled)
]
  where
    three : (m n : ℕ) → (m < n) ⊎ ((n ≡ m) ⊎ (n < m))
    three m n = grind arith

in_joined : (spans joined : List Span) (x : ℤ) → ((m : ℕ) (d : Span) → m < length spans → IsFilled (get_or spans m d) → InOne joined (get_or spans m d)) →
    HeldByOne spans x → Any (λ t. HoldsNumber t x) joined
in_joined spans joined x each a =
    let holds : HoldsNumber (get_or spans a.0 a.1) x = subst (λ (v : Span). HoldsNumber v x) (sym a.3) a.4 in
    let found : InOne joined (get_or spans a.0 a.1) = each a.0 a.1 a.2 (omega (arith, ints, holds.low, holds.high)) in
    (found.0, found.1, found.2, found.3, lies_of_in (get_or spans a.0 a.1) found.1 found.4 x holds)

pub joins_end : (spans joined new : List Span) (last : Span) (k : ℕ) → length spans ≤ k → Joins spans joined last k → AddsFilled last joined new → IsJoin spans new
joins_end spans joined new last k all j adds = record {
  rising = record { filled = filled; apart = λ m n d less within. let far = apart m n d less within in omega (arith, ints, far) };
  exact = λ s g. (
    (λ h x holds.
        let found : InOne new s = in_one_of_lies s new g h in
        let held : Held spans found.1 = all_at (Held spans) (λ t. ContainsSpan s t) new only found in
        held x (lies_of_in s found.1 found.4 x holds)),
    (λ h.
        let first : Any (λ t. HoldsNumber t s.lo) new = in_joined spans new s.lo each (h s.lo record { low = omega (arith, ints); high = g }) in
        let begins : HoldsNumber first.1 s.lo = first.4 in
        by_lt_z first.1.hi s.hi
        (λ over.
        let second : Any (λ t. HoldsNumber t first.1.hi) new = in_joined spans new first.1.hi each
        (h first.1.hi record { low = omega (arith, ints, begins.high); high = over }) in
        let there : HoldsNumber second.1 first.1.hi = second.4 in
        absurd (no_second new first.1 second.1 first.0 second.0 apart first.2 second.2 first.3 second.3 (omega (arith, ints, begins.low, begins.high))
        there.low there.high))
        (λ within. lies_of_in_one s new (first.0, first.1, first.2, first.3, record { low = begins.low; high = within }))),
  );
}
  where
    filled : All IsFilled new
    filled = adds_all IsFilled last joined new adds j.filled (λ g. g)

    apart : AllPairs (λ s t. s.hi <ℤ t.lo) new
    apart = adds_pairs (λ s t. s.hi <ℤ t.lo) last joined new adds j.apart
        (λ g. All-weaker (λ t. IsFilled last × (t.hi <ℤ last.lo)) (λ t. t.hi <ℤ last.lo) (λ t h. h.1) joined j.before)

    only : All (Held spans) new
    only = adds_all (Held spans) last joined new adds j.only (λ g. j.held)

    each : (m : ℕ) (d : Span) → m < length spans → IsFilled (get_or spans m d) → InOne new (get_or spans m d)
    each m d within g = elim (j.each m d (omega (arith, within, all)) g) [
      | inl a ↦ adds_keeps last joined new adds (get_or spans m d) a
      | inr a ↦ adds_new last joined new adds (get_or spans m d) g a
    ]

-- The order of the list does not change which numbers its spans hold.
held_moved : (spans sorted : List Span) (x : ℤ) → IsPermutation spans sorted → HeldByOne spans x → HeldByOne sorted x
held_moved spans sorted x moved (k, t, within, is, h) =
    let there : Contains sorted t = Contains-permutation spans sorted t moved (k, within, is) in
    (there.0, t, there.1, there.2, h)

pub join_moved : (spans sorted joined : List Span) → IsPermutation spans sorted → IsJoin sorted joined → IsJoin spans joined
join_moved spans sorted joined moved j = record {
  rising = j.rising;
  exact = λ s g. (
    (λ h x holds. held_moved sorted spans x (IsPermutation-sym spans sorted moved) ((j.exact s g).0 h x holds)),
    (λ h. (j.exact s g).1 (λ x holds. held_moved spans sorted x moved (h x holds))),
  );
}
