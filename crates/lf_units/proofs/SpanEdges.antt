-- Containment and separation of spans, by their ends.
use Rattle.std.proofs.Common.{ℕ, suc, zero, pos, ◌≤ℤ◌, ◌-ℤ◌, ◌<◌, ◌⊎◌, inl, inr, List, [], ◌∷◌, length, get_or, drop, ◌-◌, ◌≡◌, arith, subst, sym}
use Rattle.std.specs.Prelude.{All, Any}
use Rattle.std.proofs.lemmas.Int.{ints, by_lt_z}
use Rattle.std.proofs.lemmas.List.{get_or_default}
use Rattle.std.proofs.lemmas.List.Elements.{All-nil, All-tail}
use Rattle.lf_units.specs.declared.span.Span.{Span}
use Rattle.lf_units.specs.Spans.{HoldsNumber, IsFilled, LiesIn, AreDisjoint, LiesInOneOf, IsRising}
use Rattle.lf_units.specs.Steps.{ContainsSpan}
use Rattle.lf_units.proofs.Anys.{any_weaker}

abbrev pub InOne : List Span → Span → Type 0
InOne spans s = Any (λ t. ContainsSpan s t) spans

pub in_of_lies : (s t : Span) → IsFilled s → LiesIn s t → ContainsSpan s t
in_of_lies s t filled lies =
    let first : HoldsNumber t s.lo = lies s.lo record { low = omega (arith, ints); high = filled } in
    let last : HoldsNumber t (s.hi -ℤ pos 1) = lies (s.hi -ℤ pos 1) record { low = omega (arith, ints); high = omega (arith, ints) } in
    record { low = first.low; high = omega (arith, ints) }

pub lies_of_in : (s t : Span) → ContainsSpan s t → LiesIn s t
lies_of_in s t e x h = record { low = omega (arith, ints); high = omega (arith, ints) }

pub in_one_of_lies : (s : Span) (spans : List Span) → IsFilled s → LiesInOneOf spans s → InOne spans s
in_one_of_lies s spans filled = any_weaker (λ t. LiesIn s t) (λ t. ContainsSpan s t) (λ t. in_of_lies s t filled) spans

pub lies_of_in_one : (s : Span) (spans : List Span) → InOne spans s → LiesInOneOf spans s
lies_of_in_one s spans = any_weaker (λ t. ContainsSpan s t) (λ t. LiesIn s t) (λ t. lies_of_in s t) spans

pub in_along : (s t u : Span) → ContainsSpan s t → ContainsSpan t u → ContainsSpan s u
in_along s t u e f = record { low = omega (arith, ints); high = omega (arith, ints) }

pub in_one_along : (s t : Span) (spans : List Span) → ContainsSpan s t → InOne spans t → InOne spans s
in_one_along s t spans e = any_weaker (λ u. ContainsSpan t u) (λ u. ContainsSpan s u) (λ u. in_along s t u e) spans

-- Holds if one span ends no later than the other begins.
abbrev pub Clear : Span → Span → Type 0
Clear s t = (s.hi ≤ℤ t.lo) ⊎ (t.hi ≤ℤ s.lo)

pub clear_of_apart : (s t : Span) → IsFilled s → IsFilled t → AreDisjoint s t → Clear s t
clear_of_apart s t f g apart =
    by_lt_z t.lo s.hi
    (λ below. by_lt_z s.lo t.hi
    (λ above. by_lt_z s.lo t.lo
    (λ h. absurd (apart t.lo record { low = omega (arith, ints); high = below } record { low = omega (arith, ints); high = g }))
    (λ h. absurd (apart s.lo record { low = omega (arith, ints); high = f } record { low = h; high = above })))
    (λ far. inr far))
    (λ far. inl far)

pub apart_of_clear : (s t : Span) → Clear s t → AreDisjoint s t
apart_of_clear s t clear x h k = elim clear [ inl e ↦ omega (arith, ints) | inr e ↦ omega (arith, ints) ]

-- ---- spans that rise

pub rising_nil : IsRising []
rising_nil = record { filled = All-nil IsFilled; apart = λ i j d less within. absurd (omega (arith, within)) }

pub rising_tail : (x : Span) (xs : List Span) → IsRising (x ∷ xs) → IsRising xs
rising_tail x xs r = record {
  filled = All-tail IsFilled x xs r.filled;
  apart = λ i j d less within. r.apart (suc i) (suc j) d (omega (arith, less)) (omega (arith, within));
}

pub rising_after : (x : Span) (xs : List Span) → IsRising (x ∷ xs) → All (λ t. x.hi ≤ℤ t.lo) xs
rising_after x xs r k d within = r.apart 0 (suc k) d (omega arith) (omega (arith, within))

pub rising_drop : (n : ℕ) (xs : List Span) → IsRising xs → IsRising (drop n xs)
rising_drop zero xs r = r
rising_drop (suc n) [] r = rising_nil
rising_drop (suc n) (x ∷ xs) r = rising_drop n xs (rising_tail x xs r)

-- Spans that rise lie between the start of the first and the end of the last.
pub rising_within : (xs : List Span) (z d : Span) → 0 < length xs → IsRising xs → z.lo ≡ (get_or xs 0 d).lo → z.hi ≡ (get_or xs (length xs - 1) d).hi →
    All (λ t. ContainsSpan t z) xs
rising_within xs z d some r low high k e within = record { low = from; high = to }
  where
    first_or : (k ≡ 0) ⊎ (0 < k)
    first_or = grind arith

    last_or : (k ≡ length xs - 1) ⊎ (k < length xs - 1)
    last_or = grind arith

    from : z.lo ≤ℤ (get_or xs k e).lo
    from = elim first_or [
      | inl h ↦
          let Begins : ℕ → Type 0 = λ n. z.lo ≤ℤ (get_or xs n e).lo in
          let there : z.lo ≤ℤ (get_or xs 0 e).lo = subst (λ (s : Span). z.lo ≤ℤ s.lo) (get_or_default xs 0 d e some) (omega (arith, ints, low)) in
          subst Begins (sym h) there
      | inr h ↦
          let apart = r.apart 0 k d h within in
          let filled = r.filled 0 d some in
          let there : z.lo ≤ℤ (get_or xs k d).lo = omega (arith, ints, low, apart, filled) in
          subst (λ (s : Span). z.lo ≤ℤ s.lo) (get_or_default xs k d e within) there
    ]

    to : (get_or xs k e).hi ≤ℤ z.hi
    to = elim last_or [
      | inl h ↦
          let Ends : ℕ → Type 0 = λ n. (get_or xs n e).hi ≤ℤ z.hi in
          let there : (get_or xs (length xs - 1) e).hi ≤ℤ z.hi = subst (λ (s : Span). s.hi ≤ℤ z.hi) (get_or_default xs (length xs - 1) d e (omega arith))
          (omega (arith, ints, high)) in
          subst Ends (sym h) there
      | inr h ↦
          let apart = r.apart k (length xs - 1) d h (omega arith) in
          let filled = r.filled (length xs - 1) d (omega arith) in
          let there : (get_or xs k d).hi ≤ℤ z.hi = omega (arith, ints, high, apart, filled) in
          subst (λ (s : Span). s.hi ≤ℤ z.hi) (get_or_default xs k d e within) there
    ]

-- A property of the element at a place does not depend on the default.
pub at_default : (xs : List Span) (k : ℕ) (d e : Span) (P : Span → Type 0) → k < length xs → P (get_or xs k d) → P (get_or xs k e)
at_default xs k d e P within p = subst P (get_or_default xs k d e within) p
