-- The least number of those that have a property.
use Rattle.std.proofs.Common.{◌≡◌, ◌⊎◌, inl, inr, ℕ, ◌+◌, ◌<◌, ◌≤◌, List, Option, Some, None, length, get_or, take, refl, sym, subst, ◌∙◌, arith}
use Rattle.std.specs.Prelude.{Any, IfSome, IsSomeAnd, MatchOption}
use Rattle.lf_occupancy.specs.MarkLists.{IsAtMostOwn, IsLeast}
use Rattle.lf_occupancy.proofs.Lists.{any_more, any_less}

-- a bound on a number is a bound for a lesser one too
up_to_less : (a b : Option ℕ) (n : ℕ) → IsAtMostOwn a n → IfSome a (IsAtMostOwn b) → IsAtMostOwn b n
up_to_less None b n low less = absurd low
up_to_less (Some x) None n low less = absurd less
up_to_less (Some x) (Some y) n low less = omega arith

up_to_itself : (a : Option ℕ) → IfSome a (IsAtMostOwn a)
up_to_itself None = tt
up_to_itself (Some x) = omega arith

no_greater_along : (a b c : Option ℕ) → IfSome a (IsAtMostOwn b) → IfSome b (IsAtMostOwn c) → IfSome a (IsAtMostOwn c)
no_greater_along None b c first second = tt
no_greater_along (Some x) b c first second = up_to_less b c x first second

some_weaker : (P Q : ℕ → Type 0) (a : Option ℕ) → ((n : ℕ) → P n → Q n) → IsSomeAnd a P → IsSomeAnd a Q
some_weaker P Q None f m = absurd m
some_weaker P Q (Some n) f m = f n m

-- the same numbers have the same least one
pub least_alike : (P Q : ℕ → Type 0) (a b : Option ℕ) → ((n : ℕ) → P n → Q n) → ((n : ℕ) → Q n → P n) → IsLeast P a b → IsLeast Q a b
least_alike P Q a b f g l = record {
  from = elim l.from [ inl same ↦ inl same | inr overlapping_one ↦ inr (some_weaker P Q b f overlapping_one) ];
  no_greater = l.no_greater;
  each = λ n q. l.each n (g n q);
}

-- no number has the property
pub least_of_none : (P : ℕ → Type 0) (a : Option ℕ) → ((n : ℕ) → P n → ⊥) → IsLeast P a a
least_of_none P a none = record { from = inl refl; no_greater = up_to_itself a; each = λ n p. absurd (none n p) }

-- the least over the first, and then over the second
pub least_of_both : (P Q : ℕ → Type 0) (a b c : Option ℕ) → IsLeast P a b → IsLeast Q b c → IsLeast (λ n. P n ⊎ Q n) a c
least_of_both P Q a b c first second = record {
  from = elim second.from [
    | inl same ↦ elim first.from [
      | inl again ↦ inl (same ∙ again)
      | inr overlapping_one ↦ inr (some_weaker P (λ n. P n ⊎ Q n) c (λ n p. inl p) (subst (λ (o : Option ℕ). IsSomeAnd o P) (sym same) overlapping_one))
    ]
    | inr overlapping_one ↦ inr (some_weaker Q (λ n. P n ⊎ Q n) c (λ n q. inr q) overlapping_one)
  ];
  no_greater = no_greater_along a b c first.no_greater second.no_greater;
  each = λ n either. elim either [ inl p ↦ up_to_less b c n (first.each n p) second.no_greater | inr q ↦ second.each n q ];
}

-- the least over the elements visited, and over one more
pub least_more : {X : Type 0} (P : ℕ → X → Type 0) (xs : List X) (i : ℕ) (x : X) (a b c : Option ℕ) → i < length xs → x ≡ get_or xs i x →
    IsLeast (λ n. Any (P n) (take i xs)) a b → IsLeast (λ n. P n x) b c → IsLeast (λ n. Any (P n) (take (i + 1) xs)) a c
least_more P xs i x a b c within is first second =
    least_alike (λ n. Any (P n) (take i xs) ⊎ P n x) (λ n. Any (P n) (take (i + 1) xs)) a c (λ n either. any_more (P n) xs i x within is either)
    (λ n any. any_less (P n) xs i x within is any) (least_of_both (λ n. Any (P n) (take i xs)) (λ n. P n x) a b c first second)

-- starting from None, the least number with the property, or None if there is no such number
pub least_from_none : (P : ℕ → Type 0) (b : Option ℕ) → IsLeast P None b → MatchOption b ((n : ℕ) → P n → ⊥) (λ n. P n × ((m : ℕ) → P m → n ≤ m))
least_from_none P None l = λ n p. l.each n p
least_from_none P (Some n) l = elim l.from [ inl same ↦ absurd cc | inr overlapping_one ↦ (overlapping_one, λ m p. l.each m p) ]
