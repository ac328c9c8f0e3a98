-- The walk over blocked sites in order: the longest run so far, and where the next one may start.
use Rattle.std.proofs.Common.{◌≡◌, ◌⊎◌, inl, inr, ℕ, ◌+◌, ◌-◌, ◌<◌, ◌≤◌, min, max, List, length, get_or, false, Ordering, refl, sym, subst, arith}
use Rattle.std.specs.declared.cmp.Ordering.TheVariants.{Less, Equal, Greater}
use Rattle.std.specs.Ordering.{is_lt, nat_cmp, MatchOrdering}
use Rattle.std.specs.List.Sorted.{IsSortedByKey}
use Rattle.std.proofs.lemmas.Cmp.{nat_cmp_total, ranked}
use Rattle.std.proofs.lemmas.List.{get_or_default}
use Rattle.std.proofs.lemmas.List.Sorted.{sorted_far, ranks_by}
use Rattle.lf_repair_bounds.specs.declared.site_runs.SiteRange.{SiteRange}
use Rattle.lf_repair_bounds.specs.SiteRuns.{SitesRise, IsLongestRun, IsRun}

not_less : (r : Ordering) (a b : ℕ) → MatchOrdering r (a < b) (a ≡ b) (b < a) → is_lt r ≡ false → b ≤ a
not_less Less a b m e = absurd cc
not_less Equal a b m e = omega (arith, m)
not_less Greater a b m e = omega (arith, m)

pub in_order_of_sorted : (xs : List SiteRange) → IsSortedByKey (λ s. s.from) nat_cmp xs → SitesRise xs
in_order_of_sorted xs up i j d less within =
    let key : SiteRange → ℕ = λ s. s.from in
    not_less (nat_cmp (get_or xs j d).from (get_or xs i d).from) (get_or xs j d).from (get_or xs i d).from
    (ranked (get_or xs j d).from (get_or xs i d).from (nat_cmp (get_or xs j d).from (get_or xs i d).from) refl)
    (sorted_far (λ x y. is_lt (nat_cmp x.from y.from)) (ranks_by nat_cmp_total key) xs up i j d (omega arith) within)

at_default : (xs : List SiteRange) (k : ℕ) (d e : SiteRange) (P : SiteRange → Type 0) → k < length xs → P (get_or xs k d) → P (get_or xs k e)
at_default xs k d e P within p = subst P (get_or_default xs k d e within) p

-- the longest run that ends before the n-th blocked range begins, and where the next one may start
pub record Walked (range : SiteRange) (blocked : List SiteRange) (n start longest : ℕ) : Type 0 where
  pub from : range.from ≤ start
  pub passed : (k : ℕ) (d : SiteRange) → k < n → (get_or blocked k d).to ≤ start
  pub is_one : (longest ≡ 0) ⊎ ((first : ℕ) × IsRun range blocked first longest)
  pub seen : (first count : ℕ) → IsRun range blocked first count → (start ≤ first) ⊎ (count ≤ longest)

pub walked_none : (range : SiteRange) (blocked : List SiteRange) → Walked range blocked 0 range.from 0
walked_none range blocked = record {
  from = omega arith;
  passed = λ k d below. absurd (omega (arith, below));
  is_one = inl refl;
  seen = λ first count run. inl run.from;
}

below_or_at : (m k : ℕ) → m < k + 1 → (m < k) ⊎ (m ≡ k)
below_or_at m k less = grind arith

three : (m k : ℕ) → (m < k) ⊎ ((m ≡ k) ⊎ (k < m))
three m k = grind arith

two : (a b : ℕ) → (a ≤ b) ⊎ (b < a)
two a b = grind arith

walked_more : (range : SiteRange) (blocked : List SiteRange) (n start longest : ℕ) (d : SiteRange) → SitesRise blocked → n < length blocked →
    Walked range blocked n start longest →
    Walked range blocked (n + 1) (max start (get_or blocked n d).to) (max longest (min (get_or blocked n d).from range.to - start))
walked_more range blocked n start longest d order within w = record {
  from = let old = w.from in omega (arith, old);
  passed = λ k e below. elim (below_or_at k n below) [
    | inl h ↦ let old = w.passed k e h in omega (arith, old)
    | inr h ↦
        let Ends : ℕ → Type 0 = λ m. (get_or blocked m e).to ≤ max start b.to in
        subst Ends (sym h) (at_default blocked n d e (λ u. u.to ≤ max start b.to) within (omega arith))
  ];
  is_one = elim (two gap longest) [
    | inl h ↦ old_one h
    | inr h ↦ let same : max longest gap ≡ gap = omega (arith, h) in rw same (inr (start, new_run h))
  ];
  seen = λ first count run. elim (w.seen first count run) [
    | inr h ↦ inr (omega (arith, h))
    | inl h ↦ elim (run.clear n d within) [
      | inl ends ↦ let to = run.to in inr (omega (arith, h, ends, to))
      | inr begins ↦ inl (omega (arith, h, begins))
    ]
  ];
}
  where
    b : SiteRange
    b = get_or blocked n d

    gap : ℕ
    gap = min b.from range.to - start

    old_one : gap ≤ longest → (max longest gap ≡ 0) ⊎ ((first : ℕ) × IsRun range blocked first (max longest gap))
    old_one h = let same : max longest gap ≡ longest = omega (arith, h) in rw same w.is_one

    new_run : longest < gap → IsRun range blocked start gap
    new_run h = record {
      from = w.from;
      to = omega (arith, h);
      clear = λ m e inside. elim (three m n) [
        | inl less ↦ let old = w.passed m e less in inr (omega (arith, old))
        | inr (inl same) ↦
            let Begins : ℕ → Type 0 = λ k. (start + gap) ≤ (get_or blocked k e).from in
            inl (subst Begins (sym same) (at_default blocked n d e (λ u. (start + gap) ≤ u.from) within (omega (arith, h))))
        | inr (inr more) ↦
            let here : (start + gap) ≤ (get_or blocked n e).from = at_default blocked n d e (λ u. (start + gap) ≤ u.from) within (omega (arith, h)) in
            let later : (get_or blocked n e).from ≤ (get_or blocked m e).from = order n m e more inside in
            inl (omega (arith, here, later))
      ];
    }

walked_all : (range : SiteRange) (blocked : List SiteRange) (n start longest : ℕ) → length blocked ≤ n →
    Walked range blocked n start longest → IsLongestRun range blocked (max longest (range.to - start))
walked_all range blocked n start longest all w = record {
  is_one = elim (two rest longest) [
    | inl h ↦ old_one h
    | inr h ↦ let same : max longest rest ≡ rest = omega (arith, h) in rw same (inr (start, new_run h))
  ];
  no_longer = λ first count run. elim (w.seen first count run) [
    | inl h ↦ let to = run.to in omega (arith, h, to)
    | inr h ↦ omega (arith, h)
  ];
}
  where
    rest : ℕ
    rest = range.to - start

    old_one : rest ≤ longest → (max longest rest ≡ 0) ⊎ ((first : ℕ) × IsRun range blocked first (max longest rest))
    old_one h = let same : max longest rest ≡ longest = omega (arith, h) in rw same w.is_one

    new_run : longest < rest → IsRun range blocked start rest
    new_run h = record {
      from = w.from;
      to = omega (arith, h);
      clear = λ m e inside. let old = w.passed m e (omega (arith, inside, all)) in inr (omega (arith, old));
    }

-- the same, by the values that the walk computed
pub walked_on : (range : SiteRange) (blocked : List SiteRange) (n start longest later longer : ℕ) (d : SiteRange) → later ≡ max start (get_or blocked n d).to →
    SitesRise blocked → n < length blocked → longer ≡ max longest (min (get_or blocked n d).from range.to - start) →
    Walked range blocked n start longest → Walked range blocked (n + 1) later longer
walked_on range blocked n start longest later longer d at order within best w = rw at (rw best (walked_more range blocked n start longest d order within w))

pub walked_over : (range : SiteRange) (blocked : List SiteRange) (n start longest result : ℕ) → result ≡ max longest (range.to - start) → length blocked ≤ n →
    Walked range blocked n start longest → IsLongestRun range blocked result
walked_over range blocked n start longest result is all w = rw is (walked_all range blocked n start longest all w)
