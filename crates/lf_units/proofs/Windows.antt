-- Only the taken spans near a window matter to the free spans in it.
use Rattle.std.proofs.Common.{◌≡◌, ℕ, ◌+◌, ◌-◌, ◌<◌, ◌≤◌, ℤ, ◌-ℤ◌, ◌≤ℤ◌, ◌<ℤ◌, ◌⊎◌, inl, inr, List, [], ◌∷◌, length, get_or, map, take, drop, ap, sym, subst, ◌∙◌, arith, true, false, int_lt}
use Rattle.std.specs.Prelude.{All}
use Rattle.std.specs.List.Sorted.{IsPartitionedBy, IsPartitionPoint}
use Rattle.std.proofs.lemmas.Int.{ints}
use Rattle.std.proofs.lemmas.List.{get_or-take, get_or-drop, get_or-map, drop-map, take-map, length-take, length-drop, length-map, take_all}
use Rattle.std.proofs.lemmas.List.Elements.{All-take, All-drop}
use Rattle.lf_units.specs.declared.span.Span.{Span}
use Rattle.lf_units.specs.Spans.{HoldsNumber, AreDisjoint, IsDisjointFrom, IsInOrder, IsFree, IsFreeIn}
use Rattle.lf_units.specs.Steps.{ContainsSpan, IsOverlap}
use Rattle.lf_units.proofs.Comparisons.{less_of, of_less, not_less_of}
use Rattle.lf_units.proofs.SpanEdges.{in_of_lies, lies_of_in, in_along}

-- Holds if the spans omitted on the left end before the range, and those omitted on the right begin
-- after it.
pub record LeavesOut (range : Span) (taken : List Span) (f n : ℕ) (widest : ℤ) : Type 0 where
  pub wide : All (λ s. (s.hi -ℤ s.lo) ≤ℤ widest) taken
  pub before : (k : ℕ) (d : Span) → k < f → (get_or taken k d).lo <ℤ (range.lo -ℤ widest)
  pub after_it : (k : ℕ) (d : Span) → n ≤ k → k < length (drop f taken) → range.hi ≤ℤ (get_or (drop f taken) k d).lo

near_apart : (range : Span) (taken : List Span) (f n : ℕ) (widest : ℤ) (s : Span) → LeavesOut range taken f n widest → ContainsSpan s range →
    IsDisjointFrom (take n (drop f taken)) s → IsDisjointFrom taken s
near_apart range taken f n widest s l inside apart k d within x h u = elim (three k) [
  | inl before ↦
      let left = l.before k d before in
      let wide = l.wide k d within in
      omega (arith, ints, left, wide, inside.low, h.low, u.high)
  | inr (inl near) ↦
      let place : k ≡ f + (k - f) = omega (arith, near.0) in
      let in_rest : k - f < length (drop f taken) = omega (arith, within, near.0, length-drop f taken) in
      let in_near : k - f < length (take n (drop f taken)) = omega (arith, in_rest, near.0, near.1, length-take n (drop f taken)) in
      let At : ℕ → Type 0 = λ m. HoldsNumber (get_or taken m d) x in
      let there : HoldsNumber (get_or taken (f + (k - f)) d) x = subst At place u in
      let same : get_or (take n (drop f taken)) (k - f) d ≡ get_or taken (f + (k - f)) d = get_or-take n (drop f taken) (k - f) d
      (omega (arith, near.0, near.1)) ∙ get_or-drop f taken (k - f) d in
      apart (k - f) d in_near x h (subst (λ (t : Span). HoldsNumber t x) (sym same) there)
  | inr (inr after_it) ↦
      let place : k ≡ f + (k - f) = omega (arith, after_it) in
      let in_rest : k - f < length (drop f taken) = omega (arith, within, after_it, length-drop f taken) in
      let right : range.hi ≤ℤ (get_or (drop f taken) (k - f) d).lo = l.after_it (k - f) d (omega (arith, after_it)) in_rest in
      let At : ℕ → Type 0 = λ m. range.hi ≤ℤ (get_or taken m d).lo in
      let moved : range.hi ≤ℤ (get_or taken (f + (k - f)) d).lo = subst (λ (t : Span). range.hi ≤ℤ t.lo) (get_or-drop f taken (k - f) d) right in
      let there : range.hi ≤ℤ (get_or taken k d).lo = subst At (sym place) moved in
      omega (arith, ints, there, inside.high, h.high, u.low)
]
  where
    three : (k : ℕ) → (k < f) ⊎ (((f ≤ k) × (k < f + n)) ⊎ (f + n ≤ k))
    three k = grind arith

pub free_of_near : (segment window range : Span) (taken free : List Span) (f n : ℕ) (widest : ℤ) → IsOverlap segment window range →
    LeavesOut range taken f n widest →
    IsFree range (take n (drop f taken)) free → IsFreeIn segment taken window free
free_of_near segment window range taken free f n widest o l free_near = record {
  rising = free_near.rising;
  exact = λ s g. (
    (λ h.
        let both = (free_near.exact s g).0 h in
        let inside : ContainsSpan s range = in_of_lies s range g both.0 in (
          lies_of_in s segment (in_along s range segment inside o.first),
          lies_of_in s window (in_along s range window inside o.second),
          near_apart range
              taken f n widest s l inside both.1,
        )),
    (λ h.
        let inside : ContainsSpan s range = o.greatest s (in_of_lies s segment g h.0) (in_of_lies s window g h.1) in
        (free_near.exact s g).1 (lies_of_in s range inside, All-take (λ t. AreDisjoint s t) n (drop f taken) (All-drop (λ t. AreDisjoint s t) f taken h.2))),
  );
}

-- The spans that begin before a limit are the first ones.
parted : (spans : List Span) (limit : ℤ) → IsInOrder spans → IsPartitionedBy (λ s. int_lt s.lo limit) spans
parted spans limit r i j d order within t = elim same_or [
  | inl h ↦
      let At : ℕ → Type 0 = λ n. int_lt (get_or spans n d).lo limit ≡ true in
      subst At (sym h) t
  | inr h ↦
      let later = r i j d h within in
      let less = less_of (get_or spans j d).lo limit t in
      of_less (get_or spans i d).lo limit (omega (arith, ints, later, less))
]
  where
    same_or : (i ≡ j) ⊎ (i < j)
    same_or = grind arith

-- ---- the same for values that have a span

pub parted_by : {X : Type 0} (span : X → Span) (xs : List X) (limit : ℤ) → IsInOrder (map span xs) → IsPartitionedBy (λ x. int_lt (span x).lo limit) xs
parted_by span xs limit r i j d order within t =
    let At : Span → Type 0 = λ s. int_lt s.lo limit ≡ true in
    let same : length (map span xs) ≡ length xs = length-map xs span in
    let at_j : get_or (map span xs) j (span d) ≡ span (get_or xs j d) = get_or-map span xs j d (span d) within in
    let at_i : get_or (map span xs) i (span d) ≡ span (get_or xs i d) = get_or-map span xs i d (span d) (omega (arith, order, within)) in
    subst At at_i (parted (map span xs) limit r i j (span d) order (omega (arith, within, same)) (subst At (sym at_j) t))

pub before_entry : {X : Type 0} (span : X → Span) (xs : List X) (limit : ℤ) (n : ℕ) → n ≤ length xs →
    IsPartitionPoint (λ x. int_lt (span x).lo limit ≡ true) (λ x. int_lt (span x).lo limit ≡ false) xs n →
    (k : ℕ) (d : Span) → k < n → (get_or (map span xs) k d).lo <ℤ limit
before_entry span [] limit n bound point k d less = absurd (omega (arith, bound, less))
before_entry span (x ∷ xs) limit n bound point k d less =
    let at : get_or (map span (x ∷ xs)) k d ≡ span (get_or (x ∷ xs) k x) = get_or-map span (x ∷ xs) k x d (omega (arith, bound, less)) in
    subst (λ (s : Span). s.lo <ℤ limit) (sym at) (less_of (span (get_or (x ∷ xs) k x)).lo limit (point.0 k x (omega arith) less))

pub after_entry : {X : Type 0} (span : X → Span) (xs : List X) (limit : ℤ) (n : ℕ) →
    IsPartitionPoint (λ x. int_lt (span x).lo limit ≡ true) (λ x. int_lt (span x).lo limit ≡ false) xs n →
    (k : ℕ) (d : Span) → n ≤ k → k < length xs → limit ≤ℤ (get_or (map span xs) k d).lo
after_entry span [] limit n point k d from within = absurd (omega (arith, within))
after_entry span (x ∷ xs) limit n point k d from within =
    let at : get_or (map span (x ∷ xs)) k d ≡ span (get_or (x ∷ xs) k x) = get_or-map span (x ∷ xs) k x d within in
    subst (λ (s : Span). limit ≤ℤ s.lo) (sym at) (not_less_of (span (get_or (x ∷ xs) k x)).lo limit (point.1 k x from within))

pub rest_spans : {X : Type 0} (span : X → Span) (xs : List X) (f : ℕ) → map span (take (length xs - f) (drop f xs)) ≡ drop f (map span xs)
rest_spans span xs f = ap (λ ys. map span ys) (take_all (length xs - f) (drop f xs) (omega (arith, length-drop f xs))) ∙ sym (drop-map span f xs)

pub near_spans : {X : Type 0} (span : X → Span) (xs : List X) (f n : ℕ) →
    map span (take n (take (length xs - f) (drop f xs))) ≡ take n (drop f (map span xs))
near_spans span xs f n = sym (take-map span n (take (length xs - f) (drop f xs))) ∙ ap (λ ys. take n ys) (rest_spans span xs f)

order_drop : (xs : List Span) (f : ℕ) → IsInOrder xs → IsInOrder (drop f xs)
order_drop xs f r i j d less within =
    let early : get_or (drop f xs) i d ≡ get_or xs (f + i) d = get_or-drop f xs i d in
    let late : get_or (drop f xs) j d ≡ get_or xs (f + j) d = get_or-drop f xs j d in
    let there : (get_or xs (f + i) d).lo ≤ℤ (get_or xs (f + j) d).lo = r (f + i) (f + j) d (omega (arith, less)) (omega (arith, within, length-drop f xs)) in
    subst (λ (t : Span). t.lo ≤ℤ (get_or (drop f xs) j d).lo) (sym early) (subst (λ (t : Span). (get_or xs (f + i) d).lo ≤ℤ t.lo) (sym late) there)

order_take : (xs : List Span) (n : ℕ) → IsInOrder xs → IsInOrder (take n xs)
order_take xs n r i j d less within =
    let late : get_or (take n xs) j d ≡ get_or xs j d = get_or-take n xs j d (omega (arith, within, length-take n xs)) in
    let early : get_or (take n xs) i d ≡ get_or xs i d = get_or-take n xs i d (omega (arith, less, within, length-take n xs)) in
    let there : (get_or xs i d).lo ≤ℤ (get_or xs j d).lo = r i j d less (omega (arith, within, length-take n xs)) in
    subst (λ (t : Span). t.lo ≤ℤ (get_or (take n xs) j d).lo) (sym early) (subst (λ (t : Span). (get_or xs i d).lo ≤ℤ t.lo) (sym late) there)

pub rest_in_order : {X : Type 0} (span : X → Span) (xs : List X) (f : ℕ) → IsInOrder (map span xs) → IsInOrder (map span (take (length xs - f) (drop f xs)))
rest_in_order span xs f r = subst IsInOrder (sym (rest_spans span xs f)) (order_drop (map span xs) f r)

pub near_in_order : {X : Type 0} (span : X → Span) (xs : List X) (f n : ℕ) → IsInOrder (map span xs) →
    IsInOrder (map span (take n (take (length xs - f) (drop f xs))))
near_in_order span xs f n r =
    subst IsInOrder (sym (near_spans span xs f n))
    (order_take (drop f (map span xs)) n (order_drop (map span xs) f r))
