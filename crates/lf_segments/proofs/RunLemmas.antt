-- Runs of a list, found by binary search.
use Rattle.std.proofs.Common.{◌≡◌, ◌⊎◌, inl, inr, ℕ, ℤ, ◌+◌, ◌<◌, ◌≤◌, ◌≤ℤ◌, ◌<ℤ◌, true, false, List}
use Rattle.std.proofs.Common.{◌++◌, length, get_or, take, drop, sym, ap, subst, ◌∙◌, arith, append_assoc, ltb, leb}
use Rattle.std.specs.Prelude.{All, AllPairs, Contains}
use Rattle.std.specs.List.Sorted.{IsNonDecreasingBy, IsPartitionPoint}
use Rattle.std.proofs.lemmas.Int.{ints, by_lt_z}
use Rattle.std.proofs.lemmas.Bool.Decides.{nat_tests}
use Rattle.std.proofs.lemmas.List.{get_or_default, get_or-take, get_or-drop, length-take, length-drop}
use Rattle.std.proofs.lemmas.List.{take-append-drop, get_or_append_left, get_or-append-add, length-append}
use Rattle.std.proofs.lemmas.List.Elements.{All-append, All-weaker, All-contains, Contains-get_or}
use Rattle.std.proofs.lemmas.List.Elements.{Contains-append_left, Contains-append_right, Contains-append_cases}
use Rattle.lf_units.specs.Spans.{IsFilled}
use Rattle.lf_segments.specs.declared.segment.Segment.{Segment}
use Rattle.lf_segments.specs.Segments.{ComesBefore, IsAt, IsOf, IsRunFrom}

-- The facts that a binary search by a number gives about the elements in front of its result and
-- after it.
pub below_point : {X : Type 0} (n : X → ℕ) (xs : List X) (t f : ℕ) → IsPartitionPoint (λ x. ltb (n x) t ≡ true) (λ x. ltb (n x) t ≡ false) xs f →
    (k : ℕ) (d : X) → k < f → n (get_or xs k d) < t
below_point n xs t f point k d less = let e = point.0 k d (omega arith) less in grind (arith, nat_tests, e)

pub from_point : {X : Type 0} (n : X → ℕ) (xs : List X) (t f : ℕ) → IsPartitionPoint (λ x. ltb (n x) t ≡ true) (λ x. ltb (n x) t ≡ false) xs f →
    (k : ℕ) (d : X) → f ≤ k → k < length xs → t ≤ n (get_or xs k d)
from_point n xs t f point k d from within = let e = point.1 k d from within in grind (arith, nat_tests, e)

pub up_to_point : {X : Type 0} (n : X → ℕ) (xs : List X) (t f : ℕ) → IsPartitionPoint (λ x. leb (n x) t ≡ true) (λ x. leb (n x) t ≡ false) xs f →
    (k : ℕ) (d : X) → k < f → n (get_or xs k d) ≤ t
up_to_point n xs t f point k d less = let e = point.0 k d (omega arith) less in grind (arith, nat_tests, e)

pub beyond_point : {X : Type 0} (n : X → ℕ) (xs : List X) (t f : ℕ) → IsPartitionPoint (λ x. leb (n x) t ≡ true) (λ x. leb (n x) t ≡ false) xs f →
    (k : ℕ) (d : X) → f ≤ k → k < length xs → t < n (get_or xs k d)
beyond_point n xs t f point k d from within = let e = point.1 k d from within in grind (arith, nat_tests, e)

-- Two binary searches cut out a run.
pub run_at : (n : Segment → ℕ) (xs ys : List Segment) (t f c : ℕ) → f ≤ length xs → ys ≡ drop f xs →
    ((k : ℕ) (d : Segment) → k < f → n (get_or xs k d) < t) → ((k : ℕ) (d : Segment) → f ≤ k → k < length xs → t ≤ n (get_or xs k d)) →
    ((k : ℕ) (d : Segment) → k < c → n (get_or ys k d) ≤ t) → ((k : ℕ) (d : Segment) → c ≤ k → k < length ys → t < n (get_or ys k d)) →
    IsRunFrom (λ g. n g ≡ t) xs f (take c ys)
run_at n xs ys t f c within same below from up_to beyond = record {
  before = take f xs;
  after_it = drop c ys;
  parts = sym (take-append-drop f xs) ∙ ap (λ (zs : List Segment). take f xs ++ zs) (sym same ∙ sym (take-append-drop c ys));
  begins = let long = length-take f xs in omega (arith, long, within);
  has = λ k d inside.
      let long = length-take c ys in
      let less : k < c = omega (arith, long, inside) in
      let in_ys : k < length ys = omega (arith, long, inside) in
      let one : n (get_or ys k d) ≤ t = up_to k d less in
      let other : t ≤ n (get_or ys k d) = at_least k d in_ys in
      let whole : n (get_or ys k d) ≡ t = omega (arith, one, other) in
      ap n (get_or-take c ys k d less) ∙ whole;
  none_before = λ k d inside same_number.
      let long = length-take f xs in
      let less : k < f = omega (arith, long, inside) in
      let low : n (get_or xs k d) < t = below k d less in
      let is : n (get_or (take f xs) k d) ≡ n (get_or xs k d) = ap n (get_or-take f xs k d less) in
      omega (arith, low, is, same_number);
  none_after = λ k d inside same_number.
      let long = length-drop c ys in
      let high : t < n (get_or ys (c + k) d) = beyond (c + k) d (omega arith) (omega (arith, long, inside)) in
      let is : n (get_or (drop c ys) k d) ≡ n (get_or ys (c + k) d) = ap n (get_or-drop c ys k d) in
      omega (arith, high, is, same_number);
}
  where
    rest_at_least : All (λ g. t ≤ n g) (drop f xs)
    rest_at_least k d inside =
        let long = length-drop f xs in
        let high : t ≤ n (get_or xs (f + k) d) = from (f + k) d (omega arith) (omega (arith, long, inside)) in
        subst (λ (g : Segment). t ≤ n g) (sym (get_or-drop f xs k d)) high

    at_least : All (λ g. t ≤ n g) ys
    at_least = subst (All (λ g. t ≤ n g)) (sym same) rest_at_least

-- A run of a run is a run.
pub run_within : (P Q R : Segment → Type 0) (xs ys zs : List Segment) (m n : ℕ) → ((g : Segment) → P g → Q g → R g) → ((g : Segment) → R g → P g) →
    ((g : Segment) → R g → Q g) → IsRunFrom P xs m ys → IsRunFrom Q ys n zs → IsRunFrom R xs (m + n) zs
run_within P Q R xs ys zs m n both first second a b = record {
  before = a.before ++ b.before;
  after_it = b.after_it ++ a.after_it;
  parts =
      a.parts ∙ ap (λ (vs : List Segment). a.before ++ (vs ++ a.after_it)) b.parts
      ∙ ap (λ (vs : List Segment). a.before ++ vs) (append_assoc b.before (zs ++ b.after_it) a.after_it)
      ∙ ap (λ (vs : List Segment). a.before ++ (b.before ++ vs)) (append_assoc zs b.after_it a.after_it)
      ∙ sym (append_assoc a.before b.before (zs ++ (b.after_it ++ a.after_it)));
  begins = let long = length-append a.before b.before in let p = a.begins in let q = b.begins in omega (arith, long, p, q);
  has = λ k d inside.
      let x : Segment = get_or zs k d in
      let in_part : Contains (zs ++ b.after_it) x = Contains-append_left zs b.after_it x (Contains-get_or zs k d inside) in
      let in_whole : Contains (b.before ++ (zs ++ b.after_it)) x = Contains-append_right b.before (zs ++ b.after_it) x in_part in
      let in_run : Contains ys x = subst (λ (vs : List Segment). Contains vs x) (sym b.parts) in_whole in
      both x (All-contains P ys x a.has in_run) (b.has k d inside);
  none_before =
      All-append (λ g. R g → ⊥) a.before b.before (All-weaker (λ g. P g → ⊥) (λ g. R g → ⊥) (λ g none r. none (first g r)) a.before a.none_before)
      (All-weaker (λ g. Q g → ⊥) (λ g. R g → ⊥) (λ g none r. none (second g r)) b.before b.none_before);
  none_after =
      All-append (λ g. R g → ⊥) b.after_it a.after_it (All-weaker (λ g. Q g → ⊥) (λ g. R g → ⊥) (λ g none r. none (second g r)) b.after_it b.none_after)
      (All-weaker (λ g. P g → ⊥) (λ g. R g → ⊥) (λ g none r. none (first g r)) a.after_it a.none_after);
}

-- An element of a run, by its position in the list.
pub run_get : (P : Segment → Type 0) (xs ys : List Segment) (n : ℕ) → IsRunFrom P xs n ys → (k : ℕ) (d : Segment) → k < length ys →
    get_or xs (n + k) d ≡ get_or ys k d
run_get P xs ys n a k d within =
    let At : ℕ → Type 0 = λ m. get_or (a.before ++ (ys ++ a.after_it)) (m + k) d ≡ get_or ys k d in
    let there : get_or (a.before ++ (ys ++ a.after_it)) (n + k) d ≡ get_or ys k d =
    subst At (sym a.begins) (get_or-append-add a.before (ys ++ a.after_it) k d ∙ get_or_append_left ys a.after_it d k within) in
    ap (λ (vs : List Segment). get_or vs (n + k) d) a.parts ∙ there

run_long : (P : Segment → Type 0) (xs ys : List Segment) (n : ℕ) → IsRunFrom P xs n ys → n + length ys ≤ length xs
run_long P xs ys n a =
    let whole : length xs ≡ length (a.before ++ (ys ++ a.after_it)) = ap (λ (vs : List Segment). length vs) a.parts in
    let first = length-append a.before (ys ++ a.after_it) in
    let second = length-append ys a.after_it in
    let begins = a.begins in
    omega (arith, whole, first, second, begins)

-- What holds for pairs and for elements of the list holds for those of a run.
pub run_pairs : (R : Segment → Segment → Type 0) (P : Segment → Type 0) (xs ys : List Segment) (n : ℕ) → AllPairs R xs → IsRunFrom P xs n ys → AllPairs R ys
run_pairs R P xs ys n pairs a i j d less within =
    let long = run_long P xs ys n a in
    let there : R (get_or xs (n + i) d) (get_or xs (n + j) d) = pairs (n + i) (n + j) d (omega (arith, less)) (omega (arith, within, long)) in
    subst (λ (g : Segment). R g (get_or ys j d)) (run_get P xs ys n a i d (omega (arith, less, within)))
    (subst (λ (g : Segment). R (get_or xs (n + i) d) g) (run_get P xs ys n a j d within) there)

pub run_all : (Q P : Segment → Type 0) (xs ys : List Segment) (n : ℕ) → All Q xs → IsRunFrom P xs n ys → All Q ys
run_all Q P xs ys n all a k d within =
    let long = run_long P xs ys n a in
    subst Q (run_get P xs ys n a k d within) (all (n + k) d (omega (arith, within, long)))

-- An element that has the property is in the run.
pub in_run : (P : Segment → Type 0) (xs ys : List Segment) (n : ℕ) (g : Segment) → IsRunFrom P xs n ys → Contains xs g → P g → Contains ys g
in_run P xs ys n g a there has =
    elim (Contains-append_cases a.before (ys ++ a.after_it) g (subst (λ (vs : List Segment). Contains vs g) a.parts there)) [
      | inl before ↦ absurd (All-contains (λ h. P h → ⊥) a.before g a.none_before before has)
      | inr rest ↦ elim (Contains-append_cases ys a.after_it g rest) [
        | inl inside ↦ inside
        | inr after_it ↦ absurd (All-contains (λ h. P h → ⊥) a.after_it g a.none_after after_it has)
      ]
    ]

same_or_less : (i j : ℕ) → i ≤ j → (i ≡ j) ⊎ (i < j)
same_or_less i j order = grind arith

row_up : (a b : Segment) → ComesBefore a b → a.row ≤ b.row
row_up a b (inl less) = omega (arith, less)
row_up a b (inr both) = let same = both.0 in omega (arith, same)

pub rows_rise : (xs : List Segment) → AllPairs ComesBefore xs → IsNonDecreasingBy (λ g. g.row) xs
rows_rise xs pairs i j d order within = elim (same_or_less i j order) [
  | inl same ↦ let At : ℕ → Type 0 = λ m. (get_or xs i d).row ≤ (get_or xs m d).row in subst At same (omega arith)
  | inr less ↦ row_up (get_or xs i d) (get_or xs j d) (pairs i j d less within)
]

team_up : (a b : Segment) → a.row ≡ b.row → ComesBefore a b → a.team ≤ b.team
team_up a b same (inl less) = absurd (omega (arith, same, less))
team_up a b same (inr (at, inl less)) = omega (arith, less)
team_up a b same (inr (at, inr both)) = let is = both.0 in omega (arith, is)

pub teams_rise : (xs : List Segment) (row : ℕ) → AllPairs ComesBefore xs → All (λ g. g.row ≡ row) xs → IsNonDecreasingBy (λ g. g.team) xs
teams_rise xs row pairs in_row i j d order within = elim (same_or_less i j order) [
  | inl same ↦ let At : ℕ → Type 0 = λ m. (get_or xs i d).team ≤ (get_or xs m d).team in subst At same (omega arith)
  | inr less ↦
      let first : (get_or xs i d).row ≡ row = in_row i d (omega (arith, less, within)) in
      let second : (get_or xs j d).row ≡ row = in_row j d within in
      team_up (get_or xs i d) (get_or xs j d) (first ∙ sym second) (pairs i j d less within)
]

x_up : (a b : Segment) (row team : ℕ) → IsOf row team a → IsOf row team b → ComesBefore a b → a.span.hi ≤ℤ b.span.lo
x_up a b row team p q (inl less) = let e = p.in_row in let f = q.in_row in absurd (omega (arith, less, e, f))
x_up a b row team p q (inr (at, inl less)) = let e = p.of_team in let f = q.of_team in absurd (omega (arith, less, e, f))
x_up a b row team p q (inr (at, inr both)) = both.1

-- The segments of one row and team are in order of x.
pub xs_rise : (xs : List Segment) (row team : ℕ) → AllPairs ComesBefore xs → All (IsOf row team) xs → AllPairs (λ a b. a.span.hi ≤ℤ b.span.lo) xs
xs_rise xs row team pairs of i j d less within =
    x_up (get_or xs i d) (get_or xs j d) row team (of i d (omega (arith, less, within))) (of j d within) (pairs i j d less within)

pub ends_rise : (xs : List Segment) → AllPairs (λ a b. a.span.hi ≤ℤ b.span.lo) xs → All (λ g. IsFilled g.span) xs → AllPairs (λ a b. a.span.hi ≤ℤ b.span.hi) xs
ends_rise xs pairs filled i j d less within =
    let apart = pairs i j d less within in
    let wide = filled j d within in
    omega (arith, ints, apart, wide)

-- No segment holds x if all end left of it, or the first that does not begins right of it.
pub none_at : (run : List Segment) (row team k : ℕ) (x : ℤ) → ((m : ℕ) (d : Segment) → m < k → (get_or run m d).span.hi ≤ℤ x) → length run ≤ k →
    (g : Segment) → Contains run g → IsAt row team x g → ⊥
none_at run row team k x ended all g (m, within, is) at =
    let done : (get_or run m g).span.hi ≤ℤ x = ended m g (omega (arith, within, all)) in
    let same : (get_or run m g).span.hi ≡ g.span.hi = ap (λ (h : Segment). h.span.hi) is in
    let high = at.holds.high in
    omega (arith, ints, done, same, high)

pub none_between : (run : List Segment) (row team k : ℕ) (x : ℤ) (e : Segment) → AllPairs (λ a b. a.span.hi ≤ℤ b.span.lo) run → All (λ g. IsFilled g.span) run →
    ((m : ℕ) (d : Segment) → m < k → (get_or run m d).span.hi ≤ℤ x) → k < length run → x <ℤ (get_or run k e).span.lo →
    (g : Segment) → Contains run g → IsAt row team x g → ⊥
none_between run row team k x e pairs filled ended inside before g (m, within, is) at = elim order [
  | inl less ↦
      let done : (get_or run m g).span.hi ≤ℤ x = ended m g less in
      let same : (get_or run m g).span.hi ≡ g.span.hi = ap (λ (h : Segment). h.span.hi) is in
      let high = at.holds.high in
      omega (arith, ints, done, same, high)
  | inr (inl here) ↦
      let At : ℕ → Type 0 = λ i. x <ℤ (get_or run i g).span.lo in
      let first : x <ℤ (get_or run m g).span.lo = subst At (sym here) there in
      let same : (get_or run m g).span.lo ≡ g.span.lo = ap (λ (h : Segment). h.span.lo) is in
      let low = at.holds.low in
      omega (arith, ints, first, same, low)
  | inr (inr more) ↦
      let apart : (get_or run k g).span.hi ≤ℤ (get_or run m g).span.lo = pairs k m g more within in
      let wide : (get_or run k g).span.lo <ℤ (get_or run k g).span.hi = filled k g inside in
      let same : (get_or run m g).span.lo ≡ g.span.lo = ap (λ (h : Segment). h.span.lo) is in
      let low = at.holds.low in
      omega (arith, ints, there, apart, wide, same, low)
]
  where
    there : x <ℤ (get_or run k g).span.lo
    there = subst (λ (h : Segment). x <ℤ h.span.lo) (get_or_default run k e g inside) before

    order : (m < k) ⊎ ((m ≡ k) ⊎ (k < m))
    order = grind arith

-- No segment of a list holds x if no segment of its run does.
pub none_of_run : (xs run : List Segment) (row team n : ℕ) (x : ℤ) → IsRunFrom (IsOf row team) xs n run →
    ((g : Segment) → Contains run g → IsAt row team x g → ⊥) →
    All (λ g. IsAt row team x g → ⊥) xs
none_of_run xs run row team n x a none k d within at =
    none (get_or xs k d) (in_run (IsOf row team) xs run n (get_or xs k d) a (Contains-get_or xs k d within) at.of) at

pub found_at : (xs run : List Segment) (row team n k : ℕ) (x : ℤ) (e : Segment) → IsRunFrom (IsOf row team) xs n run → k < length run →
    (get_or run k e).span.lo ≤ℤ x → ((m : ℕ) (d : Segment) → k ≤ m → m < length run → x <ℤ (get_or run m d).span.hi) →
    (d : Segment) → IsAt row team x (get_or xs (n + k) d)
found_at xs run row team n k x e a within low rest d =
    let high : x <ℤ (get_or run k e).span.hi = rest k e (omega arith) within in
    let here : IsAt row team x (get_or run k e) = record { of = a.has k e within; holds = record { low = low; high = high } } in
    let there : IsAt row team x (get_or run k d) = subst (IsAt row team x) (get_or_default run k e d within) here in
    subst (IsAt row team x) (sym (run_get (IsOf row team) xs run n a k d within)) there

pub not_after : (x low : ℤ) → (x <ℤ low → ⊥) → low ≤ℤ x
not_after x low never = by_lt_z x low (λ less. absurd (never less)) (λ more. more)
