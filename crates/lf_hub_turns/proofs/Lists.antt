-- Queues of numbers that are apart.
use Rattle.std.proofs.Common.{◌≡◌, ℕ, zero, suc, add-one, ◌≤◌, ◌+◌, inl, inr, Bool, true, false, cond, List, [], ◌∷◌, ◌++◌, refl, sym, ap, subst, ◌∙◌, arith}
use Rattle.std.specs.Prelude.{◌==◌, ◌||◌, replicate}
use Rattle.std.proofs.lemmas.Bool.{eq-eqb, ne_eqb, eqb-true, true≢false, or_left, or_right, or_parts, or_from, or_cases, cond-false}
use Rattle.lf_hub_turns.specs.Queues.{first_done}
use Rattle.lf_hub_turns.specs.Fairness.{is_in, count}

abbrev pub Distinct : List ℕ → Type 0
Distinct [] = Unit {0}
Distinct (x ∷ xs) = (is_in x xs ≡ false) × Distinct xs

-- what stands before the first place of a number
abbrev pub before : ℕ → List ℕ → List ℕ
before t [] = []
before t (x ∷ xs) = cond (t == x) [] (x ∷ before t xs)

-- ---- members

pub in-front : (t : ℕ) (xs ys : List ℕ) → is_in t xs ≡ true → is_in t (xs ++ ys) ≡ true
in-front t [] ys h = absurd (true≢false (sym h))
in-front t (x ∷ xs) ys h =
    elim (or_cases (t == x) (is_in t xs) h) as (λ _. ((t == x) || is_in t (xs ++ ys)) ≡ true)
    [ inl e ↦ or_left (t == x) (is_in t (xs ++ ys)) e | inr r ↦ or_right (t == x) (is_in t (xs ++ ys)) (in-front t xs ys r) ]

pub in-pushed : (t : ℕ) (xs : List ℕ) (y : ℕ) → is_in t (xs ++ y ∷ []) ≡ true → (t ≡ y → ⊥) → is_in t xs ≡ true
in-pushed t [] y h n = absurd (true≢false (sym h ∙ or_from (t == y) false (ne_eqb t y n) refl))
in-pushed t (x ∷ xs) y h n =
    elim (or_cases (t == x) (is_in t (xs ++ y ∷ [])) h) as (λ _. ((t == x) || is_in t xs) ≡ true)
    [ inl e ↦ or_left (t == x) (is_in t xs) e | inr r ↦ or_right (t == x) (is_in t xs) (in-pushed t xs y r n) ]

pub out-both : (t : ℕ) (xs ys : List ℕ) → is_in t (xs ++ ys) ≡ false → (is_in t xs ≡ false) × (is_in t ys ≡ false)
out-both t [] ys h = (refl, h)
out-both t (x ∷ xs) ys h =
    let parts = or_parts (t == x) (is_in t (xs ++ ys)) h in
    let rest = out-both t xs ys parts.1 in
    (or_from (t == x) (is_in t xs) parts.0 rest.0, rest.1)

pub out-pushed : (t : ℕ) (xs : List ℕ) (y : ℕ) → is_in t xs ≡ false → (t ≡ y → ⊥) → is_in t (xs ++ y ∷ []) ≡ false
out-pushed t [] y h n = or_from (t == y) false (ne_eqb t y n) refl
out-pushed t (x ∷ xs) y h n =
    let parts = or_parts (t == x) (is_in t xs) h in
    or_from (t == x) (is_in t (xs ++ y ∷ [])) parts.0 (out-pushed t xs y parts.1 n)

-- ---- numbers that are apart

pub distinct-push : (xs : List ℕ) (y : ℕ) → Distinct xs → is_in y xs ≡ false → Distinct (xs ++ y ∷ [])
distinct-push [] y d out = (refl, tt)
distinct-push (x ∷ xs) y d out =
    let parts = or_parts (y == x) (is_in y xs) out in
    (out-pushed x xs y d.0 (λ e. true≢false (sym (eq-eqb y x (sym e)) ∙ parts.0)), distinct-push xs y d.1 parts.1)

pub distinct-done : (stays : Bool) (x : ℕ) (xs : List ℕ) → Distinct (x ∷ xs) → Distinct (first_done stays (x ∷ xs))
distinct-done true x xs d = distinct-push xs x d.1 d.0
distinct-done false x xs d = d.1

count-none : (u : ℕ) (xs : List ℕ) → is_in u xs ≡ false → count u xs ≡ 0
count-none u [] out = refl
count-none u (x ∷ xs) out =
    let parts = or_parts (u == x) (is_in u xs) out in
    cond-false (u == x) (1 + count u xs) (count u xs) parts.0 ∙ count-none u xs parts.1

count-more : (b : Bool) (n : ℕ) → (b ≡ true → n ≡ 0) → n ≤ 1 → cond b (1 + n) n ≤ 1
count-more true n none h = let z = none refl in omega arith
count-more false n none h = h

pub count-distinct : (u : ℕ) (xs : List ℕ) → Distinct xs → count u xs ≤ 1
count-distinct u [] d = omega arith
count-distinct u (x ∷ xs) d =
    count-more (u == x) (count u xs) (λ e. count-none u xs (subst (λ y. is_in y xs ≡ false) (sym (eqb-true u x e)) d.0)) (count-distinct u xs d.1)

count-before-next : (b c : Bool) (m n : ℕ) → m ≤ n → cond b 0 (cond c (1 + m) m) ≤ cond c (1 + n) n
count-before-next true true m n h = omega arith
count-before-next true false m n h = omega arith
count-before-next false true m n h = omega arith
count-before-next false false m n h = h

count-if : (u : ℕ) (b : Bool) (x : ℕ) (xs : List ℕ) → count u (cond b [] (x ∷ xs)) ≡ cond b 0 (cond (u == x) (1 + count u xs) (count u xs))
count-if u true x xs = refl
count-if u false x xs = refl

pub count-before : (u t : ℕ) (xs : List ℕ) → count u (before t xs) ≤ count u xs
count-before u t [] = omega arith
count-before u t (x ∷ xs) =
    subst (λ n. n ≤ count u (x ∷ xs)) (sym (count-if u (t == x) x (before t xs)))
    (count-before-next (t == x) (u == x) (count u (before t xs)) (count u xs) (count-before u t xs))

count-front-next : (b : Bool) (m n : ℕ) → m ≤ n → cond b (1 + m) m ≤ cond b (1 + n) n
count-front-next true m n h = omega arith
count-front-next false m n h = h

pub count-front : (u : ℕ) (xs ys : List ℕ) → count u xs ≤ count u (xs ++ ys)
count-front u [] ys = omega arith
count-front u (x ∷ xs) ys = count-front-next (u == x) (count u xs) (count u (xs ++ ys)) (count-front u xs ys)

-- a front of what stood before a number in a queue has each number at most once
pub front-once : (u t : ℕ) (turns rest xs : List ℕ) → Distinct xs → turns ++ rest ≡ before t xs → count u turns ≤ 1
front-once u t turns rest xs d is =
    let a = count-front u turns rest in
    let b = count-before u t xs in
    let c = count-distinct u xs d in
    omega (arith, ap (count u) is)

-- ---- what stands before a number

before-next : (b : Bool) (x : ℕ) (m n : List ℕ) → (b ≡ false → m ≡ n) → cond b [] (x ∷ m) ≡ cond b [] (x ∷ n)
before-next true x m n h = refl
before-next false x m n h = ap (λ l. x ∷ l) (h refl)

pub before-push : (t : ℕ) (xs : List ℕ) (y : ℕ) → is_in t xs ≡ true → before t (xs ++ y ∷ []) ≡ before t xs
before-push t [] y h = absurd (true≢false (sym h))
before-push t (x ∷ xs) y h =
    before-next (t == x) x (before t (xs ++ y ∷ [])) (before t xs)
    (λ e. before-push t xs y (elim (or_cases (t == x) (is_in t xs) h) as (λ _. is_in t xs ≡ true) [ inl s ↦ absurd (true≢false (sym s ∙ e)) | inr r ↦ r ]))

-- the first one has its turn: a number that is not first is still there, and one fewer is before it
pub record Moves (t x : ℕ) (xs : List ℕ) (ys : List ℕ) : Type 0 where
  pub there : is_in t ys ≡ true
  pub before_it : before t (x ∷ xs) ≡ x ∷ before t ys

pub moves : (t x : ℕ) (xs : List ℕ) (stays : Bool) → is_in t (x ∷ xs) ≡ true → (t ≡ x → ⊥) → Moves t x xs (first_done stays (x ∷ xs))
moves t x xs stays h n = moved stays
  where
    rest : is_in t xs ≡ true
    rest = elim (or_cases (t == x) (is_in t xs) h) as (λ _. is_in t xs ≡ true) [ inl s ↦ absurd (n (eqb-true t x s)) | inr r ↦ r ]

    first : before t (x ∷ xs) ≡ x ∷ before t xs
    first = cond-false (t == x) [] (x ∷ before t xs) (ne_eqb t x n)

    moved : (s : Bool) → Moves t x xs (first_done s (x ∷ xs))
    moved true = record { there = in-front t xs (x ∷ []) rest; before_it = first ∙ ap (λ l. x ∷ l) (sym (before-push t xs x rest)) }
    moved false = record { there = rest; before_it = first }

-- one more empty queue
more-copies : (n : ℕ) (x : List ℕ) → replicate n x ++ x ∷ [] ≡ replicate (suc n) x
more-copies zero x = refl
more-copies (suc n) x = ap (λ l. x ∷ l) (more-copies n x)

pub copies_push : (n : ℕ) (x : List ℕ) → replicate n x ++ x ∷ [] ≡ replicate (n + 1) x
copies_push n x = rw add-one (more-copies n x)
