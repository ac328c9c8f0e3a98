-- Reading batches from bytes.
use Rattle.std.proofs.Common.{◌≡◌, ◌≢◌, ◌⊎◌, ℕ, zero, suc, ◌+◌, ◌-◌, ◌*◌, ◌%◌, ◌^◌, ◌<◌, ◌≤◌, true, false, ◌&&◌, ◌==◌, List, [], ◌∷◌, ◌++◌, length, take, drop, slice_index, refl, sym, ◌∙◌, ap, subst, inl, inr, arith, append_assoc, length-append, length-drop, take-append-drop, ext_get_or, nat_le, nat_lt}
use Rattle.std.proofs.lemmas.Bool.{cases_eq, cases_lt, cases_Bool, ltb-true, lt-ltb, and_parts, and_from, cond-true, cond-false, eq-eqb, eqb-true, ne_eqb}
use Rattle.std.proofs.lemmas.List.{take_at, drop_at, append-nil, get_or_past, get_or_append_left, get_or-take, get_or-drop, length-take-le, drop_more, drop_all}
use Rattle.std.proofs.lemmas.Nat.{pow-add}
use Rattle.std.proofs.Math.Nat.{one-le-pow, le-mul_of_pos_right}
use Rattle.lf_journal_text.specs.Batches.{is_digit, are_digits, number_at, sum_from, sum_of, has_no_zero, has_lengths, has_time, has_sum, announced, is_whole, batch_size, first_batches, first_sizes, recovered, whole_end, IsBatch, EndsWhole, StopsAt}

-- ---- bytes that are not zero

pub nonzero : (n : ℕ) (xs : List ℕ) → has_no_zero n xs ≡ true → (i : ℕ) → i < n → 0 < slice_index xs i
unfolding has_no_zero
nonzero zero xs h i low = absurd (omega arith)
nonzero (suc n) xs h i low =
    let parts = and_parts _ _ h in
    elim (cases_eq i n) [
      | inl same ↦ rw same (ltb-true 0 (slice_index xs n) parts.1)
      | inr other ↦ nonzero n xs parts.0 i (omega arith)
    ]

pub all_nonzero : (n : ℕ) (xs : List ℕ) → ((i : ℕ) → i < n → 0 < slice_index xs i) → has_no_zero n xs ≡ true
unfolding has_no_zero
all_nonzero zero xs h = refl
all_nonzero (suc n) xs h = and_from _ _ (all_nonzero n xs (λ i low. h i (omega arith))) (lt-ltb 0 (slice_index xs n) (h n (omega arith)))

-- a zero among the first n bytes
pub has_zero : (n : ℕ) (xs : List ℕ) (i : ℕ) → i < n → slice_index xs i ≡ 0 → has_no_zero n xs ≡ false
has_zero n xs i low gone =
    elim (cases_Bool (has_no_zero n xs)) [
      | inl none ↦ absurd (omega (arith, gone, nonzero n xs none i low))
      | inr some ↦ some
    ]

-- ---- what depends on which bytes

-- The bytes from `low` on and below n are the same.
pub record IsSameFrom (low n : ℕ) (xs ys : List ℕ) : Type 0 where
  pub each : (i : ℕ) → low ≤ i → i < n → slice_index ys i ≡ slice_index xs i

pub same_digits : (w at : ℕ) (xs ys : List ℕ) → ((i : ℕ) → at ≤ i → i < at + w → slice_index ys i ≡ slice_index xs i) → are_digits w at ys ≡ are_digits w at xs
unfolding are_digits
same_digits zero at xs ys h = refl
same_digits (suc w) at xs ys h =
    let front : are_digits w at ys ≡ are_digits w at xs = same_digits w at xs ys (λ i a low. h i a (omega arith)) in
    let last : slice_index ys (at + w) ≡ slice_index xs (at + w) = h (at + w) (omega arith) (omega arith) in
    cc

same_number : (w at : ℕ) (xs ys : List ℕ) → ((i : ℕ) → at ≤ i → i < at + w → slice_index ys i ≡ slice_index xs i) → number_at w at ys ≡ number_at w at xs
unfolding number_at
same_number zero at xs ys h = refl
same_number (suc w) at xs ys h =
    let front : number_at w at ys ≡ number_at w at xs = same_number w at xs ys (λ i a low. h i a (omega arith)) in
    let last : slice_index ys (at + w) ≡ slice_index xs (at + w) = h (at + w) (omega arith) (omega arith) in
    cc

-- a part of both, which both have
same_part : (low m : ℕ) (xs ys : List ℕ) → low + m ≤ length xs → low + m ≤ length ys → IsSameFrom low (low + m) xs ys → take m (drop low ys) ≡ take m (drop low xs)
same_part low m xs ys long long' same =
    let size : length (take m (drop low xs)) ≡ m = length-take-le m (drop low xs) (omega (arith, length-drop low xs)) in
    let size' : length (take m (drop low ys)) ≡ m = length-take-le m (drop low ys) (omega (arith, length-drop low ys)) in
    ext_get_or 0 (take m (drop low ys)) (take m (drop low xs)) (omega (arith, size, size'))
    (λ i below.
    let here : i < m = omega (arith, size') in
    get_or-take m (drop low ys) i 0 here ∙ get_or-drop low ys i 0 ∙ same.each (low + i) (omega arith) (omega arith) ∙ sym (get_or-drop low xs i 0) ∙ sym (get_or-take m (drop low xs) i 0 here))

pub same_lengths : (xs ys : List ℕ) → IsSameFrom 1 38 xs ys → (has_lengths ys ≡ has_lengths xs) × (announced ys ≡ announced xs)
unfolding has_lengths announced
same_lengths xs ys same =
    let a : are_digits 5 1 ys ≡ are_digits 5 1 xs = same_digits 5 1 xs ys (λ i l h. same.each i (omega arith) (omega arith)) in
    let b : are_digits 5 7 ys ≡ are_digits 5 7 xs = same_digits 5 7 xs ys (λ i l h. same.each i (omega arith) (omega arith)) in
    let c : number_at 5 1 ys ≡ number_at 5 1 xs = same_number 5 1 xs ys (λ i l h. same.each i (omega arith) (omega arith)) in
    let d : number_at 5 7 ys ≡ number_at 5 7 xs = same_number 5 7 xs ys (λ i l h. same.each i (omega arith) (omega arith)) in
    let e : slice_index ys 6 ≡ slice_index xs 6 = same.each 6 (omega arith) (omega arith) in
    let f : slice_index ys 12 ≡ slice_index xs 12 = same.each 12 (omega arith) (omega arith) in
    (cc, cc)

pub same_time : (xs ys : List ℕ) → IsSameFrom 1 38 xs ys → has_time ys ≡ has_time xs
unfolding has_time
same_time xs ys same =
    let a : are_digits 13 13 ys ≡ are_digits 13 13 xs = same_digits 13 13 xs ys (λ i l h. same.each i (omega arith) (omega arith)) in
    let e : slice_index ys 26 ≡ slice_index xs 26 = same.each 26 (omega arith) (omega arith) in
    cc

same_sum : (n : ℕ) (xs ys : List ℕ) → 38 ≤ n → n ≤ length xs → n ≤ length ys → IsSameFrom 1 n xs ys → sum_of n ys ≡ sum_of n xs
unfolding sum_of
same_sum n xs ys long fits fits' same =
    let head : take 26 (drop 1 ys) ≡ take 26 (drop 1 xs) = same_part 1 26 xs ys (omega arith) (omega arith) (record { each = λ i l h. same.each i l (omega arith) }) in
    let body : take (n - 38) (drop 38 ys) ≡ take (n - 38) (drop 38 xs) = same_part 38 (n - 38) xs ys (omega arith) (omega arith) (record { each = λ i l h. same.each i (omega arith) (omega arith) }) in
    cc

-- What a whole batch is made of.
pub record Whole (xs : List ℕ) : Type 0 where
  pub gate : 0 < slice_index xs 0
  pub lengths : has_lengths xs ≡ true
  pub time : has_time xs ≡ true
  pub digits : are_digits 10 27 xs ≡ true
  pub feed : slice_index xs 37 ≡ 10
  pub no_zero : has_no_zero (announced xs) xs ≡ true
  pub sum : number_at 10 27 xs ≡ sum_of (announced xs) xs

pub whole_parts : (xs : List ℕ) → is_whole xs ≡ true → Whole xs
unfolding is_whole has_sum
whole_parts xs is =
    let gate = nat_lt 0 (slice_index xs 0) in
    let a = and_parts (gate && has_lengths xs && has_time xs) (has_sum xs) is in
    let b = and_parts (gate && has_lengths xs) (has_time xs) a.0 in
    let c = and_parts gate (has_lengths xs) b.0 in
    let digits = are_digits 10 27 xs in
    let feed = slice_index xs 37 == 10 in
    let p = and_parts (digits && feed && has_no_zero (announced xs) xs) (number_at 10 27 xs == sum_of (announced xs) xs) a.1 in
    let q = and_parts (digits && feed) (has_no_zero (announced xs) xs) p.0 in
    let r = and_parts digits feed q.0 in
    record { gate = ltb-true 0 (slice_index xs 0) c.0; lengths = c.1; time = b.1; digits = r.0; feed = eqb-true _ _ r.1; no_zero = q.1; sum = eqb-true _ _ p.1 }

pub whole_from : (xs : List ℕ) → Whole xs → is_whole xs ≡ true
unfolding is_whole has_sum
whole_from xs w =
    and_from _ _ (and_from _ _ (and_from _ _ (lt-ltb 0 (slice_index xs 0) w.gate) w.lengths) w.time)
    (and_from _ _ (and_from _ _ (and_from _ _ w.digits (eq-eqb _ _ w.feed)) w.no_zero) (eq-eqb _ _ w.sum))

pub long_enough : (n : ℕ) (xs : List ℕ) → has_no_zero n xs ≡ true → n ≤ length xs
long_enough zero xs h = omega arith
long_enough (suc n) xs h =
    elim (cases_lt n (length xs)) [
      | inl low ↦ omega arith
      | inr past ↦ absurd (omega (arith, get_or_past xs n 0 past, nonzero (suc n) xs h n (omega arith)))
    ]

pub announced_more : (xs : List ℕ) → 38 ≤ announced xs
unfolding announced
announced_more xs = omega arith

-- The same bytes behind an open gate are a whole batch too.
pub whole_again : (xs ys : List ℕ) → Whole xs → 0 < slice_index ys 0 → IsSameFrom 1 (announced xs) xs ys → Whole ys × (announced ys ≡ announced xs)
whole_again xs ys w gate same =
    let more = announced_more xs in
    let head : IsSameFrom 1 38 xs ys = record { each = λ i l h. same.each i l (omega arith) } in
    let lengths = same_lengths xs ys head in
    let size : announced ys ≡ announced xs = lengths.1 in
    let none : has_no_zero (announced xs) ys ≡ true = all_nonzero (announced xs) ys (λ i low. elim (cases_eq i 0) [
      | inl first ↦ rw first gate
      | inr later ↦ omega (arith, same.each i (omega arith) low, nonzero (announced xs) xs w.no_zero i low)
    ]) in
    let digits : are_digits 10 27 ys ≡ are_digits 10 27 xs = same_digits 10 27 xs ys (λ i l h. head.each i (omega arith) (omega arith)) in
    let number : number_at 10 27 ys ≡ number_at 10 27 xs = same_number 10 27 xs ys (λ i l h. head.each i (omega arith) (omega arith)) in
    let total : sum_of (announced xs) ys ≡ sum_of (announced xs) xs = same_sum (announced xs) xs ys more (long_enough (announced xs) xs w.no_zero) (long_enough (announced xs) ys none) same in (
      record {
        gate = gate;
        lengths = lengths.0 ∙ w.lengths;
        time = same_time xs ys head ∙ w.time;
        digits = digits ∙ w.digits;
        feed = head.each 37 (omega arith) (omega arith) ∙ w.feed;
        no_zero = ap (λ n. has_no_zero n ys) size ∙ none;
        sum = number ∙ w.sum ∙ sym total ∙ ap (λ n. sum_of n ys) (sym size);
      },
      size,
    )

-- either there is no whole batch, or all of it is there
pub sized : (xs : List ℕ) → (batch_size xs ≡ 0) ⊎ (Whole xs × (batch_size xs ≡ announced xs))
unfolding batch_size
sized xs =
    elim (cases_Bool (is_whole xs)) [
      | inl whole ↦ inr (whole_parts xs whole, cond-true _ _ _ whole)
      | inr torn ↦ inl (cond-false _ _ _ torn)
    ]

pub size_from : (xs : List ℕ) → Whole xs → batch_size xs ≡ announced xs
unfolding batch_size
size_from xs w = cond-true _ _ _ (whole_from xs w)

-- The heart: where each byte is zero or that of r, there is no whole batch, or the one of r.
pub zeroed : (m r : List ℕ) → ((i : ℕ) → (slice_index m i ≡ 0) ⊎ (slice_index m i ≡ slice_index r i))
    → (batch_size m ≡ 0) ⊎ ((batch_size m ≡ batch_size r) × ((i : ℕ) → i < batch_size r → slice_index m i ≡ slice_index r i))
zeroed m r h =
    elim (sized m) [
      | inl none ↦ inl none
      | inr w ↦
          let more = announced_more m in
          let same : (i : ℕ) → i < announced m → slice_index m i ≡ slice_index r i = λ i low. elim (h i) [
            | inl gone ↦ absurd (omega (arith, gone, nonzero (announced m) m w.0.no_zero i low))
            | inr here ↦ here
          ] in
          let whole = whole_again m r w.0 (omega (arith, same 0 (omega arith), w.0.gate)) (record { each = λ i l low. sym (same i low) }) in
          let size : batch_size r ≡ announced r = size_from r whole.0 in
          inr (omega (arith, w.1, whole.1, size), λ i low. same i (omega (arith, whole.1, size)))
    ]

-- behind an open gate the same batch is at the start of bytes that go on alike
pub same_size : (xs ys : List ℕ) → 0 < batch_size xs → 0 < slice_index ys 0 → ((i : ℕ) → 1 ≤ i → i < batch_size xs → slice_index ys i ≡ slice_index xs i) → batch_size ys ≡ batch_size xs
same_size xs ys some gate h =
    elim (sized xs) [
      | inl none ↦ absurd (omega (arith, none))
      | inr w ↦
          let whole = whole_again xs ys w.0 gate (record { each = λ i l low. h i l (omega (arith, w.1)) }) in
          omega (arith, w.1, whole.1, size_from ys whole.0)
    ]

pub gate_open : (xs : List ℕ) → 0 < batch_size xs → 0 < slice_index xs 0
gate_open xs some =
    elim (sized xs) [
      | inl none ↦ absurd (omega (arith, none))
      | inr w ↦ w.0.gate
    ]

-- a zero in the header: no batch
pub no_header : (m : List ℕ) (i : ℕ) → i < 38 → slice_index m i ≡ 0 → batch_size m ≡ 0
no_header m i low gone =
    elim (sized m) [
      | inl none ↦ none
      | inr w ↦ absurd (omega (arith, gone, announced_more m, nonzero (announced m) m w.0.no_zero i (omega (arith, announced_more m))))
    ]

pub size_within : (xs : List ℕ) → batch_size xs ≤ length xs
size_within xs =
    elim (sized xs) [
      | inl none ↦ omega (arith, none)
      | inr w ↦ omega (arith, w.1, long_enough (announced xs) xs w.0.no_zero)
    ]

-- five digits are below 100,000
digit_small : (b : ℕ) → is_digit b ≡ true → b - 48 < 10
digit_small b is = let p = and_parts (nat_le 48 b) (nat_lt b 58) is in omega (arith, ltb-true b 58 p.1)

pub digit_within : (n at : ℕ) (xs : List ℕ) → are_digits n at xs ≡ true → (i : ℕ) → i < n → is_digit (slice_index xs (at + i)) ≡ true
unfolding are_digits
digit_within zero at xs h i low = absurd (omega arith)
digit_within (suc n) at xs h i low =
    let parts = and_parts (are_digits n at xs) (is_digit (slice_index xs (at + n))) h in
    elim (cases_eq i n) [
      | inl same ↦ rw same parts.1
      | inr other ↦ digit_within n at xs parts.0 i (omega arith)
    ]

pub all_digits : (n at : ℕ) (xs : List ℕ) → ((i : ℕ) → i < n → is_digit (slice_index xs (at + i)) ≡ true) → are_digits n at xs ≡ true
unfolding are_digits
all_digits zero at xs h = refl
all_digits (suc n) at xs h = and_from _ _ (all_digits n at xs (λ i low. h i (omega arith))) (h n (omega arith))

pub number_more : (n at : ℕ) (xs : List ℕ) → number_at (n + 1) at xs ≡ number_at n at xs * 10 + (slice_index xs (at + n) - 48)
unfolding number_at
number_more n at xs =
    let one : number_at (suc n) at xs ≡ number_at n at xs * 10 + (slice_index xs (at + n) - 48) = refl in
    let next : n + 1 ≡ suc n = omega arith in
    ap (λ (m : ℕ). number_at m at xs) next ∙ one

pub number_none : (at : ℕ) (xs : List ℕ) → number_at 0 at xs ≡ 0
unfolding number_at
number_none at xs = refl

pub ten_more : (i : ℕ) → 10 ^ (i + 1) ≡ 10 * 10 ^ i
ten_more i = omega (arith, pow-add 10 i 1)

pub ten_small : (i : ℕ) → i < 13 → 10 ^ i ≤ 10 ^ 12
ten_small i low =
    let parts : 12 ≡ i + (12 - i) = omega arith in
    let whole : 10 ^ 12 ≡ 10 ^ i * 10 ^ (12 - i) = ap (λ (k : ℕ). 10 ^ k) parts ∙ pow-add 10 i (12 - i) in
    let some : 1 ≤ 10 ^ (12 - i) = one-le-pow (12 - i) 10 (omega arith) in
    let grows : 10 ^ i ≤ 10 ^ i * 10 ^ (12 - i) = le-mul_of_pos_right (10 ^ i) (omega (arith, some)) in
    omega (arith, whole, grows)

five_small : (xs : List ℕ) → are_digits 5 1 xs ≡ true → number_at 5 1 xs < 100000
unfolding number_at
five_small xs is =
    let d : (i : ℕ) → i < 5 → slice_index xs (1 + i) - 48 < 10 = λ i low. digit_small (slice_index xs (1 + i)) (digit_within 5 1 xs is i low) in
    omega (arith, d 0 (omega arith), d 1 (omega arith), d 2 (omega arith), d 3 (omega arith), d 4 (omega arith))

pub announced_small : (xs : List ℕ) → has_lengths xs ≡ true → (38 < announced xs) × (announced xs < 100038)
unfolding has_lengths announced
announced_small xs is =
    let first = are_digits 5 1 xs in
    let space = slice_index xs 6 == 32 in
    let second = are_digits 5 7 xs in
    let space' = slice_index xs 12 == 32 in
    let same = number_at 5 1 xs == number_at 5 7 xs in
    let f = and_parts (first && space && second && space' && same) (nat_lt 0 (number_at 5 1 xs)) is in
    let e = and_parts (first && space && second && space') same f.0 in
    let d = and_parts (first && space && second) space' e.0 in
    let c = and_parts (first && space) second d.0 in
    let b = and_parts first space c.0 in
    (omega (arith, ltb-true 0 (number_at 5 1 xs) f.1), omega (arith, five_small xs b.0))

-- ---- the batches of a file

stopped : (n : ℕ) (xs : List ℕ) → batch_size xs ≡ 0 → (first_batches n xs ≡ []) × (first_sizes n xs ≡ 0)
unfolding first_batches first_sizes
stopped zero xs none = (refl, refl)
stopped (suc n) xs none = (cond-true _ _ _ (eq-eqb _ _ none), cond-true _ _ _ (eq-eqb _ _ none))

taken : (n : ℕ) (xs : List ℕ) → batch_size xs ≢ 0
    → (first_batches (suc n) xs ≡ drop 1 (take (batch_size xs) xs) ∷ first_batches n (drop (batch_size xs) xs)) × (first_sizes (suc n) xs ≡ batch_size xs + first_sizes n (drop (batch_size xs) xs))
unfolding first_batches first_sizes
taken n xs some = (cond-false _ _ _ (ne_eqb _ _ some), cond-false _ _ _ (ne_eqb _ _ some))

enough : (n k : ℕ) (xs : List ℕ) → length xs ≤ n → length xs ≤ k → (first_batches n xs ≡ first_batches k xs) × (first_sizes n xs ≡ first_sizes k xs)
enough zero k xs few few' =
    let none : batch_size xs ≡ 0 = omega (arith, size_within xs) in
    let a = stopped zero xs none in
    let b = stopped k xs none in
    (a.0 ∙ sym b.0, a.1 ∙ sym b.1)
enough (suc n) zero xs few few' =
    let none : batch_size xs ≡ 0 = omega (arith, size_within xs) in
    let a = stopped (suc n) xs none in
    let b = stopped zero xs none in
    (a.0 ∙ sym b.0, a.1 ∙ sym b.1)
enough (suc n) (suc k) xs few few' =
    elim (cases_eq (batch_size xs) 0) [
      | inl none ↦
          let a = stopped (suc n) xs none in
          let b = stopped (suc k) xs none in
          (a.0 ∙ sym b.0, a.1 ∙ sym b.1)
      | inr some ↦
          let rest = enough n k (drop (batch_size xs) xs) (omega (arith, length-drop (batch_size xs) xs)) (omega (arith, length-drop (batch_size xs) xs)) in
          let a = taken n xs some in
          let b = taken k xs some in (
            a.0 ∙ ap (λ (l : List (List ℕ)). drop 1 (take (batch_size xs) xs) ∷ l) rest.0 ∙ sym b.0,
            a.1 ∙ ap (λ (l : ℕ). batch_size xs + l) rest.1 ∙ sym b.1,
          )
    ]

pub recovered_none : (xs : List ℕ) → batch_size xs ≡ 0 → recovered xs ≡ []
unfolding recovered
recovered_none xs none = (stopped (length xs) xs none).0

pub end_none : (xs : List ℕ) → batch_size xs ≡ 0 → whole_end xs ≡ 0
unfolding whole_end
end_none xs none = (stopped (length xs) xs none).1

-- A whole batch at the start, and what follows it.
pub one_more : (xs : List ℕ) → batch_size xs ≢ 0
    → (recovered xs ≡ drop 1 (take (batch_size xs) xs) ∷ recovered (drop (batch_size xs) xs)) × (whole_end xs ≡ batch_size xs + whole_end (drop (batch_size xs) xs))
unfolding recovered whole_end
one_more xs some =
    let rest = drop (batch_size xs) xs in
    let first = enough (length xs) (suc (length xs)) xs (omega arith) (omega arith) in
    let next = taken (length xs) xs some in
    let back = enough (length xs) (length rest) rest (omega (arith, length-drop (batch_size xs) xs)) (omega arith) in (
      first.0 ∙ next.0 ∙ ap (λ (l : List (List ℕ)). drop 1 (take (batch_size xs) xs) ∷ l) back.0,
      first.1 ∙ next.1 ∙ ap (λ (l : ℕ). batch_size xs + l) back.1,
    )

batch_in_front : (b rest : List ℕ) → IsBatch b → batch_size (b ++ rest) ≡ length b
batch_in_front b rest is =
    let at : (i : ℕ) → i < batch_size b → slice_index (b ++ rest) i ≡ slice_index b i = λ i low. get_or_append_left b rest 0 i (omega (arith, is.whole)) in
    same_size b (b ++ rest) (omega (arith, is.some, is.whole)) (omega (arith, at 0 (omega (arith, is.some, is.whole)), gate_open b (omega (arith, is.some, is.whole)))) (λ i l low. at i low) ∙ is.whole

pub recovered_batch : (b rest : List ℕ) → IsBatch b → (recovered (b ++ rest) ≡ drop 1 b ∷ recovered rest) × (whole_end (b ++ rest) ≡ length b + whole_end rest)
recovered_batch b rest is =
    let bs = b ++ rest in
    let size : batch_size bs ≡ length b = batch_in_front b rest is in
    let more = one_more bs (λ e. omega (arith, e, size, is.some)) in
    let front : take (batch_size bs) bs ≡ b = ap (λ (n : ℕ). take n bs) size ∙ take_at b rest (length b) refl in
    let back : drop (batch_size bs) bs ≡ rest = ap (λ (n : ℕ). drop n bs) size ∙ drop_at b rest (length b) refl in (
      more.0 ∙ ap (λ (l : List ℕ). drop 1 l ∷ recovered (drop (batch_size bs) bs)) front ∙ ap (λ (l : List ℕ). drop 1 b ∷ recovered l) back,
      more.1 ∙ ap (λ (n : ℕ). n + whole_end (drop (batch_size bs) bs)) size ∙ ap (λ (l : List ℕ). length b + whole_end l) back,
    )

pub recovered_one : (b : List ℕ) → IsBatch b → recovered b ≡ drop 1 b ∷ []
recovered_one b is = ap recovered (sym (append-nil b)) ∙ (recovered_batch b [] is).0 ∙ ap (λ (l : List (List ℕ)). drop 1 b ∷ l) (recovered_none [] (omega (arith, size_within [])))

pub ends_nil : EndsWhole []
ends_nil = record {
  goes_on = λ rest. ap (λ (l : List (List ℕ)). l ++ recovered rest) (sym (recovered_none [] (omega (arith, size_within []))));
  reaches = λ rest. omega arith;
}

pub with_more : (text b : List ℕ) → EndsWhole text → IsBatch b → recovered (text ++ b) ≡ recovered text ++ drop 1 b ∷ []
with_more text b ends is = ends.goes_on b ∙ ap (λ (l : List (List ℕ)). recovered text ++ l) (recovered_one b is)

pub ends_more : (text b : List ℕ) → EndsWhole text → IsBatch b → EndsWhole (text ++ b)
ends_more text b ends is =
    record {
      goes_on = λ rest.
          ap recovered (append_assoc text b rest)
          ∙ ends.goes_on (b ++ rest)
          ∙ ap (λ (l : List (List ℕ)). recovered text ++ l) (recovered_batch b rest is).0
          ∙ sym (append_assoc (recovered text) (drop 1 b ∷ []) (recovered rest))
          ∙ ap (λ (l : List (List ℕ)). l ++ recovered rest) (sym (with_more text b ends is));
      reaches = λ rest.
          let a : whole_end ((text ++ b) ++ rest) ≡ whole_end (text ++ (b ++ rest)) = ap whole_end (append_assoc text b rest) in
          omega (arith, a, ends.reaches (b ++ rest), (recovered_batch b rest is).1, length-append text b);
    }

-- the batch that stands at the start
pub batch_at : (xs : List ℕ) → 0 < batch_size xs → IsBatch (take (batch_size xs) xs)
batch_at xs some =
    let long : length (take (batch_size xs) xs) ≡ batch_size xs = length-take-le (batch_size xs) xs (size_within xs) in
    let at : (i : ℕ) → i < batch_size xs → slice_index (take (batch_size xs) xs) i ≡ slice_index xs i = λ i low. get_or-take (batch_size xs) xs i 0 low in
    record {
      some = omega (arith, long);
      whole = same_size xs (take (batch_size xs) xs) some (omega (arith, at 0 some, gate_open xs some)) (λ i l low. at i low) ∙ sym long;
    }

pub stops : (end : ℕ) (file : List ℕ) → StopsAt end file → (recovered file ≡ recovered (take end file)) × (whole_end file ≡ end)
stops end file s =
    let whole : take end file ++ drop end file ≡ file = take-append-drop end file in (
      ap recovered (sym whole)
          ∙ s.text.goes_on (drop end file)
          ∙ ap (λ (l : List (List ℕ)). recovered (take end file) ++ l) (recovered_none _ s.none)
          ∙ append-nil (recovered (take end file)),
      ap whole_end (sym whole) ∙ omega (arith, s.text.reaches (drop end file), end_none _ s.none, length-take-le end file s.within),
    )

-- one batch further
pub step : (end size : ℕ) (xs : List ℕ) → end ≤ length xs → EndsWhole (take end xs) → size ≢ 0 → size ≡ batch_size (drop end xs) → (end + size ≤ length xs) × EndsWhole (take (end + size) xs)
step end size xs within ends some is =
    let rest = drop end xs in
    let fits : size ≤ length rest = omega (arith, is, size_within rest) in
    let long : length rest ≡ length xs - end = length-drop end xs in
    let b = take (batch_size rest) rest in
    let batch : IsBatch b = batch_at rest (omega (arith, is, some)) in
    let whole : xs ≡ (take end xs ++ b) ++ drop (batch_size rest) rest =
    sym (take-append-drop end xs)
    ∙ ap (λ (l : List ℕ). take end xs ++ l) (sym (take-append-drop (batch_size rest) rest))
    ∙ sym (append_assoc (take end xs) b (drop (batch_size rest) rest)) in
    let size_of_b : length b ≡ size = length-take-le (batch_size rest) rest (size_within rest) ∙ sym is in
    let text : take (end + size) xs ≡ take end xs ++ b =
    ap (λ (l : List ℕ). take (end + size) l) whole
    ∙ take_at (take end xs ++ b) (drop (batch_size rest) rest) (end + size) (omega (arith, length-append (take end xs) b, length-take-le end xs within, size_of_b)) in
    (omega (arith, fits, long, within), subst EndsWhole (sym text) (ends_more (take end xs) b ends batch))

-- the size of a batch
pub batch_long : (b : List ℕ) → IsBatch b → (38 < length b) × (length b < 100038)
batch_long b is =
    elim (sized b) [
      | inl none ↦ absurd (omega (arith, none, is.some, is.whole))
      | inr w ↦ let small = announced_small b w.0.lengths in (omega (arith, small.0, w.1, is.whole), omega (arith, small.1, w.1, is.whole))
    ]

-- ---- steps of loops

pub sum_step : (sum i : ℕ) (xs : List ℕ) → i < length xs → sum_from sum (drop i xs) ≡ sum_from ((sum * 256 + slice_index xs i) % 4294967291) (drop (i + 1) xs)
unfolding sum_from
sum_step sum i xs low =
    let one : sum_from sum (slice_index xs i ∷ drop (i + 1) xs) ≡ sum_from ((sum * 256 + slice_index xs i) % 4294967291) (drop (i + 1) xs) = refl in
    ap (λ (l : List ℕ). sum_from sum l) (drop_more xs i 0 low) ∙ one

pub sum_end : (sum i : ℕ) (xs : List ℕ) → length xs ≤ i → sum_from sum (drop i xs) ≡ sum
unfolding sum_from
sum_end sum i xs past =
    let none : sum_from sum [] ≡ sum = refl in
    ap (λ (l : List ℕ). sum_from sum l) (drop_all i xs past) ∙ none

-- what is too short has no sum
pub short_sum : (xs : List ℕ) → length xs < announced xs → has_sum xs ≡ false
unfolding has_sum
short_sum xs short =
    elim (cases_Bool (has_sum xs)) [
      | inr has_none ↦ has_none
      | inl has ↦
          let digits = are_digits 10 27 xs in
          let feed = slice_index xs 37 == 10 in
          let p = and_parts (digits && feed && has_no_zero (announced xs) xs) (number_at 10 27 xs == sum_of (announced xs) xs) has in
          let q = and_parts (digits && feed) (has_no_zero (announced xs) xs) p.0 in
          absurd (omega (arith, long_enough (announced xs) xs q.1))
    ]
