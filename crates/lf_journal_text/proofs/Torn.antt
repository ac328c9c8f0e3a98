-- Torn batches and zeros ahead, and prefixes of a segment.
use Rattle.std.proofs.Common.{◌≡◌, ◌≢◌, ◌⊎◌, ℕ, zero, suc, ◌+◌, ◌-◌, ◌<◌, ◌≤◌, Bool, true, false, not, ◌&&◌, ◌==◌, List, [], ◌∷◌, ◌++◌, length, take, drop, slice_index, refl, sym, ◌∙◌, ap, inl, inr, arith, length-drop}
use Rattle.std.proofs.lemmas.Bool.{cases_eq, cases_lt, cases_Bool, and_parts, and_from, cond-true, cond-false, eq-eqb, eqb-true}
use Rattle.std.proofs.lemmas.List.{get_or_past, get_or-take, get_or-drop, length-take, take-take, drop-take, drop-drop, drop_more, drop_all}
use Rattle.lf_journal_text.specs.Batches.{has_no_zero, has_lengths, has_time, announced, batch_size, recovered, whole_end, are_zeros, is_torn, is_intact, IsBatch, StopsAt}
use Rattle.lf_journal_text.proofs.Reading.{IsSameFrom, nonzero, all_nonzero, has_zero, same_lengths, same_time, whole_again, sized, size_from, same_size, gate_open, no_header, size_within, announced_small, long_enough, recovered_none, end_none, one_more, stops}

-- ---- zeros

pub zeros_at : (xs : List ℕ) → are_zeros xs ≡ true → (i : ℕ) → slice_index xs i ≡ 0
unfolding are_zeros
zeros_at [] h i = get_or_past [] i 0 (omega arith)
zeros_at (b ∷ bs) h zero = eqb-true b 0 (and_parts (b == 0) (are_zeros bs) h).0
zeros_at (b ∷ bs) h (suc i) = zeros_at bs (and_parts (b == 0) (are_zeros bs) h).1 i

pub all_zeros : (xs : List ℕ) → ((i : ℕ) → slice_index xs i ≡ 0) → are_zeros xs ≡ true
unfolding are_zeros
all_zeros [] h = refl
all_zeros (b ∷ bs) h = and_from _ _ (eq-eqb b 0 (h 0)) (all_zeros bs (λ i. h (suc i)))

pub zeros_behind : (n : ℕ) (xs : List ℕ) → are_zeros (drop n xs) ≡ true → (i : ℕ) → n ≤ i → slice_index xs i ≡ 0
zeros_behind n xs h i low =
    let there : n + (i - n) ≡ i = omega arith in
    ap (λ (k : ℕ). slice_index xs k) (sym there) ∙ sym (get_or-drop n xs (i - n) 0) ∙ zeros_at (drop n xs) h (i - n)

pub all_zeros_behind : (n : ℕ) (xs : List ℕ) → ((i : ℕ) → n ≤ i → slice_index xs i ≡ 0) → are_zeros (drop n xs) ≡ true
all_zeros_behind n xs h = all_zeros (drop n xs) (λ i. get_or-drop n xs i 0 ∙ h (n + i) (omega arith))

-- ---- the two ways to be torn

-- The header is whole, a byte behind it is zero, and nothing follows.
pub record TornBody (xs : List ℕ) : Type 0 where
  pub header : has_no_zero 38 xs ≡ true
  pub lengths : has_lengths xs ≡ true
  pub time : has_time xs ≡ true
  pub zero_in : has_no_zero (announced xs) xs ≡ false
  pub zeros : (i : ℕ) → announced xs ≤ i → slice_index xs i ≡ 0

-- A byte of the header is zero.
pub record TornHeader (xs : List ℕ) : Type 0 where
  pub header : has_no_zero 38 xs ≡ false
  pub zeros : (i : ℕ) → 131072 ≤ i → slice_index xs i ≡ 0

not_true : (b : Bool) → not b ≡ true → b ≡ false
not_true true h = absurd (cc h)
not_true false h = refl

not_false : (b : Bool) → b ≡ false → not b ≡ true
not_false true h = absurd (cc h)
not_false false h = refl

pub torn_ways : (xs : List ℕ) → is_torn xs ≡ true → TornBody xs ⊎ TornHeader xs
unfolding is_torn
torn_ways xs is =
    elim (cases_Bool (has_no_zero 38 xs)) [
      | inl whole ↦
          let all : has_lengths xs && has_time xs && not (has_no_zero (announced xs) xs) && are_zeros (drop (announced xs) xs) ≡ true = sym (cond-true _ _ _ whole) ∙ is in
          let a = and_parts (has_lengths xs && has_time xs && not (has_no_zero (announced xs) xs)) (are_zeros (drop (announced xs) xs)) all in
          let b = and_parts (has_lengths xs && has_time xs) (not (has_no_zero (announced xs) xs)) a.0 in
          let c = and_parts (has_lengths xs) (has_time xs) b.0 in
          inl (record { header = whole; lengths = c.0; time = c.1; zero_in = not_true _ b.1; zeros = zeros_behind (announced xs) xs a.1 })
      | inr torn ↦ inr (record { header = torn; zeros = zeros_behind 131072 xs (sym (cond-false _ _ _ torn) ∙ is) })
    ]

pub body_torn : (xs : List ℕ) → TornBody xs → is_torn xs ≡ true
unfolding is_torn
body_torn xs t =
    cond-true _ _ _ t.header ∙ and_from _ _ (and_from _ _ (and_from _ _ t.lengths t.time) (not_false _ t.zero_in)) (all_zeros_behind (announced xs) xs t.zeros)

pub header_torn : (xs : List ℕ) → TornHeader xs → is_torn xs ≡ true
unfolding is_torn
header_torn xs t = cond-false _ _ _ t.header ∙ all_zeros_behind 131072 xs t.zeros

-- a zero in the header
pub torn_by : (xs : List ℕ) (i : ℕ) → i < 38 → slice_index xs i ≡ 0 → ((k : ℕ) → 131072 ≤ k → slice_index xs k ≡ 0) → is_torn xs ≡ true
torn_by xs i low gone zeros = header_torn xs (record { header = has_zero 38 xs i low gone; zeros = zeros })

pub torn_zeros : (xs : List ℕ) → is_torn xs ≡ true → (i : ℕ) → 131072 ≤ i → slice_index xs i ≡ 0
torn_zeros xs is i far =
    elim (torn_ways xs is) [
      | inl t ↦ t.zeros i (omega (arith, (announced_small xs t.lengths).1))
      | inr t ↦ t.zeros i far
    ]

-- where each byte is zero or that of a batch, and nothing follows
pub mixed_torn : (m r : List ℕ) → IsBatch r → ((i : ℕ) → (slice_index m i ≡ 0) ⊎ (slice_index m i ≡ slice_index r i)) → ((i : ℕ) → length r ≤ i → slice_index m i ≡ 0) → batch_size m ≡ 0 → is_torn m ≡ true
mixed_torn m r is h behind none =
    elim (sized r) [
      | inl gone ↦ absurd (omega (arith, gone, is.some, is.whole))
      | inr w ↦
          let small = announced_small r w.0.lengths in
          let size : announced r ≡ length r = omega (arith, w.1, is.whole) in
          elim (cases_Bool (has_no_zero 38 m)) [
            | inr torn ↦ header_torn m (record { header = torn; zeros = λ i far. behind i (omega (arith, size, small.1)) })
            | inl whole ↦
                let head : IsSameFrom 1 38 r m = record {
                  each = λ i l low. elim (h i) [
                    | inl gone ↦ absurd (omega (arith, gone, nonzero 38 m whole i low))
                    | inr here ↦ here
                  ];
                } in
                let lengths = same_lengths r m head in
                body_torn m (record {
                  header = whole;
                  lengths = lengths.0 ∙ w.0.lengths;
                  time = same_time r m head ∙ w.0.time;
                  zero_in = elim (cases_Bool (has_no_zero (announced m) m)) [
                    | inr some ↦ some
                    | inl all ↦
                        let again = whole_again r m w.0 (nonzero 38 m whole 0 (omega arith)) (record {
                          each = λ i l low. elim (h i) [
                            | inl gone ↦ absurd (omega (arith, gone, lengths.1, nonzero (announced m) m all i (omega (arith, lengths.1))))
                            | inr here ↦ here
                          ];
                        }) in
                        absurd (omega (arith, none, size_from m again.0, again.1, small.0))
                  ];
                  zeros = λ i far. behind i (omega (arith, lengths.1, size));
                })
          ]
    ]

pub short_torn : (xs : List ℕ) → length xs < 38 → is_torn xs ≡ true
short_torn xs short = torn_by xs 37 (omega arith) (get_or_past xs 37 0 (omega arith)) (λ k far. get_or_past xs k 0 (omega arith))

pub long_if_damaged : (xs : List ℕ) → is_torn xs ≡ false → 38 ≤ length xs
long_if_damaged xs damaged =
    elim (cases_lt (length xs) 38) [
      | inl short ↦ absurd (cc (sym (short_torn xs short) ∙ damaged))
      | inr long ↦ long
    ]

pub short_body : (xs : List ℕ) → has_no_zero 38 xs ≡ true → has_lengths xs ≡ true → has_time xs ≡ true → length xs < announced xs → is_torn xs ≡ true
short_body xs header lengths time short =
    body_torn xs (record {
      header = header;
      lengths = lengths;
      time = time;
      zero_in = elim (cases_Bool (has_no_zero (announced xs) xs)) [
        | inr some ↦ some
        | inl all ↦ absurd (omega (arith, long_enough (announced xs) xs all))
      ];
      zeros = λ i far. get_or_past xs i 0 (omega arith);
    })

pub zeros_step : (i : ℕ) (xs : List ℕ) → i < length xs → slice_index xs i ≡ 0 → are_zeros (drop i xs) ≡ are_zeros (drop (i + 1) xs)
unfolding are_zeros
zeros_step i xs low gone =
    let one : are_zeros (0 ∷ drop (i + 1) xs) ≡ are_zeros (drop (i + 1) xs) = refl in
    ap are_zeros (drop_more xs i 0 low) ∙ ap (λ (b : ℕ). are_zeros (b ∷ drop (i + 1) xs)) gone ∙ one

pub zeros_end : (i : ℕ) (xs : List ℕ) → length xs ≤ i → are_zeros (drop i xs) ≡ true
unfolding are_zeros
zeros_end i xs past =
    let none : are_zeros [] ≡ true = refl in
    ap are_zeros (drop_all i xs past) ∙ none

-- ---- another gate

other_gate : (n : ℕ) (xs ys : List ℕ) → 0 < slice_index ys 0 → ((i : ℕ) → 1 ≤ i → slice_index ys i ≡ slice_index xs i) → has_no_zero n xs ≡ true → has_no_zero n ys ≡ true
other_gate n xs ys gate same all =
    all_nonzero n ys (λ i low. elim (cases_eq i 0) [
      | inl first ↦ rw first gate
      | inr later ↦ omega (arith, same i (omega arith), nonzero n xs all i low)
    ])

same_zero : (n : ℕ) (xs ys : List ℕ) → 0 < slice_index xs 0 → 0 < slice_index ys 0 → ((i : ℕ) → 1 ≤ i → slice_index ys i ≡ slice_index xs i) → has_no_zero n ys ≡ has_no_zero n xs
same_zero n xs ys open' gate same =
    elim (cases_Bool (has_no_zero n xs)) [
      | inl all ↦ other_gate n xs ys gate same all ∙ sym all
      | inr some ↦ elim (cases_Bool (has_no_zero n ys)) [
        | inl all ↦ absurd (cc (sym some ∙ other_gate n ys xs open' (λ i l. sym (same i l)) all))
        | inr some' ↦ some' ∙ sym some
      ]
    ]

-- What is torn behind an open gate stays torn, whatever lands on the gate.
pub regated : (xs ys : List ℕ) → is_torn xs ≡ true → batch_size xs ≡ 0 → 0 < slice_index xs 0 → ((i : ℕ) → 1 ≤ i → slice_index ys i ≡ slice_index xs i) → (batch_size ys ≡ 0) × (is_torn ys ≡ true)
regated xs ys is none open' same =
    elim (cases_eq (slice_index ys 0) 0) [
      | inl shut ↦ (no_header ys 0 (omega arith) shut, torn_by ys 0 (omega arith) shut (λ k far. same k (omega arith) ∙ torn_zeros xs is k far))
      | inr other ↦
          let gate : 0 < slice_index ys 0 = omega arith in
          let head : IsSameFrom 1 38 xs ys = record { each = λ i l low. same i l } in
          let lengths = same_lengths xs ys head in (
            elim (cases_eq (batch_size ys) 0) [
              | inl gone ↦ gone
              | inr some ↦ absurd (some (sym (same_size ys xs (omega arith) open' (λ i l low. sym (same i l))) ∙ none))
            ],
            elim (torn_ways xs is) [
              | inl t ↦ body_torn ys (record {
                header = same_zero 38 xs ys open' gate same ∙ t.header;
                lengths = lengths.0 ∙ t.lengths;
                time = same_time xs ys head ∙ t.time;
                zero_in = ap (λ n. has_no_zero n ys) lengths.1 ∙ same_zero (announced xs) xs ys open' gate same ∙ t.zero_in;
                zeros = λ i far. same i (omega (arith, lengths.1, (announced_small xs t.lengths).0)) ∙ t.zeros i (omega (arith, lengths.1));
              })
              | inr t ↦ header_torn ys (record { header = same_zero 38 xs ys open' gate same ∙ t.header; zeros = λ i far. same i (omega arith) ∙ t.zeros i far })
            ],
          )
    ]

-- ---- intact files

pub intact_at : (end : ℕ) (file : List ℕ) → StopsAt end file → is_torn (drop end file) ≡ true → is_intact file ≡ true
unfolding is_intact
intact_at end file stop torn = ap (λ (n : ℕ). is_torn (drop n file)) (stops end file stop).1 ∙ torn

pub torn_at : (end : ℕ) (file : List ℕ) → StopsAt end file → is_intact file ≡ true → is_torn (drop end file) ≡ true
unfolding is_intact
torn_at end file stop is = ap (λ (n : ℕ). is_torn (drop n file)) (sym (stops end file stop).1) ∙ is

-- ---- prefixes

-- nothing is whole in a prefix that is not whole in the bytes
prefix_none : (n : ℕ) (xs : List ℕ) → batch_size xs ≡ 0 → batch_size (take n xs) ≡ 0
prefix_none n xs none =
    elim (cases_eq (batch_size (take n xs)) 0) [
      | inl gone ↦ gone
      | inr some ↦
          let within : batch_size (take n xs) ≤ n = omega (arith, size_within (take n xs), length-take n xs) in
          let same : (i : ℕ) → i < batch_size (take n xs) → slice_index xs i ≡ slice_index (take n xs) i = λ i low. sym (get_or-take n xs i 0 (omega arith)) in
          absurd (some (sym (same_size (take n xs) xs (omega arith) (omega (arith, same 0 (omega arith), gate_open (take n xs) (omega arith))) (λ i l low. same i low)) ∙ none))
    ]

prefix_past : (n : ℕ) (xs : List ℕ) (i : ℕ) → slice_index xs i ≡ 0 → slice_index (take n xs) i ≡ 0
prefix_past n xs i gone =
    elim (cases_lt i n) [
      | inl low ↦ get_or-take n xs i 0 low ∙ gone
      | inr past ↦ get_or_past (take n xs) i 0 (omega (arith, length-take n xs))
    ]

short_zero : (n : ℕ) (xs : List ℕ) (i : ℕ) → n ≤ i → slice_index (take n xs) i ≡ 0
short_zero n xs i past = get_or_past (take n xs) i 0 (omega (arith, length-take n xs))

prefix_of_header : (n : ℕ) (xs : List ℕ) → n < 38 → is_torn (take n xs) ≡ true
prefix_of_header n xs low = torn_by (take n xs) n low (short_zero n xs n (omega arith)) (λ k far. short_zero n xs k (omega arith))

prefix_torn : (n : ℕ) (xs : List ℕ) → is_torn xs ≡ true → is_torn (take n xs) ≡ true
prefix_torn n xs is =
    elim (cases_lt n 38) [
      | inl short ↦ prefix_of_header n xs short
      | inr long ↦
          let at : (i : ℕ) → i < n → slice_index (take n xs) i ≡ slice_index xs i = λ i low. get_or-take n xs i 0 low in
          let head : IsSameFrom 1 38 xs (take n xs) = record { each = λ i l low. at i (omega arith) } in
          let lengths = same_lengths xs (take n xs) head in
          elim (torn_ways xs is) [
            | inl t ↦ body_torn (take n xs) (record {
              header = all_nonzero 38 (take n xs) (λ i low. omega (arith, at i (omega arith), nonzero 38 xs t.header i low));
              lengths = lengths.0 ∙ t.lengths;
              time = same_time xs (take n xs) head ∙ t.time;
              zero_in = elim (cases_Bool (has_no_zero (announced (take n xs)) (take n xs))) [
                | inr some ↦ some
                | inl all ↦
                    let within : announced (take n xs) ≤ n = omega (arith, long_enough _ (take n xs) all, length-take n xs) in
                    let all' : has_no_zero (announced xs) xs ≡ true = all_nonzero (announced xs) xs (λ i low. omega (arith, at i (omega (arith, lengths.1)), nonzero (announced (take n xs)) (take n xs) all i (omega (arith, lengths.1)))) in
                    absurd (cc (sym t.zero_in ∙ all'))
              ];
              zeros = λ i far. prefix_past n xs i (t.zeros i (omega (arith, lengths.1)));
            })
            | inr t ↦ header_torn (take n xs) (record {
              header = elim (cases_Bool (has_no_zero 38 (take n xs))) [
                | inr some ↦ some
                | inl all ↦ absurd (cc (sym t.header ∙ all_nonzero 38 xs (λ i low. omega (arith, at i (omega arith), nonzero 38 (take n xs) all i low))))
              ];
              zeros = λ i far. prefix_past n xs i (t.zeros i far);
            })
          ]
    ]

-- a batch that is cut off is torn
prefix_of_batch : (n : ℕ) (xs : List ℕ) → n < batch_size xs → (batch_size (take n xs) ≡ 0) × (is_torn (take n xs) ≡ true)
prefix_of_batch n xs low =
    elim (sized xs) [
      | inl none ↦ absurd (omega (arith, none))
      | inr w ↦
          let none : batch_size (take n xs) ≡ 0 = elim (cases_eq (batch_size (take n xs)) 0) [
            | inl gone ↦ gone
            | inr some ↦
                let within : batch_size (take n xs) ≤ n = omega (arith, size_within (take n xs), length-take n xs) in
                let same : (i : ℕ) → i < batch_size (take n xs) → slice_index xs i ≡ slice_index (take n xs) i = λ i l. sym (get_or-take n xs i 0 (omega arith)) in
                absurd (omega (arith, low, within, same_size (take n xs) xs (omega arith) w.0.gate (λ i l h. same i h)))
          ] in (
            none,
            elim (cases_lt n 38) [
              | inl short ↦ prefix_of_header n xs short
              | inr long ↦
                  let at : (i : ℕ) → i < n → slice_index (take n xs) i ≡ slice_index xs i = λ i l. get_or-take n xs i 0 l in
                  let head : IsSameFrom 1 38 xs (take n xs) = record { each = λ i l h. at i (omega arith) } in
                  let lengths = same_lengths xs (take n xs) head in
                  let small = announced_small xs w.0.lengths in
                  body_torn (take n xs) (record {
                    header = all_nonzero 38 (take n xs) (λ i l. omega (arith, at i (omega arith), nonzero (announced xs) xs w.0.no_zero i (omega (arith, small.0))));
                    lengths = lengths.0 ∙ w.0.lengths;
                    time = same_time xs (take n xs) head ∙ w.0.time;
                    zero_in = has_zero (announced (take n xs)) (take n xs) n (omega (arith, lengths.1, w.1, low)) (short_zero n xs n (omega arith));
                    zeros = λ i far. short_zero n xs i (omega (arith, lengths.1, w.1, low));
                  })
            ],
          )
    ]

-- A prefix of an intact segment is an intact segment, and has a prefix of its batches.
pub record IsPrefixRead (file cut : List ℕ) : Type 0 where
  pub more : List (List ℕ)
  pub batches : recovered file ≡ recovered cut ++ more
  pub intact : is_intact file ≡ true → is_intact cut ≡ true

at_start : (xs : List ℕ) → batch_size xs ≡ 0 → is_intact xs ≡ is_torn xs
unfolding is_intact
at_start xs none = ap (λ (n : ℕ). is_torn (drop n xs)) (end_none xs none)

behind_one : (xs : List ℕ) → batch_size xs ≢ 0 → is_intact xs ≡ is_intact (drop (batch_size xs) xs)
unfolding is_intact
behind_one xs some =
    ap (λ (n : ℕ). is_torn (drop n xs)) (one_more xs some).1 ∙ ap is_torn (sym (drop-drop (whole_end (drop (batch_size xs) xs)) (batch_size xs) xs))

prefix_longer : (n : ℕ) (file : List ℕ) → batch_size file ≢ 0 → batch_size file ≤ n
    → IsPrefixRead (drop (batch_size file) file) (take (n - batch_size file) (drop (batch_size file) file)) → IsPrefixRead file (take n file)
prefix_longer n file some high next =
    let s = batch_size file in
    let cut = take n file in
    let at : (i : ℕ) → i < s → slice_index cut i ≡ slice_index file i = λ i low. get_or-take n file i 0 (omega arith) in
    let size : batch_size cut ≡ s = same_size file cut (omega arith) (omega (arith, at 0 (omega arith), gate_open file (omega arith))) (λ i l low. at i low) in
    let some' : batch_size cut ≢ 0 = λ e. some (sym size ∙ e) in
    let rest : drop s cut ≡ take (n - s) (drop s file) = ap (λ (m : ℕ). drop s (take m file)) (omega arith) ∙ drop-take s (n - s) file in
    let front : take (batch_size cut) cut ≡ take s file = ap (λ (m : ℕ). take m cut) size ∙ take-take s n file high in
    let rest' : drop (batch_size cut) cut ≡ take (n - s) (drop s file) = ap (λ (m : ℕ). drop m cut) size ∙ rest in
    let read : recovered cut ≡ drop 1 (take s file) ∷ recovered (take (n - s) (drop s file)) =
    (one_more cut some').0 ∙ ap (λ (l : List ℕ). drop 1 l ∷ recovered (drop (batch_size cut) cut)) front ∙ ap (λ (l : List ℕ). drop 1 (take s file) ∷ recovered l) rest' in
    record {
      more = next.more;
      batches =
          (one_more file some).0
          ∙ ap (λ (l : List (List ℕ)). drop 1 (take s file) ∷ l) next.batches
          ∙ ap (λ (l : List (List ℕ)). l ++ next.more) (sym read);
      intact = λ is. behind_one cut some' ∙ ap is_intact rest' ∙ next.intact (sym (behind_one file some) ∙ is);
    }

prefix_at_start : (n : ℕ) (file : List ℕ) → batch_size file ≡ 0 → IsPrefixRead file (take n file)
prefix_at_start n file none =
    let none' = prefix_none n file none in
    record {
      more = recovered file;
      batches = ap (λ (l : List (List ℕ)). l ++ recovered file) (sym (recovered_none (take n file) none'));
      intact = λ is. at_start (take n file) none' ∙ prefix_torn n file (sym (at_start file none) ∙ is);
    }

pub prefix_read : (k n : ℕ) (file : List ℕ) → length file ≤ k → IsPrefixRead file (take n file)
prefix_read zero n file few = prefix_at_start n file (omega (arith, size_within file))
prefix_read (suc k) n file few =
    elim (cases_eq (batch_size file) 0) [
      | inl none ↦ prefix_at_start n file none
      | inr some ↦ elim (cases_lt n (batch_size file)) [
        | inl low ↦
            let cut = prefix_of_batch n file low in
            record {
              more = recovered file;
              batches = ap (λ (l : List (List ℕ)). l ++ recovered file) (sym (recovered_none (take n file) cut.0));
              intact = λ is. at_start (take n file) cut.0 ∙ cut.1;
            }
        | inr high ↦ prefix_longer n file some high (prefix_read k (n - batch_size file) (drop (batch_size file) file) (omega (arith, length-drop (batch_size file) file)))
      ]
    ]
