-- The text of a batch is a whole batch.
use Rattle.std.proofs.Common.{◌≡◌, ◌≢◌, ℕ, zero, suc, ◌+◌, ◌-◌, ◌*◌, ◌/◌, ◌%◌, ◌^◌, ◌<◌, true, not, ◌&&◌, ◌==◌, List, [], ◌∷◌, ◌++◌, length, take, drop, slice_index, refl, sym, ◌∙◌, ap, inl, inr, arith, append_assoc, length-append}
use Rattle.std.proofs.lemmas.Bool.{and_parts, and_from, cases_lt, lt-ltb, le-leb, eq-eqb}
use Rattle.std.proofs.lemmas.List.{take_at, drop_at, get_or_at, get_or-append_right, get_or_append_left, append-nil}
use Rattle.lf_journal_text.specs.Batches.{announced, are_digits, digits_of, has_lengths, has_time, is_digit, number_at, sum_from, sum_of, IsBatch}
use Rattle.std.proofs.lemmas.Bool.Decides.{nat_tests}
use Rattle.lf_journal_text.specs.Records.{batch_text, beginning, entry_text, head_text, is_line, line_text, state_name, title}
use Rattle.lf_journal_text.proofs.Reading.{Whole, all_nonzero, size_from, ten_more}

-- ---- digits

pub digits_long : (w n : ℕ) → length (digits_of w n) ≡ w
unfolding digits_of
digits_long zero n = refl
digits_long (suc w) n = omega (arith, length-append (digits_of w (n / 10)) ((48 + n % 10) ∷ []), digits_long w (n / 10))

digits_step : (w n : ℕ) → digits_of (suc w) n ≡ digits_of w (n / 10) ++ ((48 + n % 10) ∷ [])
unfolding digits_of
digits_step w n = refl

-- one digit further
digits_split : (w n : ℕ) (pre post : List ℕ) → pre ++ (digits_of (suc w) n ++ post) ≡ pre ++ (digits_of w (n / 10) ++ ((48 + n % 10) ∷ post))
digits_split w n pre post =
    ap (λ (l : List ℕ). pre ++ (l ++ post)) (digits_step w n) ∙ ap (λ (l : List ℕ). pre ++ l) (append_assoc (digits_of w (n / 10)) ((48 + n % 10) ∷ []) post)

last_digit : (w n : ℕ) (pre post : List ℕ) (at : ℕ) → length pre ≡ at → slice_index (pre ++ (digits_of w (n / 10) ++ ((48 + n % 10) ∷ post))) (at + w) ≡ 48 + n % 10
last_digit w n pre post at long =
    ap (λ (l : List ℕ). slice_index l (at + w)) (sym (append_assoc pre (digits_of w (n / 10)) ((48 + n % 10) ∷ post)))
    ∙ get_or_at (pre ++ digits_of w (n / 10)) (48 + n % 10) post 0 (at + w) (omega (arith, length-append pre (digits_of w (n / 10)), digits_long w (n / 10), long))

is_one : (d : ℕ) → d < 10 → is_digit (48 + d) ≡ true
is_one d small = and_from _ _ (le-leb 48 (48 + d) (omega arith)) (lt-ltb (48 + d) 58 (omega arith))

pub digits_there : (w n : ℕ) (pre post : List ℕ) (at : ℕ) → length pre ≡ at → n < 10 ^ w
    → (are_digits w at (pre ++ (digits_of w n ++ post)) ≡ true) × (number_at w at (pre ++ (digits_of w n ++ post)) ≡ n)
unfolding are_digits number_at
digits_there zero n pre post at long small = (refl, omega arith)
digits_there (suc w) n pre post at long small =
    let split = digits_split w n pre post in
    let whole = pre ++ (digits_of w (n / 10) ++ ((48 + n % 10) ∷ post)) in
    let power : 10 ^ suc w ≡ 10 * 10 ^ w = ap (λ (k : ℕ). 10 ^ k) (suc_is w) ∙ ten_more w in
    let front = digits_there w (n / 10) pre ((48 + n % 10) ∷ post) at long (omega (arith, small, power)) in
    let last = last_digit w n pre post at long in
    let digit : is_digit (slice_index whole (at + w)) ≡ true = ap is_digit last ∙ is_one (n % 10) (omega arith) in
    let all : are_digits w at whole && is_digit (slice_index whole (at + w)) ≡ true = and_from _ _ front.0 digit in
    let value : number_at w at whole * 10 + (slice_index whole (at + w) - 48) ≡ n = omega (arith, front.1, last) in
    (ap (λ (l : List ℕ). are_digits w at l && is_digit (slice_index l (at + w))) split ∙ all, ap (λ (l : List ℕ). number_at w at l * 10 + (slice_index l (at + w) - 48)) split ∙ value)
  where
    suc_is : (w : ℕ) → suc w ≡ w + 1
    suc_is w = omega arith

-- ---- no zero

abbrev NoZero : List ℕ → Type 0
NoZero xs = (i : ℕ) → i < length xs → 0 < slice_index xs i

no_zero_both : (xs ys : List ℕ) → NoZero xs → NoZero ys → NoZero (xs ++ ys)
no_zero_both xs ys front behind i low =
    elim (cases_lt i (length xs)) [
      | inl first ↦ omega (arith, get_or_append_left xs ys 0 i first, front i first)
      | inr second ↦ omega (arith, get_or-append_right xs ys (length xs) i 0 refl second, behind (i - length xs) (omega (arith, length-append xs ys)))
    ]

no_zero_more : (x : ℕ) (xs : List ℕ) → 0 < x → NoZero xs → NoZero (x ∷ xs)
no_zero_more x xs some all zero low = some
no_zero_more x xs some all (suc i) low = all i (omega arith)

no_zero_nil : NoZero []
no_zero_nil i low = absurd (omega arith)

digits_nonzero : (w n : ℕ) → NoZero (digits_of w n)
unfolding digits_of
digits_nonzero zero n = no_zero_nil
digits_nonzero (suc w) n = no_zero_both (digits_of w (n / 10)) ((48 + n % 10) ∷ []) (digits_nonzero w (n / 10)) (no_zero_more (48 + n % 10) [] (omega arith) no_zero_nil)

head_nonzero : (time size : ℕ) → NoZero (head_text time size)
head_nonzero time size =
    no_zero_both (digits_of 5 size) _ (digits_nonzero 5 size)
    (no_zero_more 32 _ (omega arith) (no_zero_both (digits_of 5 size) _ (digits_nonzero 5 size)
    (no_zero_more 32 _ (omega arith) (no_zero_both (digits_of 13 time) (32 ∷ []) (digits_nonzero 13 time) (no_zero_more 32 [] (omega arith) no_zero_nil)))))

head_long : (time size : ℕ) → length (head_text time size) ≡ 26
head_long time size =
    let a = digits_of 5 size in
    let c = digits_of 13 time ++ (32 ∷ []) in
    omega (arith, length-append a (32 ∷ (a ++ (32 ∷ c))), length-append a (32 ∷ c), length-append (digits_of 13 time) (32 ∷ []), digits_long 5 size, digits_long 13 time)

-- ---- a batch

sum_small : (so_far : ℕ) (bytes : List ℕ) → so_far < 4294967291 → sum_from so_far bytes < 4294967291
unfolding sum_from
sum_small so_far [] small = small
sum_small so_far (b ∷ bs) small = sum_small ((so_far * 256 + b) % 4294967291) bs (omega arith)

module _ (time : ℕ) (p : List ℕ) (early : time < 10 ^ 13) (some : 0 < length p) (small : length p < 100000) (nonzero : (i : ℕ) → i < length p → 0 < slice_index p i) where
  abbrev n : ℕ
  n = length p

  abbrev head : List ℕ
  head = head_text time n

  abbrev total : ℕ
  total = sum_from (sum_from 0 head) p

  abbrev five : List ℕ
  five = digits_of 5 n

  abbrev tail : List ℕ
  tail = digits_of 10 total ++ (10 ∷ p)

  abbrev text : List ℕ
  text = 12 ∷ (head ++ tail)

  abbrev behind_time : List ℕ
  behind_time = 32 ∷ tail

  abbrev behind_second : List ℕ
  behind_second = 32 ∷ (digits_of 13 time ++ behind_time)

  abbrev behind_first : List ℕ
  behind_first = 32 ∷ (five ++ behind_second)

  text_long : length text ≡ 38 + n
  text_long = omega (arith, length-append head tail, head_long time n, length-append (digits_of 10 total) (10 ∷ p), digits_long 10 total)

  as_first : text ≡ (12 ∷ []) ++ (five ++ behind_first)
  as_first =
      ap (λ (l : List ℕ). 12 ∷ l)
      (append_assoc five (32 ∷ (five ++ (32 ∷ (digits_of 13 time ++ (32 ∷ []))))) tail
      ∙ ap (λ (l : List ℕ). five ++ (32 ∷ l)) (append_assoc five (32 ∷ (digits_of 13 time ++ (32 ∷ []))) tail
      ∙ ap (λ (l : List ℕ). five ++ (32 ∷ l)) (append_assoc (digits_of 13 time) (32 ∷ []) tail)))

  abbrev before_second : List ℕ
  before_second = 12 ∷ (five ++ (32 ∷ []))

  as_second : text ≡ before_second ++ (five ++ behind_second)
  as_second = as_first ∙ ap (λ (l : List ℕ). 12 ∷ l) (sym (append_assoc five (32 ∷ []) (five ++ behind_second)))

  abbrev before_time : List ℕ
  before_time = before_second ++ (five ++ (32 ∷ []))

  as_time : text ≡ before_time ++ (digits_of 13 time ++ behind_time)
  as_time =
      as_second
      ∙ ap (λ (l : List ℕ). before_second ++ l) (sym (append_assoc five (32 ∷ []) (digits_of 13 time ++ behind_time)))
      ∙ sym (append_assoc before_second (five ++ (32 ∷ [])) (digits_of 13 time ++ behind_time))

  before_second_long : length before_second ≡ 7
  before_second_long = omega (arith, length-append five (32 ∷ []), digits_long 5 n)

  before_time_long : length before_time ≡ 13
  before_time_long = omega (arith, length-append before_second (five ++ (32 ∷ [])), length-append five (32 ∷ []), digits_long 5 n, before_second_long)

  first_length : (are_digits 5 1 text ≡ true) × (number_at 5 1 text ≡ n)
  first_length =
      let d = digits_there 5 n (12 ∷ []) behind_first 1 refl (omega (arith, small)) in
      (ap (are_digits 5 1) as_first ∙ d.0, ap (number_at 5 1) as_first ∙ d.1)

  second_length : (are_digits 5 7 text ≡ true) × (number_at 5 7 text ≡ n)
  second_length =
      let d = digits_there 5 n before_second behind_second 7 before_second_long (omega (arith, small)) in
      (ap (are_digits 5 7) as_second ∙ d.0, ap (number_at 5 7) as_second ∙ d.1)

  pub time_there : (are_digits 13 13 text ≡ true) × (number_at 13 13 text ≡ time)
  time_there =
      let d = digits_there 13 time before_time behind_time 13 before_time_long early in
      (ap (are_digits 13 13) as_time ∙ d.0, ap (number_at 13 13) as_time ∙ d.1)

  sum_there : (are_digits 10 27 text ≡ true) × (number_at 10 27 text ≡ total)
  sum_there =
      let long : length (12 ∷ head) ≡ 27 = omega (arith, head_long time n) in
      let below : total < 10 ^ 10 = omega (arith, sum_small (sum_from 0 head) p (sum_small 0 head (omega arith))) in
      digits_there 10 total (12 ∷ head) (10 ∷ p) 27 long below

  space_at : (pre post : List ℕ) (byte at : ℕ) → length pre ≡ at → text ≡ pre ++ (byte ∷ post) → slice_index text at ≡ byte
  space_at pre post byte at long is = ap (λ (l : List ℕ). slice_index l at) is ∙ get_or_at pre byte post 0 at long

  first_space : slice_index text 6 ≡ 32
  first_space = space_at (12 ∷ five) (five ++ behind_second) 32 6 (omega (arith, digits_long 5 n)) as_first

  second_space : slice_index text 12 ≡ 32
  second_space =
      space_at (before_second ++ five) (digits_of 13 time ++ behind_time) 32 12 (omega (arith, length-append before_second five, before_second_long, digits_long 5 n))
      (as_second ∙ sym (append_assoc before_second five behind_second))

  third_space : slice_index text 26 ≡ 32
  third_space =
      space_at (before_time ++ digits_of 13 time) tail 32 26 (omega (arith, length-append before_time (digits_of 13 time), before_time_long, digits_long 13 time))
      (as_time ∙ sym (append_assoc before_time (digits_of 13 time) behind_time))

  feed_there : slice_index text 37 ≡ 10
  feed_there =
      space_at ((12 ∷ head) ++ digits_of 10 total) p 10 37 (omega (arith, length-append (12 ∷ head) (digits_of 10 total), head_long time n, digits_long 10 total))
      (sym (append_assoc (12 ∷ head) (digits_of 10 total) (10 ∷ p)))

  pub payload_there : drop 38 text ≡ p
  payload_there =
      let pre = (12 ∷ head) ++ (digits_of 10 total ++ (10 ∷ [])) in
      let is : text ≡ pre ++ p =
      ap (λ (l : List ℕ). (12 ∷ head) ++ l) (sym (append_assoc (digits_of 10 total) (10 ∷ []) p)) ∙ sym (append_assoc (12 ∷ head) (digits_of 10 total ++ (10 ∷ [])) p) in
      ap (drop 38) is ∙ drop_at pre p 38 (omega (arith, length-append (12 ∷ head) (digits_of 10 total ++ (10 ∷ [])), length-append (digits_of 10 total) (10 ∷ []), head_long time n, digits_long 10 total))

  size_there : announced text ≡ 38 + n
  unfolding announced
  size_there = omega (arith, first_length.1)

  sum_is : sum_of (38 + n) text ≡ total
  unfolding sum_of
  sum_is =
      let front : take 26 (drop 1 text) ≡ head = take_at head tail 26 (head_long time n) in
      let back : take (38 + n - 38) (drop 38 text) ≡ p = ap (λ (l : List ℕ). take (38 + n - 38) l) payload_there ∙ take_all_of in
      ap (λ (l : List ℕ). sum_from (sum_from 0 l) (take (38 + n - 38) (drop 38 text))) front ∙ ap (λ (l : List ℕ). sum_from (sum_from 0 head) l) back
    where
      take_all_of : take (38 + n - 38) p ≡ p
      take_all_of = ap (take (38 + n - 38)) (sym (append-nil p)) ∙ take_at p [] (38 + n - 38) (omega arith)

  lengths_there : has_lengths text ≡ true
  unfolding has_lengths
  lengths_there =
      and_from _ _ (and_from _ _ (and_from _ _ (and_from _ _ (and_from _ _ first_length.0 (eq-eqb _ _ first_space)) second_length.0) (eq-eqb _ _ second_space)) (eq-eqb _ _ (first_length.1 ∙ sym second_length.1)))
      (lt-ltb 0 _ (omega (arith, first_length.1, some)))

  has_its_time : has_time text ≡ true
  unfolding has_time
  has_its_time = and_from _ _ time_there.0 (eq-eqb _ _ third_space)

  all_there : NoZero text
  all_there = no_zero_more 12 (head ++ tail) (omega arith) (no_zero_both head tail (head_nonzero time n) (no_zero_both (digits_of 10 total) (10 ∷ p) (digits_nonzero 10 total) (no_zero_more 10 p (omega arith) nonzero)))

  pub framed : IsBatch text
  framed =
      let whole : Whole text = record {
        gate = omega arith;
        lengths = lengths_there;
        time = has_its_time;
        digits = sum_there.0;
        feed = feed_there;
        no_zero = all_nonzero (announced text) text (λ i low. all_there i (omega (arith, low, size_there, text_long)));
        sum = sum_there.1 ∙ sym sum_is ∙ ap (λ (k : ℕ). sum_of k text) (sym size_there);
      } in
      record { some = omega (arith, text_long); whole = size_from text whole ∙ size_there ∙ sym text_long }

-- ---- writing

pub digits_none : (w n : ℕ) (xs : List ℕ) → w ≡ 0 → xs ≡ xs ++ digits_of w n
unfolding digits_of
digits_none zero n xs none = sym (append-nil xs)
digits_none (suc w) n xs none = absurd (omega arith)

pub digits_more : (w n : ℕ) (xs : List ℕ) → w ≢ 0 → (xs ++ digits_of (w - 1) (n / 10)) ++ ((48 + n % 10) ∷ []) ≡ xs ++ digits_of w n
digits_more w n xs some =
    let more : suc (w - 1) ≡ w = omega arith in
    append_assoc xs (digits_of (w - 1) (n / 10)) ((48 + n % 10) ∷ [])
    ∙ ap (λ (l : List ℕ). xs ++ l) (sym (digits_step (w - 1) n))
    ∙ ap (λ (k : ℕ). xs ++ digits_of k n) more

pub framed_text : (time : ℕ) (p : List ℕ) → time < 10 ^ 13 → 0 < length p → length p < 100000 → ((i : ℕ) → i < length p → 0 < slice_index p i) → IsBatch (batch_text time p)
unfolding batch_text
framed_text time p early some small nonzero = framed time p early some small nonzero

-- ---- the beginning

byte_some : (b : ℕ) → not (b == 0) ≡ true → 0 < b
byte_some b h = grind (arith, nat_tests)

line_no_zero : (line : List ℕ) → is_line line ≡ true → NoZero line
line_no_zero [] is = no_zero_nil
line_no_zero (b ∷ bs) is =
    let parts = and_parts (not (b == 10) && not (b == 0)) (is_line bs) is in
    let other = and_parts (not (b == 10)) (not (b == 0)) parts.0 in
    no_zero_more b bs (byte_some b other.1) (line_no_zero bs parts.1)

pub name_long : (state : List ℕ) → length (state_name state) ≡ 24
unfolding state_name
name_long state = omega (arith, length-append (digits_of 13 (length state)) (32 ∷ digits_of 10 (sum_from 0 state)), digits_long 13 (length state), digits_long 10 (sum_from 0 state))

name_no_zero : (state : List ℕ) → NoZero (state_name state)
unfolding state_name
name_no_zero state = no_zero_both (digits_of 13 (length state)) _ (digits_nonzero 13 (length state)) (no_zero_more 32 _ (omega arith) (digits_nonzero 10 (sum_from 0 state)))

feed_no_zero : (line : List ℕ) → NoZero line → NoZero (line_text line)
feed_no_zero line all = no_zero_both line (10 ∷ []) all (no_zero_more 10 [] (omega arith) no_zero_nil)

title_is : is_line title ≡ true
title_is = refl

pub beginning_nonzero : (design state : List ℕ) → is_line design ≡ true → (i : ℕ) → i < length (entry_text (beginning design state)) → 0 < slice_index (entry_text (beginning design state)) i
beginning_nonzero design state line =
    no_zero_both (line_text title) _ (feed_no_zero title (line_no_zero title title_is))
    (no_zero_both (line_text design) _ (feed_no_zero design (line_no_zero design line)) (feed_no_zero (state_name state) (name_no_zero state)))

pub beginning_size : (design state : List ℕ) → length (entry_text (beginning design state)) ≡ length design + 44
beginning_size design state =
    omega (arith, length-append (line_text title) (line_text design ++ line_text (state_name state)), length-append (line_text design) (line_text (state_name state)), length-append design (10 ∷ []), length-append (state_name state) (10 ∷ []), name_long state)
