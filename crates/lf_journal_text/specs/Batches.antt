-- A segment of a journal as bytes: whole batches, and then what is at rest, torn or damaged.
use Rattle.std.specs.Prelude.{◌≡◌, ℕ, zero, suc, ◌+◌, ◌-◌, ◌*◌, ◌/◌, ◌%◌, ◌<◌, ◌≤◌, Bool, true, not, ◌&&◌, ◌==◌, if◌then◌else◌, List, [], ◌∷◌, ◌++◌, length, take, drop, slice_index, nat_le, nat_lt}
use Rattle.lf_journal_text.specs.declared.damage.DamageKind.{DamageKind}
use Rattle.lf_journal_text.specs.declared.damage.DamageKind.TheVariants.{BadGate, BadLength, BadTime, BadSum}

-- ---- numbers of a fixed width

abbrev pub is_digit : ℕ → Bool
is_digit b = nat_le 48 b && nat_lt b 58

-- So many bytes from `at` on are decimal digits.
unfoldable pub are_digits : ℕ → ℕ → List ℕ → Bool
are_digits zero at xs = true
are_digits (suc n) at xs = are_digits n at xs && is_digit (slice_index xs (at + n))

-- The number that they write.
unfoldable pub number_at : ℕ → ℕ → List ℕ → ℕ
number_at zero at xs = 0
number_at (suc n) at xs = number_at n at xs * 10 + (slice_index xs (at + n) - 48)

-- The last `width` decimal digits of the number.
unfoldable pub digits_of : ℕ → ℕ → List ℕ
digits_of zero n = []
digits_of (suc width) n = digits_of width (n / 10) ++ (48 + n % 10) ∷ []

-- ---- sums

-- The bytes as one number to the base 256, behind the number so far, modulo the largest prime below 2 ^ 32.
unfoldable pub sum_from : ℕ → List ℕ → ℕ
sum_from so_far [] = so_far
sum_from so_far (b ∷ bs) = sum_from ((so_far * 256 + b) % 4294967291) bs

-- ---- a batch
-- Byte 0 is its gate. Then: 1 to 5 LENGTH, 6 a space, 7 to 11 LENGTH, 12 a space, 13 to 25 the time, 26 a space,
-- 27 to 36 the sum, 37 a line feed, and LENGTH bytes of records.

-- None of the first n bytes is zero, and there are so many.
unfoldable pub has_no_zero : ℕ → List ℕ → Bool
has_no_zero zero xs = true
has_no_zero (suc n) xs = has_no_zero n xs && nat_lt 0 (slice_index xs n)

-- Both lengths are there, and they are the same.
unfoldable pub has_lengths : List ℕ → Bool
has_lengths xs =
    are_digits 5 1 xs && (slice_index xs 6 == 32) && are_digits 5 7 xs && (slice_index xs 12 == 32)
    && (number_at 5 1 xs == number_at 5 7 xs) && nat_lt 0 (number_at 5 1 xs)

unfoldable pub has_time : List ℕ → Bool
has_time xs = are_digits 13 13 xs && (slice_index xs 26 == 32)

-- The size that the header announces, with the header.
unfoldable pub announced : List ℕ → ℕ
announced xs = 38 + number_at 5 1 xs

-- The sum of a batch of n bytes: of its lengths, its time and its records.
unfoldable pub sum_of : ℕ → List ℕ → ℕ
sum_of n xs = sum_from (sum_from 0 (take 26 (drop 1 xs))) (take (n - 38) (drop 38 xs))

-- None of the bytes that the header announces is zero, and the sum is theirs.
unfoldable pub has_sum : List ℕ → Bool
has_sum xs =
    are_digits 10 27 xs && (slice_index xs 37 == 10) && has_no_zero (announced xs) xs
    && (number_at 10 27 xs == sum_of (announced xs) xs)

-- A whole batch is at the start. Any byte but zero is an open gate: ^L is written, but a disk may tear this write too.
unfoldable pub is_whole : List ℕ → Bool
is_whole xs = nat_lt 0 (slice_index xs 0) && has_lengths xs && has_time xs && has_sum xs

-- The size of the whole batch at the start, or 0.
unfoldable pub batch_size : List ℕ → ℕ
batch_size xs = if is_whole xs then announced xs else 0

-- These bytes are one whole batch.
pub record IsBatch (bytes : List ℕ) : Type 0 where
  pub some : 0 < length bytes
  pub whole : batch_size bytes ≡ length bytes

-- ---- the batches of a segment

-- One batch after the other, at most so many.
unfoldable pub first_batches : ℕ → List ℕ → List (List ℕ)
first_batches zero xs = []
first_batches (suc n) xs = if batch_size xs == 0 then [] else drop 1 (take (batch_size xs) xs) ∷ first_batches n (drop (batch_size xs) xs)

-- What a file stands for: its batches from the start to the first place without a whole one, each without its gate.
unfoldable pub recovered : List ℕ → List (List ℕ)
recovered file = first_batches (length file) file

unfoldable pub first_sizes : ℕ → List ℕ → ℕ
first_sizes zero xs = 0
first_sizes (suc n) xs = if batch_size xs == 0 then 0 else batch_size xs + first_sizes n (drop (batch_size xs) xs)

-- How far its whole batches reach.
unfoldable pub whole_end : List ℕ → ℕ
whole_end file = first_sizes (length file) file

-- The text ends where a batch ends, so what follows is read by itself.
pub record EndsWhole (text : List ℕ) : Type 0 where
  pub goes_on : (rest : List ℕ) → recovered (text ++ rest) ≡ recovered text ++ recovered rest
  pub reaches : (rest : List ℕ) → whole_end (text ++ rest) ≡ length text + whole_end rest

-- Whole batches up to `end`; from there none.
pub record StopsAt (end : ℕ) (file : List ℕ) : Type 0 where
  pub within : end ≤ length file
  pub text : EndsWhole (take end file)
  pub none : batch_size (drop end file) ≡ 0

-- ---- torn and damaged

unfoldable pub are_zeros : List ℕ → Bool
are_zeros [] = true
are_zeros (b ∷ bs) = (b == 0) && are_zeros bs

-- What is no whole batch is one that a crash has torn, or the zeros ahead. If a byte of the header is zero, a torn write
-- and the zeros ahead reach 131,072 bytes at most. Otherwise the header is whole, a byte behind it is zero, and nothing
-- follows the announced bytes.
unfoldable pub is_torn : List ℕ → Bool
is_torn xs =
    if has_no_zero 38 xs
    then has_lengths xs && has_time xs && not (has_no_zero (announced xs) xs) && are_zeros (drop (announced xs) xs)
    else are_zeros (drop 131072 xs)

-- Behind the whole batches nothing is damaged.
unfoldable pub is_intact : List ℕ → Bool
is_intact file = is_torn (drop (whole_end file) file)

-- What is wrong first where no whole batch is.
unfoldable pub damage_kind : List ℕ → DamageKind
damage_kind xs =
    if slice_index xs 0 == 0 then BadGate
    else if not (has_lengths xs) then BadLength
    else if not (has_time xs) then BadTime
    else BadSum
