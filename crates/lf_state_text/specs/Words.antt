-- The words of a state text.
use Rattle.std.specs.Prelude.{◌≡◌, ℕ, ◌+◌, ◌==◌, ◌^◌, cond, List, ◌∷◌, ◌++◌, length, take, drop, Option, Some, None, option_map, position, codes}
use Rattle.std.specs.Fmt.{decimal, signed_decimal}
use Rattle.std.specs.Str.{bytes_eq}
use Rattle.lf_orient.specs.Words.{orient_word}
use Rattle.lf_floorplan.specs.declared.place.Place.{Place}
use Rattle.lf_proto.specs.Numbers.{◌>>=◌, below, digits}
use Rattle.lf_proto.specs.Requests.{place_written}

-- the bytes in front of and after the first byte of this value
unfoldable pub cut : ℕ → List ℕ → Option (List ℕ × List ℕ)
cut byte bytes = option_map (λ at. (take at bytes, drop (at + 1) bytes)) (position (λ b. b == byte) bytes)

-- the bytes after the expected ones, if those come first
unfoldable pub bytes_after : List ℕ → List ℕ → Option (List ℕ)
bytes_after due bytes = cond (bytes_eq (take (length due) bytes) due) (Some (drop (length due) bytes)) None

-- a number below 2^32, in 1 to 10 digits
abbrev pub number : List ℕ → Option ℕ
number word = do
  n ← digits word
  below (2 ^ 32) n

-- X,Y,O in database units
unfoldable pub place_in_word : List ℕ → Option Place
place_in_word word = do
  x ← cut 44 word
  y ← cut 44 x.1
  place_written x.0 y.0 y.1

-- a place, or - for no place
unfoldable pub place_or_dash : List ℕ → Option (Option Place)
place_or_dash word = cond (bytes_eq word (codes "-")) (Some None) (option_map (λ p. Some p) (place_in_word word))

-- the revision that a session has seen, or - for a free slot
unfoldable pub slot_on : List ℕ → Option (Option ℕ)
slot_on word = cond (bytes_eq word (codes "-")) (Some None) (option_map (λ n. Some n) (number word))

-- a leading word with this value, the byte that ends it, and the bytes after that
pub record Begins {A : Type 0} (says : List ℕ → Option A) (byte : ℕ) (bytes : List ℕ) (value : A)
    (rest : List ℕ) : Type 0 where
  pub word : List ℕ
  pub is : bytes ≡ word ++ (byte ∷ rest)
  pub said : says word ≡ Some value

-- ---- words as they are written

abbrev pub place_text : Option Place → List ℕ
place_text None = codes "-"
place_text (Some p) = signed_decimal p.x ++ (44 ∷ (signed_decimal p.y ++ (44 ∷ orient_word p.orient)))

abbrev pub slot_text : Option ℕ → List ℕ
slot_text None = codes "-"
slot_text (Some seen) = decimal seen
