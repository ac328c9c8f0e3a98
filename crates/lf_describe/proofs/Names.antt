-- Names that are UTF-8, and names that are not.
use Rattle.std.proofs.Common.{◌≡◌, ℕ, zero, suc, ◌<◌, Bool, true, false, List, [], ◌∷◌, ap, arith, refl}
use Rattle.std.specs.Prelude.{All, if◌then◌else◌}
use Rattle.std.specs.Str.{IsAscii, IsUtf8, is_utf8}
use Rattle.std.proofs.lemmas.Str.{IsUtf8-from_ascii, IsUtf8-from_is_utf8, is_utf8-from_IsUtf8}
use Rattle.std.proofs.lemmas.List.Elements.{All-head, All-tail}
use Rattle.serde_json.specs.Data.{null, string}
use Rattle.lf_floorplan.specs.Bounds.{IsPrinted}
use Rattle.lf_orient.specs.declared.Orient.{Orient}
use Rattle.lf_orient.specs.declared.Orient.TheVariants.{N, W, S, E, FN, FW, FS, FE}
use Rattle.lf_orient.specs.Words.{orient_word}
use Rattle.lf_describe.specs.Description.{text_data, orient_data}

-- A name that is UTF-8 is written.
pub reported : (name : List ℕ) → IsUtf8 name → text_data name ≡ string name
reported name is = ap (λ (b : Bool). if b then string name else null) (is_utf8-from_IsUtf8 name is)

-- Any other name is null.
pub not_utf8_is_null : (name : List ℕ) → (IsUtf8 name → ⊥) → text_data name ≡ null
not_utf8_is_null name is_not = by (is_utf8 name) refl
  where
    by : (b : Bool) → is_utf8 name ≡ b → (if is_utf8 name then string name else null) ≡ null
    by true holds = absurd (is_not (IsUtf8-from_is_utf8 name holds))
    by false fails = ap (λ (b : Bool). if b then string name else null) fails

-- Visible bytes are ASCII.
pub ascii : (bytes : List ℕ) → All IsPrinted bytes → IsAscii bytes
ascii [] all i = omega arith
ascii (b ∷ bytes) all zero = let is : IsPrinted b = All-head IsPrinted b bytes all in omega (arith, is.most)
ascii (b ∷ bytes) all (suc i) = ascii bytes (All-tail IsPrinted b bytes all) i

one : (a : ℕ) → a < 128 → IsAscii (a ∷ [])
one a less zero = less
one a less (suc i) = omega arith

two : (a b : ℕ) → a < 128 → b < 128 → IsAscii (a ∷ b ∷ [])
two a b less more zero = less
two a b less more (suc zero) = more
two a b less more (suc (suc i)) = omega arith

word : (o : Orient) → IsAscii (orient_word o)
word N = one 78 (omega arith)
word W = one 87 (omega arith)
word S = one 83 (omega arith)
word E = one 69 (omega arith)
word FN = two 70 78 (omega arith) (omega arith)
word FW = two 70 87 (omega arith) (omega arith)
word FS = two 70 83 (omega arith) (omega arith)
word FE = two 70 69 (omega arith) (omega arith)

-- The word of an orientation is written.
pub reported_word : (o : Orient) → text_data (orient_word o) ≡ orient_data o
reported_word o = reported (orient_word o) (IsUtf8-from_ascii (orient_word o) (word o))
