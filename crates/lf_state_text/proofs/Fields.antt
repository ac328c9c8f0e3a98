-- A word that was written is read back, whatever bytes follow.
use Rattle.std.proofs.Common.{◌≡◌, ℕ, suc, ◌+◌, ◌<◌, ◌≤◌, ◌^◌, Bool, true, false, not, ◌==◌, nat_lt, List, [], ◌∷◌, ◌++◌, length, drop, Option, None, Some, Ok, refl, subst, ◌∙◌, arith, ℤ, pos, negsuc, ◌<ℤ◌}
use Rattle.std.proofs.lemmas.Bool.Decides.{nat_tests}
use Rattle.std.proofs.lemmas.Bool.{and_parts, le-leb, lt-ltb}
use Rattle.std.proofs.lemmas.Int.{ints}
use Rattle.std.proofs.lemmas.List.{take_at, length-append}
use Rattle.std.proofs.lemmas.List.Folds.{list_all-append}
use Rattle.std.proofs.lemmas.Slice.Eq.{bytes_eq-Decides}
use Rattle.std.specs.Char.{is_ascii_digit}
use Rattle.std.specs.Fmt.{decimal, signed_decimal}
use Rattle.std.specs.List.{list_all, position_or_len}
use Rattle.std.specs.Prelude.{IfSome, codes, take}
use Rattle.std.specs.Str.{bytes_eq}
use Rattle.lf_orient.specs.declared.Orient.{Orient}
use Rattle.lf_orient.specs.declared.Orient.TheVariants.{N, W, S, E, FN, FW, FS, FE}
use Rattle.lf_orient.specs.Words.{orient_word}
use Rattle.lf_floorplan.specs.declared.place.Place.{Place}
use Rattle.std.proofs.Math.Seq.{take-append_seam}
use Rattle.lf_proto.specs.Numbers.{below}
use Rattle.lf_proto.proofs.Places.{place_written-some}
use Rattle.lf_proto.proofs.Printing.{below-less, coordinate-signed_decimal, decimal_digits, digits-decimal, orient_named-text}
use Rattle.lf_state_text.specs.declared.fault.StateFaultNumber.{StateFaultNumber}
use Rattle.lf_state_text.specs.Words.{bytes_after, number, cut, place_in_word, place_or_dash, slot_on, place_text, slot_text}
use Rattle.lf_state_text.specs.Saved.{IsSpot}
use Rattle.lf_state_text.specs.Reading.{is_seen_by, word_at, due_at, number_at, below_at, count_at, read_spot, slot_at}

-- no byte is this one
abbrev pub lacks : ℕ → List ℕ → Bool
lacks byte = list_all (λ b. not (b == byte))

-- ---- cutting

first_is : (byte : ℕ) (w rest : List ℕ) → lacks byte w ≡ true → position_or_len (λ b. b == byte) (w ++ (byte ∷ rest)) ≡ length w
first_is byte [] rest without = grind (arith, nat_tests)
first_is byte (b ∷ w) rest without =
    let parts = and_parts (not (b == byte)) (lacks byte w) without in
    let tail = first_is byte w rest parts.1 in
    grind (arith, parts.0, tail)

pub cut-word : (byte : ℕ) (w rest : List ℕ) → lacks byte w ≡ true → cut byte (w ++ (byte ∷ rest)) ≡ Some (w, rest)
unfolding cut
cut-word byte w rest without =
    let at = first_is byte w rest without in
    let less : nat_lt (length w) (length (w ++ (byte ∷ rest))) ≡ true = lt-ltb _ _ (omega (arith, length-append w (byte ∷ rest))) in
    let bytes_after : drop (length w + 1) (w ++ (byte ∷ rest)) ≡ rest = drop_past w byte rest in
    rw (at, less, take_at w (byte ∷ rest) (length w) refl, bytes_after) refl
  where
    drop_past : (w : List ℕ) (byte : ℕ) (rest : List ℕ) → drop (length w + 1) (w ++ (byte ∷ rest)) ≡ rest
    drop_past [] byte rest = refl
    drop_past (b ∷ w) byte rest = let more : suc (length w) + 1 ≡ suc (length w + 1) = omega arith in rw more (drop_past w byte rest)

pub drop_front : (w rest : List ℕ) → drop (length w) (w ++ rest) ≡ rest
drop_front [] rest = refl
drop_front (b ∷ w) rest = drop_front w rest

-- the expected bytes come first
pub after_it-front : (due rest : List ℕ) → bytes_after due (due ++ rest) ≡ Some rest
unfolding bytes_after
after_it-front due rest =
    let same : bytes_eq (take (length due) (due ++ rest)) due ≡ true = (bytes_eq-Decides (take (length due) (due ++ rest)) due).1 (take-append_seam due rest) in
    rw (same, drop_front due rest) refl

-- ---- numbers

pub number-decimal : (n : ℕ) → n < 2 ^ 32 → number (decimal n) ≡ Some n
number-decimal n small = rw (digits-decimal n (omega arith)) (below-less (2 ^ 32) n small)

-- ---- bytes that words lack

pub lacks-weaker : (p : ℕ → Bool) (byte : ℕ) → ((b : ℕ) → p b ≡ true → (b == byte) ≡ false) → (text : List ℕ) → list_all p text ≡ true → lacks byte text ≡ true
lacks-weaker p byte weaker [] all = refl
lacks-weaker p byte weaker (b ∷ text) all =
    let parts = and_parts (p b) (list_all p text) all in
    rw (weaker b parts.0) (lacks-weaker p byte weaker text parts.1)

-- a byte that no number has: it is neither a digit nor a minus
pub record IsMark (byte : ℕ) : Type 0 where
  pub below : byte < 48
  pub other : (45 == byte) ≡ false

pub digit-no_mark : (byte : ℕ) → byte < 48 → (b : ℕ) → is_ascii_digit b ≡ true → (b == byte) ≡ false
digit-no_mark byte low b digit = grind (arith, nat_tests)

pub decimal-lacks : (byte n : ℕ) → byte < 48 → n < 10 ^ 10 → lacks byte (decimal n) ≡ true
decimal-lacks byte n low small = lacks-weaker is_ascii_digit byte (digit-no_mark byte low) (decimal n) (decimal_digits n small)

signed-lacks : (byte : ℕ) (z : ℤ) → IsMark byte → negsuc 2147483647 <ℤ z → z <ℤ pos (2 ^ 31) → lacks byte (signed_decimal z) ≡ true
signed-lacks byte (pos n) mark low high = let small : n < 2 ^ 31 = omega (arith, ints) in decimal-lacks byte n mark.below (omega arith)
signed-lacks byte (negsuc n) mark low high =
    let small : suc n < 2 ^ 31 = omega (arith, ints) in
    rw (mark.other) (decimal-lacks byte (suc n) mark.below (omega arith))

orient-lacks : (byte : ℕ) (o : Orient) → byte < 48 → lacks byte (orient_word o) ≡ true
orient-lacks byte N low = grind (arith, nat_tests)
orient-lacks byte W low = grind (arith, nat_tests)
orient-lacks byte S low = grind (arith, nat_tests)
orient-lacks byte E low = grind (arith, nat_tests)
orient-lacks byte FN low = grind (arith, nat_tests)
orient-lacks byte FW low = grind (arith, nat_tests)
orient-lacks byte FS low = grind (arith, nat_tests)
orient-lacks byte FE low = grind (arith, nat_tests)

pub lacks-both : (byte comma : ℕ) (a b : List ℕ) → (comma == byte) ≡ false → lacks byte a ≡ true → lacks byte b ≡ true → lacks byte (a ++ (comma ∷ b)) ≡ true
lacks-both byte comma a b other in_a in_b = list_all-append (λ x. not (x == byte)) a (comma ∷ b) ∙ rw (in_a, other, in_b) refl

-- ---- places

mark32 : IsMark 32
mark32 = record { below = omega arith; other = refl }

mark10 : IsMark 10
mark10 = record { below = omega arith; other = refl }

pub mark44 : IsMark 44
mark44 = record { below = omega arith; other = refl }

place_in-text : (p : Place) → IsSpot p → place_in_word (place_text (Some p)) ≡ Some p
unfolding place_in_word
place_in-text p spot =
    let y_text = signed_decimal p.y ++ (44 ∷ orient_word p.orient) in
    rw (cut-word 44 (signed_decimal p.x) y_text (signed-lacks 44 p.x mark44 p.x_in_def spot.0), cut-word 44 (signed_decimal p.y) (orient_word p.orient) (signed-lacks 44 p.y mark44 p.y_in_def spot.1))
    (place_written-some (signed_decimal p.x) (signed_decimal p.y) (orient_word p.orient) p
    (coordinate-signed_decimal p.x p.x_in_def spot.0)
    (coordinate-signed_decimal p.y p.y_in_def spot.1)
    (orient_named-text p.orient))

-- a place's text is not a minus alone, since that has no comma
pub no_dash : (w : List ℕ) (p : Place) → place_in_word w ≡ Some p → bytes_eq w (codes "-") ≡ false
unfolding place_in_word cut
no_dash w p is = cases_dash (bytes_eq w (codes "-")) refl
  where
    cases_dash : (b : Bool) → bytes_eq w (codes "-") ≡ b → b ≡ false
    cases_dash false e = refl
    cases_dash true e =
        let same : w ≡ codes "-" = (bytes_eq-Decides w (codes "-")).0 e in
        let none : place_in_word (codes "-") ≡ Some p = subst (λ (v : List ℕ). place_in_word v ≡ Some p) same is in
        absurd cc

pub place_on-text : (o : Option Place) → IfSome o IsSpot → place_or_dash (place_text o) ≡ Some o
unfolding place_or_dash
place_on-text None fits = refl
place_on-text (Some p) fits = rw (no_dash (place_text (Some p)) p (place_in-text p fits), place_in-text p fits) refl

no_number_dash : (w : List ℕ) (n : ℕ) → number w ≡ Some n → bytes_eq w (codes "-") ≡ false
no_number_dash w n is = cases_dash (bytes_eq w (codes "-")) refl
  where
    cases_dash : (b : Bool) → bytes_eq w (codes "-") ≡ b → b ≡ false
    cases_dash false e = refl
    cases_dash true e =
        let same : w ≡ codes "-" = (bytes_eq-Decides w (codes "-")).0 e in
        let none : number (codes "-") ≡ Some n = subst (λ (v : List ℕ). number v ≡ Some n) same is in
        absurd cc

pub slot_on-text : (o : Option ℕ) → IfSome o (λ n. n < 2 ^ 32) → slot_on (slot_text o) ≡ Some o
unfolding slot_on
slot_on-text None fits = refl
slot_on-text (Some n) fits = rw (no_number_dash (decimal n) n (number-decimal n fits), number-decimal n fits) refl

place-lacks : (byte : ℕ) (o : Option Place) → IsMark byte → (44 == byte) ≡ false → IfSome o IsSpot → lacks byte (place_text o) ≡ true
place-lacks byte None mark comma fits = rw (mark.other) refl
place-lacks byte (Some p) mark comma fits =
    lacks-both byte 44 (signed_decimal p.x) (signed_decimal p.y ++ (44 ∷ orient_word p.orient)) comma (signed-lacks byte p.x mark p.x_in_def fits.0)
    (lacks-both byte 44 (signed_decimal p.y) (orient_word p.orient) comma (signed-lacks byte p.y mark p.y_in_def fits.1) (orient-lacks byte p.orient mark.below))

slot-lacks : (o : Option ℕ) → IfSome o (λ n. n < 2 ^ 32) → lacks 10 (slot_text o) ≡ true
slot-lacks None fits = refl
slot-lacks (Some n) fits = decimal-lacks 10 n (omega arith) (omega arith)

-- ---- words at their positions

pub due-again : (n : StateFaultNumber) (due rest : List ℕ) → due_at n due (due ++ rest) ≡ Ok rest
unfolding due_at
due-again n due rest = rw (after_it-front due rest) refl

pub number-again : (byte n : ℕ) (rest : List ℕ) → byte < 48 → n < 2 ^ 32 → number_at byte (decimal n ++ (byte ∷ rest)) ≡ Ok (n, rest)
unfolding number_at word_at
number-again byte n rest low small = rw (cut-word byte (decimal n) rest (decimal-lacks byte n low (omega arith)), number-decimal n small) refl

pub below-again : (limit byte n : ℕ) (rest : List ℕ) → byte < 48 → n < 2 ^ 32 → n < limit → below_at limit byte (decimal n ++ (byte ∷ rest)) ≡ Ok (n, rest)
unfolding below_at
below-again limit byte n rest low small within = rw (number-again byte n rest low small, lt-ltb n limit within) refl

same_number : (n m : ℕ) → n ≡ m → (n == m) ≡ true
same_number n m is = grind (arith, nat_tests)

pub count-again : (count byte n : ℕ) (rest : List ℕ) → byte < 48 → n < 2 ^ 32 → n ≡ count → count_at count byte (decimal n ++ (byte ∷ rest)) ≡ Ok rest
unfolding count_at
count-again count byte n rest low small is = rw (number-again byte n rest low small, same_number n count is) refl

pub spot-again : (byte : ℕ) (o : Option Place) (rest : List ℕ) → IsMark byte → (44 == byte) ≡ false → IfSome o IsSpot → read_spot byte (place_text o ++ (byte ∷ rest)) ≡ Ok (o, rest)
unfolding read_spot word_at
spot-again byte o rest mark comma fits = rw (cut-word byte (place_text o) rest (place-lacks byte o mark comma fits), place_on-text o fits) refl

pub spot-in : (o : Option Place) (rest : List ℕ) → IfSome o IsSpot → read_spot 32 (place_text o ++ (32 ∷ rest)) ≡ Ok (o, rest)
spot-in o rest fits = spot-again 32 o rest mark32 refl fits

pub spot-last : (o : Option Place) (rest : List ℕ) → IfSome o IsSpot → read_spot 10 (place_text o ++ (10 ∷ rest)) ≡ Ok (o, rest)
spot-last o rest fits = spot-again 10 o rest mark10 refl fits

-- a slot whose session has seen no revision above the team's
pub seen-within : (revision : ℕ) (o : Option ℕ) → IfSome o (λ seen. seen ≤ revision) → is_seen_by revision o ≡ true
seen-within revision None within = refl
seen-within revision (Some seen) within = le-leb seen revision within

slot-small : (revision : ℕ) (o : Option ℕ) → revision < 2 ^ 32 → IfSome o (λ seen. seen ≤ revision) → IfSome o (λ n. n < 2 ^ 32)
slot-small revision None small within = tt
slot-small revision (Some seen) small within = let less : seen ≤ revision = within in let fact : seen < 2 ^ 32 = omega arith in fact

pub slot-again : (revision : ℕ) (o : Option ℕ) (rest : List ℕ) → revision < 2 ^ 32 → IfSome o (λ seen. seen ≤ revision) → slot_at revision (slot_text o ++ (10 ∷ rest)) ≡ Ok (o, rest)
unfolding slot_at word_at
slot-again revision o rest small within =
    let fits = slot-small revision o small within in
    rw (cut-word 10 (slot_text o) rest (slot-lacks o fits), slot_on-text o fits, seen-within revision o within) refl
