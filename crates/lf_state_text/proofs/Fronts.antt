-- Words that are read at the front, whatever bytes follow.
use Rattle.std.proofs.Common.{◌≡◌, ℕ, zero, suc, ◌+◌, ◌-◌, ◌*◌, ◌<◌, ◌≤◌, ◌^◌, Bool, true, false, ◌==◌, cond, List, [], ◌∷◌, ◌++◌, length, get_or, take, drop, Option, None, Some, Ok, refl, sym, ap, subst, ◌∙◌, append_assoc, arith, ℤ, pos, neg_ℤ}
use Rattle.std.proofs.lemmas.Bool.Decides.{nat_tests}
use Rattle.std.proofs.lemmas.Bool.{le-leb, lt-ltb}
use Rattle.std.proofs.lemmas.Grind.{common_steps}
use Rattle.std.proofs.lemmas.List.{length-append, length-take}
use Rattle.std.proofs.lemmas.List.Folds.{list_all_more}
use Rattle.std.proofs.lemmas.Str.{digit_value_digit}
use Rattle.std.proofs.lemmas.Int.Digits.{digits_value_more}
use Rattle.std.proofs.lemmas.Slice.Eq.{bytes_eq-Decides}
use Rattle.std.specs.Char.{is_ascii_digit}
use Rattle.std.specs.Int.{IsInRange}
use Rattle.std.specs.List.{list_all}
use Rattle.std.specs.Prelude.{slice_index, codes}
use Rattle.std.specs.Str.{bytes_eq}
use Rattle.std.specs.Str.Parse.{digits_value}
use Rattle.lf_orient.specs.declared.Orient.{Orient}
use Rattle.lf_orient.specs.declared.Orient.TheVariants.{N, W, S, E, FN, FW, FS, FE}
use Rattle.lf_floorplan.specs.declared.place.Place.{Place}
use Rattle.lf_proto.specs.Numbers.{digits, negative, positive, coordinate}
use Rattle.lf_proto.specs.Requests.{orient_named}
use Rattle.lf_proto.proofs.Digits.{Digits, short_value}
use Rattle.lf_proto.proofs.Places.{place_written-some}
use Rattle.lf_proto.proofs.Printing.{below-less}
use Rattle.lf_state_text.specs.Words.{Begins, place_in_word, place_or_dash}
use Rattle.lf_state_text.specs.Reading.{number_at, read_spot, word_at}
use Rattle.lf_state_text.proofs.Fields.{lacks, lacks-weaker, lacks-both, digit-no_mark, no_dash, cut-word, drop_front, IsMark, mark44}

-- ---- a word up to a byte

pub begins-at : (bytes : List ℕ) (byte len : ℕ) → len < length bytes → slice_index bytes len ≡ byte → bytes ≡ take len bytes ++ (byte ∷ drop (len + 1) bytes)
begins-at [] byte len within found = absurd (omega arith)
begins-at (b ∷ bytes) byte zero within found = ap (λ (x : ℕ). x ∷ bytes) found
begins-at (b ∷ bytes) byte (suc len) within found =
    let more : suc len + 1 ≡ suc (len + 1) = omega arith in
    rw more (ap (λ (t : List ℕ). b ∷ t) (begins-at bytes byte len (omega arith) found))

-- ---- digits

pub digits-some : (w : List ℕ) (n : ℕ) → list_all is_ascii_digit w ≡ true → 0 < length w → length w ≤ 10 → n ≡ digits_value 10 w → digits w ≡ Some n
digits-some w n all some few is = rw (all, lt-ltb 0 (length w) some, le-leb (length w) 10 few) (ap Some (sym is))

digits-are : (w : List ℕ) (n : ℕ) → digits w ≡ Some n → Digits w
digits-are w n is = cases_all (list_all is_ascii_digit w) refl
  where
    cases_all : (b : Bool) → list_all is_ascii_digit w ≡ b → b ≡ true
    cases_all true e = refl
    cases_all false e = let none : None ≡ Some n = rw e at is in absurd cc

pub negative-some : (w : List ℕ) (n : ℕ) → digits w ≡ Some n → n < 2 ^ 31 → coordinate (45 ∷ w) ≡ Some (neg_ℤ (pos n))
negative-some w n is small = rw (is, below-less (2 ^ 31) n small) refl

-- ---- bytes that such words lack

positive-digits : (w : List ℕ) (z : ℤ) → positive w ≡ Some z → Digits w
positive-digits w z is = cases_read (digits w) refl
  where
    cases_read : (o : Option ℕ) → digits w ≡ o → Digits w
    cases_read (Some n) e = digits-are w n e
    cases_read None e = let none : None ≡ Some z = rw e at is in absurd cc

negative-digits : (w : List ℕ) (z : ℤ) → negative w ≡ Some z → Digits w
negative-digits w z is = cases_read (digits w) refl
  where
    cases_read : (o : Option ℕ) → digits w ≡ o → Digits w
    cases_read (Some n) e = digits-are w n e
    cases_read None e = let none : None ≡ Some z = rw e at is in absurd cc

digits-lack : (byte : ℕ) (w : List ℕ) → IsMark byte → Digits w → lacks byte w ≡ true
digits-lack byte w mark all = lacks-weaker is_ascii_digit byte (digit-no_mark byte mark.below) w all

pub coordinate-lacks : (byte : ℕ) (w : List ℕ) (z : ℤ) → IsMark byte → coordinate w ≡ Some z → lacks byte w ≡ true
coordinate-lacks byte [] z mark is = refl
coordinate-lacks byte (b ∷ w) z mark is = cases_sign (b == 45) refl
  where
    cases_sign : (t : Bool) → (b == 45) ≡ t → lacks byte (b ∷ w) ≡ true
    cases_sign true e =
        let minus : b ≡ 45 = grind (arith, nat_tests) in
        let other : (b == byte) ≡ false = rw minus mark.other in
        let read : negative w ≡ Some z = rw e at is in
        rw (other) (digits-lack byte w mark (negative-digits w z read))
    cases_sign false e =
        let read : positive (b ∷ w) ≡ Some z = rw e at is in
        digits-lack byte (b ∷ w) mark (positive-digits (b ∷ w) z read)

name-lacks : (byte : ℕ) (w name : List ℕ) (x : Orient) (more : Option Orient) (o : Orient) → lacks byte name ≡ true → (more ≡ Some o → lacks byte w ≡ true)
    → cond (bytes_eq w name) (Some x) more ≡ Some o → lacks byte w ≡ true
name-lacks byte w name x more o without on is = cases_same (bytes_eq w name) refl
  where
    cases_same : (b : Bool) → bytes_eq w name ≡ b → lacks byte w ≡ true
    cases_same true e = rw ((bytes_eq-Decides w name).0 e) without
    cases_same false e = on (rw e at is)

letters-lack : (byte a : ℕ) → IsMark byte → 48 ≤ a → lacks byte (a ∷ []) ≡ true
letters-lack byte a mark high = let low = mark.below in grind (arith, nat_tests)

pair-lacks : (byte a b : ℕ) → IsMark byte → 48 ≤ a → 48 ≤ b → lacks byte (a ∷ b ∷ []) ≡ true
pair-lacks byte a b mark high other = let low = mark.below in grind (arith, nat_tests)

pub orient-lacks : (byte : ℕ) (w : List ℕ) (o : Orient) → IsMark byte → orient_named w ≡ Some o → lacks byte w ≡ true
orient-lacks byte w o mark =
    name-lacks byte w (codes "N") N _ o (letters-lack byte 78 mark (omega arith))
    (name-lacks byte w (codes "W") W _ o (letters-lack byte 87 mark (omega arith))
    (name-lacks byte w (codes "S") S _ o (letters-lack byte 83 mark (omega arith))
    (name-lacks byte w (codes "E") E _ o (letters-lack byte 69 mark (omega arith))
    (name-lacks byte w (codes "FN") FN _ o (pair-lacks byte 70 78 mark (omega arith) (omega arith))
    (name-lacks byte w (codes "FW") FW _ o (pair-lacks byte 70 87 mark (omega arith) (omega arith))
    (name-lacks byte w (codes "FS") FS _ o (pair-lacks byte 70 83 mark (omega arith) (omega arith))
    (name-lacks byte w (codes "FE") FE _ o (pair-lacks byte 70 69 mark (omega arith) (omega arith))
    (λ none. absurd cc))))))))

-- ---- a place in front

mark-low : (byte : ℕ) → byte ≤ 32 → IsMark byte
mark-low byte low = record { below = omega arith; other = grind (arith, nat_tests) }

comma-low : (byte : ℕ) → byte ≤ 32 → (44 == byte) ≡ false
comma-low byte low = grind (arith, nat_tests)

-- the bytes after a prefix are the rest when it is dropped
drop_to : (w d : List ℕ) → drop (length (w ++ d) - length d) (w ++ d) ≡ d
drop_to w d = let many : length (w ++ d) - length d ≡ length w = omega (arith, length-append w d) in rw many (drop_front w d)

-- the bytes of three words in front
apart : (byte : ℕ) (bytes rest_x rest_y rest : List ℕ) (x y : ℤ) (o : Orient) (in_x : Begins coordinate 44 bytes x rest_x) (in_y : Begins coordinate 44 rest_x y rest_y) (in_o : Begins orient_named byte rest_y o rest)
    → bytes ≡ in_x.word ++ (44 ∷ (in_y.word ++ (44 ∷ (in_o.word ++ (byte ∷ rest)))))
apart byte bytes rest_x rest_y rest x y o in_x in_y in_o =
    in_x.is ∙ ap (λ (t : List ℕ). in_x.word ++ (44 ∷ t)) (in_y.is ∙ ap (λ (t : List ℕ). in_y.word ++ (44 ∷ t)) in_o.is)

-- the bytes after them are the rest when they are dropped
pub rest-in_front : (byte : ℕ) (bytes rest_x rest_y rest : List ℕ) (x y : ℤ) (o : Orient) → Begins coordinate 44 bytes x rest_x → Begins coordinate 44 rest_x y rest_y → Begins orient_named byte rest_y o rest
    → drop (length bytes - length rest) bytes ≡ rest
rest-in_front byte bytes rest_x rest_y rest x y o in_x in_y in_o =
    let taken = in_x.word ++ (44 ∷ (in_y.word ++ (44 ∷ (in_o.word ++ (byte ∷ []))))) in
    let is : bytes ≡ taken ++ rest = apart byte bytes rest_x rest_y rest x y o in_x in_y in_o ∙ regroup in_x.word in_y.word in_o.word rest in
    subst (λ (t : List ℕ). drop (length t - length rest) t ≡ rest) (sym is) (drop_to taken rest)
  where
    regroup : (a b c d : List ℕ) → a ++ (44 ∷ (b ++ (44 ∷ (c ++ (byte ∷ d))))) ≡ (a ++ (44 ∷ (b ++ (44 ∷ (c ++ (byte ∷ [])))))) ++ d
    regroup a b c d = simp append_assoc

pub spot-in_front : (byte : ℕ) (bytes rest_x rest_y rest later : List ℕ) (p : Place) → byte ≤ 32
    → Begins coordinate 44 bytes p.x rest_x → Begins coordinate 44 rest_x p.y rest_y → Begins orient_named byte rest_y p.orient rest
    → read_spot byte (bytes ++ later) ≡ Ok (Some p, rest ++ later)
unfolding read_spot word_at place_in_word place_or_dash
spot-in_front byte bytes rest_x rest_y rest later p low x y orient =
    let mark = mark-low byte low in
    let after_x = y.word ++ (44 ∷ orient.word) in
    let word = x.word ++ (44 ∷ after_x) in
    let without : lacks byte word ≡ true =
    lacks-both byte 44 x.word after_x (comma-low byte low) (coordinate-lacks byte x.word p.x mark x.said)
    (lacks-both byte 44 y.word orient.word (comma-low byte low) (coordinate-lacks byte y.word p.y mark y.said) (orient-lacks byte orient.word p.orient mark orient.said)) in
    let placed : place_in_word word ≡ Some p =
    rw (cut-word 44 x.word after_x (coordinate-lacks 44 x.word p.x mark44 x.said), cut-word 44 y.word orient.word (coordinate-lacks 44 y.word p.y mark44 y.said))
    (place_written-some x.word y.word orient.word p x.said y.said orient.said) in
    let together : bytes ++ later ≡ word ++ (byte ∷ (rest ++ later)) =
    ap (λ (t : List ℕ). t ++ later) (apart byte bytes rest_x rest_y rest p.x p.y p.orient x y orient) ∙ regroup x.word y.word orient.word (byte ∷ rest) later in
    ap (read_spot byte) together
    ∙ rw (cut-word byte word (rest ++ later) without, no_dash word p placed, placed) refl
  where
    regroup : (a b c d e : List ℕ) → (a ++ (44 ∷ (b ++ (44 ∷ (c ++ d))))) ++ e ≡ (a ++ (44 ∷ (b ++ (44 ∷ c)))) ++ (d ++ e)
    regroup a b c d e = simp append_assoc

-- ---- one more digit

pub digits-more : (bytes : List ℕ) (len : ℕ) → Digits (take len bytes) → len < length bytes → is_ascii_digit (get_or bytes len 0) ≡ true → Digits (take (len + 1) bytes)
digits-more bytes len all within digit = rw (list_all_more is_ascii_digit bytes len 0 within, all, digit) refl

pub digit-range : (c : ℕ) → is_ascii_digit c ≡ true → IsInRange 48 57 c
digit-range c digit = grind (arith, common_steps)

pub value-more : (bytes : List ℕ) (len : ℕ) → len < length bytes → is_ascii_digit (get_or bytes len 0) ≡ true
    → digits_value 10 (take len bytes) * 10 + (get_or bytes len 0 - 48) ≡ digits_value 10 (take (len + 1) bytes)
value-more bytes len within digit =
    let range : IsInRange 48 57 (get_or bytes len 0) = digit-range (get_or bytes len 0) digit in
    omega (arith, digits_value_more 10 bytes len within, digit_value_digit (get_or bytes len 0) range)

pub few-value : (bytes : List ℕ) (len : ℕ) → Digits (take len bytes) → len ≤ 10 → digits_value 10 (take len bytes) < 10 ^ 10
few-value bytes len all few = short_value (take len bytes) all (omega (arith, length-take len bytes))

-- ---- a coordinate in front

pub begins-negative : (bytes minus rest : List ℕ) (z : ℤ) (n : ℕ) → bytes ≡ 45 ∷ minus → Begins digits 44 minus n rest → n < 2 ^ 31 → z ≡ neg_ℤ (pos n) → Begins coordinate 44 bytes z rest
begins-negative bytes minus rest z n signed front small is = record {
  word = 45 ∷ front.word;
  is = signed ∙ ap (λ (t : List ℕ). 45 ∷ t) front.is;
  said = rw is (negative-some front.word n front.said small);
}

-- ---- a number in front

pub rest-number : (byte n : ℕ) (bytes rest : List ℕ) → Begins digits byte bytes n rest → drop (length bytes - length rest) bytes ≡ rest
rest-number byte n bytes rest front = subst (λ (t : List ℕ). drop (length t - length rest) t ≡ rest) (sym is) (drop_to (front.word ++ (byte ∷ [])) rest)
  where
    is : bytes ≡ (front.word ++ (byte ∷ [])) ++ rest
    is = front.is ∙ sym (append_assoc front.word (byte ∷ []) rest)

pub number-in_front : (byte n : ℕ) (bytes rest later : List ℕ) → byte < 48 → n < 2 ^ 32 → Begins digits byte bytes n rest → number_at byte (bytes ++ later) ≡ Ok (n, rest ++ later)
unfolding number_at word_at
number-in_front byte n bytes rest later low small front =
    let without = lacks-weaker is_ascii_digit byte (digit-no_mark byte low) front.word (digits-are front.word n front.said) in
    let together : bytes ++ later ≡ front.word ++ (byte ∷ (rest ++ later)) = ap (λ (t : List ℕ). t ++ later) front.is ∙ append_assoc front.word (byte ∷ rest) later in
    ap (number_at byte) together ∙ rw (cut-word byte front.word (rest ++ later) without, front.said, below-less (2 ^ 32) n small) refl
