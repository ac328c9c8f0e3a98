-- Records are read back from their text, and what is read has their text.
use Rattle.std.proofs.Common.{◌≡◌, ℕ, zero, suc, ◌+◌, ◌<◌, ◌≤◌, true, not, ◌&&◌, ◌==◌, List, [], ◌∷◌, ◌++◌, length, take, drop, slice_index, Option, Some, None, option_map, position, refl, sym, ◌∙◌, ap, arith, append_assoc, length-append, take-append-drop}
use Rattle.std.specs.List.{AllByRecursion}
use Rattle.std.specs.Prelude.{nat_lt}
use Rattle.std.specs.List.{position_or_len}
use Rattle.std.proofs.lemmas.Bool.{and_parts, lt-ltb, eqb-true}
use Rattle.std.proofs.lemmas.Bool.Decides.{nat_tests}
use Rattle.std.proofs.lemmas.List.{take_at, drop_more, append-nil, nil_from_length}
use Rattle.std.proofs.lemmas.List.Quantifiers.{position-Some}
use Rattle.lf_journal_text.specs.Records.{◌>>=◌, Entry, HasLines, entries_at, entries_of, entries_text, entry_at, entry_text, is_line, line_at, line_text}

-- ---- a line

first_is : (w rest : List ℕ) → is_line w ≡ true → position_or_len (λ b. b == 10) (w ++ (10 ∷ rest)) ≡ length w
first_is [] rest without = grind (arith, nat_tests)
first_is (b ∷ w) rest without =
    let parts = and_parts (not (b == 10) && not (b == 0)) (is_line w) without in
    let other = and_parts (not (b == 10)) (not (b == 0)) parts.0 in
    let tail = first_is w rest parts.1 in
    grind (arith, other.0, tail)

drop_past : (w : List ℕ) (byte : ℕ) (rest : List ℕ) → drop (length w + 1) (w ++ (byte ∷ rest)) ≡ rest
drop_past [] byte rest = refl
drop_past (b ∷ w) byte rest = let more : suc (length w) + 1 ≡ suc (length w + 1) = omega arith in rw more (drop_past w byte rest)

line_again : (w rest : List ℕ) → is_line w ≡ true → line_at (line_text w ++ rest) ≡ Some (w, rest)
unfolding line_at
line_again w rest without =
    let together : line_text w ++ rest ≡ w ++ (10 ∷ rest) = append_assoc w (10 ∷ []) rest in
    let at = first_is w rest without in
    let less : nat_lt (length w) (length (w ++ (10 ∷ rest))) ≡ true = lt-ltb _ _ (omega (arith, length-append w (10 ∷ rest))) in
    let behind : drop (length w + 1) (w ++ (10 ∷ rest)) ≡ rest = drop_past w 10 rest in
    ap (λ (l : List ℕ). line_at l) together ∙ rw (at, less, take_at w (10 ∷ rest) (length w) refl, behind) refl

some_same : {A : Type 0} (x y : A) → Some x ≡ Some y → x ≡ y
some_same x y e = cc e

abbrev parts_at : List ℕ → ℕ → List ℕ × List ℕ
parts_at bytes k = (take k bytes, drop (k + 1) bytes)

split_said : (bytes : List ℕ) (x : List ℕ × List ℕ) (at : Option ℕ) → position (λ b. b == 10) bytes ≡ at → option_map (parts_at bytes) at ≡ Some x → bytes ≡ line_text x.0 ++ x.1
split_said bytes x None found e = absurd (cc e)
split_said bytes x (Some k) found e =
    let there = position-Some (λ b. b == 10) bytes k 0 found in
    let feed : slice_index bytes k ≡ 10 = eqb-true _ _ there.1 in
    let same : parts_at bytes k ≡ x = some_same (parts_at bytes k) x e in
    let front : take k bytes ≡ x.0 = ap (λ (p : List ℕ × List ℕ). p.0) same in
    let behind : drop (k + 1) bytes ≡ x.1 = ap (λ (p : List ℕ × List ℕ). p.1) same in
    sym (take-append-drop k bytes)
    ∙ ap (λ (l : List ℕ). take k bytes ++ l) (drop_more bytes k 0 there.0)
    ∙ ap (λ (b : ℕ). take k bytes ++ b ∷ drop (k + 1) bytes) feed
    ∙ ap (λ (l : List ℕ). l ++ 10 ∷ drop (k + 1) bytes) front
    ∙ ap (λ (l : List ℕ). x.0 ++ 10 ∷ l) behind
    ∙ sym (append_assoc x.0 (10 ∷ []) x.1)

line_said : (bytes line rest : List ℕ) → line_at bytes ≡ Some (line, rest) → bytes ≡ line_text line ++ rest
unfolding line_at
line_said bytes line rest is = split_said bytes (line, rest) (position (λ b. b == 10) bytes) refl is

-- ---- a record

pub entry_again : (e : Entry) (rest : List ℕ) → HasLines e → entry_at (entry_text e ++ rest) ≡ Some (e, rest)
unfolding entry_at
entry_again e rest has =
    let a : entry_text e ++ rest ≡ line_text e.origin ++ ((line_text e.line ++ line_text e.reply) ++ rest) = append_assoc (line_text e.origin) (line_text e.line ++ line_text e.reply) rest in
    let b : (line_text e.line ++ line_text e.reply) ++ rest ≡ line_text e.line ++ (line_text e.reply ++ rest) = append_assoc (line_text e.line) (line_text e.reply) rest in
    let first = line_again e.origin ((line_text e.line ++ line_text e.reply) ++ rest) has.origin in
    let second = line_again e.line (line_text e.reply ++ rest) has.line in
    let third = line_again e.reply rest has.reply in
    ap entry_at a ∙ rw (first, b, second, third) refl

bind_some : {A B : Type 0} (o : Option A) (f : A → Option B) (y : B) → (o >>= f) ≡ Some y → (x : A) × (o ≡ Some x) × (f x ≡ Some y)
bind_some None f y e = absurd (cc e)
bind_some (Some x) f y e = (x, refl, e)

three_said : (a b c : List ℕ) (rest : List ℕ) → a ++ (b ++ (c ++ rest)) ≡ (a ++ (b ++ c)) ++ rest
three_said a b c rest = ap (λ (l : List ℕ). a ++ l) (sym (append_assoc b c rest)) ∙ sym (append_assoc a (b ++ c) rest)

pub entry_said : (bytes : List ℕ) (e : Entry) (rest : List ℕ) → entry_at bytes ≡ Some (e, rest) → bytes ≡ entry_text e ++ rest
unfolding entry_at
entry_said bytes e rest is =
    let first = bind_some (line_at bytes) _ (e, rest) is in
    let second = bind_some (line_at first.0.1) _ (e, rest) first.2 in
    let third = bind_some (line_at second.0.1) _ (e, rest) second.2 in
    let whole : bytes ≡ line_text first.0.0 ++ (line_text second.0.0 ++ (line_text third.0.0 ++ third.0.1)) =
    line_said bytes first.0.0 first.0.1 first.1
    ∙ ap (λ (l : List ℕ). line_text first.0.0 ++ l) (line_said first.0.1 second.0.0 second.0.1 second.1)
    ∙ ap (λ (l : List ℕ). line_text first.0.0 ++ (line_text second.0.0 ++ l)) (line_said second.0.1 third.0.0 third.0.1 third.1) in
    let made : Entry = record { origin = first.0.0; line = second.0.0; reply = third.0.0 } in
    let found : Entry × List ℕ = (made, third.0.1) in
    let due : Entry × List ℕ = (e, rest) in
    let same : found ≡ due = some_same found due third.2 in
    let first_same : made ≡ e = ap (λ (p : Entry × List ℕ). p.0) same in
    let rest_same : third.0.1 ≡ rest = ap (λ (p : Entry × List ℕ). p.1) same in
    whole
    ∙ three_said (line_text first.0.0) (line_text second.0.0) (line_text third.0.0) third.0.1
    ∙ ap (λ (x : Entry). entry_text x ++ third.0.1) first_same
    ∙ ap (λ (l : List ℕ). entry_text e ++ l) rest_same

text_long : (e : Entry) → 3 ≤ length (entry_text e)
text_long e = omega (arith, length-append (line_text e.origin) (line_text e.line ++ line_text e.reply), length-append (line_text e.line) (line_text e.reply), length-append e.origin (10 ∷ []), length-append e.line (10 ∷ []), length-append e.reply (10 ∷ []))

pub entry_shorter : (bytes : List ℕ) (e : Entry) (rest : List ℕ) → entry_at bytes ≡ Some (e, rest) → length rest < length bytes
entry_shorter bytes e rest is = omega (arith, ap length (entry_said bytes e rest is), length-append (entry_text e) rest, text_long e)

-- ---- records

pub entries_none : (n : ℕ) → entries_at n [] ≡ Some []
unfolding entries_at
entries_none n = refl

pub entries_step : (n : ℕ) (bytes : List ℕ) → 0 < length bytes → entries_at (suc n) bytes ≡ (entry_at bytes >>= λ first. entries_at n first.1 >>= λ rest. Some (first.0 ∷ rest))
unfolding entries_at
entries_step n [] some = absurd (omega arith)
entries_step n (b ∷ bs) some = refl

same_rest : (n k : ℕ) (bytes : List ℕ) (o : Option (Entry × List ℕ)) → entry_at bytes ≡ o → ((rest : List ℕ) → length rest < length bytes → entries_at n rest ≡ entries_at k rest)
    → (o >>= λ first. entries_at n first.1 >>= λ rest. Some (first.0 ∷ rest)) ≡ (o >>= λ first. entries_at k first.1 >>= λ rest. Some (first.0 ∷ rest))
same_rest n k bytes None is same = refl
same_rest n k bytes (Some first) is same = ap (λ o. o >>= λ rest. Some (first.0 ∷ rest)) (same first.1 (entry_shorter bytes first.0 first.1 is))

pub entries_enough : (n k : ℕ) (bytes : List ℕ) → length bytes ≤ n → length bytes ≤ k → entries_at n bytes ≡ entries_at k bytes
entries_enough n k [] few few' = entries_none n ∙ sym (entries_none k)
entries_enough zero k (b ∷ bs) few few' = absurd (omega arith)
entries_enough (suc n) zero (b ∷ bs) few few' = absurd (omega arith)
entries_enough (suc n) (suc k) (b ∷ bs) few few' =
    entries_step n (b ∷ bs) (omega arith)
    ∙ same_rest n k (b ∷ bs) (entry_at (b ∷ bs)) refl (λ rest shorter. entries_enough n k rest (omega arith) (omega arith))
    ∙ sym (entries_step k (b ∷ bs) (omega arith))

fewer : (bytes : List ℕ) (o : Option (Entry × List ℕ)) → entry_at bytes ≡ o
    → (o >>= λ first. entries_at (length bytes) first.1 >>= λ rest. Some (first.0 ∷ rest)) ≡ (o >>= λ first. entries_at (length first.1) first.1 >>= λ rest. Some (first.0 ∷ rest))
fewer bytes None is = refl
fewer bytes (Some first) is =
    let shorter = entry_shorter bytes first.0 first.1 is in
    ap (λ o. o >>= λ rest. Some (first.0 ∷ rest)) (entries_enough (length bytes) (length first.1) first.1 (omega arith) (omega arith))

pub entries_first : (bytes : List ℕ) → 0 < length bytes → entries_of bytes ≡ (entry_at bytes >>= λ first. entries_of first.1 >>= λ rest. Some (first.0 ∷ rest))
unfolding entries_of
entries_first bytes some =
    entries_enough (length bytes) (suc (length bytes)) bytes (omega arith) (omega arith)
    ∙ entries_step (length bytes) bytes some
    ∙ fewer bytes (entry_at bytes) refl

pub entries_empty : entries_of [] ≡ Some []
unfolding entries_of
entries_empty = entries_none 0

-- what is printed is read back
pub entries_again : (es : List Entry) → AllByRecursion HasLines es → entries_of (entries_text es) ≡ Some es
entries_again [] all = entries_empty
entries_again (e ∷ es) all =
    let some : 0 < length (entry_text e ++ entries_text es) = omega (arith, length-append (entry_text e) (entries_text es), text_long e) in
    entries_first (entry_text e ++ entries_text es) some ∙ rw (entry_again e (entries_text es) all.0, entries_again es all.1) refl

no_fuel : (b : ℕ) (bs : List ℕ) → entries_at zero (b ∷ bs) ≡ None
unfolding entries_at
no_fuel b bs = refl

-- what is read has this text
pub entries_said : (n : ℕ) (bytes : List ℕ) (es : List Entry) → entries_at n bytes ≡ Some es → bytes ≡ entries_text es
entries_said n [] es is =
    let none : [] ≡ es = some_same [] es (sym (entries_none n) ∙ is) in
    ap entries_text none
entries_said zero (b ∷ bs) es is = absurd (cc (sym (no_fuel b bs) ∙ is))
entries_said (suc n) (b ∷ bs) es is =
    let first = bind_some (entry_at (b ∷ bs)) _ es (sym (entries_step n (b ∷ bs) (omega arith)) ∙ is) in
    let rest = bind_some (entries_at n first.0.1) _ es first.2 in
    let made : first.0.0 ∷ rest.0 ≡ es = some_same (first.0.0 ∷ rest.0) es rest.2 in
    entry_said (b ∷ bs) first.0.0 first.0.1 first.1
    ∙ ap (λ (l : List ℕ). entry_text first.0.0 ++ l) (entries_said n first.0.1 rest.0 rest.1)
    ∙ ap entries_text made

-- ---- steps of the reader

-- The records so far, and those of the rest, are those of the bytes.
pub record ReadsOn (done : List Entry) (rest bytes : List ℕ) : Type 0 where
  pub read : (entries_of rest >>= λ behind. Some (done ++ behind)) ≡ entries_of bytes

nothing_more : (o : Option (List Entry)) → (o >>= λ behind. Some ([] ++ behind)) ≡ o
nothing_more None = refl
nothing_more (Some behind) = refl

pub reads_all : (bytes : List ℕ) → ReadsOn [] bytes bytes
reads_all bytes = record { read = nothing_more (entries_of bytes) }

pub reads_none : (done : List Entry) (rest bytes : List ℕ) → ReadsOn done rest bytes → 0 < length rest → None ≡ entry_at rest → None ≡ entries_of bytes
reads_none done rest bytes reads some none =
    let first : entries_of rest ≡ None = entries_first rest some ∙ ap (λ o. o >>= λ first. entries_of first.1 >>= λ more. Some (first.0 ∷ more)) (sym none) in
    sym (ap (λ o. o >>= λ behind. Some (done ++ behind)) first) ∙ reads.read

together : (done : List Entry) (e : Entry) (o : Option (List Entry)) → (o >>= λ behind. Some ((done ++ e ∷ []) ++ behind)) ≡ ((o >>= λ more. Some (e ∷ more)) >>= λ behind. Some (done ++ behind))
together done e None = refl
together done e (Some more) = ap (λ (l : List Entry). Some l) (append_assoc done (e ∷ []) more)

pub reads_more : (done : List Entry) (rest bytes : List ℕ) (e : Entry) (behind : List ℕ) → ReadsOn done rest bytes → 0 < length rest → Some (e, behind) ≡ entry_at rest → ReadsOn (done ++ e ∷ []) behind bytes
reads_more done rest bytes e behind reads some found =
    let first : entries_of rest ≡ (entries_of behind >>= λ more. Some (e ∷ more)) = entries_first rest some ∙ ap (λ o. o >>= λ first. entries_of first.1 >>= λ more. Some (first.0 ∷ more)) (sym found) in
    record { read = together done e (entries_of behind) ∙ sym (ap (λ o. o >>= λ behind. Some (done ++ behind)) first) ∙ reads.read }

pub reads_done : (done : List Entry) (rest bytes : List ℕ) → ReadsOn done rest bytes → length rest ≡ 0 → Some done ≡ entries_of bytes
reads_done done rest bytes reads none =
    let gone : entries_of rest ≡ Some [] = ap entries_of (nil_from_length rest none) ∙ entries_empty in
    ap (λ (l : List Entry). Some l) (sym (append-nil done)) ∙ sym (ap (λ o. o >>= λ behind. Some (done ++ behind)) gone) ∙ reads.read
