-- A printed request is read as the same request.
use Rattle.std.proofs.Common.{◌≡◌, ℕ, suc, ◌<◌, ◌≤◌, ◌^◌, Bool, true, false, ◌&&◌, ◌==◌, cond, nat_lt, nat_le, List, [], ◌∷◌, ◌++◌, length, filter, drop, None, Some, refl, ap, ◌∙◌, arith, ℤ, pos, negsuc, neg_ℤ, ◌<ℤ◌}
use Rattle.std.proofs.lemmas.Bool.Decides.{nat_tests}
use Rattle.std.proofs.lemmas.Bool.{and_parts, lt-ltb}
use Rattle.std.proofs.lemmas.Fmt.{decimal_is_IsNumeral, length-decimal-le}
use Rattle.std.proofs.lemmas.Int.{ints}
use Rattle.std.proofs.lemmas.List.Splits.{slice_split-cons_no}
use Rattle.std.specs.Char.{is_ascii_digit}
use Rattle.std.specs.Fmt.{decimal, signed_decimal}
use Rattle.std.specs.List.{slice_split, onto_first, list_all, join_with_byte}
use Rattle.std.specs.Prelude.{slice_index}
use Rattle.lf_units.specs.declared.geometry.Point.{Point}
use Rattle.lf_orient.specs.declared.Orient.{Orient}
use Rattle.lf_orient.specs.declared.Orient.TheVariants.{N, W, S, E, FN, FW, FS, FE}
use Rattle.lf_floorplan.specs.declared.place.Place.{Place}
use Rattle.lf_rules.specs.declared.padding.Padding.{Padding}
use Rattle.lf_proto.proofs.Blanks.{fields-blank, line_bytes-blank}
use Rattle.lf_proto.proofs.Digits.{all_digits, is_digit_at, Digits}
use Rattle.lf_proto.proofs.Places.{place_written-some, target_of-some, padding_at-some}
use Rattle.lf_proto.specs.Lines.{is_blank, is_line_byte, fields, is_visible, IsLineName}
use Rattle.lf_proto.specs.Numbers.{◌>>=◌, digits, below, session_number, padding_at, padding, negative, positive, coordinate}
use Rattle.lf_proto.specs.Printed.{target_words, operand_words, action_words, printed_fields, printed, RequestReadsBack}
use Rattle.lf_orient.specs.Words.{orient_word}
use Rattle.lf_proto.specs.ReplyText.{reply_place_words}
use Rattle.lf_proto.specs.Requests.{command_in, orient_named, place_written, target_of_words, operands_by, action_by, command_by_verb, ArePlain, IsInRange, IsTarget, IsPlainAction, IsPlain}
use Rattle.lf_proto.specs.Verbs.{shape_in, parts_of, joined, NamesReadBack, PartsJoin}
use Rattle.lf_proto.specs.declared.request.Command.{Command}
use Rattle.lf_proto.specs.declared.request.Command.TheVariants.{Bye, To}
use Rattle.lf_proto.specs.declared.request.TeamCommand.TheVariants.{Open, Within}
use Rattle.lf_proto.specs.declared.verb.Operands.{Operands}
use Rattle.lf_proto.specs.declared.verb.Operands.TheVariants.{Alone, Cell, CellAt, CellTo, Cells, Sites}
use Rattle.lf_proto.specs.declared.verb.Action.{Action}

-- the text of a number below 10^10 has only digits
pub decimal_digits : (n : ℕ) → n < 10 ^ 10 → Digits (decimal n)
decimal_digits n small = all_digits (decimal n) (decimal_is_IsNumeral n (omega arith)).0.1

pub digits-decimal : (n : ℕ) → n < 10 ^ 10 → digits (decimal n) ≡ Some n
digits-decimal n small =
    let numeral = decimal_is_IsNumeral n (omega arith) in
    let all : list_all is_ascii_digit (decimal n) ≡ true = decimal_digits n small in
    let some : nat_lt 0 (length (decimal n)) ≡ true = lt-ltb 0 (length (decimal n)) numeral.0.0 in
    let few : length (decimal n) ≤ 10 = length-decimal-le 10 n (omega arith) small (omega arith) in
    let short : nat_le (length (decimal n)) 10 ≡ true = grind (arith, nat_tests) in
    rw (all, some, short) (ap Some numeral.1)

pub below-less : (limit n : ℕ) → n < limit → below limit n ≡ Some n
below-less limit n small = ap (λ t. cond t (Some n) None) (lt-ltb n limit small)

session_number-decimal : (n : ℕ) → n < 2 ^ 32 → session_number (decimal n) ≡ Some n
session_number-decimal n small = ap (λ o. o >>= below (2 ^ 32)) (digits-decimal n (omega arith)) ∙ below-less (2 ^ 32) n small

positive-decimal : (n : ℕ) → n < 2 ^ 31 → positive (decimal n) ≡ Some (pos n)
positive-decimal n small =
    ap (λ o. o >>= (λ m. below (2 ^ 31) m >>= (λ size. Some (pos size)))) (digits-decimal n (omega arith))
    ∙ ap (λ o. o >>= (λ size. Some (pos size))) (below-less (2 ^ 31) n small)

negative-decimal : (n : ℕ) → n < 2 ^ 31 → negative (decimal n) ≡ Some (neg_ℤ (pos n))
negative-decimal n small =
    ap (λ o. o >>= (λ m. below (2 ^ 31) m >>= (λ size. Some (neg_ℤ (pos size))))) (digits-decimal n (omega arith))
    ∙ ap (λ o. o >>= (λ size. Some (neg_ℤ (pos size)))) (below-less (2 ^ 31) n small)

-- no digit is a minus
pub no_minus : (text : List ℕ) → Digits text → 0 < length text → (slice_index text 0 == 45) ≡ false
no_minus text all some =
    let range = is_digit_at text 0 all some in
    grind (arith, nat_tests, range)

pub coordinate-signed_decimal : (z : ℤ) → negsuc 2147483647 <ℤ z → z <ℤ pos (2 ^ 31) → coordinate (signed_decimal z) ≡ Some z
coordinate-signed_decimal (pos n) low high =
    let small : n < 2 ^ 31 = omega (arith, ints) in
    let some = (decimal_is_IsNumeral n (omega arith)).0.0 in
    ap (λ t. cond t (negative (drop 1 (decimal n))) (positive (decimal n))) (no_minus (decimal n) (decimal_digits n (omega arith)) some)
    ∙ positive-decimal n small
coordinate-signed_decimal (negsuc n) low high =
    let small : suc n < 2 ^ 31 = omega (arith, ints) in
    negative-decimal (suc n) small

pub orient_named-text : (o : Orient) → orient_named (orient_word o) ≡ Some o
orient_named-text N = refl
orient_named-text W = refl
orient_named-text S = refl
orient_named-text E = refl
orient_named-text FN = refl
orient_named-text FW = refl
orient_named-text FS = refl
orient_named-text FE = refl

place_written-printed : (p : Place) → IsInRange p → place_written (signed_decimal p.x) (signed_decimal p.y) (orient_word p.orient) ≡ Some p
place_written-printed p range =
    place_written-some (signed_decimal p.x) (signed_decimal p.y) (orient_word p.orient) p
    (coordinate-signed_decimal p.x p.x_in_def range.x_in_range)
    (coordinate-signed_decimal p.y p.y_in_def range.y_in_range)
    (orient_named-text p.orient)

target_of-printed : (t : Point) → IsTarget t → target_of_words (target_words t) ≡ Some t
target_of-printed t range =
    target_of-some (signed_decimal t.x) (signed_decimal t.y) t
    (coordinate-signed_decimal t.x range.x_in_range.low range.x_in_range.high)
    (coordinate-signed_decimal t.y range.y_in_range.low range.y_in_range.high)

padding-printed : (p : Padding) → padding (decimal p.sites) ≡ Some p
padding-printed p =
    let few = p.most in
    ap (λ o. o >>= padding_at) (digits-decimal p.sites (omega arith)) ∙ padding_at-some p

operands-printed : (o : Operands (List ℕ) Place) → ArePlain o → operands_by (shape_in o) (operand_words o) ≡ Some o
operands-printed Alone plain = refl
operands-printed (Cell cell) plain = refl
operands-printed (CellAt cell place) (cell_is, range) = rw (place_written-printed place range) refl
operands-printed (CellTo cell target) (cell_is, range) = rw (target_of-printed target range) refl
operands-printed (Cells first second) plain = refl
operands-printed (Sites padding) plain = rw (padding-printed padding) refl

module _ (names : NamesReadBack) (parts : PartsJoin (List ℕ)) where
  action-printed : (action : Action (List ℕ) Place) → IsPlainAction action → action_by (parts_of action).0 (operand_words (parts_of action).1) ≡ Some action
  action-printed action plain =
      ap (λ s. operands_by s (operand_words (parts_of action).1) >>= joined (parts_of action).0) (parts action).0
      ∙ (ap (λ o. o >>= joined (parts_of action).0) (operands-printed (parts_of action).1 plain) ∙ (parts action).1)

  command_in-printed : (command : Command (List ℕ) Place) → IsPlain command → command_in (printed_fields command) ≡ Some command
  command_in-printed Bye plain = refl
  command_in-printed (To team Open) plain = refl
  command_in-printed (To team (Within session action)) (team_is, small, plain) =
      ap (λ v. command_by_verb v (action_words action).0 (team ∷ decimal session ∷ (action_words action).1)) (names (parts_of action).0).0
      ∙ (ap (λ n. n >>= (λ s. action_by (parts_of action).0 (action_words action).1 >>= (λ a. Some (To team (Within s a))))) (session_number-decimal session small)
      ∙ ap (λ o. o >>= (λ a. Some (To team (Within session a)))) (action-printed action plain))

-- each field is a name
abbrev AllNames : List (List ℕ) → Type 0
AllNames [] = Unit {0}
AllNames (word ∷ words) = IsLineName word × AllNames words

not_blank : (b : ℕ) → is_visible b ≡ true → is_blank b ≡ false
not_blank b visible = grind (arith, nat_tests)

visible_line : (b : ℕ) → is_visible b ≡ true → is_line_byte b ≡ true
visible_line b visible = grind (arith, nat_tests)

digit_visible : (b : ℕ) → is_ascii_digit b ≡ true → is_visible b ≡ true
digit_visible b digit = grind (arith, nat_tests)

list_all-weaker : (p q : ℕ → Bool) → ((b : ℕ) → p b ≡ true → q b ≡ true) → (text : List ℕ) → list_all p text ≡ true → list_all q text ≡ true
list_all-weaker p q weaker [] all = refl
list_all-weaker p q weaker (b ∷ text) all =
    let parts = and_parts (p b) (list_all p text) all in
    rw (weaker b parts.0) (list_all-weaker p q weaker text parts.1)

parts-visible : (name : List ℕ) → list_all is_visible name ≡ true → slice_split is_blank name ≡ name ∷ []
parts-visible [] all = refl
parts-visible (b ∷ name) all =
    let parts = and_parts (is_visible b) (list_all is_visible name) all in
    slice_split-cons_no is_blank b name (not_blank b parts.0) ∙ ap (onto_first b) (parts-visible name parts.1)

fields-name : (name : List ℕ) → IsLineName name → fields name ≡ name ∷ []
fields-name name is =
    ap (filter (λ field. nat_lt 0 (length field))) (parts-visible name is.visible)
    ∙ ap (λ t. cond t (name ∷ []) []) (lt-ltb 0 (length name) is.some)

fields-joined : (words : List (List ℕ)) → AllNames words → fields (join_with_byte 32 words) ≡ words
fields-joined [] names = refl
fields-joined (word ∷ []) names = fields-name word names.0
fields-joined (word ∷ next ∷ words) names =
    fields-blank word 32 (join_with_byte 32 (next ∷ words)) refl
    ∙ (ap (λ f. f ++ fields (join_with_byte 32 (next ∷ words))) (fields-name word names.0) ∙ ap (λ f. word ∷ f) (fields-joined (next ∷ words) names.1))

line_bytes-joined : (words : List (List ℕ)) → AllNames words → list_all is_line_byte (join_with_byte 32 words) ≡ true
line_bytes-joined [] names = refl
line_bytes-joined (word ∷ []) names = list_all-weaker is_visible is_line_byte visible_line word names.0.visible
line_bytes-joined (word ∷ next ∷ words) names =
    line_bytes-blank word 32 (join_with_byte 32 (next ∷ words)) refl
    ∙ (ap (λ t. t && list_all is_line_byte (join_with_byte 32 (next ∷ words))) (list_all-weaker is_visible is_line_byte visible_line word names.0.visible)
    ∙ line_bytes-joined (next ∷ words) names.1)

decimal_name : (n : ℕ) → n < 10 ^ 10 → IsLineName (decimal n)
decimal_name n small = record {
  some = (decimal_is_IsNumeral n (omega arith)).0.0;
  visible = list_all-weaker is_ascii_digit is_visible digit_visible (decimal n) (decimal_digits n small);
}

signed_name : (z : ℤ) → negsuc 2147483647 <ℤ z → z <ℤ pos (2 ^ 31) → IsLineName (signed_decimal z)
signed_name (pos n) low high = let small : n < 2 ^ 31 = omega (arith, ints) in decimal_name n (omega arith)
signed_name (negsuc n) low high =
    let small : suc n < 2 ^ 31 = omega (arith, ints) in
    record { some = omega arith; visible = (decimal_name (suc n) (omega arith)).visible }

orient_name : (o : Orient) → IsLineName (orient_word o)
orient_name N = record { some = omega arith; visible = refl }
orient_name W = record { some = omega arith; visible = refl }
orient_name S = record { some = omega arith; visible = refl }
orient_name E = record { some = omega arith; visible = refl }
orient_name FN = record { some = omega arith; visible = refl }
orient_name FW = record { some = omega arith; visible = refl }
orient_name FS = record { some = omega arith; visible = refl }
orient_name FE = record { some = omega arith; visible = refl }

place_names : (place : Place) → IsInRange place → AllNames (reply_place_words place)
place_names place range =
    let x_is = signed_name place.x place.x_in_def range.x_in_range in
    let y_is = signed_name place.y place.y_in_def range.y_in_range in
    (x_is, (y_is, (orient_name place.orient, tt)))

target_names : (target : Point) → IsTarget target → AllNames (target_words target)
target_names target range =
    let x_is = signed_name target.x range.x_in_range.low range.x_in_range.high in
    let y_is = signed_name target.y range.y_in_range.low range.y_in_range.high in
    (x_is, (y_is, tt))

operand_names : (o : Operands (List ℕ) Place) → ArePlain o → AllNames (operand_words o)
operand_names Alone plain = tt
operand_names (Cell cell) cell_is = (cell_is, tt)
operand_names (CellAt cell place) (cell_is, range) = (cell_is, place_names place range)
operand_names (CellTo cell target) (cell_is, range) = (cell_is, target_names target range)
operand_names (Cells first second) (first_is, second_is) = (first_is, (second_is, tt))
operand_names (Sites padding) plain = let few = padding.most in (decimal_name padding.sites (omega arith), tt)

module _ (names : NamesReadBack) where
  printed_names : (command : Command (List ℕ) Place) → IsPlain command → AllNames (printed_fields command)
  printed_names Bye plain = (record { some = omega arith; visible = refl }, tt)
  printed_names (To team Open) plain = (record { some = omega arith; visible = refl }, (plain, tt))
  printed_names (To team (Within session action)) (team_is, small, plain) =
      ((names (parts_of action).0).1, (team_is, (decimal_name session (omega arith), operand_names (parts_of action).1 plain)))

pub reads_back : NamesReadBack → PartsJoin (List ℕ) → RequestReadsBack
reads_back names parts command plain =
    let all = printed_names names command plain in
    ap (λ t. cond t (command_in (fields (printed command))) None) (line_bytes-joined (printed_fields command) all)
    ∙ (ap command_in (fields-joined (printed_fields command) all) ∙ command_in-printed names parts command plain)
