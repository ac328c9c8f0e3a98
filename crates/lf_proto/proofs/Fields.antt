-- The fields of a line of line bytes are the runs between its blanks.
use Rattle.std.proofs.Common.{◌≡◌, ℕ, suc, ◌+◌, ◌-◌, ◌<◌, Bool, true, false, ◌==◌, nat_lt, List, [], ◌∷◌, ◌++◌, length, drop, filter, None, Some, refl, sym, ap, ◌∙◌, arith, append_assoc, append-nil, length-append}
use Rattle.std.proofs.lemmas.Grind.{common_steps}
use Rattle.std.proofs.lemmas.Bool.Decides.{nat_tests}
use Rattle.std.proofs.lemmas.Bool.{lt-ltb, and_parts}
use Rattle.std.proofs.lemmas.List.Splits.{slice_split-cons_yes, slice_split-cons_no}
use Rattle.std.specs.Char.{is_whitespace}
use Rattle.std.specs.List.{slice_split, onto_first, list_all}
use Rattle.bstr.specs.Fields.{fields_acc}
use Rattle.bstr.specs.Text.{part}
use Rattle.bstr.specs.Utf8.{decoded, good, or_replacement, pieces, spans_from}
use Rattle.bstr.proofs.lemmas.FieldLemmas.{fields-skip, fields-start, fields-stop, fields-more, fields-nil, fields-last}
use Rattle.bstr.proofs.lemmas.PieceLemmas.{pieces-nil, spans-first}
use Rattle.lf_proto.specs.Pieces.{with_front}
use Rattle.lf_proto.specs.Lines.{is_blank, is_line_byte, fields}

-- the white space among the bytes of a line is the blanks
pub whitespace_is_blank : (b : ℕ) → is_line_byte b ≡ true → is_whitespace b ≡ is_blank b
whitespace_is_blank b line = grind (arith, nat_tests)

pub line_byte_small : (b : ℕ) → is_line_byte b ≡ true → b < 128
line_byte_small b line = grind (arith, nat_tests)

-- the parts that are not empty
abbrev pub nonempty : List (List ℕ) → List (List ℕ)
nonempty parts = filter (λ field. nat_lt 0 (length field)) parts

-- the parts with one byte more in front of the first
pub with_front-one : (b : ℕ) (parts : List (List ℕ)) → onto_first b parts ≡ with_front (b ∷ []) parts
with_front-one b [] = refl
with_front-one b (p ∷ parts) = refl

pub with_front-more : (run : List ℕ) (b : ℕ) (parts : List (List ℕ)) → with_front run (onto_first b parts) ≡ with_front (run ++ b ∷ []) parts
with_front-more run b [] = refl
with_front-more run b (p ∷ parts) = ap (λ q. q ∷ parts) (sym (append_assoc run (b ∷ []) p))

-- a byte below 128 is a character by itself
pub decoded_small : (b : ℕ) (rest : List ℕ) → b < 128 → decoded (b ∷ rest) ≡ good b 1
decoded_small b rest small =
    let below : nat_lt b 128 ≡ true = grind (arith, nat_tests) in
    let some : (suc (length rest) == 0) ≡ false = grind (arith, nat_tests) in
    rw (some, below) refl

-- the first span of bytes that begin with a byte below 128
pub first_span : (b : ℕ) (rest : List ℕ) (off : ℕ) → b < 128 → spans_from off (pieces (b ∷ rest)) ≡ (off, off + 1, b) ∷ spans_from (off + 1) (pieces rest)
first_span b rest off small =
    let first = spans-first (b ∷ rest) off (omega arith) in
    let e = decoded_small b rest small in
    first ∙ ap (λ d. (off, off + d.size, or_replacement d.char) ∷ spans_from (off + d.size) (pieces (drop d.size (b ∷ rest)))) e

pub part_is_run : (hay done run rest : List ℕ) → hay ≡ done ++ (run ++ rest) → part (length done) (length done + length run) hay ≡ run
part_is_run hay done run rest e =
    let n : length done + length run - length done ≡ length run = omega arith in
    rw (e, n) (grind (arith, common_steps))

-- the fields of the remaining bytes: outside a field, and after a run of one
pub record Read (hay rest : List ℕ) (ss : ℕ → List (ℕ × ℕ × ℕ)) : Type 0 where
  pub outside : (done : List ℕ) → hay ≡ done ++ rest → fields_acc is_whitespace hay None (ss (length done)) ≡ nonempty (slice_split is_blank rest)
  pub inside : (done run : List ℕ) → 0 < length run → hay ≡ done ++ (run ++ rest) → fields_acc is_whitespace hay (Some (length done, length done + length run)) (ss (length done + length run)) ≡ nonempty (with_front run (slice_split is_blank rest))

-- one more byte of the line
pub slice_split-blank : (b : ℕ) (rest : List ℕ) → is_blank b ≡ true → nonempty (slice_split is_blank (b ∷ rest)) ≡ nonempty (slice_split is_blank rest)
slice_split-blank b rest blank = ap nonempty (slice_split-cons_yes is_blank b rest blank)

pub front-blank : (run : List ℕ) (b : ℕ) (rest : List ℕ) → 0 < length run → is_blank b ≡ true → nonempty (with_front run (slice_split is_blank (b ∷ rest))) ≡ run ∷ nonempty (slice_split is_blank rest)
front-blank run b rest some blank =
    let some' : nat_lt 0 (length (run ++ [])) ≡ true = rw append-nil (lt-ltb 0 (length run) some) in
    ap (λ parts. nonempty (with_front run parts)) (slice_split-cons_yes is_blank b rest blank) ∙ (rw some' (ap (λ r. r ∷ nonempty (slice_split is_blank rest)) (append-nil run)))

pub front-visible : (run : List ℕ) (b : ℕ) (rest : List ℕ) → is_blank b ≡ false → with_front run (slice_split is_blank (b ∷ rest)) ≡ with_front (run ++ b ∷ []) (slice_split is_blank rest)
front-visible run b rest visible =
    ap (with_front run) (slice_split-cons_no is_blank b rest visible) ∙ with_front-more run b (slice_split is_blank rest)

pub front-end : (run : List ℕ) → 0 < length run → nonempty (with_front run ([] ∷ [])) ≡ run ∷ []
front-end run some =
    let some' : nat_lt 0 (length (run ++ [])) ≡ true = rw append-nil (lt-ltb 0 (length run) some) in
    rw some' (ap (λ r. r ∷ []) (append-nil run))

pub spans_none : (off : ℕ) → spans_from off (pieces []) ≡ []
unfolding spans_from
spans_none off = ap (spans_from off) pieces-nil

pub line_head : (b : ℕ) (rest : List ℕ) → list_all is_line_byte (b ∷ rest) ≡ true → (is_line_byte b ≡ true) × (list_all is_line_byte rest ≡ true)
line_head b rest all = and_parts (is_line_byte b) (list_all is_line_byte rest) all

one_more : (done run : List ℕ) (b : ℕ) (hay rest : List ℕ) → hay ≡ done ++ (run ++ b ∷ rest) → hay ≡ (done ++ (run ++ b ∷ [])) ++ rest
one_more done run b hay rest e = e ∙ simp append_assoc

same_more : (done run : List ℕ) (b : ℕ) (hay rest : List ℕ) → hay ≡ done ++ (run ++ b ∷ rest) → hay ≡ done ++ ((run ++ b ∷ []) ++ rest)
same_more done run b hay rest e = e ∙ simp append_assoc

module _ (hay : List ℕ) (b : ℕ) (rest : List ℕ) (line : is_line_byte b ≡ true) (ih : Read hay rest (λ off. spans_from off (pieces rest))) where
  begin : (blank : Bool) → is_blank b ≡ blank → (done : List ℕ) → hay ≡ done ++ b ∷ rest → fields_acc is_whitespace hay None ((length done, length done + 1, b) ∷ spans_from (length done + 1) (pieces rest)) ≡ nonempty (slice_split is_blank (b ∷ rest))
  begin true is done e =
      let n : length (done ++ b ∷ []) ≡ length done + 1 = length-append done (b ∷ []) in
      let next : hay ≡ (done ++ b ∷ []) ++ rest = e ∙ simp append_assoc in
      fields-skip is_whitespace hay (length done, length done + 1, b) (spans_from (length done + 1) (pieces rest)) (whitespace_is_blank b line ∙ is)
      ∙ (ap (λ k. fields_acc is_whitespace hay None (spans_from k (pieces rest))) (sym n)
      ∙ (ih.outside (done ++ b ∷ []) next
      ∙ sym (slice_split-blank b rest is)))
  begin false is done e =
      fields-start is_whitespace hay (length done, length done + 1, b) (spans_from (length done + 1) (pieces rest)) (whitespace_is_blank b line ∙ is)
      ∙ (ih.inside done (b ∷ []) (omega arith) e
      ∙ sym (ap nonempty (slice_split-cons_no is_blank b rest is ∙ with_front-one b (slice_split is_blank rest))))

  go_on : (blank : Bool) → is_blank b ≡ blank → (done run : List ℕ) → 0 < length run → hay ≡ done ++ (run ++ b ∷ rest)
      → fields_acc is_whitespace hay (Some (length done, length done + length run)) ((length done + length run, length done + length run + 1, b) ∷ spans_from (length done + length run + 1) (pieces rest)) ≡ nonempty (with_front run (slice_split is_blank (b ∷ rest)))
  go_on true is done run some e =
      let off = length done + length run in
      let n : length (done ++ (run ++ b ∷ [])) ≡ off + 1 = simp length-append (omega arith) in
      fields-stop is_whitespace hay (off, off + 1, b) (spans_from (off + 1) (pieces rest)) (length done) off (whitespace_is_blank b line ∙ is)
      ∙ (ap (λ r. r ∷ fields_acc is_whitespace hay None (spans_from (off + 1) (pieces rest))) (part_is_run hay done run (b ∷ rest) e)
      ∙ (ap (λ k. run ∷ fields_acc is_whitespace hay None (spans_from k (pieces rest))) (sym n)
      ∙ (ap (λ r. run ∷ r) (ih.outside (done ++ (run ++ b ∷ [])) (one_more done run b hay rest e))
      ∙ sym (front-blank run b rest some is))))
  go_on false is done run some e =
      let off = length done + length run in
      let n : length done + length (run ++ b ∷ []) ≡ off + 1 = simp length-append (omega arith) in
      let more : 0 < length (run ++ b ∷ []) = simp length-append (omega arith) in
      fields-more is_whitespace hay (off, off + 1, b) (spans_from (off + 1) (pieces rest)) (length done) off (whitespace_is_blank b line ∙ is)
      ∙ (ap (λ k. fields_acc is_whitespace hay (Some (length done, k)) (spans_from k (pieces rest))) (sym n)
      ∙ (ih.inside done (run ++ b ∷ []) more (same_more done run b hay rest e)
      ∙ sym (ap nonempty (front-visible run b rest is))))

pub read_rest : (hay rest : List ℕ) → list_all is_line_byte rest ≡ true → Read hay rest (λ off. spans_from off (pieces rest))
read_rest hay [] all = record {
  outside = λ done e. ap (fields_acc is_whitespace hay None) (spans_none (length done)) ∙ fields-nil is_whitespace hay;
  inside = λ done run some e. ap (fields_acc is_whitespace hay (Some (length done, length done + length run))) (spans_none (length done + length run))
      ∙ (fields-last is_whitespace hay (length done) (length done + length run)
      ∙ (ap (λ r. r ∷ []) (part_is_run hay done run [] e) ∙ sym (front-end run some)));
}
read_rest hay (b ∷ rest) all =
    let parts = line_head b rest all in
    let ih = read_rest hay rest parts.1 in
    let small = line_byte_small b parts.0 in
    record {
      outside = λ done e. ap (fields_acc is_whitespace hay None) (first_span b rest (length done) small) ∙ begin hay b rest parts.0 ih (is_blank b) refl done e;
      inside = λ done run some e. ap (fields_acc is_whitespace hay (Some (length done, length done + length run))) (first_span b rest (length done + length run) small) ∙ go_on hay b rest parts.0 ih (is_blank b) refl done run some e;
    }

pub fields_are : (line : List ℕ) → list_all is_line_byte line ≡ true → fields_acc is_whitespace line None (spans_from 0 (pieces line)) ≡ fields line
fields_are line all = (read_rest line line all).outside [] refl
