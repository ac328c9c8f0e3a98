-- Bytes that are shown one after the other, and skipped lines.
use Rattle.std.proofs.Common.{◌≡◌, ◌∙◌, ℕ, suc, ◌+◌, ◌-◌, ◌<◌, arith, ap, subst, sym, Err, List, ◌++◌, drop, length, Ok, Option, slice_index_or}
use Rattle.std.specs.Prelude.{OnOk, Result}
use Rattle.std.proofs.Math.Numerals.{suc-eq-add-one}
use Rattle.std.proofs.Math.Seq.{drop-cons}
use Rattle.std.specs.Io.KnownBytes.{Appends}
use Rattle.lf_io.proofs.Known.{Appends-more}
use Rattle.lf_task_faults.specs.Faults.{shown_bytes, shown_byte}
use Rattle.lf_task_faults.specs.Refusals.{after_line, after_lines}

-- Bytes that were appended come before those that are appended on success.
pub before : {T E : Type 0} (r : Result T E) (a b c : Option (List ℕ)) (xs ys : List ℕ) → Appends a b xs → OnOk r (Appends b c ys)
    → OnOk r (Appends a c (xs ++ ys))
before (Ok value) a b c xs ys first then = Appends-more a b c xs ys first then
before (Err fault) a b c xs ys first then = tt

-- The bytes from a position on are that byte and the later ones.
ahead : (bytes : List ℕ) (i d : ℕ) → i < length bytes → shown_bytes (drop i bytes) ≡ shown_byte (slice_index_or bytes i d) ++ shown_bytes (drop (i + 1) bytes)
ahead bytes i d lt = ap shown_bytes (drop-cons bytes i d lt) ∙ ap (λ n. shown_byte (slice_index_or bytes i d) ++ shown_bytes (drop n bytes)) (suc-eq-add-one i)

-- What completes the remaining bytes completes all of them.
abbrev pub Completes : Option (List ℕ) → Option (List ℕ) → List ℕ → List ℕ → Type 0
Completes start here left all = (end : Option (List ℕ)) → Appends here end (shown_bytes left) → Appends start end (shown_bytes all)

-- After one more byte, it still does.
pub one_more : (start here next : Option (List ℕ)) (bytes : List ℕ) (i d : ℕ) → i < length bytes → Completes start here (drop i bytes) bytes
    → Appends here next (shown_byte (slice_index_or bytes i d)) → Completes start next (drop (i + 1) bytes) bytes
one_more start here next bytes i d lt completes put = λ end rest.
    completes end (subst (λ (t : List ℕ). Appends here end t) (sym (ahead bytes i d lt)) (Appends-more here next end _ _ put rest))

-- One more line is skipped.
pub passed : (lines i : ℕ) (text rest : List ℕ) → i < lines → after_lines (lines - i) rest ≡ after_lines lines text
    → after_lines (lines - (i + 1)) (after_line rest) ≡ after_lines lines text
passed lines i text rest lt same =
    let more : lines - i ≡ suc (lines - (i + 1)) = omega (arith, lt) in ap (λ n. after_lines n rest) (sym more) ∙ same
