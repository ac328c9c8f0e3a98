-- The held bytes of a text in chunks, and what was dropped.
use Rattle.std.proofs.Common.{◌≡◌, inl, inr, ℕ, ◌+◌, ◌-◌, length, Bool, true, false, cond, List, [], ◌∷◌, ◌++◌, take, drop, Option, Some, Result, Err, sym, ap, subst, ◌∙◌, append_assoc, arith}
use Rattle.std.proofs.lemmas.List.{append-nil, length-append, take-append-drop}
use Rattle.std.proofs.lemmas.Iterator.Adapters.{position_from-zero}
use Rattle.std.specs.List.{position_from}
use Rattle.std.specs.Prelude.{position}
use Rattle.lf_lex.specs.Tokens.{line_feeds}
use Rattle.lf_lex.proofs.Scanning.{line_feeds_cons}
use Rattle.std.proofs.Math.Seq.{take-append_seam}
use Rattle.lf_state_text.specs.declared.cursor.Cursor.{Cursor}
use Rattle.lf_state_text.specs.declared.fault.StateFaultNumber.{StateFaultNumber}
use Rattle.lf_state_text.specs.declared.fault.StateFault.{StateFault}
use Rattle.lf_state_text.specs.Pieces.{AreLines, IsEnd, text_of_chunks, rest}
use Rattle.lf_state_text.specs.Reading.{TextFault, fault_with_line, with_fault_line}
use Rattle.lf_state_text.specs.declared.refusal.ChunkError.{ChunkError}
use Rattle.lf_state_text.specs.declared.refusal.ChunkError.TheVariants as pieces
use Rattle.lf_state_text.specs.Refused.{FailsIn, IsRefusedState}

pub feeds-append : (xs ys : List ℕ) → line_feeds (xs ++ ys) ≡ line_feeds xs + line_feeds ys
feeds-append [] ys = omega arith
feeds-append (x ∷ xs) ys =
    let more = feeds-append xs ys in
    let one = line_feeds_cons x (xs ++ ys) in
    let other = line_feeds_cons x xs in
    omega (arith, one, other, more)

pub lines-append : (xs ys : List ℕ) → AreLines xs → AreLines ys → AreLines (xs ++ ys)
lines-append xs ys whole (inl none) = subst AreLines (sym (ap (λ (t : List ℕ). xs ++ t) none ∙ append-nil xs)) whole
lines-append xs ys whole (inr last) = inr (xs ++ last.0, ap (λ (t : List ℕ). xs ++ t) last.1 ∙ sym (append_assoc xs last.0 (10 ∷ [])))

pub held-on : (gone piece later text : List ℕ) (start : ℕ) → text ≡ gone ++ (piece ++ later) → text ≡ (gone ++ take start piece) ++ (drop start piece ++ later)
held-on gone piece later text start is =
    is ∙ (rw (append_assoc gone (take start piece) (drop start piece ++ later)) (ap (λ (t : List ℕ). gone ++ t)
    (ap (λ (t : List ℕ). t ++ later) (sym (take-append-drop start piece)) ∙ append_assoc (take start piece) (drop start piece) later)))

-- ---- the line of the cursor

before-here : (text : List ℕ) (c : Cursor) (end : IsEnd text c) → take (length text - length (rest c)) text ≡ end.gone ++ take c.at c.piece.items
before-here text c end =
    let before = end.gone ++ take c.at c.piece.items in
    let is : text ≡ before ++ rest c = held-on end.gone c.piece.items (text_of_chunks c.later.items) text c.at end.is in
    let many : length text - length (rest c) ≡ length before = omega (arith, ap (λ (t : List ℕ). length t) is, length-append before (rest c)) in
    rw many (ap (take (length before)) is ∙ take-append_seam before (rest c))

pub line-here : (text : List ℕ) (c : Cursor) (number : StateFaultNumber) (line : ℕ) → IsEnd text c → line ≡ c.lines + line_feeds (take c.at c.piece.items) + 1
    → ◌≡◌ {A = StateFault} (record { number = number; line = line }) (fault_with_line text (record { number = number; left = length (rest c) }))
line-here text c number line end is =
    let counted : line ≡ line_feeds (take (length text - length (rest c)) text) + 1 =
    rw (before-here text c end) (omega (arith, is, end.lines, feeds-append end.gone (take c.at c.piece.items))) in
    ap (with_number number) counted
  where
    with_number : StateFaultNumber → ℕ → StateFault
    with_number n l = record { number = n; line = l }

-- a refusal is the fault of the result of reading
pub refused-is : {Y : Type 0} (text : List ℕ) (fault : TextFault) (found : Result Y TextFault) (e : ChunkError) → found ≡ Err fault → IsRefusedState text fault e → FailsIn e (with_fault_line text found)
refused-is text fault found pieces.Memory is reported = tt
refused-is text fault found (pieces.Refused r) is reported = rw is (ap Err (sym reported))

-- ---- the first such byte

from-case : (here : Bool) (at i : ℕ) (one more : Option ℕ) → cond here (Some at) one ≡ Some i → (one ≡ Some i → more ≡ Some i) → cond here (Some at) more ≡ Some i
from-case true at i one more is on = is
from-case false at i one more is on = on is

from-on : (p : ℕ → Bool) (at : ℕ) (xs ys : List ℕ) (i : ℕ) → position_from p at xs ≡ Some i → position_from p at (xs ++ ys) ≡ Some i
from-on p at [] ys i is = absurd cc
from-on p at (x ∷ xs) ys i is = from-case (p x) at i (position_from p (at + 1) xs) (position_from p (at + 1) (xs ++ ys)) is (from-on p (at + 1) xs ys i)

-- its position is the same, whatever bytes follow
pub position-on : (p : ℕ → Bool) (xs ys : List ℕ) (i : ℕ) → position p xs ≡ Some i → position p (xs ++ ys) ≡ Some i
position-on p xs ys i is = position_from-zero p (xs ++ ys) ∙ from-on p 0 xs ys i (sym (position_from-zero p xs) ∙ is)
