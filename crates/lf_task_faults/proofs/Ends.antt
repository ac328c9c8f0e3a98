-- The lines of a text in its rest after whole lines.
use Rattle.std.proofs.Common.{◌≡◌, inl, inr, ℕ, suc, ◌+◌, ◌-◌, Bool, true, false, cond, List, [], ◌∷◌, ◌++◌, take, Option, None, Some, refl, sym, ap, subst, ◌∙◌, arith}
use Rattle.std.specs.Prelude.{option_map}
use Rattle.std.specs.List.{position_from}
use Rattle.std.proofs.lemmas.Iterator.Adapters.{position_from-zero}
use Rattle.lf_lex.specs.Tokens.{is_line_feed, line_feeds}
use Rattle.lf_lex.proofs.Scanning.{line_feeds_cons}
use Rattle.lf_state_text.specs.declared.refusal.StateRefused.{StateRefused}
use Rattle.lf_state_text.specs.Refused.{HasEnd}
use Rattle.lf_state_text.specs.Pieces.{AreLines}
use Rattle.lf_state_text.proofs.Held.{feeds-append}
use Rattle.lf_task_faults.specs.Refusals.{after_feed, after_line, after_lines, first_line, line_front}

-- ---- one line

shift-case : (here : Bool) (at : ℕ) (one more : Option ℕ) → one ≡ option_map (λ n. suc n) more → cond here (Some (suc at)) one ≡ option_map (λ n. suc n) (cond here (Some at) more)
shift-case true at one more is = refl
shift-case false at one more is = is

shift : (p : ℕ → Bool) (at : ℕ) (xs : List ℕ) → position_from p (suc at) xs ≡ option_map (λ n. suc n) (position_from p at xs)
shift p at [] = refl
shift p at (x ∷ xs) =
    let next : suc at + 1 ≡ suc (at + 1) = omega arith in
    shift-case (p x) at (position_from p (suc at + 1) xs) (position_from p (at + 1) xs) (rw next (shift p (at + 1) xs))

after_that_one : (b : ℕ) (bytes : List ℕ) (found : Option ℕ) → after_feed (b ∷ bytes) (option_map (λ n. suc n) found) ≡ after_feed bytes found
after_that_one b bytes None = refl
after_that_one b bytes (Some at) = let next : suc at + 1 ≡ suc (at + 1) = omega arith in rw next refl

ends_here : (b : ℕ) (bytes : List ℕ) → is_line_feed b ≡ true → after_line (b ∷ bytes) ≡ bytes
ends_here b bytes feed = ap (after_feed (b ∷ bytes)) (position_from-zero is_line_feed (b ∷ bytes)) ∙ rw feed refl

goes_on : (b : ℕ) (bytes : List ℕ) → is_line_feed b ≡ false → after_line (b ∷ bytes) ≡ after_line bytes
goes_on b bytes other =
    ap (after_feed (b ∷ bytes)) (position_from-zero is_line_feed (b ∷ bytes))
    ∙ rw other (ap (after_feed (b ∷ bytes)) (shift is_line_feed 0 bytes)
    ∙ after_that_one b bytes (position_from is_line_feed 0 bytes) ∙ ap (after_feed bytes) (sym (position_from-zero is_line_feed bytes)))

-- ---- whole lines

step : (feed : Bool) (b : ℕ) (before bytes : List ℕ) (k : ℕ) (rest : List ℕ) → is_line_feed b ≡ feed → after_lines (suc (line_feeds before + k)) bytes ≡ rest
    → after_lines (suc (line_feeds (b ∷ before) + k)) (b ∷ bytes) ≡ rest
step true b before bytes k rest is so_far =
    let more : line_feeds (b ∷ before) + k ≡ suc (line_feeds before + k) = rw (line_feeds_cons b before, is) (omega arith) in
    let next : after_lines (suc (suc (line_feeds before + k))) (b ∷ bytes) ≡ rest = ap (after_lines (suc (line_feeds before + k))) (ends_here b bytes is) ∙ so_far in
    subst (λ (n : ℕ). after_lines (suc n) (b ∷ bytes) ≡ rest) (sym more) next
step false b before bytes k rest is so_far =
    let same : line_feeds (b ∷ before) + k ≡ line_feeds before + k = rw (line_feeds_cons b before, is) (omega arith) in
    let next : after_lines (suc (line_feeds before + k)) (b ∷ bytes) ≡ rest = ap (after_lines (line_feeds before + k)) (goes_on b bytes is) ∙ so_far in
    subst (λ (n : ℕ). after_lines (suc n) (b ∷ bytes) ≡ rest) (sym same) next

lines_passed : (before more : List ℕ) (k : ℕ) → after_lines (suc (line_feeds before + k)) ((before ++ 10 ∷ []) ++ more) ≡ after_lines k more
lines_passed [] more k = let none : line_feeds [] + k ≡ k = omega arith in rw (none, ends_here 10 more refl) refl
lines_passed (b ∷ before) more k = step (is_line_feed b) b before ((before ++ 10 ∷ []) ++ more) k (after_lines k more) refl (lines_passed before more k)

after_it-gone : (gone more : List ℕ) (k : ℕ) → AreLines gone → after_lines (line_feeds gone + k) (gone ++ more) ≡ after_lines k more
after_it-gone gone more k (inl none) =
    subst (λ (g : List ℕ). after_lines (line_feeds g + k) (g ++ more) ≡ after_lines k more) (sym none) (let zero_more : line_feeds [] + k ≡ k = omega arith in rw zero_more refl)
after_it-gone gone more k (inr (before, is)) =
    let counted : line_feeds (before ++ 10 ∷ []) + k ≡ suc (line_feeds before + k) = rw (feeds-append before (10 ∷ [])) (omega arith) in
    subst (λ (g : List ℕ). after_lines (line_feeds g + k) (g ++ more) ≡ after_lines k more) (sym is) (rw counted (lines_passed before more k))

-- The line of the fault begins alike in the rest of the text.
pub shown-in-end : (text : List ℕ) (r : StateRefused) → HasEnd text r → line_front r.end.items (Some (r.fault.line - r.lines)) ≡ line_front text (Some r.fault.line)
shown-in-end text r end =
    let lines_is = end.lines in
    let less = end.after_it in
    let number : r.fault.line - 1 ≡ line_feeds end.gone + (r.fault.line - r.lines - 1) = omega (arith, lines_is, less) in
    let left = r.fault.line - r.lines - 1 in
    let whole : after_lines (line_feeds end.gone + left) text ≡ after_lines left r.end.items =
    ap (after_lines (line_feeds end.gone + left)) end.is ∙ after_it-gone end.gone r.end.items left end.whole in
    let same : after_lines (r.fault.line - 1) text ≡ after_lines left r.end.items = subst (λ (n : ℕ). after_lines n text ≡ after_lines left r.end.items) (sym number) whole in
    ap (λ (b : List ℕ). take 80 (first_line b)) (sym same)
