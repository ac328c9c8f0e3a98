use Rattle.std.proofs.Common.{◌≡◌, List, ℕ, length}
use Rattle.lf_state_text.specs.Pieces.{IsEnd, rest}
use Rattle.lf_state_text.proofs.cursor_steps.find.Given as goal

abbrev pub invariant-loop-at : goal.invariant-loop-at
invariant-loop-at l = record {
  same : rest l.cursor ≡ rest l.initial.cursor;
  ends : (text : List ℕ) → IsEnd text l.initial.cursor → IsEnd text l.cursor;
}

abbrev pub decreases-loop-at : goal.decreases-loop-at
decreases-loop-at l = length l.cursor.later.items
