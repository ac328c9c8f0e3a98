use Rattle.std.proofs.Common.{◌≡◌, List, ℕ, length}
use Rattle.lf_state_text.specs.Pieces.{IsEnd, rest}
use Rattle.lf_state_text.proofs.cursor_steps.is_done.Given as goal

abbrev pub invariant-loop-cursor : goal.invariant-loop-cursor
invariant-loop-cursor l = record {
  same : rest l.cursor ≡ rest l.initial.cursor;
  ends : (text : List ℕ) → IsEnd text l.initial.cursor → IsEnd text l.cursor;
}

abbrev pub decreases-loop-cursor : goal.decreases-loop-cursor
decreases-loop-cursor l = length l.cursor.later.items
