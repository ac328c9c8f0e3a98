use Rattle.std.proofs.Common.{◌≡◌, List, ℕ, length}
use Rattle.lf_state_text.specs.Pieces.{IsEnd, rest}
use Rattle.lf_state_text.proofs.refusal.join_all.Given as goal

abbrev pub invariant-loop : goal.invariant-loop
invariant-loop l = record {
  same : rest l.cursor ≡ rest l.initial.cursor;
  ends : (text : List ℕ) → IsEnd text l.initial.cursor → IsEnd text l.cursor;
}

abbrev pub decreases-loop : goal.decreases-loop
decreases-loop l = length l.cursor.later.items
