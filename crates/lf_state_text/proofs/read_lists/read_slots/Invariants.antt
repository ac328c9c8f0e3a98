use Rattle.std.proofs.Common.{◌≡◌, ◌-◌, List, ℕ}
use Rattle.lf_state_text.specs.Pieces.{IsEnd, rest}
use Rattle.lf_state_text.specs.Reading.{many_at, slot_at}
use Rattle.lf_state_text.proofs.Loop.{with_front}
use Rattle.lf_state_text.proofs.read_lists.read_slots.Given as goal

abbrev pub invariant-loop : goal.invariant-loop
invariant-loop l = record {
  read : with_front l.items.items (many_at (slot_at l.revision) (l.count - l.counter) (rest l.cursor)) ≡ many_at (slot_at l.revision) l.count (rest l.fn.cursor);
  ends : (text : List ℕ) → IsEnd text l.fn.cursor → IsEnd text l.cursor;
}
