use Rattle.std.proofs.Common.{◌≡◌, ◌≢◌, ◌++◌, ℕ, length}
use Rattle.lf_undo.specs.Stacks.{stack_of}
use Rattle.lf_floor.proofs.restored_entries.push_entries.Given as goal

-- the remaining entries and those of the stack are all entries
abbrev pub invariant-loop-left : goal.invariant-loop-left
invariant-loop-left l = record {
  whole : l.left.items ++ stack_of l.undo l.team ≡ l.fn.entries.items;
  others : (other : ℕ) → other ≢ l.team → stack_of l.undo other ≡ stack_of l.fn.undo other;
  teams : length l.undo.lists ≡ length l.fn.undo.lists;
  limit : l.undo.limit ≡ l.fn.undo.limit;
}

abbrev pub decreases-loop-left : goal.decreases-loop-left
decreases-loop-left l = length l.left.items
