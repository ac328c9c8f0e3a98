use Rattle.std.proofs.Common.{◌≡◌, length}
use Rattle.lf_tests_basics.proofs.undo.fill.Given as goal

-- The number of teams is unchanged.
abbrev pub invariant-loop : goal.invariant-loop
invariant-loop l = length l.store.lists ≡ length l.initial.store.lists
