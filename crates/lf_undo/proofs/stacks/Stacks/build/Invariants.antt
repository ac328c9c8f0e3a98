use Rattle.std.proofs.Common.{◌≡◌, ◌≤◌, [], map, replicate, All, deque_items, deque_capacity}
use Rattle.lf_undo.proofs.stacks.Stacks.build.Given as goal

-- Queues in this number, each empty and with room for the keys.
abbrev pub invariant-loop : goal.invariant-loop
invariant-loop g l =
    (map deque_items l.keys.items ≡ replicate l.counter [])
    × All (λ queue. l.limit ≤ deque_capacity queue) l.keys.items
