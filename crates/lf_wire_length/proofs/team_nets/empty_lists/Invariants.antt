use Rattle.std.proofs.Common.{◌≡◌, [], map, replicate}
use Rattle.lf_wire_length.proofs.team_nets.empty_lists.Given as goal

-- as many empty lists as rounds so far
abbrev pub invariant-loop : goal.invariant-loop
invariant-loop l = map (λ list. list.items) l.lists.items ≡ replicate l.counter []
