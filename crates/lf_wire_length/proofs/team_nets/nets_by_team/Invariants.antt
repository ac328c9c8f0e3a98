use Rattle.std.proofs.Common.{◌≡◌, ◌<◌, ℕ, [], length, map, filter, get_or}
use Rattle.std.specs.List.{range_with_len}
use Rattle.lf_wire_length.specs.Stored.{stored_nets}
use Rattle.lf_wire_length.specs.TeamNets.{is_net_of}
use Rattle.lf_wire_length.proofs.team_nets.nets_by_team.Given as goal

-- the nets so far of each team
abbrev pub invariant-loop-net : goal.invariant-loop-net
invariant-loop-net l = record {
  many : length l.lists.items ≡ l.teams;
  each : (own : ℕ) → own < l.teams
      → get_or (map (λ list. list.items) l.lists.items) own [] ≡ filter (is_net_of l.owners (stored_nets l.stored) own) (range_with_len 0 l.net);
}
