use Rattle.std.proofs.Common.{◌≡◌, ◌<◌, ℕ, [], length, map, take, fold, get_or}
use Rattle.lf_wire_length.specs.TeamNets.{with_owner_of}
use Rattle.lf_wire_length.proofs.team_nets.add_pins.Given as goal

-- each list with the net, if a pin so far is of its team
abbrev pub invariant-loop-pin : goal.invariant-loop-pin
invariant-loop-pin l = record {
  many : length l.lists.items ≡ length l.initial.lists.items;
  each : (own : ℕ) → own < length l.initial.lists.items
      → get_or (map (λ list. list.items) l.lists.items) own []
      ≡ fold (with_owner_of l.rows l.owners own l.net) (get_or (map (λ list. list.items) l.initial.lists.items) own []) (take l.pin-index l.pins);
}
