use Rattle.std.proofs.Common.{◌≡◌, map, take}
use Rattle.lf_occupancy.specs.Building.{id_at}
use Rattle.lf_occupancy.proofs.build.all_waiting.Given as goal

-- the cells so far are those of the ids visited
abbrev pub invariant-loop-number : goal.invariant-loop-number
invariant-loop-number l = map (id_at l.ids) l.list.items ≡ take l.number l.ids
