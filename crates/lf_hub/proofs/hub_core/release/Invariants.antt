use Rattle.std.proofs.Common.{◌≡◌, drop}
use Rattle.lf_hub.specs.Machine.{released_at}
use Rattle.lf_hub.proofs.hub_core.release.Given as goal

-- what the remaining slots make of the clients is the same at each slot
abbrev pub invariant-loop-slot : goal.invariant-loop-slot
invariant-loop-slot l = released_at (drop l.slot-index l.slots) l.clients ≡ released_at l.slots l.fn.clients
