use Rattle.std.proofs.Common.{take}
use Rattle.std.specs.Prelude.{All, IfSome}
use Rattle.lf_state_text.specs.Saved.{IsSpot}
use Rattle.lf_state_text.proofs.known_ranges.moves_known.Given as goal

abbrev pub invariant-loop-known : goal.invariant-loop-known
invariant-loop-known l = All (λ m. IfSome m.place IsSpot) (take l.known-index l.known-items)
