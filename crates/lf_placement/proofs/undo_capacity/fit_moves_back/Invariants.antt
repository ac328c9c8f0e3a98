use Rattle.std.proofs.Common.{◌≡◌, ◌≢◌, ℕ, length, take}
use Rattle.lf_occupancy.specs.Views.{KeepsCapacities}
use Rattle.lf_undo.specs.Entries.{Places, moves_taken_back}
use Rattle.lf_placement.specs.Placements.{BoundsAt, SameButRooms}
use Rattle.lf_placement.proofs.undo_capacity.fit_moves_back.Given as goal

-- undoing the remaining moves gives the same places as undoing all
abbrev pub invariant-loop-at : goal.invariant-loop-at
invariant-loop-at l = record {
  left : moves_taken_back (take l.at l.moves) l.places ≡ moves_taken_back l.fn.moves l.fn.places;
  many : length l.places ≡ length l.fn.places;
  room : KeepsCapacities l.counts l.placement.held.rooms;
  bounds : BoundsAt l.placement l.team l.places l.counts;
  others : (at : Places) (other : ℕ) → other ≢ l.team → BoundsAt l.fn.placement other at l.fn.counts → BoundsAt l.placement other at l.counts;
  same : SameButRooms l.fn.placement l.placement;
}
