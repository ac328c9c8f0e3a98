use Rattle.std.proofs.Common.{◌≡◌, ◌≢◌, ℕ, drop, length}
use Rattle.std.specs.Prelude.{All}
use Rattle.lf_occupancy.specs.Views.{KeepsCapacities}
use Rattle.lf_undo.specs.Entries.{Places, entries_of}
use Rattle.lf_placement.specs.Placements.{BoundsAt, Fits, Placing, SameButRooms}
use Rattle.lf_floor.proofs.restored_entries.fit_entries.Given as goal

-- if there is room for the places before the remaining entries, there is room for those before all
-- entries
abbrev pub invariant-loop-moves : goal.invariant-loop-moves
invariant-loop-moves l = record {
  rest : (p : Placing) → SameButRooms l.placement p → All (Fits p l.team) (entries_of l.places (drop l.moves-index l.entries))
      → All (Fits p l.team) (entries_of l.fn.places l.entries);
  room : KeepsCapacities l.counts l.placement.held.rooms;
  bounds : BoundsAt l.placement l.team l.places l.counts;
  many : length l.places ≡ length l.fn.places;
  same : SameButRooms l.fn.placement l.placement;
  others : (at : Places) → (other : ℕ) → other ≢ l.team → BoundsAt l.fn.placement other at l.fn.counts → BoundsAt l.placement other at l.counts;
}
