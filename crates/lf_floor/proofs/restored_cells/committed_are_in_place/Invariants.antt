use Rattle.std.proofs.Common.{map}
use Rattle.lf_floor.proofs.Placed.{ArePlacedSoFar}
use Rattle.lf_floor.proofs.restored_cells.committed_are_in_place.Given as goal

-- the cells so far are at their places
abbrev pub invariant-loop-own : goal.invariant-loop-own
invariant-loop-own l = ArePlacedSoFar l.team l.own (map (λ c. c.committed) l.saved) l.fn.cells l.cells
