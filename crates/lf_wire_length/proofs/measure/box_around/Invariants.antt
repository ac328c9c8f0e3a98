use Rattle.std.proofs.Common.{◌≡◌, None, take, IfSome, fold}
use Rattle.lf_wire_length.specs.Boxes.{IsDesignBox, box_after}
use Rattle.lf_wire_length.proofs.measure.box_around.Given as goal

-- the box of the pins so far
abbrev pub invariant-loop-pin : goal.invariant-loop-pin
invariant-loop-pin g l = record {
  box_so_far : l.seen ≡ fold (box_after (g.P.PlacedCells.place_of l.places) l.rows) None (take l.pin-index l.pins);
  in_range : IfSome l.seen IsDesignBox;
}
