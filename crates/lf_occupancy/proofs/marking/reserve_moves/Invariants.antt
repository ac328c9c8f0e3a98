use Rattle.std.proofs.Common.{length, take}
use Rattle.std.specs.Prelude.{All, IfSome}
use Rattle.lf_occupancy.specs.Strips.{KeepMarksOf, HaveRoom, OverlapsStrip}
use Rattle.lf_occupancy.specs.Widened.{all_widened}
use Rattle.lf_occupancy.proofs.marking.reserve_moves.Given as goal

-- all strips keep their marks, and there is room for the moves visited
abbrev pub invariant-loop-id : goal.invariant-loop-id
invariant-loop-id l = record {
  kept : KeepMarksOf l.initial.mark_lists.items l.mark_lists.items;
  room : All (λ m. IfSome m.1 (λ rect. HaveRoom (OverlapsStrip (all_widened l.strips) m.0.team rect) (length l.moves) l.mark_lists.items)) (take l.id-index l.moves);
}
