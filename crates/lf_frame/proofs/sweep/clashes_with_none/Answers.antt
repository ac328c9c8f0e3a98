use Rattle.std.proofs.Common.{refl}
use Rattle.lf_frame.proofs.Pieces.{none_after}
use Rattle.lf_frame.proofs.sweep.clashes_with_none.Goals as goal

pub returns-then-is_below : goal.returns-then-is_below
returns-then-is_below c = (
  λ t. none_after c.args.piece.now c.args.after_it.now c.loop-other.other-index _ c.loop-other-test.true c.requires (c.if-is_below.ensures.0 refl) c.loop-other.invariant,
  λ h. refl,
)
