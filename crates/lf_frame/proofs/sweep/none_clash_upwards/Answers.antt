use Rattle.std.proofs.Common.{◌+◌, refl, arith}
use Rattle.lf_frame.proofs.Pieces.{none_from_more, none_of_pairs, none_of_all, rise_after}
use Rattle.lf_frame.proofs.sweep.none_clash_upwards.Goals as goal

pub returns-then-not-clashes_with_none : goal.returns-then-not-clashes_with_none
returns-then-not-clashes_with_none c = (
  λ t. cc,
  λ h. let t = c.clashes_with_none.ensures.1 (rw c.after_it.ensures (none_of_all c.args.pieces.now c.loop-number.number _ c.loop-number-test.true h)) in cc,
)

pub loop-number-preserved : goal.loop-number-preserved
loop-number-preserved c =
    none_from_more c.args.pieces.now c.loop-number.number _ c.loop-number-test.true
    (rw c.after_it.ensures at (c.clashes_with_none.ensures.0 c.if-not-clashes_with_none.false)) c.loop-number.invariant

pub returns : goal.returns
returns c = (
  λ t. none_of_pairs c.args.pieces.now (λ k j d below. c.loop-number.invariant k j d (omega arith)),
  λ h. refl,
)

pub clashes_with_none-requires : goal.clashes_with_none-requires
clashes_with_none-requires c = rw c.after_it.ensures (rise_after c.args.pieces.now (c.loop-number.number + 1) c.requires)
