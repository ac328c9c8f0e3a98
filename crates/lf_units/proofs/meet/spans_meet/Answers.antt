use Rattle.std.proofs.Common.{arith}
use Rattle.std.proofs.lemmas.Int.{ints}
use Rattle.lf_units.proofs.Overlaps.{past_first_at, past_second_at, first_passed, second_passed}
use Rattle.lf_units.proofs.meet.spans_meet.Goals as goal

pub returns-then-b-j : goal.returns-then-b-j
returns-then-b-j c = second_passed c.args.a.now c.args.b.now c.loop-i.overlapping_one.items c.loop-i.i c.loop-i.j c.loop-i.invariant (omega arith)

pub loop-i-preserved-then-first-second : goal.loop-i-preserved-then-first-second
loop-i-preserved-then-first-second c =
    past_first_at c.args.a.now c.args.b.now c.loop-i.overlapping_one.items c.push_filled.new.spans.items c.loop-i.i c.loop-i.j _ _ _ (omega arith) (omega arith)
    c.loop-i.invariant c.overlap.ensures c.in_ok-push_filled.ensures (grind (arith, ints))

pub loop-i-preserved : goal.loop-i-preserved
loop-i-preserved c =
    past_second_at c.args.a.now c.args.b.now c.loop-i.overlapping_one.items c.push_filled.new.spans.items c.loop-i.i c.loop-i.j _ _ _ (omega arith) (omega arith)
    c.loop-i.invariant c.overlap.ensures c.in_ok-push_filled.ensures (grind (arith, ints))

pub returns : goal.returns
returns c = first_passed c.args.a.now c.args.b.now c.loop-i.overlapping_one.items c.loop-i.i c.loop-i.j c.loop-i.invariant (omega arith)
