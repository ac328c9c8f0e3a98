use Rattle.std.proofs.Common.{◌∙◌, arith}
use Rattle.lf_io.proofs.Known.{Appends-more, Appends-same, joined}
use Rattle.lf_io.proofs.sender.send.Goals as goal

pub loop-at-preserved : goal.loop-at-preserved
loop-at-preserved g c = record {
  within = omega (arith, c.in_ok-at.ensures.bound);
  written = Appends-same _ _ _ _ (joined c.loop-at.at c.in_ok-at.field-0 c.args.bytes.now) (Appends-more _ _ _ _ _ c.loop-at.invariant.written c.in_ok-at.ensures.bytes);
  kept = grind (arith, c.in_ok-at.ensures.failed, c.loop-at.invariant.kept);
  held = c.in_ok-at.ensures.held ∙ c.loop-at.invariant.held;
}
