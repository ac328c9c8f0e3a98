use Rattle.std.proofs.Common.{◌≡◌, ◌+◌, ◌≤◌, drop, arith}
use Rattle.lf_journal_run.specs.Texts.{same_lines}
use Rattle.lf_journal_run.proofs.Differences.{same_byte, same_feed, same_other, same_past, same_past_other}
use Rattle.lf_journal_run.proofs.texts.same_lines.Goals as goal
use Rattle.lf_journal_run.proofs.texts.same_lines.Goals.{then-text-at-eq10, else-text-at-eq10}

pub returns-then-text-at : goal.returns-then-text-at
returns-then-text-at c =
    let none = same_other c.loop-at.at c.args.text.now c.args.other.now c.loop-at-test.true c.if-at-other.true c.if-text-at.true in
    omega (arith, c.loop-at.invariant.counts, none)

pub loop-at-preserved : goal.loop-at-preserved
loop-at-preserved c =
    let at = c.loop-at.at in
    let xs = c.args.text.now in
    let ys = c.args.other.now in
    let i = c.loop-at.invariant in
    let rest = same_lines (drop (at + 1) xs) (drop (at + 1) ys) in
    let few : c.if-text-at-eq10.count ≤ at + 1 = elim c.if-text-at-eq10.branch [
      | then-text-at-eq10 w ↦ omega (arith, i.few, w.count-is)
      | else-text-at-eq10 w ↦ omega (arith, i.few, w.count-is)
    ] in
    let counts : c.if-text-at-eq10.count + rest ≡ same_lines xs ys = elim c.if-text-at-eq10.branch [
      | then-text-at-eq10 w ↦ omega (arith, i.counts, w.count-is, same_feed at xs ys c.loop-at-test.true c.if-at-other.true c.if-text-at.false w.if-text-at-eq10.true)
      | else-text-at-eq10 w ↦ omega (arith, i.counts, w.count-is, same_byte at xs ys c.loop-at-test.true c.if-at-other.true c.if-text-at.false w.if-text-at-eq10.false)
    ] in
    record { within = omega (arith, c.loop-at-test.true); within_other = omega (arith, c.if-at-other.true); few = few; counts = counts }

pub returns-else-at-other : goal.returns-else-at-other
returns-else-at-other c =
    let none = same_past_other c.loop-at.at c.args.text.now c.args.other.now c.if-at-other.false in
    omega (arith, c.loop-at.invariant.counts, none)

pub returns-after-loop-at : goal.returns-after-loop-at
returns-after-loop-at c =
    let none = same_past c.loop-at.at c.args.text.now c.args.other.now c.loop-at-test.false in
    omega (arith, c.loop-at.invariant.counts, none)
