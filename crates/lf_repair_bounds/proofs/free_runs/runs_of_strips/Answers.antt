use Rattle.std.proofs.Common.{pos, refl}
use Rattle.std.proofs.lemmas.Bool.{false≢true}
use Rattle.lf_segments.specs.declared.strip.Strip.{Strip}
use Rattle.lf_repair_bounds.proofs.TeamRunLemmas.{runs_more, runs_skip}
use Rattle.lf_repair_bounds.proofs.free_runs.runs_of_strips.Goals as goal

abbrev no_strip : Strip
no_strip = record { row = 0; team = 0; area = record { x1 = pos 0; y1 = pos 0; x2 = pos 0; y2 = pos 0 } }

pub loop-strip-preserved-then-not-is_of : goal.loop-strip-preserved-then-not-is_of
loop-strip-preserved-then-not-is_of c =
    runs_skip c.args.frame.now c.args.team c.args.tree.now c.args.strips.now c.loop-strip.strip-index no_strip c.loop-strip.runs.items
    (λ own. false≢true (c.if-not-is_of.ensures.1 own)) c.loop-strip-test.true c.loop-strip.invariant

pub loop-strip-preserved : goal.loop-strip-preserved
loop-strip-preserved c =
    runs_more c.args.frame.now c.args.team c.args.tree.now c.args.strips.now c.loop-strip.strip-index no_strip c.loop-strip.runs.items _ _
    c.in_ok-run.ensures c.loop-strip-test.true (c.if-not-is_of.ensures.0 refl) c.in_ok-push.ensures.items c.loop-strip.invariant
