use Rattle.std.proofs.Common.{refl, arith}
use Rattle.std.proofs.lemmas.Bool.{false≢true}
use Rattle.lf_units.proofs.Entries.{frees_all, frees_on, skips}
use Rattle.lf_units.proofs.minus.free_spans_in.Goals as goal

pub loop-entry-preserved-then-not-is_filled : goal.loop-entry-preserved-then-not-is_filled
loop-entry-preserved-then-not-is_filled g c =
    skips g.T.HasSpan.span c.args.taken.now c.args.range.now c.loop-entry.free.items c.loop-entry.rest c.loop-entry.entry-index c.entry-item.result
    c.span-span.result (omega arith) c.entry-item.is c.span-span.ensures c.loop-entry.invariant
    (λ filled. false≢true (c.if-not-is_filled.ensures.1 filled))

pub loop-entry-preserved : goal.loop-entry-preserved
loop-entry-preserved g c =
    frees_on g.T.HasSpan.span c.args.taken.now c.args.range.now c.loop-entry.free.items c.push_filled.new.spans.items c.loop-entry.rest
    c.after_it-rest.result _ c.loop-entry.entry-index c.entry-item.result c.span-span.result c.requires (omega arith) c.entry-item.is
    c.span-span.ensures c.loop-entry.invariant (c.if-not-is_filled.ensures.0 refl) c.before-in-loop-entry.ensures c.after_it-rest.ensures
    c.in_ok-push_filled.ensures

pub returns : goal.returns
returns g c =
    frees_all g.T.HasSpan.span c.args.taken.now c.args.range.now c.loop-entry.free.items c.push_filled-2.new.spans.items c.loop-entry.rest
    c.loop-entry.entry-index (omega arith) c.loop-entry.invariant c.in_ok-push_filled-2.ensures
