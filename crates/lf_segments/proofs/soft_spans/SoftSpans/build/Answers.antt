use Rattle.std.proofs.Common.{List, [], ◌∷◌, ◌++◌, ap, ◌∙◌, arith}
use Rattle.lf_units.specs.declared.span.Span.{Span}
use Rattle.lf_segments.specs.Soft.{lists_from}
use Rattle.lf_segments.proofs.SoftLemmas.{soft_more}
use Rattle.lf_segments.proofs.soft_spans.SoftSpans.build.Goals as goal

pub loop-strip-preserved : goal.loop-strip-preserved
loop-strip-preserved c =
    let old = lists_from c.loop-strip.spans.items c.loop-strip.starts.items in
    record {
      starts = c.in_ok-push_piece.ensures.starts;
      soft = soft_more c.args.frame.now c.args.strips.now c.loop-strip.strip-index _ old _ c.in_ok-more.more.items (omega arith) c.loop-strip.invariant.soft
          c.in_ok-more.ensures
          (c.in_ok-push_piece.ensures.pieces ∙ ap (λ (xs : List Span). old ++ xs ∷ []) c.as_slice.ensures.value);
    }
