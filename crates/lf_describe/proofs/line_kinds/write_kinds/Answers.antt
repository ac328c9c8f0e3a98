use Rattle.std.proofs.Common.{◌∙◌}
use Rattle.std.proofs.lemmas.Option.{slice_get-get_or}
use Rattle.lf_describe.specs.Parts.{part_text}
use Rattle.lf_describe.proofs.Pieces.{after_piece, cut_piece, on_err}
use Rattle.lf_describe.proofs.line_kinds.write_kinds.Goals as goal

pub returns-in_err-put_part-clause-err : goal.returns-in_err-put_part-clause-err
returns-in_err-put_part-clause-err g c =
    let parts = c.args.parts.now in
    on_err c.from_residual.result
    (cut_piece (part_text c.args.design.now) parts c.loop-part.part-index _ _ _ _ c.args.waiting.now.items c.loop-part.waiting.items (slice_get-get_or parts c.loop-part.part-index _ c.loop-part-test.true)
    c.loop-part.invariant.left c.in_err-put_part.ensures.err)

pub loop-part-preserved : goal.loop-part-preserved
loop-part-preserved g c =
    let parts = c.args.parts.now in
    record {
      left = after_piece (part_text c.args.design.now) parts c.loop-part.part-index _ _ _ _ c.args.waiting.now.items c.loop-part.waiting.items _ (slice_get-get_or parts c.loop-part.part-index _ c.loop-part-test.true)
          c.loop-part.invariant.left c.in_ok-put_part.ensures.ok;
      failed = c.in_ok-put_part.ensures.failed ∙ c.loop-part.invariant.failed;
      held = c.in_ok-put_part.ensures.held ∙ c.loop-part.invariant.held;
    }
