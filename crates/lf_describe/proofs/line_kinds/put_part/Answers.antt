use Rattle.std.proofs.Common.{◌∙◌, arith}
use Rattle.lf_describe.specs.Description.{line_text}
use Rattle.lf_describe.specs.Parts.{part_lines}
use Rattle.lf_describe.proofs.Pieces.{after_piece, cut_piece, on_err, there_is}
use Rattle.lf_describe.proofs.line_kinds.put_part.Goals as goal

pub returns-in_err-put_number-clause-err : goal.returns-in_err-put_number-clause-err
returns-in_err-put_number-clause-err g c =
    let lines = part_lines c.args.design.now c.args.part in
    let there = there_is lines c.loop-number.number (omega (arith, c.loop-number-test.true, c.count_in-number-end.ensures)) in
    on_err c.from_residual.result
    (cut_piece line_text lines c.loop-number.number there.0 _ _ _ c.args.waiting.now.items c.loop-number.waiting.items there.1 c.loop-number.invariant.left (c.in_err-put_number.ensures.err there.0 there.1))

pub loop-number-preserved : goal.loop-number-preserved
loop-number-preserved g c =
    let lines = part_lines c.args.design.now c.args.part in
    let there = there_is lines c.loop-number.number (omega (arith, c.loop-number-test.true, c.count_in-number-end.ensures)) in
    record {
      left = after_piece line_text lines c.loop-number.number there.0 _ _ _ c.args.waiting.now.items c.loop-number.waiting.items _ there.1 c.loop-number.invariant.left (c.in_ok-put_number.ensures.ok there.0 there.1);
      failed = c.in_ok-put_number.ensures.failed ∙ c.loop-number.invariant.failed;
      held = c.in_ok-put_number.ensures.held ∙ c.loop-number.invariant.held;
    }
