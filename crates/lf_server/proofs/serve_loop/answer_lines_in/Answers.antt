use Rattle.std.proofs.Common.{◌∙◌, arith, rules}
use Rattle.lf_server.proofs.Steps.{stays_join, piece_done, piece_on, piece_stop}
use Rattle.lf_server.proofs.serve_loop.answer_lines_in.Goals as goal

pub returns-in-Some-clause-serves : goal.returns-in-Some-clause-serves
returns-in-Some-clause-serves g c = λ l.
    piece_stop l _ _ _ c.args.left.now c.loop-at.left c.take_line-used.new.left c.args.floor.now c.loop-at.floor c.take_line-used.new.floor c.args.framer.now.pending c.loop-at.framer.pending c.take_line-used.new.framer.pending
    c.args.piece.now c.loop-at.at c.take_line-used.result.0 c.take_line-used.result.1 c.in-Some.ending c.in-Some.is (c.loop-at.invariant.goes l) (c.take_line-used.ensures.serves l)

pub loop-at-preserved : goal.loop-at-preserved
loop-at-preserved g c = record {
  within = omega (arith, c.take_line-used.ensures.used);
  counts = omega (arith, c.take_line-used.ensures.left, c.loop-at.invariant.counts);
  stays = stays_join c.args.floor.now c.loop-at.floor c.take_line-used.new.floor c.loop-at.invariant.stays c.take_line-used.ensures.stays;
  sink = search rules;
  held = c.take_line-used.ensures.held ∙ c.loop-at.invariant.held;
  goes = λ l. piece_on l _ _ _ c.args.left.now c.loop-at.left c.take_line-used.new.left c.args.floor.now c.loop-at.floor c.take_line-used.new.floor c.args.framer.now.pending c.loop-at.framer.pending c.take_line-used.new.framer.pending
      c.args.piece.now c.loop-at.at c.take_line-used.result.0 c.take_line-used.result.1 c.in-None.is (c.loop-at.invariant.goes l) (c.take_line-used.ensures.serves l);
}

pub returns-clause-serves : goal.returns-clause-serves
returns-clause-serves g c = λ l.
    piece_done l _ _ c.args.left.now c.loop-at.left c.args.floor.now c.loop-at.floor c.args.framer.now.pending c.loop-at.framer.pending c.args.piece.now c.loop-at.at c.loop-at-test.false (c.loop-at.invariant.goes l)

pub returns-in-Some-clause-stays : goal.returns-in-Some-clause-stays
returns-in-Some-clause-stays g c =
    stays_join c.args.floor.now c.loop-at.floor c.take_line-used.new.floor c.loop-at.invariant.stays c.take_line-used.ensures.stays
