use Rattle.std.proofs.Common.{◌∙◌, arith, refl, take, []}
use Rattle.lf_io.proofs.Known.{Consumes-none}
use Rattle.lf_server.proofs.Steps.{stays_join, stays_none}
use Rattle.lf_server.proofs.Finishing.{goes_start, keeps_itself, read_end, read_fault, read_on, read_stop}
use Rattle.lf_server.proofs.serve_loop.serve_lines.Goals as goal

pub loop-reads_left-init : goal.loop-reads_left-init
loop-reads_left-init g c = record {
  counted = omega arith;
  counts = omega arith;
  stays = stays_none c.args.floor.now;
  sink = refl;
  source = refl;
  sink_held = refl;
  source_held = refl;
  goes = λ l. ([], Consumes-none (g.S.Source.remaining c.args.source.now), goes_start l _ c.args.left.now.lines c.args.floor.now c.args.framer.now.pending c.requires.fresh);
}

pub returns-in_default-clause-serves : goal.returns-in_default-clause-serves
returns-in_default-clause-serves g c = λ l.
    let h = c.loop-reads_left.invariant.goes l in
    read_fault l (g.S.Source.remaining c.args.source.now) (g.S.Source.remaining c.loop-reads_left.source) (g.S.Source.remaining c.read.new.self) _ _ c.args.left.now.lines c.loop-reads_left.left.lines c.args.floor.now c.loop-reads_left.floor c.loop-reads_left.framer.pending h.0 h.1 c.in_default.ensures.bytes h.2

pub returns-then-count-eq0-clause-serves : goal.returns-then-count-eq0-clause-serves
returns-then-count-eq0-clause-serves g c = λ l.
    let h = c.loop-reads_left.invariant.goes l in
    read_end l c.finish.result (g.S.Source.remaining c.args.source.now) (g.S.Source.remaining c.loop-reads_left.source) (g.S.Source.remaining c.read.new.self) _ _ _ c.args.left.now.lines c.loop-reads_left.left.lines c.finish.new.left c.args.floor.now c.loop-reads_left.floor c.finish.new.floor c.loop-reads_left.framer.pending
    h.0 c.read.new.buffer c.in-Ok.count c.if-count-eq0.true h.1 c.in-Ok.ensures.bytes.0 (c.in-Ok.ensures.bytes.1 c.if-count-eq0.true (omega (arith, c.read.auto.buffer))) h.2 (c.finish.ensures.serves l)

pub returns-in-Some-clause-serves : goal.returns-in-Some-clause-serves
returns-in-Some-clause-serves g c = λ l.
    let h = c.loop-reads_left.invariant.goes l in
    read_stop l c.in-Some.ending (g.S.Source.remaining c.args.source.now) (g.S.Source.remaining c.loop-reads_left.source) (g.S.Source.remaining c.read.new.self) _ _ _ c.args.left.now.lines c.loop-reads_left.left.lines c.answer_lines_in.new.left c.args.floor.now c.loop-reads_left.floor c.answer_lines_in.new.floor c.loop-reads_left.framer.pending
    h.0 (take c.in-Ok.count c.read.new.buffer) h.1 c.in-Ok.ensures.bytes.0 h.2 (c.in-Some.ensures.serves l)

pub loop-reads_left-preserved : goal.loop-reads_left-preserved
loop-reads_left-preserved g c = record {
  counted = omega (arith, c.loop-reads_left.invariant.counted, c.read.ensures.counted, c.loop-reads_left-test.true);
  counts = omega (arith, c.answer_lines_in.ensures.left, c.loop-reads_left.invariant.counts);
  stays = stays_join c.args.floor.now c.loop-reads_left.floor c.answer_lines_in.new.floor c.loop-reads_left.invariant.stays c.answer_lines_in.ensures.stays;
  sink = c.in-None.ensures.health ∙ c.loop-reads_left.invariant.sink;
  source = grind (arith, c.in-Ok.ensures.failed, c.loop-reads_left.invariant.source);
  sink_held = c.answer_lines_in.ensures.held ∙ c.loop-reads_left.invariant.sink_held;
  source_held = c.read.ensures.held ∙ c.loop-reads_left.invariant.source_held;
  goes = λ l. let h = c.loop-reads_left.invariant.goes l in
      read_on l (g.S.Source.remaining c.args.source.now) (g.S.Source.remaining c.loop-reads_left.source) (g.S.Source.remaining c.read.new.self) _ _ _ c.args.left.now.lines c.loop-reads_left.left.lines c.answer_lines_in.new.left c.args.floor.now c.loop-reads_left.floor c.answer_lines_in.new.floor c.loop-reads_left.framer.pending c.answer_lines_in.new.framer.pending
      h.0 (take c.in-Ok.count c.read.new.buffer) h.1 c.in-Ok.ensures.bytes.0 h.2 (c.in-None.ensures.serves l);
}

pub returns-clause-serves : goal.returns-clause-serves
returns-clause-serves g c = λ l.
    let h = c.loop-reads_left.invariant.goes l in
    read_fault l (g.S.Source.remaining c.args.source.now) (g.S.Source.remaining c.loop-reads_left.source) (g.S.Source.remaining c.loop-reads_left.source) _ _ c.args.left.now.lines c.loop-reads_left.left.lines c.args.floor.now c.loop-reads_left.floor c.loop-reads_left.framer.pending h.0 h.1 (keeps_itself (g.S.Source.remaining c.loop-reads_left.source)) h.2

pub returns-then-count-eq0-clause-stays : goal.returns-then-count-eq0-clause-stays
returns-then-count-eq0-clause-stays g c =
    stays_join c.args.floor.now c.loop-reads_left.floor c.finish.new.floor c.loop-reads_left.invariant.stays c.finish.ensures.stays

pub returns-in-Some-clause-stays : goal.returns-in-Some-clause-stays
returns-in-Some-clause-stays g c =
    stays_join c.args.floor.now c.loop-reads_left.floor c.answer_lines_in.new.floor c.loop-reads_left.invariant.stays c.answer_lines_in.ensures.stays
