use Rattle.std.specs.Prelude.{option_map}
use Rattle.lf_server.proofs.Steps.{finish_done, finish_full, finish_stop}
use Rattle.lf_server.proofs.serve_loop.finish.Goals as goal

pub returns-then-left-eq0-clause-serves : goal.returns-then-left-eq0-clause-serves
returns-then-left-eq0-clause-serves g c = λ l.
    finish_full l _ c.args.left.now c.args.floor.now c.args.framer.now.pending c.finish-got.result c.finish-got.new.self.line (option_map (λ bytes. bytes.now) c.in-Some.line) c.if-left-eq0.true c.finish-got.ensures.within c.finish-got.ensures.given c.in-Some.ensures

pub returns-in-Some-answer_line-clause-serves : goal.returns-in-Some-answer_line-clause-serves
returns-in-Some-answer_line-clause-serves g c = λ l.
    finish_stop l c.in-Some-answer_line.ending _ _ c.args.left.now c.args.floor.now c.answer_line.new.floor c.args.framer.now.pending c.finish-got.result c.finish-got.new.self.line (option_map (λ bytes. bytes.now) c.in-Some.line) c.if-left-eq0.false c.finish-got.ensures.within c.finish-got.ensures.given c.in-Some.ensures (c.in-Some-answer_line.ensures.serves l)

pub returns-in-None-clause-serves : goal.returns-in-None-clause-serves
returns-in-None-clause-serves g c = λ l.
    finish_done l _ _ c.args.left.now c.args.floor.now c.answer_line.new.floor c.args.framer.now.pending c.finish-got.result c.finish-got.new.self.line (option_map (λ bytes. bytes.now) c.in-Some.line) c.if-left-eq0.false c.finish-got.ensures.within c.finish-got.ensures.given c.in-Some.ensures (c.in-None.ensures.serves l)
