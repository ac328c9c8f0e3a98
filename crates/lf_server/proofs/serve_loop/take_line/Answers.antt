use Rattle.std.specs.Prelude.{option_map}
use Rattle.lf_server.proofs.Steps.{after_exchange, full_line, goes_more}
use Rattle.lf_server.proofs.serve_loop.take_line.Goals as goal

pub returns-in_default-clause-serves : goal.returns-in_default-clause-serves
returns-in_default-clause-serves g c = λ l.
    goes_more l _ c.args.left.now c.args.floor.now c.args.framer.now c.feed-fed.new.self c.args.piece.now c.feed-fed.result c.feed-fed.ensures c.in_default.ensures

pub returns-then-left-eq0-clause-serves : goal.returns-then-left-eq0-clause-serves
returns-then-left-eq0-clause-serves g c = λ l rest.
    full_line l _ c.args.left.now c.args.floor.now c.args.framer.now c.feed-fed.new.self c.args.piece.now rest c.feed-fed.result (option_map (λ bytes. bytes.now) c.in-Some.line) c.if-left-eq0.true c.feed-fed.ensures c.in-Some.ensures

pub returns-clause-serves : goal.returns-clause-serves
returns-clause-serves g c = λ l.
    after_exchange l c.answer_line.result _ _ c.args.left.now c.args.floor.now c.answer_line.new.floor c.args.framer.now c.feed-fed.new.self c.args.piece.now c.feed-fed.result (option_map (λ bytes. bytes.now) c.in-Some.line) c.if-left-eq0.false c.feed-fed.ensures c.in-Some.ensures (c.answer_line.ensures.serves l)
