use Rattle.std.proofs.Common.{◌-◌, arith, refl}
use Rattle.lf_server.specs.declared.serve_loop.Ending.TheVariants.{OutOfMemory}
use Rattle.lf_server.proofs.Finishing.{finishes_none, served_as}
use Rattle.lf_server.proofs.serve_loop.serve.Goals as goal

pub returns-in_default-clause-serves : goal.returns-in_default-clause-serves
returns-in_default-clause-serves g c = λ l.
    served_as l OutOfMemory (g.S.Source.remaining c.args.source.now) (g.S.Source.remaining c.args.source.now) _ _ c.args.limits.lines c.args.limits.lines 0 c.args.floor.now c.args.floor.now c.served_of.result
    (omega arith) c.served_of.ensures.lines c.served_of.ensures.ending c.served_of.ensures.answered (finishes_none l (g.S.Source.remaining c.args.source.now) _ c.args.limits.lines c.args.floor.now)

pub returns-in_default-empty-clause-serves : goal.returns-in_default-empty-clause-serves
returns-in_default-empty-clause-serves g c = λ l.
    served_as l OutOfMemory (g.S.Source.remaining c.args.source.now) (g.S.Source.remaining c.args.source.now) _ _ c.args.limits.lines c.args.limits.lines 0 c.args.floor.now c.args.floor.now c.served_of-in_default-empty.result
    (omega arith) c.served_of-in_default-empty.ensures.lines c.served_of-in_default-empty.ensures.ending c.served_of-in_default-empty.ensures.answered (finishes_none l (g.S.Source.remaining c.args.source.now) _ c.args.limits.lines c.args.floor.now)

pub returns-clause-serves : goal.returns-clause-serves
returns-clause-serves g c = λ l.
    served_as l c.serve_lines-ending.result (g.S.Source.remaining c.args.source.now) (g.S.Source.remaining c.serve_lines-ending.new.source) _ _ c.args.limits.lines c.serve_lines-ending.new.left.lines (c.args.limits.lines - c.serve_lines-ending.new.left.lines) c.args.floor.now c.serve_lines-ending.new.floor c.served_of-2.result
    refl c.served_of-2.ensures.lines c.served_of-2.ensures.ending c.served_of-2.ensures.answered (c.serve_lines-ending.ensures.serves l)
