use Rattle.lf_server.proofs.UnderWay.{under_sent}
use Rattle.lf_server.proofs.buffered_output.BufferedOutput.finish.Goals as goal

pub returns-clause-prefix : goal.returns-clause-prefix
returns-clause-prefix g c = λ before text under.
    under_sent c.send.result c.args.self.now.failed (g.W.Sink.contents before) (g.W.Sink.contents c.args.self.now.sink.now) (g.W.Sink.contents c.send.new.sink) text
    c.args.self.now.waiting.now.items c.if-self.false under (rw (← c.as_slice.ensures.value) c.send.ensures.prefix)
