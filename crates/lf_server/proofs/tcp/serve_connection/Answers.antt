use Rattle.std.proofs.Common.{◌∙◌, ap}
use Rattle.lf_server.proofs.Connecting.{all_reads}
use Rattle.lf_server.proofs.tcp.serve_connection.Goals as goal

pub returns-clause-served : goal.returns-clause-served
returns-clause-served g c = λ l. record {
  served = c.serve.result;
  serves = rw (c.requires.unused.flushed, c.requires.unused.writable) at (c.serve.ensures.serves l);
  read_fault = λ ending. all_reads _ _ _ c.requires.unused.unread (c.serve.ensures.read_fault ending);
  write_fault = c.serve.ensures.write_fault;
  unread = λ ending. ap g.R.Source.reads (c.serve.ensures.unread ending) ∙ c.requires.unused.unread;
}
