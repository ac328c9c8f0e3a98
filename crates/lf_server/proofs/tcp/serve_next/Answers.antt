use Rattle.lf_server.proofs.Connecting.{passes_one}
use Rattle.lf_server.proofs.tcp.serve_next.Goals as goal

pub returns-clause-served : goal.returns-clause-served
returns-clause-served g c = record {
  from = _;
  end = _;
  passes = passes_one _ _ _ _ _ c.in_ok-connection.ensures.ok c.close.ensures.closed;
  serves = c.serve_connection-served.ensures.served;
}
