use Rattle.lf_server.proofs.tcp.serve_tcp.Goals as goal

pub returns-clause-served : goal.returns-clause-served
returns-clause-served g c =
    let all = c.serve_connections.ensures.served in (all.clients, all.closed, all.counted, all.connects)
