use Rattle.std.proofs.Common.{[], refl, arith}
use Rattle.lf_server.proofs.UnderWay.{failed_begun, under_begun}
use Rattle.lf_server.proofs.responses.put_pieces.Goals as goal

pub returns : goal.returns
returns g c =
    let start = c.args.pieces.now in
    let fresh = c.requires in
    let had = c.write_def.ensures start [] (
      refl,
      refl,
      omega arith,
      refl,
      failed_begun start.failed (g.W.Sink.has_failed start.sink.now) fresh,
      under_begun start.failed (g.W.Sink.contents start.sink.now) start.waiting.now.items fresh,
    ) in
    record { under_way = had.5; failed = had.4; held = had.3; room = had.2; same_sink = had.0; same_buffer = had.1 }
