use Rattle.std.proofs.Common.{◌≤◌, length, take, arith, refl, length-take-le}
use Rattle.std.proofs.lemmas.Result.{err_from_is_err_and}
use Rattle.lf_hub_clients.specs.Turns.{IsAnswered}
use Rattle.lf_hub.specs.Machine.{connection_at}
use Rattle.lf_hub_clients.specs.Connections.{room_of}
use Rattle.lf_hub_wire.specs.Calls.{Came, Ended}
use Rattle.lf_hub_serve.proofs.Services.{came_whole, ended_whole, feed_fits, lost}
use Rattle.lf_hub_serve.proofs.arrivals.read_client.Goals as goal

pub returns-in_ok-comes-in-Bytes-clause-ok : goal.returns-in_ok-comes-in-Bytes-clause-ok
returns-in_ok-comes-in-Bytes-clause-ok g c =
    let hub = c.args.server.now.core.hub in
    let read = c.in-Bytes.ensures.calls in
    let bytes = take c.in-Bytes.count c.read.new.buffer in
    let fits : length bytes ≤ room_of (connection_at c.args.slot hub.slots) =
    omega (arith, length-take-le c.in-Bytes.count c.read.new.buffer read.1, read.1, c.read.auto.buffer, c.requires.room) in
    came_whole (IsAnswered g.F.Floor.answers g.F.Floor.shows) hub c.comes.new.self.hub c.args.server.now.floor
    (g.W.Wire.calls c.args.server.now.wire) (g.W.Wire.calls c.read.new.self) c.args.slot c.args.number c.in_ok-comes-in-Bytes.field-0 bytes
    c.requires.slot fits c.in_ok-comes-in-Bytes.ensures.taken c.in_ok-comes-in-Bytes.ensures.after c.requires.number read.2

pub returns-in_ok-comes-in-End-clause-ok : goal.returns-in_ok-comes-in-End-clause-ok
returns-in_ok-comes-in-End-clause-ok g c =
    let hub = c.args.server.now.core.hub in
    let here = connection_at c.args.slot hub.slots in
    ended_whole (IsAnswered g.F.Floor.answers g.F.Floor.shows) hub c.comes-in-End.new.self.hub c.args.server.now.floor
    (g.W.Wire.calls c.args.server.now.wire) (g.W.Wire.calls c.read.new.self) c.args.slot c.args.number c.in_ok-comes-in-End.field-0 c.args.line_end.now
    c.requires.slot (feed_fits here c.args.line_end.now (room_of here) c.requires.line_end (omega (arith, c.requires.some, c.requires.room)))
    c.in_ok-comes-in-End.ensures.taken c.in_ok-comes-in-End.ensures.after c.requires.number (omega (arith, c.requires.some, c.requires.room)) c.requires.line_end c.in-End.ensures.calls

pub returns-in_err-comes-in-Bytes-clause-err : goal.returns-in_err-comes-in-Bytes-clause-err
returns-in_err-comes-in-Bytes-clause-err g c =
    let p = err_from_is_err_and c.from_residual.result c.from_residual.ensures.1 in
    rw p.1 (lost (IsAnswered g.F.Floor.answers g.F.Floor.shows) c.args.server.now.core.hub c.comes.new.self.hub c.args.server.now.floor
    (g.W.Wire.calls c.args.server.now.wire) (g.W.Wire.calls c.read.new.self) (Came c.args.number (take c.in-Bytes.count c.read.new.buffer))
    refl c.in_err-comes-in-Bytes.ensures.err c.in-Bytes.ensures.calls.2)

pub returns-in_err-comes-in-End-clause-err : goal.returns-in_err-comes-in-End-clause-err
returns-in_err-comes-in-End-clause-err g c =
    let p = err_from_is_err_and c.from_residual-in_err-comes-in-End.result c.from_residual-in_err-comes-in-End.ensures.1 in
    rw p.1 (lost (IsAnswered g.F.Floor.answers g.F.Floor.shows) c.args.server.now.core.hub c.comes-in-End.new.self.hub c.args.server.now.floor
    (g.W.Wire.calls c.args.server.now.wire) (g.W.Wire.calls c.read.new.self) (Ended c.args.number)
    refl c.in_err-comes-in-End.ensures.err c.in-End.ensures.calls)
