use Rattle.std.proofs.Common.{[], refl}
use Rattle.std.proofs.lemmas.Result.{err_from_is_err_and}
use Rattle.lf_hub_clients.specs.Turns.{IsAnswered}
use Rattle.lf_hub_serve.specs.Servers.{service_of}
use Rattle.lf_hub_serve.proofs.Services.{service, same_service, serves_then, serves_breaks}
use Rattle.lf_hub_serve.proofs.serving.gather.Goals as goal

pub returns-clause-ok : goal.returns-clause-ok
returns-clause-ok g c =
    let takes = IsAnswered g.F.Floor.answers g.F.Floor.shows in
    let calls = g.W.Wire.calls in
    let server = c.args.server.now in
    let start = service_of calls server [] in
    let waited = service takes server.core.hub server.floor (calls c.wait.new.self) in
    let accepted = service_of calls c.accept_clients.new.server [] in
    let read = service_of calls c.read_clients.new.server [] in
    let answered = service_of calls c.answer_lines.new.server [] in
    serves_then takes start waited answered
    (same_service takes server.core.hub server.core.hub server.floor server.floor (calls server.wire) (calls c.wait.new.self) refl refl c.wait.ensures.calls)
    (serves_then takes waited accepted answered c.in_ok-has_arrived.ensures.ok
    (serves_then takes accepted read answered c.in_ok-has_come.ensures.ok c.in_ok-was_answered.ensures.ok))

pub returns-in_err-has_arrived-clause-err : goal.returns-in_err-has_arrived-clause-err
returns-in_err-has_arrived-clause-err g c =
    let p = err_from_is_err_and c.from_residual.result c.from_residual.ensures.1 in
    let takes = IsAnswered g.F.Floor.answers g.F.Floor.shows in
    let calls = g.W.Wire.calls in
    let server = c.args.server.now in
    let waited = service takes server.core.hub server.floor (calls c.wait.new.self) in
    rw p.1 (serves_breaks takes (service_of calls server []) waited (service_of calls c.accept_clients.new.server [])
    (same_service takes server.core.hub server.core.hub server.floor server.floor (calls server.wire) (calls c.wait.new.self) refl refl c.wait.ensures.calls)
    c.in_err-has_arrived.ensures.err)

pub returns-in_err-has_come-clause-err : goal.returns-in_err-has_come-clause-err
returns-in_err-has_come-clause-err g c =
    let p = err_from_is_err_and c.from_residual-in_err-has_come.result c.from_residual-in_err-has_come.ensures.1 in
    let takes = IsAnswered g.F.Floor.answers g.F.Floor.shows in
    let calls = g.W.Wire.calls in
    let server = c.args.server.now in
    let start = service_of calls server [] in
    let waited = service takes server.core.hub server.floor (calls c.wait.new.self) in
    let accepted = service_of calls c.accept_clients.new.server [] in
    let read = service_of calls c.read_clients.new.server [] in
    rw p.1 (serves_breaks takes start waited read
    (same_service takes server.core.hub server.core.hub server.floor server.floor (calls server.wire) (calls c.wait.new.self) refl refl c.wait.ensures.calls)
    (serves_breaks takes waited accepted read c.in_ok-has_arrived.ensures.ok c.in_err-has_come.ensures.err))

pub returns-in_err-was_answered-clause-err : goal.returns-in_err-was_answered-clause-err
returns-in_err-was_answered-clause-err g c =
    let p = err_from_is_err_and c.from_residual-in_err-was_answered.result c.from_residual-in_err-was_answered.ensures.1 in
    let takes = IsAnswered g.F.Floor.answers g.F.Floor.shows in
    let calls = g.W.Wire.calls in
    let server = c.args.server.now in
    let start = service_of calls server [] in
    let waited = service takes server.core.hub server.floor (calls c.wait.new.self) in
    let accepted = service_of calls c.accept_clients.new.server [] in
    let read = service_of calls c.read_clients.new.server [] in
    let answered = service_of calls c.answer_lines.new.server [] in
    rw p.1 (serves_breaks takes start waited answered
    (same_service takes server.core.hub server.core.hub server.floor server.floor (calls server.wire) (calls c.wait.new.self) refl refl c.wait.ensures.calls)
    (serves_breaks takes waited accepted answered c.in_ok-has_arrived.ensures.ok
    (serves_breaks takes accepted read answered c.in_ok-has_come.ensures.ok c.in_err-was_answered.ensures.err)))
