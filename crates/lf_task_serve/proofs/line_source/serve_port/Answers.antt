use Rattle.std.proofs.Common.{◌≡◌, false, is_err, rules, subst}
use Rattle.lf_server.proofs.Steps.{on_ok_no}
use Rattle.lf_task_faults.specs.Faults.{IsOfService}
use Rattle.lf_task_serve.proofs.Answering.{fewer}
use Rattle.lf_task_serve.proofs.line_source.serve_port.Goals as goal

pub returns-then-served-clause-err : goal.returns-then-served-clause-err
returns-then-served-clause-err g c =
    let sent : is_err c.send.result ≡ false = search rules in
    let served = c.serve_connections-served in (
      (
        served.new.floor,
        (
          served.result.connections,
          fewer _ _ _ served.ensures.most served.ensures.all c.if-served.true,
          record {
            reported = on_ok_no c.send.result sent c.send.ensures.ok;
            served = rw (c.requires.lines, c.requires.reads, c.in_default.ensures.unaccepted) at served.ensures.served;
          },
        ),
      ),
      record {
        early = λ of. absurd of;
        reading = λ same. absurd (subst IsOfService same tt);
        writing = λ of. absurd of;
        exporting = λ of. absurd of;
        serving = λ _. rw c.if-served.true at served.ensures.failed;
        sparing = λ of. absurd of;
      },
    )
