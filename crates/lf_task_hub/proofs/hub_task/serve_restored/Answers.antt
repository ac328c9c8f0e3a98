use Rattle.std.proofs.lemmas.Result.{IfOk-weaker}
use Rattle.lf_task_hub.proofs.hub_task.serve_restored.Goals as goal

pub returns-clause-ok : goal.returns-clause-ok
returns-clause-ok g c = IfOk-weaker c.serve_floor.result _ _
    (λ status serves. (
      record {
        line = c.in_ok-due.due.line.items;
        line_is = c.in_ok-due.ensures.line;
        name = c.in_ok-due.due.name.items;
        name_is = c.in_ok-due.ensures.name;
        restored = c.open_journal.new.floor;
        runs = c.in_ok-journal.ensures.runs;
        serves = serves.0;
      },
      serves.1,
    )) c.serve_floor.ensures.ok
