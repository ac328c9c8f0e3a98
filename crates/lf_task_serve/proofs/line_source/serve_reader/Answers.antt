use Rattle.std.proofs.Common.{◌≡◌, None, Some, rules}
use Rattle.lf_task_serve.specs.Faults.{ending_fault}
use Rattle.lf_task_serve.proofs.Answering.{breaks_blame, ends_well}
use Rattle.lf_task_serve.proofs.line_source.serve_reader.Goals as goal

pub returns-in-Some-clause-err : goal.returns-in-Some-clause-err
returns-in-Some-clause-err g c =
    let is : ending_fault c.serve_lines_within.result ≡ Some c.in-Some.fault = search rules in (
      record {
        floor = c.serve_lines_within.new.floor;
        ending = c.serve_lines_within.result;
        is = is;
        served = λ l. c.serve_lines_within.ensures.served l;
      },
      breaks_blame c.serve_lines_within.result c.in-Some.fault _ _ _ _ _ _ _ is c.serve_lines_within.ensures.reading c.serve_lines_within.ensures.readable c.serve_lines_within.ensures.writing
          c.serve_lines_within.ensures.writable,
    )

pub returns-in-None-clause-sound : goal.returns-in-None-clause-sound
returns-in-None-clause-sound g c =
    let is : None ≡ ending_fault c.serve_lines_within.result = search rules in
    ends_well c.serve_lines_within.result _ _ is c.serve_lines_within.ensures.readable c.serve_lines_within.ensures.writable
