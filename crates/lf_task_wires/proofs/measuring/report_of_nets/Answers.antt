use Rattle.std.proofs.lemmas.Result.{IfOk-weaker}
use Rattle.lf_task_wires.proofs.measuring.report_of_nets.Goals as goal

pub returns : goal.returns
returns c =
    let nets = c.in-Ok.ensures.nets in
    let lengths = c.in_ok-lengths.ensures in
    IfOk-weaker c.wire_report.result _ _
    (λ report is. record {
      lengths = c.in_ok-lengths.lengths;
      measured = record {
        nets_are = rw nets at lengths.nets;
        length_is = rw nets at lengths.length;
        counts_are = rw nets at lengths.counts;
        teams_are = rw nets at (rw c.len-teams.ensures at lengths.teams);
      };
      text_is = rw c.in-Ok.ensures.supplies at is;
    }) c.wire_report.ensures
