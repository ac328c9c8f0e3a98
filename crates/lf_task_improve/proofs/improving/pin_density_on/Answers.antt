use Rattle.std.proofs.lemmas.Result.{IfOk-weaker}
use Rattle.lf_task_improve.proofs.improving.pin_density_on.Goals as goal

pub returns : goal.returns
returns c =
    IfOk-weaker c.pin_density_of_nets.result _ _
    (λ density is. record {
      places = c.working.result;
      listed = c.working.ensures;
      is = rw (c.new-cells.ensures, c.frame.ensures, c.placement.ensures.frame) at is;
    })
    c.pin_density_of_nets.ensures
