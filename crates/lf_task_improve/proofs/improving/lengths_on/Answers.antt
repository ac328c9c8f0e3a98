use Rattle.lf_task_improve.proofs.Results.{ok_both}
use Rattle.lf_task_improve.proofs.improving.lengths_on.Goals as goal

pub returns : goal.returns
returns c =
    ok_both c.lengths.result _ _ _ c.lengths.ensures.length c.lengths.ensures.teams
    (λ lengths length_is teams_are. record {
      places = c.working.result;
      listed = c.working.ensures;
      length_is = rw c.new-cells.ensures at length_is;
      teams_are = rw (c.new-cells.ensures, c.as_slice.ensures.value, c.len-teams.ensures, c.frame.ensures, c.placement.ensures.frame) at teams_are;
    })
