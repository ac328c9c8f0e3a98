use Rattle.std.proofs.Common.{None, take}
use Rattle.std.specs.Prelude.{◌≢◌, All}
use Rattle.lf_floor_model.specs.Teams.{team_number}
use Rattle.lf_task_run.proofs.selected_teams.all_known.Given as goal

abbrev pub invariant-loop-team : goal.invariant-loop-team
invariant-loop-team l = All (λ t. team_number l.floor.frame t.now ≢ None) (take l.team-index l.teams)
